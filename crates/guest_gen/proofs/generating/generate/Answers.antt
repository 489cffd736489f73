use Rattle.std.proofs.Common.{List, ◌≤◌, length, refl, arith, subst}
use Rattle.guest_gen.specs.declared.line.Line.{Line}
use Rattle.guest_gen.specs.Program.{main_lines, worker_lines}
use Rattle.guest_gen.specs.Spelling.{IsSpelled, most_of}
use Rattle.guest_gen.proofs.Sizes.{main_size, worker_size}
use Rattle.guest_gen.proofs.generating.generate.Goals as goal

pub returns-clause-generated : goal.returns-clause-generated
returns-clause-generated c =
    let main = c.in_ok-main.main.items in
    let worker = c.in_ok-worker.worker.items in
    let main_most : length main ≤ most_of (main_lines c.args.threads) = subst (λ (ls : List Line). length main ≤ most_of ls) c.main_lines.ensures c.in_ok-main.ensures.short in
    let worker_most : length worker ≤ most_of (worker_lines c.args.rounds) = subst (λ (ls : List Line). length worker ≤ most_of ls) c.worker_lines.ensures c.in_ok-worker.ensures.short in
    record {
      main = main;
      worker = worker;
      main_spelled = subst (λ (ls : List Line). IsSpelled 0x401000 ls main) c.main_lines.ensures c.in_ok-main.ensures.spelled;
      worker_spelled = subst (λ (ls : List Line). IsSpelled 0x401100 ls worker) c.worker_lines.ensures c.in_ok-worker.ensures.spelled;
      main_room = omega (arith, main_most, main_size c.args.threads c.requires.threads);
      worker_room = omega (arith, worker_most, worker_size c.args.rounds c.requires.rounds);
      pieces = _;
      standing = rw (c.deref.ensures.value, c.deref-2.ensures.value, c.deref-3.ensures.value, c.in_ok-steps.ensures) refl;
      image = c.in_ok-image.ensures.row;
    }
