use Rattle.std.proofs.Common.{Global, List, String, map, subst, ℕ}
use Rattle.std.specs.Prelude.{string_bytes}
use Rattle.run_start.specs.Case.{IsFirstOf}
use Rattle.run_start.specs.Program.{IsRead}
use Rattle.run_start.proofs.Reading.{case_is}
use Rattle.run_start.proofs.preparing.prepare.Goals as goal

pub returns-in-Ok-case_of-clause-case : goal.returns-in-Ok-case_of-clause-case
returns-in-Ok-case_of-clause-case g c =
    let bytes = c.in-Ok.bytes.items in
    let image = c.in-Ok-read_program.program.image in
    let first = c.in-Ok-first_places.first.items in (
      bytes,
      record { file = c.in-Ok.ensures.file; within = c.in-Ok.ensures.within },
      case_is (g.F.Files.names c.args.files.now) c.args.ir.now bytes (map string_bytes c.args.args.items) (g.I.Source.left c.args.input.now) c.args.limit c.args.strict image c.in-Ok-read_input.input.items first c.in-Ok-case_of.prepared.case (subst (λ (b : List ℕ). IsRead b (map string_bytes c.args.args.items) image) c.deref.ensures.value (subst (λ (a : List (String Global)). IsRead c.deref.result.now (map string_bytes a) image) c.deref-2.ensures.value c.in-Ok-read_program.ensures.read)) c.in-Ok-read_input.ensures.input (subst (λ n. IsFirstOf n c.args.ir.now image first) c.in-Ok.ensures.names c.in-Ok-first_places.ensures.first) c.in-Ok-case_of.ensures.case,
    )
