use Rattle.std.proofs.Common.{◌≡◌, length, sym, ap, ◌∙◌, rules, arith}
use Rattle.elf_image.proofs.Merging.{last_at, add_or_clash, add_above}
use Rattle.elf_image.proofs.entries.add.Goals as goal
use Rattle.elf_image.proofs.entries.add.Goals.{else-n-gt0-via-then-n-gt0+else-index-p, else-n-gt0-via-else-n-gt0}

pub returns-then-index-p : goal.returns-then-index-p
returns-then-index-p c =
    let n_is : c.len-n.result ≡ length c.args.entries.now.items = search rules in
    let x = c.index.result.now in
    let y = c.index-then-index-p.result.now in
    let last = last_at c.args.entries.now.items c.len-n.result x x n_is (omega (arith, c.if-n-gt0.true)) c.index.ensures in
    let again = last_at c.args.entries.now.items c.len-n.result y x n_is (omega (arith, c.if-n-gt0.true)) c.index-then-index-p.ensures in
    add_or_clash c.args.entries.now.items c.args.p c.requires.rising x c.is_same.result (omega (arith, c.if-n-gt0.true)) (sym (ap (λ q. q.at) last) ∙ c.if-index-p.true) (rw (← again) c.is_same.ensures)

pub returns : goal.returns
returns c =
    let n_is : c.len-n.result ≡ length c.args.entries.now.items = search rules in
    rw c.in_ok-push.ensures.items (add_above c.args.entries.now.items c.args.p c.requires.rising c.requires.above (λ d some same. elim c.else-n-gt0.branch [
      | else-n-gt0-via-then-n-gt0+else-index-p w ↦ w.if-index-p.false (ap (λ q. q.at) (last_at c.args.entries.now.items c.len-n.result w.index.result.now d n_is some w.index.ensures) ∙ same)
      | else-n-gt0-via-else-n-gt0 w ↦ omega (arith, w.if-n-gt0.false)
    ]))
