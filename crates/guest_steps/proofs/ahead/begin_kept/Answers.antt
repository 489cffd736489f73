use Rattle.std.proofs.Common.{◌≡◌, true, subst}
use Rattle.basic_blocks.specs.Reach.{is_among}
use Rattle.guest_steps.proofs.Moves.{along_inside, along_table}
use Rattle.guest_steps.proofs.ahead.begin_kept.Goals as goal

pub returns-in-Some-clause-along : goal.returns-in-Some-clause-along
returns-in-Some-clause-along c = λ k b t d h.
    let x = c.in-Some.ensures.block in
    let s = x.1 k.image b.gate.grown h.kept in
    along_inside k b t c.args.own.now c.args.table.now.items c.take.new.table.items d c.in-Between.a c.in-Some.kept h c.in-Between.is s.same x.0 (subst (λ z. is_among b.gate.grown z ≡ true) x.0 s.there) c.facts.ensures (c.take.ensures.table k.image b.gate.grown h.kept)

pub returns-in_default-take-clause-along : goal.returns-in_default-take-clause-along
returns-in_default-take-clause-along c = λ k b t d h. along_table k b t c.args.own.now c.args.table.now.items c.take.new.table.items d h (c.take.ensures.table k.image b.gate.grown h.kept)
