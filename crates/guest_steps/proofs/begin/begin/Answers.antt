use Rattle.std.proofs.Common.{◌≡◌, true, false}
use Rattle.basic_blocks.specs.Reach.{is_among}
use Rattle.hall_core.specs.Hall.{both}
use Rattle.std.proofs.Common.{true, false, subst}
use Rattle.basic_blocks.specs.Reach.{is_among}
use Rattle.guest_steps.proofs.Moves.{along_inside, along_table, match_some}
use Rattle.guest_steps.proofs.begin.begin.Goals.{in-Between-1, in-Between-2, in-Inside-1, in-Inside-2}
use Rattle.guest_steps.proofs.begin.begin.Goals as goal

first : goal.returns-in-Some-clause-along
first c = λ t d h.
    let k = c.in-Some.ensures.block in
    let s = k.1 c.args.hall.now.case.image (both c.args.hall.now).gate.grown h.kept in
    along_inside c.args.hall.now.case (both c.args.hall.now) t c.args.own.now c.args.table.now.items c.take.new.table.items d c.args.a c.in-Some.kept h c.requires s.same k.0 (subst (λ z. is_among (both c.args.hall.now).gate.grown z ≡ true) k.0 s.there) c.facts.ensures (c.take.ensures.table c.args.hall.now.case.image (both c.args.hall.now).gate.grown h.kept)

pub returns-in-Some-clause-along : goal.returns-in-Some-clause-along
returns-in-Some-clause-along c = elim c.match-own.branch [ in-Inside-1 w ↦ first c | in-Between-1 w ↦ first c ]

pub returns-in-Some-asked_there-clause-along : goal.returns-in-Some-asked_there-clause-along
returns-in-Some-asked_there-clause-along c = λ t d h. along_table c.args.hall.now.case (both c.args.hall.now) t c.args.own.now c.args.table.now.items c.take.new.table.items d h (c.take.ensures.table c.args.hall.now.case.image (both c.args.hall.now).gate.grown h.kept)

pub returns-in_err-kept-clause-along : goal.returns-in_err-kept-clause-along
returns-in_err-kept-clause-along c = λ t d h. along_table c.args.hall.now.case (both c.args.hall.now) t c.args.own.now c.args.table.now.items c.take.new.table.items d h (c.take.ensures.table c.args.hall.now.case.image (both c.args.hall.now).gate.grown h.kept)

pub returns-in_default-2-clause-along : goal.returns-in_default-2-clause-along
returns-in_default-2-clause-along c = λ t d h. along_table c.args.hall.now.case (both c.args.hall.now) t c.args.own.now c.args.table.now.items c.take.new.table.items d h (c.take.ensures.table c.args.hall.now.case.image (both c.args.hall.now).gate.grown h.kept)

second : goal.returns-clause-along
second c = λ t d h.
    let k = match_some c.in_ok-kept.field-0 c.in-Some-2.kept (is_among (both c.args.hall.now).gate.grown c.args.a ≡ false) (λ x. (x.image ≡ c.args.hall.now.case.image) × (x.block.at ≡ c.args.a) × (is_among (both c.args.hall.now).gate.grown c.args.a ≡ true)) c.in-Some-2.is c.in_ok-kept.ensures in
    along_inside c.args.hall.now.case (both c.args.hall.now) t c.args.own.now c.args.table.now.items c.take.new.table.items d c.args.a c.in-Some-2.kept h c.requires k.0 k.1 k.2 c.facts-2.ensures (c.take.ensures.table c.args.hall.now.case.image (both c.args.hall.now).gate.grown h.kept)

pub returns-clause-along : goal.returns-clause-along
returns-clause-along c = elim c.match-own-2.branch [ in-Inside-2 w ↦ second c | in-Between-2 w ↦ second c ]
