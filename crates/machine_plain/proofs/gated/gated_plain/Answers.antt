use Rattle.std.proofs.Common.{◌↔◌, false, [], get_or, subst}
use Rattle.std.specs.Prelude.{IsTrue}
use Rattle.journal_pack.specs.declared.entry.Entry.{Entry}
use Rattle.journal_pack.specs.declared.entry.Entry.TheVariants.{Ev}
use Rattle.machine_model.specs.Gated.{Both, IsAllowed}
use Rattle.machine_plain.proofs.GatedPlain.{gated_nothing, gated_all, gated_serves, not_allowed}
use Rattle.machine_plain.proofs.gated.gated_plain.Goals as goal

pub loop-entry-init : goal.loop-entry-init
loop-entry-init c = gated_nothing c.args.case.now [] c.in_ok-walk.walk c.in_ok-walk.ensures.walk

pub returns-clause-gated : goal.returns-clause-gated
returns-clause-gated c = gated_all c.args.case.now c.args.journal.now c.loop-entry.entry-index c.loop-entry.walk c.loop-entry.invariant c.loop-entry-test.false

pub advance-requires-clause-serves : goal.advance-requires-clause-serves
advance-requires-clause-serves c = gated_serves c.args.case.now c.args.journal.now c.loop-entry.entry-index c.loop-entry.walk c.loop-entry.invariant c.requires

pub returns-then-not-branch-clause-gated : goal.returns-then-not-branch-clause-gated
returns-then-not-branch-clause-gated c =
    let entry : Entry = get_or c.args.journal.now c.loop-entry.entry-index (Ev 0 0) in
    let refused = subst (λ b. IsTrue b ↔ IsAllowed c.image.result.now c.walk.inside.gate entry) c.if-not-branch.true c.in_ok-allows.ensures in
    let here = subst (λ x. IsTrue false ↔ IsAllowed x c.walk.inside.gate entry) c.image.ensures refused in
    not_allowed c.args.case.now c.args.journal.now c.loop-entry.entry-index (Ev 0 0) c.loop-entry.walk c.loop-entry.invariant c.loop-entry-test.true
    (subst (λ (w : Both). IsTrue false ↔ IsAllowed c.args.case.now.image w.gate entry) c.walk.view_is here)
