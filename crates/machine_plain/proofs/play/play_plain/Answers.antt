use Rattle.std.proofs.Common.{sym, ap, ◌∙◌, []}
use Rattle.machine_plain.specs.Plain.{stepped_to}
use Rattle.machine_plain.proofs.PlainPlay.{play_nothing, play_next, play_stuck, played_serves}
use Rattle.machine_plain.proofs.play.play_plain.Goals as goal

pub loop-entry-init : goal.loop-entry-init
loop-entry-init c = play_nothing c.args.case.now [] c.in_ok-machine.machine c.in_ok-machine.ensures.machine

pub returns-then-not-branch-clause-played : goal.returns-then-not-branch-clause-played
returns-then-not-branch-clause-played c =
    sym (play_stuck c.args.case.now c.args.journal.now c.loop-entry.entry-index c.loop-entry.machine _ c.loop-entry.invariant c.loop-entry-test.true
    (sym c.in_ok-step.ensures.step ∙ ap (λ b. stepped_to b c.step.new.self) c.if-not-branch.true))

pub loop-entry-preserved : goal.loop-entry-preserved
loop-entry-preserved c =
    play_next c.args.case.now c.args.journal.now c.loop-entry.entry-index c.loop-entry.machine c.step.new.self _ c.loop-entry.invariant c.loop-entry-test.true
    (sym c.in_ok-step.ensures.step ∙ ap (λ b. stepped_to b c.step.new.self) c.if-not-branch.false)

pub step-requires-clause-serves : goal.step-requires-clause-serves
step-requires-clause-serves c = played_serves c.args.case.now c.args.journal.now c.loop-entry.entry-index c.loop-entry.machine c.loop-entry.invariant c.requires
