use Rattle.std.proofs.Common.{◌∙◌, ◌+◌, ◌%◌, ◌^◌, ap, sym}
use Rattle.x86_model.specs.Want.{want_of}
use Rattle.machine_model.specs.Step.{privately}
use Rattle.replay_view.proofs.Wants.{want_at}
use Rattle.replay_view.proofs.private_step.privately_at.Goals as goal

pub returns : goal.returns
returns c = λ image here. c.privately.ensures ∙ ap privately (c.want_of.ensures ∙ ap (λ n. want_of c.args.instr ((c.args.cpu.rip + n) % 2 ^ 64) c.args.cpu) c.from.ensures ∙ sym (want_at image c.args.cpu (c.args.instr, c.args.len) here))
