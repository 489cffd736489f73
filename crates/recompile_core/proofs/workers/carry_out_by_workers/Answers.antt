use Rattle.std.proofs.Common.{◌≡◌, ◌∙◌, refl, sym, subst, Option, None}
use Rattle.ir_runner.specs.Outputs.{written}
use Rattle.machine_model.specs.Serial as serial
use Rattle.recompile_core.specs.Plans.{order_of}
use Rattle.recompile_core.specs.Runs.{Played}
use Rattle.recompile_core.specs.World.{FilesNow, World, files_now, input_now}
use Rattle.ir_runner.proofs.Sinks.{gains_nothing}
use Rattle.recompile_core.proofs.Carrying.{played_answer, refused_answer, same_now}
use Rattle.recompile_core.proofs.workers.carry_out_by_workers.Goals as goal

pub returns-in-Ok-clause-answer : goal.returns-in-Ok-clause-answer
returns-in-Ok-clause-answer g c =
    let now = files_now g.F.Files.names g.F.Files.read_faults g.F.Files.write_faults in
    let in_now = input_now g.I.Source.left g.I.Source.faults in
    let out = written g.O.Sink.faults g.O.Sink.held c.args.out.now c.play_by_workers.new.out in
    let err = written g.E.Sink.faults g.E.Sink.held c.args.err.now c.play_by_workers.new.err in
    let w : World = record { files = now c.args.files.now; files_after = now c.play_by_workers.new.files; input = in_now c.args.input.now; input_after = in_now c.start.new.input; out = out; err = err } in
    let same = same_now (now c.args.files.now) (now c.start.new.files) c.start.ensures.names c.in-Ok.ensures.reads c.start.ensures.writes in
    let order : order_of c.args.plan ≡ None = rw c.requires.workers refl in
    let Q : Option serial.Rules → Type 0 = λ o. Played c.in-Ok.hall.case o c.play_by_workers.result.journal c.play_by_workers.result.ending (now c.start.new.files) (now c.play_by_workers.new.files) out err c.args.plan.journal c.args.plan.report in
    let P : FilesNow → Type 0 = λ f. Played c.in-Ok.hall.case (order_of c.args.plan) c.play_by_workers.result.journal c.play_by_workers.result.ending f (now c.play_by_workers.new.files) out err c.args.plan.journal c.args.plan.report in
    played_answer w c.args.plan c.play_by_workers.result c.in-Ok.hall.case c.play_by_workers.ensures.case c.in-Ok.ensures.case c.in-Ok.ensures.input (c.play_by_workers.ensures.reads ∙ c.in-Ok.ensures.reads) c.in-Ok.ensures.faults (subst P same (subst Q (sym order) c.play_by_workers.ensures.played))

pub returns-clause-answer : goal.returns-clause-answer
returns-clause-answer g c =
    let now = files_now g.F.Files.names g.F.Files.read_faults g.F.Files.write_faults in
    let in_now = input_now g.I.Source.left g.I.Source.faults in
    let out = written g.O.Sink.faults g.O.Sink.held c.args.out.now c.args.out.now in
    let err = written g.E.Sink.faults g.E.Sink.held c.args.err.now c.refused.new.err in
    let w : World = record { files = now c.args.files.now; files_after = now c.start.new.files; input = in_now c.args.input.now; input_after = in_now c.start.new.input; out = out; err = err } in
    refused_answer w c.args.plan c.refused.result c.refused.ensures.case c.refused.ensures.journal (gains_nothing g.O.Sink.faults g.O.Sink.held c.args.out.now) c.refused.ensures.line c.start.ensures.names c.start.ensures.writes c.in-Err.fault (rw c.ending_of.ensures at c.refused.ensures.ending) c.in-Err.ensures.refusal
