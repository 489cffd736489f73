use Rattle.std.proofs.Common.{drop, subst}
use Rattle.ir_runner.specs.Outputs.{GainsBy, written}
use Rattle.ir_runner.proofs.Sinks.{gains_on}
use Rattle.worker_runner.proofs.Ending.{part_more}
use Rattle.worker_runner.proofs.run.write_tail.Goals as goal

pub returns-then-failed-clause-wrote : goal.returns-then-failed-clause-wrote
returns-then-failed-clause-wrote g c = λ x old more done is gains.
    part_more g.K.Sink.faults g.K.Sink.held x c.args.sink.now old c.args.bytes.now more is (subst (λ b. GainsBy b (written g.K.Sink.faults g.K.Sink.held x c.args.sink.now) old) c.if-failed.true gains)

pub returns-clause-wrote : goal.returns-clause-wrote
returns-clause-wrote g c = λ x old more done is gains.
    gains_on g.K.Sink.faults g.K.Sink.held x c.args.sink.now c.write_rest.new.sink old c.args.bytes.now more c.write_rest.result is (subst (λ b. GainsBy b (written g.K.Sink.faults g.K.Sink.held x c.args.sink.now) old) c.if-failed.false gains) (subst (λ n. GainsBy c.write_rest.result (written g.K.Sink.faults g.K.Sink.held c.args.sink.now c.write_rest.new.sink) (drop n c.args.bytes.now)) done c.write_rest.ensures)
