use Rattle.std.proofs.Common.{◌≤◌, List, ℕ, length, sym, subst, ◌∙◌}
use Rattle.std.specs.Prelude.{IsSome}
use Rattle.machine_model.specs.State.{Machine}
use Rattle.ir_runner.specs.Outputs.{Gains, GainsBy, written}
use Rattle.worker_runner.specs.declared.watch.Over.TheVariants as ends
use Rattle.worker_runner.specs.Rounds.{EndIs}
use Rattle.worker_runner.specs.Watched.{library_of}
use Rattle.worker_runner.proofs.Ending.{either, goes_grew, holds_more, same_end}
use Rattle.worker_runner.proofs.Growing.{longer}
use Rattle.worker_runner.proofs.run.end.Goals as goal

pub write_tail-out_failed-requires : goal.write_tail-out_failed-requires
write_tail-out_failed-requires g c =
    let r = c.requires.goes in
    subst (λ (b : List ℕ). c.args.place.first ≤ length b) (sym c.out1.ensures) (longer r.0 c.args.hall.now c.args.place (goes_grew r.0 c.args.hall.now r.1) r.2).0

pub write_tail-err_failed-requires : goal.write_tail-err_failed-requires
write_tail-err_failed-requires g c =
    let r = c.requires.goes in
    subst (λ (b : List ℕ). c.args.place.second ≤ length b) (sym c.out2.ensures) (longer r.0 c.args.hall.now c.args.place (goes_grew r.0 c.args.hall.now r.1) r.2).1

pub returns-in-Ended : goal.returns-in-Ended
returns-in-Ended g c = λ h x y goes place e.
    let o = written g.O.Sink.faults g.O.Sink.held x c.args.out.now in
    let r = written g.E.Sink.faults g.E.Sink.held y c.args.err.now in
    let q : EndIs ends.Ended h o r = subst (λ a. EndIs a h o r) c.in-Ended.is e in
    subst (λ (m : Machine). IsSome m.ending × Gains o m.library.out1 × Gains r m.library.out2) (sym (same_end h c.args.hall.now goes q.2)) (q.2, q.0, q.1)

pub returns-in-Stopped : goal.returns-in-Stopped
returns-in-Stopped g c = λ h x y goes place e.
    let n = c.args.hall.now in
    let o = written g.O.Sink.faults g.O.Sink.held x c.args.out.now in
    let r = written g.E.Sink.faults g.E.Sink.held y c.args.err.now in
    let q : EndIs (ends.Stopped c.in-Stopped.first c.in-Stopped.second) h o r = subst (λ a. EndIs a h o r) c.in-Stopped.is e in
    let grew = goes_grew h n goes in
    let out = c.write_tail-out_failed in
    let err = c.write_tail-err_failed in (
      either c.in-Stopped.first c.in-Stopped.second out.result err.result q.0 out.ensures.failed err.ensures.failed,
      subst (GainsBy out.result (written g.O.Sink.faults g.O.Sink.held x out.new.sink)) c.out1.ensures (out.ensures.wrote x (library_of h).out1 grew.first place.first (c.out1.ensures ∙ grew.first_is) q.1),
      subst (GainsBy err.result (written g.E.Sink.faults g.E.Sink.held y err.new.sink)) c.out2.ensures (err.ensures.wrote y (library_of h).out2 grew.second place.second (c.out2.ensures ∙ grew.second_is) q.2),
    )

pub returns-in-Memory : goal.returns-in-Memory
returns-in-Memory g c = λ h x y goes place e.
    let n = c.args.hall.now in
    let o = written g.O.Sink.faults g.O.Sink.held x c.args.out.now in
    let r = written g.E.Sink.faults g.E.Sink.held y c.args.err.now in
    let q : EndIs (ends.Memory c.in-Memory.e) h o r = subst (λ a. EndIs a h o r) c.in-Memory.is e in
    let grew = goes_grew h n goes in
    (holds_more g.O.Sink.faults g.O.Sink.held x c.args.out.now (library_of h).out1 (library_of n).out1 grew.first grew.first_is q.0, holds_more g.E.Sink.faults g.E.Sink.held y c.args.err.now (library_of h).out2 (library_of n).out2 grew.second grew.second_is q.1)
