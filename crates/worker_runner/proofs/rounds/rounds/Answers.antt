use Rattle.std.proofs.Common.{ℕ, ◌<◌, length, slice_index_or, sym, subst, ap, ◌∙◌}
use Rattle.turn_lock.specs.Lock.{lock_id}
use Rattle.ir_runner.specs.Outputs.{Gains, written}
use Rattle.ir_runner.proofs.Sinks.{gains_nothing}
use Rattle.worker_runner.specs.declared.round.Worker.{Worker}
use Rattle.worker_runner.specs.declared.watch.Over.TheVariants as over
use Rattle.worker_runner.specs.Rounds.{AreHeld, AreReady, EndIs, HadMemory}
use Rattle.std.specs.Prelude.{All}
use Rattle.worker_runner.specs.Counts.{AreCounted}
use Rattle.worker_runner.specs.Workers.{MayGo}
use Rattle.worker_runner.proofs.Rounding.{DidOne, all_counted_on, all_go, all_held, all_held_on, all_ready_on, ends, same_slice, whole_part}
use Rattle.worker_runner.proofs.rounds.rounds.Goals as goal

pub loop-init : goal.loop-init
loop-init g c = record {
  lock = c.requires.lock;
  number = c.requires.number;
  counted = c.requires.counted;
  way = λ k s. record {
    hall = s.hall;
    saw = s.saw;
    case = s.case;
    place = s.place;
    ready = s.ready;
    first = subst (Gains (written g.O.Sink.faults g.O.Sink.held c.args.out.now c.args.out.now)) (sym s.first) (gains_nothing g.O.Sink.faults g.O.Sink.held c.args.out.now);
    second = subst (Gains (written g.E.Sink.faults g.E.Sink.held c.args.err.now c.args.err.now)) (sym s.second) (gains_nothing g.E.Sink.faults g.E.Sink.held c.args.err.now);
  };
}

pub watch-back-requires-clause-saw : goal.watch-back-requires-clause-saw
watch-back-requires-clause-saw g c = let s = c.requires.start in let m = c.loop.invariant.way s.0 s.1 in (m.hall, m.saw, m.place)

pub returns-in_default : goal.returns-in_default
returns-in_default g c = record {
  lock = c.watch-back.ensures.lock;
  number = c.watch-back.ensures.number;
  over = λ e. c.in_default.not-On e;
  counted = c.loop.invariant.counted;
  held = λ k s. all_held (lock_id c.args.lock.now) k c.loop.workers.items (c.loop.invariant.way k s).ready;
  came = λ k s.
      let m = c.loop.invariant.way k s in
      let w = c.watch-back.ensures.watched m.hall m.saw m.place in
      record {
        hall = w.hall;
        saw = w.saw;
        case = w.case ∙ m.case;
        place = w.place;
        end = ends g.O.Sink.faults g.O.Sink.held g.E.Sink.faults g.E.Sink.held c.args.out.now c.loop.out c.watch-back.new.out c.args.err.now c.loop.err c.watch-back.new.err m.hall w.hall w.grew m.first m.second c.watch-back.result.1 w.over;
      };
}

pub round-requires-clause-go : goal.round-requires-clause-go
round-requires-clause-go g c κs within =
    let s = c.requires.start in
    let m = c.loop.invariant.way s.0 s.1 in
    subst (λ ws. All (λ w. MayGo (lock_id c.args.lock.now) c.args.rules w.ctx) ws) (sym c.as_mut_slice.ensures.value) (all_go (lock_id c.args.lock.now) s.0 c.args.rules c.loop.workers.items m.ready s.1.rules)

pub returns-then-lacks_memory-clause-held : goal.returns-then-lacks_memory-clause-held
returns-then-lacks_memory-clause-held g c = λ k s.
    let m = c.loop.invariant.way k s in
    let ws = c.loop.workers.items in
    let vs = c.round.new.workers in
    let count = c.round.ensures.count ∙ ap length c.as_mut_slice.ensures.value in
    let took : (i : ℕ) (d : Worker g.row.N.Denot) → i < length ws → DidOne (lock_id c.args.lock.now) g.N.Engine.count (slice_index_or ws i d) (slice_index_or vs i d) = subst (λ xs. (i : ℕ) (d : Worker g.row.N.Denot) → i < length xs → DidOne (lock_id c.args.lock.now) g.N.Engine.count (slice_index_or xs i d) (slice_index_or vs i d)) c.as_mut_slice.ensures.value c.round.ensures.took in
    subst (λ xs. AreHeld (lock_id c.args.lock.now) k xs) (sym (same_slice c.loop.workers.len vs ws count (sym c.as_mut_slice.ensures.len ∙ ap length c.as_mut_slice.ensures.value))) (all_held_on (lock_id c.args.lock.now) k g.N.Engine.count ws vs m.ready count took)

pub returns-then-lacks_memory-clause-counted : goal.returns-then-lacks_memory-clause-counted
returns-then-lacks_memory-clause-counted g c =
    let s = c.requires.start in
    let m = c.loop.invariant.way s.0 s.1 in
    let ws = c.loop.workers.items in
    let vs = c.round.new.workers in
    let count = c.round.ensures.count ∙ ap length c.as_mut_slice.ensures.value in
    let took : (i : ℕ) (d : Worker g.row.N.Denot) → i < length ws → DidOne (lock_id c.args.lock.now) g.N.Engine.count (slice_index_or ws i d) (slice_index_or vs i d) = subst (λ xs. (i : ℕ) (d : Worker g.row.N.Denot) → i < length xs → DidOne (lock_id c.args.lock.now) g.N.Engine.count (slice_index_or xs i d) (slice_index_or vs i d)) c.as_mut_slice.ensures.value c.round.ensures.took in
    subst (AreCounted g.N.Engine.count) (sym (same_slice c.loop.workers.len vs ws count (sym c.as_mut_slice.ensures.len ∙ ap length c.as_mut_slice.ensures.value))) (all_counted_on (lock_id c.args.lock.now) s.0 g.N.Engine.count ws vs m.ready count took c.loop.invariant.counted)

pub returns-then-lacks_memory-clause-came : goal.returns-then-lacks_memory-clause-came
returns-then-lacks_memory-clause-came g c = λ k s.
    let m = c.loop.invariant.way k s in
    let w = c.watch-back.ensures.watched m.hall m.saw m.place in
    let e : EndIs over.On w.hall (written g.O.Sink.faults g.O.Sink.held c.args.out.now c.watch-back.new.out) (written g.E.Sink.faults g.E.Sink.held c.args.err.now c.watch-back.new.err) = subst (λ a. EndIs a w.hall (written g.O.Sink.faults g.O.Sink.held c.args.out.now c.watch-back.new.out) (written g.E.Sink.faults g.E.Sink.held c.args.err.now c.watch-back.new.err)) c.in-On.is (ends g.O.Sink.faults g.O.Sink.held g.E.Sink.faults g.E.Sink.held c.args.out.now c.loop.out c.watch-back.new.out c.args.err.now c.loop.err c.watch-back.new.err m.hall w.hall w.grew m.first m.second c.watch-back.result.1 w.over) in
    record {
      hall = w.hall;
      saw = w.saw;
      case = w.case ∙ m.case;
      place = w.place;
      end = (whole_part g.O.Sink.faults g.O.Sink.held g.E.Sink.faults g.E.Sink.held c.args.out.now c.watch-back.new.out _ e.0, whole_part g.E.Sink.faults g.E.Sink.held g.O.Sink.faults g.O.Sink.held c.args.err.now c.watch-back.new.err _ e.1);
    }

pub loop-preserved : goal.loop-preserved
loop-preserved g c = record {
  lock = c.watch-back.ensures.lock;
  number = c.watch-back.ensures.number;
  counted = (
      let s = c.requires.start in
      let m = c.loop.invariant.way s.0 s.1 in
      let ws = c.loop.workers.items in
      let vs = c.round.new.workers in
      let count = c.round.ensures.count ∙ ap length c.as_mut_slice.ensures.value in
      let took : (i : ℕ) (d : Worker g.row.N.Denot) → i < length ws → DidOne (lock_id c.args.lock.now) g.N.Engine.count (slice_index_or ws i d) (slice_index_or vs i d) = subst (λ xs. (i : ℕ) (d : Worker g.row.N.Denot) → i < length xs → DidOne (lock_id c.args.lock.now) g.N.Engine.count (slice_index_or xs i d) (slice_index_or vs i d)) c.as_mut_slice.ensures.value c.round.ensures.took in
      subst (AreCounted g.N.Engine.count) (sym (same_slice c.loop.workers.len vs ws count (sym c.as_mut_slice.ensures.len ∙ ap length c.as_mut_slice.ensures.value))) (all_counted_on (lock_id c.args.lock.now) s.0 g.N.Engine.count ws vs m.ready count took c.loop.invariant.counted)
      );
  way = λ k s.
      let m = c.loop.invariant.way k s in
      let w = c.watch-back.ensures.watched m.hall m.saw m.place in
      let e : EndIs over.On w.hall (written g.O.Sink.faults g.O.Sink.held c.args.out.now c.watch-back.new.out) (written g.E.Sink.faults g.E.Sink.held c.args.err.now c.watch-back.new.err) = subst (λ a. EndIs a w.hall (written g.O.Sink.faults g.O.Sink.held c.args.out.now c.watch-back.new.out) (written g.E.Sink.faults g.E.Sink.held c.args.err.now c.watch-back.new.err)) c.in-On.is (ends g.O.Sink.faults g.O.Sink.held g.E.Sink.faults g.E.Sink.held c.args.out.now c.loop.out c.watch-back.new.out c.args.err.now c.loop.err c.watch-back.new.err m.hall w.hall w.grew m.first m.second c.watch-back.result.1 w.over) in
      let ws = c.loop.workers.items in
      let vs = c.round.new.workers in
      let count = c.round.ensures.count ∙ ap length c.as_mut_slice.ensures.value in
      let is = same_slice c.loop.workers.len vs ws count (sym c.as_mut_slice.ensures.len ∙ ap length c.as_mut_slice.ensures.value) in
      let took : (i : ℕ) (d : Worker g.row.N.Denot) → i < length ws → DidOne (lock_id c.args.lock.now) g.N.Engine.count (slice_index_or ws i d) (slice_index_or vs i d) = subst (λ xs. (i : ℕ) (d : Worker g.row.N.Denot) → i < length xs → DidOne (lock_id c.args.lock.now) g.N.Engine.count (slice_index_or xs i d) (slice_index_or vs i d)) c.as_mut_slice.ensures.value c.round.ensures.took in
      let had : (i : ℕ) (d : Worker g.row.N.Denot) → i < length vs → HadMemory (slice_index_or vs i d).turned = subst (λ xs. (i : ℕ) (d : Worker g.row.N.Denot) → i < length xs → HadMemory (slice_index_or xs i d).turned) (c.as_slice.ensures.value ∙ is) (c.lacks_memory.ensures c.if-lacks_memory.false) in
      record {
        hall = w.hall;
        saw = w.saw;
        case = w.case ∙ m.case;
        place = w.place;
        ready = subst (λ xs. AreReady (lock_id c.args.lock.now) k xs) (sym is) (all_ready_on (lock_id c.args.lock.now) k g.N.Engine.count ws vs m.ready count took had);
        first = e.0;
        second = e.1;
      };
}
