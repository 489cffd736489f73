use Rattle.std.proofs.Common.{◌≤◌, [], length, sym, subst, refl, ◌∙◌}
use Rattle.machine_model.specs.CaseData.{CaseData}
use Rattle.machine_model.specs.Gated.{most_grown}
use Rattle.ir_runner.proofs.Counting.{ran_nothing, ran_then}
use Rattle.ir_runner.proofs.Running.{begins_so_far, ends, grew_on, none_end, on, round_grew, stops}
use Rattle.ir_runner.proofs.Serials.{has_round}
use Rattle.std.proofs.lemmas.List.{append-nil}
use Rattle.ir_runner.proofs.run.run_rounds.Goals as goal

pub loop-rules-init : goal.loop-rules-init
loop-rules-init g c = record {
  so = begins_so_far g.O.Sink.faults g.O.Sink.held g.E.Sink.faults g.E.Sink.held c.args.hall.now c.args.guests.now.items c.args.rules c.args.out.now c.args.err.now c.requires.first c.requires.guests c.requires.ages;
  grew = ([], sym (append-nil c.args.hall.now.journal));
  run = ran_nothing (g.N.Engine.count c.args.engine.now) c.args.hall.now;
}

pub next_round-stop-requires-clause-next : goal.next_round-stop-requires-clause-next
next_round-stop-requires-clause-next g c κs within =
    let so = c.loop-rules.invariant.so in
    has_round c.loop-rules.hall c.loop-rules.guests.items c.args.rules (record { few = subst (λ (k : CaseData). length k.first ≤ most_grown) (sym so.case) c.requires.few; turn = c.requires.rules.turn }) so.serial (none_end _ (sym c.has_ended.ensures ∙ c.loop-rules-test.true))

pub returns-in-Some-clause-journal : goal.returns-in-Some-clause-journal
returns-in-Some-clause-journal g c =
    (stops g.O.Sink.faults g.O.Sink.held g.E.Sink.faults g.E.Sink.held c.args.hall.now c.loop-rules.hall c.next_round-stop.new.hall c.loop-rules.guests.items c.next_round-stop.new.guests.items c.args.rules c.args.out.now c.loop-rules.out c.next_round-stop.new.out c.args.err.now c.loop-rules.err c.next_round-stop.new.err c.requires.few c.requires.rules.turn (none_end _ (sym c.has_ended.ensures ∙ c.loop-rules-test.true)) c.facts.ensures.gated c.loop-rules.invariant.so c.next_round-stop.ensures.case c.facts-in-loop-rules.ensures.gated c.in-Some.ran c.in-Some.ensures.round).0

pub returns-in-Some-clause-outputs : goal.returns-in-Some-clause-outputs
returns-in-Some-clause-outputs g c =
    (stops g.O.Sink.faults g.O.Sink.held g.E.Sink.faults g.E.Sink.held c.args.hall.now c.loop-rules.hall c.next_round-stop.new.hall c.loop-rules.guests.items c.next_round-stop.new.guests.items c.args.rules c.args.out.now c.loop-rules.out c.next_round-stop.new.out c.args.err.now c.loop-rules.err c.next_round-stop.new.err c.requires.few c.requires.rules.turn (none_end _ (sym c.has_ended.ensures ∙ c.loop-rules-test.true)) c.facts.ensures.gated c.loop-rules.invariant.so c.next_round-stop.ensures.case c.facts-in-loop-rules.ensures.gated c.in-Some.ran c.in-Some.ensures.round).1

pub returns-in-Some-clause-count : goal.returns-in-Some-clause-count
returns-in-Some-clause-count g c =
    let i = c.loop-rules.invariant in
    ran_then (g.N.Engine.count c.args.engine.now) (g.N.Engine.count c.loop-rules.engine) (g.N.Engine.count c.next_round-stop.new.engine) c.args.hall.now c.loop-rules.hall c.next_round-stop.new.hall i.so.case i.grew (round_grew c.next_round-stop.result c.loop-rules.hall c.next_round-stop.new.hall c.loop-rules.guests.items c.next_round-stop.new.guests.items c.args.rules _ _ c.facts.ensures.gated c.next_round-stop.ensures.round) i.run c.next_round-stop.ensures.count

pub loop-rules-preserved : goal.loop-rules-preserved
loop-rules-preserved g c =
    let i = c.loop-rules.invariant in
    let more = round_grew c.next_round-stop.result c.loop-rules.hall c.next_round-stop.new.hall c.loop-rules.guests.items c.next_round-stop.new.guests.items c.args.rules _ _ c.facts.ensures.gated c.next_round-stop.ensures.round in
    record {
      so = on g.O.Sink.faults g.O.Sink.held g.E.Sink.faults g.E.Sink.held c.args.hall.now c.loop-rules.hall c.next_round-stop.new.hall c.loop-rules.guests.items c.next_round-stop.new.guests.items c.args.rules c.args.out.now c.loop-rules.out c.next_round-stop.new.out c.args.err.now c.loop-rules.err c.next_round-stop.new.err c.requires.few c.requires.rules.turn (none_end _ (sym c.has_ended.ensures ∙ c.loop-rules-test.true)) c.facts.ensures.gated i.so c.next_round-stop.ensures.case c.facts-in-loop-rules.ensures.gated c.in_default.ensures.round (c.in_default.ensures.guests refl);
      grew = grew_on c.args.hall.now c.loop-rules.hall c.next_round-stop.new.hall i.grew more;
      run = ran_then (g.N.Engine.count c.args.engine.now) (g.N.Engine.count c.loop-rules.engine) (g.N.Engine.count c.next_round-stop.new.engine) c.args.hall.now c.loop-rules.hall c.next_round-stop.new.hall i.so.case i.grew more i.run c.next_round-stop.ensures.count;
    }

pub returns-clause-journal : goal.returns-clause-journal
returns-clause-journal g c = (ends g.O.Sink.faults g.O.Sink.held g.E.Sink.faults g.E.Sink.held c.args.hall.now c.loop-rules.hall c.loop-rules.guests.items c.args.rules c.args.out.now c.loop-rules.out c.args.err.now c.loop-rules.err c.loop-rules.invariant.so (sym c.has_ended.ensures ∙ c.loop-rules-test.false)).0
