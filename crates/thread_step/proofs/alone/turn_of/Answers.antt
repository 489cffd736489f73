use Rattle.std.proofs.Common.{sym, subst, arith, ◌∙◌}
use Rattle.address_space.specs.Slots.{slot_of}
use Rattle.machine_model.specs.Gated.{Leads, begin}
use Rattle.hall_core.specs.Hall.{both}
use Rattle.thread_step.specs.Turned.{Ready}
use Rattle.thread_step.proofs.Counting.{rises_less}
use Rattle.thread_step.proofs.OtherGuests.{others_ready}
use Rattle.thread_step.proofs.SlotTurn.{adds_after, case_after, it_lives, its_slot, left, same_stand, turned_before}
use Rattle.thread_step.proofs.alone.turn_of.Goals as goal

pub returns-clause-turn : goal.returns-clause-turn
returns-clause-turn g c = λ d ahead.
    let h = c.args.hall.now in
    let slot = its_slot h c.args.guest.now c.args.t c.requires.ready c.requires.going c.requires.lives in
    let r = c.enter.ensures.ready in
    let same = same_stand h.case (both h) (slot_of c.args.t) c.args.guest.now.slot c.enter.new.self.own.k c.args.guest.now.own.k r.0 d slot c.enter.ensures.told r.1.along.with.ahead ahead in
    turned_before c.turn-turned.result h c.turn-turned.new.hall c.args.t c.args.rules c.args.guest.now.own c.enter.new.self.own _ _ d c.enter.ensures.told c.enter.ensures.ages (c.turn-turned.ensures.turn d (subst (Ready h c.args.t c.enter.new.self.own c.enter.new.self.table.items) same r.1))

pub returns-clause-ready : goal.returns-clause-ready
returns-clause-ready g c =
    let h = c.args.hall.now in
    let r = c.enter.ensures.ready in
    let slot = its_slot h c.args.guest.now c.args.t c.requires.ready c.requires.going c.requires.lives in
    left c.turn-turned.new.hall c.args.t _ (slot ∙ sym c.enter.ensures.slot) (let low = c.requires.ready.stands.low in let is = c.enter.ensures.slot in omega (arith, low, is)) c.enter.ensures.thread c.turn-turned.result h c.args.rules c.enter.new.self.own r.0 c.facts.ensures.gated (it_lives h c.args.guest.now c.args.t c.requires.ready c.requires.going c.requires.lives) (c.turn-turned.ensures.turn r.0 r.1)

pub returns-clause-others : goal.returns-clause-others
returns-clause-others g c = λ x other ready.
    let h = c.args.hall.now in
    let r = c.enter.ensures.ready in
    let slot = its_slot h c.args.guest.now c.args.t c.requires.ready c.requires.going c.requires.lives in
    let q = c.turn-turned.ensures.turn r.0 r.1 in
    let case = case_after c.turn-turned.result h c.turn-turned.new.hall c.args.t c.args.rules c.enter.new.self.own _ _ r.0 q in
    others_ready h c.turn-turned.new.hall c.args.t x case c.requires.going c.facts.ensures.gated (subst (λ k. Leads k (begin k) c.turn-turned.new.hall.journal (both c.turn-turned.new.hall)) case c.facts-2.ensures.gated) (adds_after c.turn-turned.result h c.turn-turned.new.hall c.args.t c.args.rules c.enter.new.self.own _ _ r.0 c.facts.ensures.gated q) (λ e. other (e ∙ slot)) ready

pub returns-clause-count : goal.returns-clause-count
returns-clause-count g c = let told = c.enter.ensures.told in rises_less _ _ _ _ (omega (arith, told)) c.turn-turned.ensures.count
