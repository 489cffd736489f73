use Rattle.std.proofs.Common.{[], ◌∷◌, MatchOption, length, ap, arith, sym, subst, ◌∙◌}
use Rattle.address_space.specs.Slots.{slot_of}
use Rattle.basic_blocks.specs.Places.{is_code_place}
use Rattle.basic_blocks.specs.Reach.{IsReach, IsReachAbove, is_among}
use Rattle.machine_model.specs.CaseData.{CaseData}
use Rattle.machine_model.specs.Gated.{stand_at}
use Rattle.hall_core.specs.Hall.{both}
use Rattle.guest_entries.specs.Growth.{FitsAt}
use Rattle.guest_steps.specs.Own.{data_of}
use Rattle.guest_entries.proofs.Missing.{in_growth_by, miss_is_by}
use Rattle.guest_entries.proofs.growth.tell_and_grow.Goals as goal

pub grow_target-requires-clause-fits : goal.grow_target-requires-clause-fits
grow_target-requires-clause-fits g c = let r = c.requires.misses in subst (λ (x : CaseData). FitsAt x.image c.args.a c.args.block.value) (sym (c.tell.ensures.missed r.0 r.1 r.2 r.3).case) c.requires.fits

pub grow_target-requires-clause-few : goal.grow_target-requires-clause-few
grow_target-requires-clause-few g c = let r = c.requires.misses in let e = ap length (c.tell.ensures.missed r.0 r.1 r.2 r.3).same in omega (arith, e, c.requires.few)

pub grow_target-requires-clause-new : goal.grow_target-requires-clause-new
grow_target-requires-clause-new g c = let r = c.requires.misses in ap (λ l. is_among l c.args.a) (c.tell.ensures.missed r.0 r.1 r.2 r.3).same ∙ r.3.2.new

pub grow_target-requires-clause-place : goal.grow_target-requires-clause-place
grow_target-requires-clause-place g c = let r = c.requires.misses in ap (λ (x : CaseData). is_code_place x.image c.args.a) (c.tell.ensures.missed r.0 r.1 r.2 r.3).case ∙ r.3.2.place

pub grow_target-requires-clause-onward : goal.grow_target-requires-clause-onward
grow_target-requires-clause-onward g c = let r = c.requires.misses in subst (λ (x : CaseData). MatchOption c.args.onward (IsReachAbove x.image (c.args.a ∷ []) 65536) (λ places. IsReach x.image (c.args.a ∷ []) places.items)) (sym (c.tell.ensures.missed r.0 r.1 r.2 r.3).case) c.requires.onward

pub grow_target-requires-clause-growth : goal.grow_target-requires-clause-growth
grow_target-requires-clause-growth g c =
    let r = c.requires.misses in
    (data_of c.tell.new.own, stand_at (both c.tell.new.hall) (slot_of c.args.t), in_growth_by c.args.hall.now c.tell.new.hall c.args.t c.args.a c.args.own.now c.tell.new.own r.0 r.1 c.tell.ensures.own c.requires.additive (c.tell.ensures.missed r.0 r.1 r.2 r.3))

pub returns : goal.returns
returns g c = λ table d along stops.
    let m = c.tell.ensures.missed table d along stops in
    miss_is_by c.grow_target.result c.args.hall.now c.tell.new.hall c.grow_target.new.hall c.args.t c.args.a c.args.own.now c.tell.new.own table d c.tell.ensures.own c.requires.additive c.requires.few m (c.grow_target.ensures (data_of c.tell.new.own) (stand_at (both c.tell.new.hall) (slot_of c.args.t)) (in_growth_by c.args.hall.now c.tell.new.hall c.args.t c.args.a c.args.own.now c.tell.new.own table d c.tell.ensures.own c.requires.additive m))
