-- One entry of a turn, with the private steps before it.
use Rattle.std.proofs.Common.{◌≡◌, ◌≢◌, ℕ, suc, ◌-◌, ◌<◌, Bool, true, false, List, inl, inr, Option, Some, None, Ok, Err, refl, sym, subst, ap, arith, ◌∙◌}
use Rattle.std.specs.Prelude.{IsErr, Result}
use Rattle.std.specs.declared.alloc.AllocError.{AllocError}
use Rattle.std.proofs.lemmas.Option.{none-some, option_and_then_some, same_Some}
use Rattle.address_space.specs.Slots.{slot_of}
use Rattle.elf_image.specs.Layout.{ImageData}
use Rattle.guest_state.specs.declared.virtual_state.Virtual.{Virtual}
use Rattle.ir_syntax.specs.declared.block.Block.{Block}
use Rattle.ir_syntax.specs.declared.block.Part.{Part}
use Rattle.ir_syntax.specs.declared.request.BadKind.{BadKind as IrBadKind}
use Rattle.ir_syntax.specs.declared.request.BadKind.TheVariants as ir_bad
use Rattle.ir_syntax.specs.declared.request.Request.{Request}
use Rattle.ir_syntax.specs.declared.request.Request.TheVariants as ask
use Rattle.journal_pack.specs.declared.entry.Entry.{Entry}
use Rattle.x86_model.specs.Want.{want}
use Rattle.basic_blocks.specs.Places.{is_code_place}
use Rattle.basic_blocks.specs.Reach.{is_among}
use Rattle.machine_model.specs.CaseData.{CaseData}
use Rattle.machine_model.specs.Gated.{Both, Stand, gated_steps}
use Rattle.machine_model.specs.Own.{IsAhead}
use Rattle.machine_model.specs.Ready.{HasGrown}
use Rattle.machine_model.specs.Serial.{AtEvent, GoesOn, Point, Reaches, Rule, Turn, act, is_over, point_of, rule_at, stop_from, turn_from, unless_over}
use Rattle.machine_model.specs.Step.{privately}
use Rattle.hall_core.specs.Hall.{HallData, both, mark_at}
use Rattle.guest_parts.specs.Points.{Acts, ComesTo, point_at, waiting_of}
use Rattle.guest_parts.specs.Requests.{IsWanted}
use Rattle.guest_parts.specs.Running.{leads_to}
use Rattle.guest_parts.specs.Standing.{StandsBetween, StandsIn}
use Rattle.guest_parts.proofs.CallEntries.{call_stops}
use Rattle.guest_parts.proofs.Turns.{at_event, at_limit, at_miss, at_most, comes_to, missing, stop_here}
use Rattle.guest_steps.specs.declared.own.Own.{Own}
use Rattle.guest_steps.specs.declared.own.Position.{Position}
use Rattle.guest_steps.specs.declared.stretch.Came.{Came}
use Rattle.guest_steps.specs.declared.stretch.Came.TheVariants as came
use Rattle.guest_steps.specs.Ages.{AreAges}
use Rattle.guest_steps.specs.Kept.{Table}
use Rattle.guest_entries.specs.Entered.{AlongIn, Asking, CallIs, Entered, Partly, Waited, turn_in}
use Rattle.guest_steps.specs.Own.{data_of, position_of}
use Rattle.guest_steps.specs.Stretched.{CameIs, Moved}
use Rattle.thread_step.specs.Costs.{Spends}
use Rattle.thread_step.specs.Turned.{ActIs, Broke, EntryIs, Ready, Stayed, StopsIn, Went, rule_of}
use Rattle.guest_entries.specs.Steps.{Adds}
use Rattle.guest_entries.proofs.Adding.{adds_none, partly_adds}
use Rattle.guest_entries.proofs.Begins.{Begins, begins_same, begins_then, turn_from_begins}
use Rattle.guest_steps.proofs.Moves.{wanted_there}
use Rattle.thread_step.proofs.Spending.{partly_spends, spends_more, spends_none}
use Rattle.thread_step.proofs.Stuck.{waits_stuck}

-- ---- the rule where a guest stops

bad_public : (kind : IrBadKind) (image : ImageData) (grown : List ℕ) (p : Part) (b : Block) (n last : ℕ) (v : Virtual) (d : Stand) → IsWanted (ask.Bad kind) image grown p b n last v d → privately (want image d.cpu) ≡ None
bad_public ir_bad.Code image grown p b n last v d h = ap privately h.wants
bad_public ir_bad.Divide image grown p b n last v d h = ap privately h.wants
bad_public (ir_bad.Access a) image grown p b n last v d h = absurd h
bad_public ir_bad.Depth image grown p b n last v d h = absurd h
bad_public ir_bad.Door image grown p b n last v d h = absurd h

not_private : (r : Request) (image : ImageData) (grown : List ℕ) (p : Part) (b : Block) (n last : ℕ) (v : Virtual) (d : Stand) → leads_to b r ≡ None → IsWanted r image grown p b n last v d → privately (want image d.cpu) ≡ None
not_private ask.Tick image grown p b n last v d e h = absurd (none-some _ (sym e))
not_private (ask.Go a) image grown p b n last v d e h = absurd (none-some _ (sym e))
not_private (ask.Store a w x) image grown p b n last v d e h = ap privately h.wants
not_private (ask.StoreGo a x to) image grown p b n last v d e h = ap privately h.wants
not_private ask.Fence image grown p b n last v d e h = ap privately h.wants
not_private (ask.Load a w) image grown p b n last v d e h = ap privately h.wants
not_private (ask.Locked a w c) image grown p b n last v d e h = ap privately h.wants
not_private (ask.Bad kind) image grown p b n last v d e h = bad_public kind image grown p b n last v d h

pub rule_stops : (r : Came) (h : HallData Block) (t : ℕ) (own : Own) (table : Table) (d : Stand) → StopsIn r h t own table d → rule_at h.case (both h) (point_at own.k d) ≡ rule_of r
rule_stops came.Limit h t own table d s = at_limit h.case (both h) (point_at own.k d) s.1
rule_stops came.Most h t own table d s = at_most h.case (both h) (point_at own.k d) s.1.0 s.1.2 s.1.1
rule_stops (came.Missing a) h t own table d s =
    let between : StandsBetween a own.last own.state d = subst (λ (p : Position). StandsIn h.case.image (both h).gate.grown (position_of p) own.last own.state d) s.1.1 s.0.with.stands in
    let rip = between.agrees.0 in
    at_miss h.case (both h) (point_at own.k d) s.1.0 (missing h.case.image (both h).gate.grown d (subst (λ z. is_code_place h.case.image z ≡ true) rip s.1.2.place) between.left (subst (λ z. is_among (both h).gate.grown z ≡ false) rip s.1.2.new))
rule_stops (came.Library a what) h t own table d s = call_stops h.case (both h) t (data_of own) d a what s.0.with (ap position_of s.1.1, s.1.2) s.1.0.below (let few : own.k < 4096 = s.1.0.few in let ne : own.k ≢ 4096 = omega arith in ne)
rule_stops (came.Asks r) h t own table d s =
    let q = s.1 in
    let a = q.asks in
    let few : own.k < 4096 = q.room.few in
    at_event h.case (both h) (point_at own.k d) q.room.below (wanted_there r h.case.image (both h).gate.grown a.piece a.kept.block a.part own.last own.state d a.wanted) (let ne : own.k ≢ 4096 = omega arith in ne) (not_private r h.case.image (both h).gate.grown a.piece a.kept.block a.part own.last own.state d a.public a.wanted)

stops : (r : Came) → rule_of r ≢ GoesOn
stops came.Limit e = cc
stops came.Most e = cc
stops (came.Missing a) e = cc
stops (came.Library a what) e = cc
stops (came.Asks r) e = cc

-- ---- the private steps before an entry

no_move : (c : CaseData) (b : Both) (t : ℕ) (own new : Own) (table : Table) (d e : Stand) → Moved c b t own new table d e → new.k ≡ own.k → d ≡ e
unfolding gated_steps
no_move c b t own new table d e m same = same_Some d e (let n : new.k - own.k ≡ 0 = omega (arith, same) in sym (ap (λ k. gated_steps c.image b.gate.grown k d) n) ∙ m.gated)

pub comes : (c : CaseData) (b : Both) (t : ℕ) (own new : Own) (table : Table) (d e : Stand) (r : Rule) → Moved c b t own new table d e → r ≢ GoesOn → rule_at c b (point_at new.k e) ≡ r → ComesTo c b (point_at own.k d) (point_at new.k e) r
comes c b t own new table d e r m halts rule = elim m.below [
  | inl same ↦ record {
    first = ap (λ z. stop_from c b (4096 - own.k) (point_at own.k z)) (no_move c b t own new table d e m same) ∙ ap (λ k. stop_from c b (4096 - own.k) (point_at k e)) (sym same) ∙ stop_here c b (4096 - own.k) (point_at new.k e) r halts rule;
    rule = rule;
  }
  | inr le ↦ comes_to c b (new.k - own.k) own.k new.k d e r (omega (arith, m.later)) m.along.with.few le m.gated halts rule
]

-- ---- the entry

over_begins : (c : CaseData) (reach : Reaches) (t n : ℕ) (y x : Turn) (over : Bool) → unless_over (λ z. turn_from c reach t n (point_of z.both t) z) y over ≡ Some x → Begins y.journal x.journal
over_begins c reach t n y x true e = begins_same y x e
over_begins c reach t n y x false e = turn_from_begins c reach t n (point_of y.both t) y x e

pub broke_begins : (c : CaseData) (reach : Reaches) (t n : ℕ) (p q : Point) (r : Rule) (s x : Turn) (journal : List Entry) → ComesTo c s.both p q r → ((y : Turn) → act c reach t q s r ≡ Some y → Begins journal y.journal) → turn_from c reach t (suc n) p s ≡ Some x → Begins journal x.journal
unfolding turn_from
broke_begins c reach t n p q r s x journal to begins e =
    let on : Turn → Option Turn = λ y. unless_over (λ z. turn_from c reach t n (point_of z.both t) z) y (is_over t y) in
    option_and_then_some on (act c reach t (stop_from c s.both (4096 - p.k) p) s (rule_at c s.both (stop_from c s.both (4096 - p.k) p))) x e (λ y a b.
    let there = subst (λ z. act c reach t z s (rule_at c s.both z) ≡ Some y) to.first a in
    begins_then journal y.journal x.journal (begins y (subst (λ z. act c reach t q s z ≡ Some y) to.rule there)) (over_begins c reach t n y x (is_over t y) b))

module _ (h new : HallData Block) (t spare : ℕ) (own before mid after : Own) (table left : Table) (d e : Stand) (r : Came) (ready : (z : Table) × Ready h t own z d) (m : Moved h.case (both h) t own before table d e) (same_k : before.k ≡ mid.k) (same_ages : before.ages ≡ mid.ages) (rule : rule_at h.case (both h) (point_at mid.k e) ≡ rule_of r) where
  abbrev held : HallData Block
  held = record h { spare = spare }

  came_to : ComesTo h.case (both h) (point_at own.k d) (point_at mid.k e) (rule_of r)
  came_to = subst (λ k. ComesTo h.case (both h) (point_at own.k d) (point_at k e) (rule_of r)) same_k (comes h.case (both h) t own before table d e (rule_of r) m (stops r) (subst (λ k. rule_at h.case (both h) (point_at k e) ≡ rule_of r) (sym same_k) rule))

  ages_are : mid.ages ≡ own.ages
  ages_are = sym same_ages ∙ m.ages

  young : AreAges 255 mid.ages
  young = subst (AreAges 255) (sym ages_are) ready.1.fresh

  pub went : Entered held new t mid after left e (rule_of r) → Went h new t own after left d
  went q = record {
    one = record {
      case = q.case;
      stop = e;
      k = mid.k;
      rule = rule_of r;
      comes = came_to;
      acts = subst (λ z. Acts h.case t (point_at mid.k e) (turn_in h z) (rule_of r) (turn_in new after.ages)) ages_are q.acts;
      told = q.told;
      marks = q.marks;
    };
    on = λ going live. let x = q.on going live in record { along = x.0; grown = subst (λ (c : CaseData). HasGrown c.image (both new) (slot_of t)) (sym q.case) x.1; fresh = q.fresh young };
    gone = q.gone;
  }

  pub stayed : Waited held new t mid after left e → rule_of r ≡ AtEvent → Stayed h new t own after left d
  stayed q is = record {
    one = record {
      case = q.case;
      stop = e;
      k = mid.k;
      rule = rule_of r;
      comes = came_to;
      acts = subst (λ z. Acts h.case t (point_at mid.k e) (turn_in h own.ages) z (waiting_of (both new) new.journal after.ages)) (sym is) (subst (λ z. Acts h.case t (point_at mid.k e) (turn_in h z) AtEvent (waiting_of (both new) new.journal after.ages)) ages_are q.acts);
      told = q.told;
      marks = q.marks;
    };
    ready = record { along = q.along; grown = subst (λ (c : CaseData). HasGrown c.image (both new) (slot_of t)) (sym q.case) q.settled; fresh = subst (AreAges 255) (sym q.none) tt };
    none = q.none;
    stuck = waits_stuck h new t mid.k mid.ages after.ages e m.along.going.whole (subst (λ k. IsAhead h.case (both h) (slot_of t) k e) same_k m.along.with.ahead) q.case q.acts;
    marked = q.marked;
  }

  pub broke : Partly held new t mid after left e (rule_of r) → Broke h new t own after left d
  broke q = record {
    case = q.case;
    stand = q.stand;
    along = q.along;
    fresh = q.fresh young;
    begins = λ reach right n x is. broke_begins h.case reach t n (point_at own.k d) (point_at mid.k e) (rule_of r) (turn_in h own.ages) x new.journal came_to (λ y a. q.begins reach right y (subst (λ z. act h.case reach t (point_at mid.k e) (turn_in h z) (rule_of r) ≡ Some y) (sym ages_are) a)) is;
    adds = partly_adds t h.journal new.journal mid.k after.k q.tells;
    spent = partly_spends t h.journal new.journal mid.k after.k q.tells;
    marks = q.marks;
  }

  pub acted : (o : Result Bool AllocError) → ActIs o held new t mid after left e (rule_of r) → EntryIs o h new t own after left d
  acted (Ok false) q = went q
  acted (Ok true) q = stayed q.0 q.1
  acted (Err x) q = broke q

-- no entry was made
pub nothing_made : (h new : HallData Block) (t : ℕ) (own after : Own) (table left : Table) (d e : Stand) → Ready h t own table d → new ≡ record h { spare = new.spare } → AlongIn new t after left e → after.ages ≡ own.ages → Broke h new t own after left d
nothing_made h new t own after table left d e ready is along ages = record {
  case = ap (λ (z : HallData Block). z.case) is;
  stand = e;
  along = along;
  fresh = subst (AreAges 255) (sym ages) ready.fresh;
  begins = λ reach right n x run. subst (λ (z : HallData Block). Begins z.journal x.journal) (sym is) (turn_from_begins h.case reach t (suc n) (point_at own.k d) (turn_in h own.ages) x run);
  adds = subst (λ (z : HallData Block). Adds t h.journal z.journal) (sym is) (adds_none t h.journal);
  spent = subst (λ (z : HallData Block). Spends t 1 0 h.journal z.journal) (sym is) (spends_more t 0 1 0 0 h.journal h.journal (omega arith) (omega arith) (spends_none t h.journal));
  marks = λ s ne. ap (λ (z : HallData Block). mark_at z s) is;
}

-- ---- what is done at a stop

pub call_acts : (o : Result Bool AllocError) (h new : HallData Block) (t : ℕ) (own after : Own) (table : Table) (d : Stand) → CallIs o h new t own after table d → ActIs o h new t own after table d AtEvent
call_acts (Ok false) h new t own after table d q = q
call_acts (Ok true) h new t own after table d q = (q, refl)
call_acts (Err e) h new t own after table d q = q

pub came_stops : (r : Came) (h : HallData Block) (t : ℕ) (own new : Own) (table : Table) (d : Stand) → CameIs r h.case (both h) t own new table d → (e : Stand) × StopsIn r h t new table e
came_stops came.Limit h t own new table d w = (w.0, (w.1.along, w.2))
came_stops came.Most h t own new table d w = (w.0, (w.1.along, w.2))
came_stops (came.Missing a) h t own new table d w = (w.0, (w.1.along, w.2))
came_stops (came.Library a what) h t own new table d w = (w.0, (w.1.along, w.2))
came_stops (came.Asks r) h t own new table d w = (w.1, (w.0, record { along = w.2.along; room = w.3.0; asks = w.3.1 }))

entry_by : (r : Came) (o : Result Bool AllocError) (h new : HallData Block) (t spare : ℕ) (own mid after : Own) (first table left : Table) (d : Stand) → Ready h t own first d → CameIs r h.case (both h) t own mid table d → ((e : Stand) → StopsIn r (record h { spare = spare }) t mid table e → ActIs o (record h { spare = spare }) new t mid after left e (rule_of r)) → EntryIs o h new t own after left d
entry_by came.Limit o h new t spare own mid after first table left d ready w f = acted h new t spare own mid mid after table left d w.0 came.Limit (first, ready) w.1 refl refl (rule_stops came.Limit h t mid table w.0 (w.1.along, w.2)) o (f w.0 (w.1.along, w.2))
entry_by came.Most o h new t spare own mid after first table left d ready w f = acted h new t spare own mid mid after table left d w.0 came.Most (first, ready) w.1 refl refl (rule_stops came.Most h t mid table w.0 (w.1.along, w.2)) o (f w.0 (w.1.along, w.2))
entry_by (came.Missing a) o h new t spare own mid after first table left d ready w f = acted h new t spare own mid mid after table left d w.0 (came.Missing a) (first, ready) w.1 refl refl (rule_stops (came.Missing a) h t mid table w.0 (w.1.along, w.2)) o (f w.0 (w.1.along, w.2))
entry_by (came.Library a what) o h new t spare own mid after first table left d ready w f = acted h new t spare own mid mid after table left d w.0 (came.Library a what) (first, ready) w.1 refl refl (rule_stops (came.Library a what) h t mid table w.0 (w.1.along, w.2)) o (f w.0 (w.1.along, w.2))
entry_by (came.Asks r) o h new t spare own mid after first table left d ready w f =
    let q : Asking h t mid table w.0 w.1 r = record { along = w.2.along; room = w.3.0; asks = w.3.1 } in
    let held : Asking (record h { spare = spare }) t mid table w.0 w.1 r = record { along = w.2.along; room = w.3.0; asks = w.3.1 } in
    acted h new t spare own (record mid { state = w.0 }) mid after table left d w.1 (came.Asks r) (first, ready) w.2 refl refl (rule_stops (came.Asks r) h t mid table w.1 (w.0, q)) o (f w.1 (w.0, held))

pub entry_with : (r : Came) (o : Result Bool AllocError) (h held new : HallData Block) (t : ℕ) (own mid after : Own) (first table left : Table) (d : Stand) → held ≡ record h { spare = held.spare } → Ready h t own first d → CameIs r held.case (both held) t own mid table d → ((e : Stand) → StopsIn r held t mid table e → ActIs o held new t mid after left e (rule_of r)) → EntryIs o h new t own after left d
entry_with r o h held new t own mid after first table left d is ready w f =
    let P : HallData Block → Type 0 = λ z. CameIs r z.case (both z) t own mid table d → ((e : Stand) → StopsIn r z t mid table e → ActIs o z new t mid after left e (rule_of r)) → EntryIs o h new t own after left d in
    subst P (sym is) (entry_by r o h new t held.spare own mid after first table left d ready) w f

pub entry_failed : (o : Result Bool AllocError) (h new : HallData Block) (t : ℕ) (own after : Own) (left : Table) (d : Stand) → IsErr o → Broke h new t own after left d → EntryIs o h new t own after left d
entry_failed (Ok b) h new t own after left d is q = absurd (let no : false ≡ true = is in cc)
entry_failed (Err e) h new t own after left d is q = q

-- more room changes nothing
pub along_held : (h more : HallData Block) (t : ℕ) (own : Own) (table : Table) (d : Stand) → more ≡ record h { spare = more.spare } → AlongIn h t own table d → AlongIn more t own table d
along_held h more t own table d is a = subst (λ z. AlongIn z t own table d) (sym is) a
