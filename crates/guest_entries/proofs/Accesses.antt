-- Accesses to memory, fences and steps that can't be made, in a turn.
use Rattle.std.proofs.Common.{◌≡◌, ℕ, ◌+◌, ◌<◌, ◌^◌, Bool, true, false, cond, List, [], ◌∷◌, ◌++◌, length, Option, Some, None, IfSome, refl, sym, subst, ap, arith, ◌∙◌}
use Rattle.std.specs.Prelude.{nat_le, option_and_then, slice_index}
use Rattle.std.proofs.lemmas.Bool.Decides.{nat_tests}
use Rattle.std.proofs.lemmas.Option.{none-some, same_Some}
use Rattle.address_space.specs.Slots.{slot_of}
use Rattle.guest_state.specs.declared.virtual_state.Virtual.{Virtual}
use Rattle.ir_meaning.specs.Does.{answered}
use Rattle.ir_meaning.specs.Ready.{Answers}
use Rattle.ir_syntax.specs.declared.block.Block.{Block}
use Rattle.ir_syntax.specs.declared.block.Part.{Part}
use Rattle.ir_syntax.specs.declared.request.BadKind.{BadKind as IrBadKind}
use Rattle.ir_syntax.specs.declared.request.BadKind.TheVariants as ir_bad
use Rattle.ir_syntax.specs.declared.request.Change.{Change as IrChange}
use Rattle.ir_syntax.specs.declared.request.Request.{Request}
use Rattle.ir_syntax.specs.declared.request.Request.TheVariants as ask
use Rattle.ir_syntax.specs.declared.width.Width.{Width as IrWidth}
use Rattle.ir_syntax.specs.declared.width.Width.TheVariants as ir_size
use Rattle.journal_pack.specs.declared.entry.Entry.{Entry}
use Rattle.journal_pack.specs.declared.entry.Entry.TheVariants.{Ev}
use Rattle.lift_table.specs.Follow.{ir_change}
use Rattle.lift_table.specs.LiftLines.{ir_width}
use Rattle.tso_memory.specs.declared.access.Access.TheVariants as access
use Rattle.tso_memory.specs.declared.write.PendingWrite.{PendingWrite}
use Rattle.tso_memory.specs.Buffer.{size_of}
use Rattle.tso_memory.specs.Memory.{number_from}
use Rattle.tso_memory.specs.Tso.{is_none_waiting, memory_number, seen_by}
use Rattle.x86_forms.specs.Widths.{bits_in}
use Rattle.x86_forms.specs.declared.operands.Width.{Width}
use Rattle.x86_forms.specs.declared.operands.Width.TheVariants.{W8, W16, W32, W64}
use Rattle.x86_model.specs.declared.cpu.Cpu.{Cpu}
use Rattle.x86_model.specs.declared.want.BadStep.{BadStep}
use Rattle.x86_model.specs.declared.want.BadStep.TheVariants as step
use Rattle.x86_model.specs.declared.want.Change.{Change}
use Rattle.x86_model.specs.declared.want.Change.TheVariants as change
use Rattle.x86_model.specs.declared.want.Want.{Want}
use Rattle.x86_model.specs.declared.want.Want.TheVariants as wants
use Rattle.x86_model.specs.Want.{want}
use Rattle.machine_model.specs.CaseData.{CaseData}
use Rattle.machine_model.specs.Conversions.{kind_of, memory_change_of, memory_width_of, request_change_of, request_kind_of, request_width_of}
use Rattle.machine_model.specs.Gated.{Both, Stand, advance, entered, onward}
use Rattle.machine_model.specs.Own.{refusal, writes_at}
use Rattle.machine_model.specs.Serial.{AtEvent, Point, Turn, event, flush_some, flushed_before, with_new}
use Rattle.machine_model.specs.State.{Machine, list_at}
use Rattle.machine_model.specs.Step.{asked_by, carried_out, core_with, exchanged, later, refused, waits_at, waits_for, with_cpu}
use Rattle.hall_core.specs.Hall.{Comes, HallData, Needs, NeedsAt, added, both, machine}
use Rattle.hall_core.specs.Shared.{Fails, Fences, Loads, Locks, Need, Stores, loaded_value, locked_value, need_of, shared_of, unless_denied}
use Rattle.guest_parts.specs.Points.{Acts, point_at, turn_of}
use Rattle.guest_parts.specs.Requests.{IsBad, IsStore, StandOn, stand_by}
use Rattle.guest_parts.specs.Standing.{StandsIn, end_of, places_of}
use Rattle.guest_parts.proofs.Entries.{bad_ends, event_comes, fence_leaves, load_ends, load_leaves, locked_ends, locked_leaves, store_ends, store_leaves}
use Rattle.guest_parts.proofs.Runs.{here_rip}
use Rattle.guest_parts.proofs.Turns.{event_acts_by}
use Rattle.guest_steps.specs.declared.own.Own.{Own}
use Rattle.guest_steps.specs.declared.own.Position.TheVariants.{Inside}
use Rattle.guest_steps.specs.Ages.{AreAges}
use Rattle.guest_steps.specs.Kept.{AreKept, KeptData, Table}
use Rattle.guest_entries.specs.Entered.{Asking, Entered, Passed, StoresBy, turn_in}
use Rattle.guest_steps.specs.Own.{IsUnder, data_of, position_of}
use Rattle.guest_steps.specs.Stretched.{AsksAt}
use Rattle.guest_entries.proofs.Entering.{Left, entered_by, grown_event, left_ended, left_with, may_come, needs_at}
use Rattle.guest_steps.proofs.Moves.{is_kept, is_under, stands_inside}

-- ---- widths and changes

same_width : (w : Width) → request_width_of (ir_width w) ≡ memory_width_of w
same_width W8 = refl
same_width W16 = refl
same_width W32 = refl
same_width W64 = refl

pub width_is : (u : IrWidth) (w : Width) → u ≡ ir_width w → request_width_of u ≡ memory_width_of w
width_is u w e = ap request_width_of e ∙ same_width w

same_change : (d : Change) → request_change_of (ir_change d) ≡ memory_change_of d
same_change (change.Xchg v) = refl
same_change (change.Add v) = refl
same_change (change.Sub v) = refl
same_change (change.And v) = refl
same_change (change.Or v) = refl
same_change (change.Xor v) = refl
same_change (change.Cmpxchg a b) = refl

bits : (w : Width) (x : ℕ) → x < 256 ^ size_of (memory_width_of w) → x < 2 ^ bits_in w
bits W8 x h = h
bits W16 x h = omega (arith, h)
bits W32 x h = omega (arith, h)
bits W64 x h = omega (arith, h)

pub bits_fit : (u : IrWidth) (w : Width) (x : ℕ) → u ≡ ir_width w → x < 256 ^ size_of (request_width_of u) → x < 2 ^ bits_in w
bits_fit u w x e h = bits w x (subst (λ z. x < 256 ^ size_of z) (width_is u w e) h)

-- ---- events in a turn

pub no_flush : (c : CaseData) (t : ℕ) (s : Turn) (n : ℕ) → n ≡ 0 → flush_some c t n s ≡ Some s
unfolding flush_some
no_flush c t s n e = ap (λ k. flush_some c t k s) e

-- an event before which no write has to go to memory, and that asks nothing of the library
pub acts_now : (c : CaseData) (t : ℕ) (q : Point) (b n : Both) (journal : List Entry) (ages : List ℕ) (w : Want) → want c.image q.stand.cpu ≡ w → flushed_before w (length (list_at b.machine (slot_of t))) ≡ 0 → asked_by w ≡ None → advance c b (Ev t q.k) ≡ Some n → Acts c t q (turn_of b journal ages) AtEvent (turn_of n (journal ++ Ev t q.k ∷ []) (with_new w ages))
acts_now c t q b n journal ages w e none quiet comes =
    let count : flushed_before (want c.image q.stand.cpu) (length (list_at b.machine (slot_of t))) ≡ 0 = ap (λ z. flushed_before z (length (list_at b.machine (slot_of t)))) e ∙ none in
    let free : waits_at c.image b.machine t q.stand.cpu ≡ false = ap (waits_for b.machine t (core_with b.machine t q.stand.cpu)) (ap asked_by e ∙ quiet) in
    subst (λ z. Acts c t q (turn_of b journal ages) AtEvent (turn_of n (journal ++ Ev t q.k ∷ []) (with_new z ages))) e
    (event_acts_by c t q (turn_of b journal ages) b n journal ages (no_flush c t (turn_of b journal ages) _ count) free comes)

-- the same after so many writes went to memory
pub acts_flushed : (c : CaseData) (t m : ℕ) (q : Point) (s now x : Turn) (w : Want) → want c.image q.stand.cpu ≡ w → flushed_before w (length (list_at s.both.machine (slot_of t))) ≡ m → flush_some c t m s ≡ Some now → flushed_before w (length (list_at now.both.machine (slot_of t))) ≡ 0 → Acts c t q now AtEvent x → Acts c t q s AtEvent x
acts_flushed c t m q s now x w e count flushed none acts = λ reach right.
    let first : flush_some c t (flushed_before (want c.image q.stand.cpu) (length (list_at s.both.machine (slot_of t)))) s ≡ Some now = ap (λ z. flush_some c t z s) (ap (λ z. flushed_before z (length (list_at s.both.machine (slot_of t)))) e ∙ count) ∙ flushed in
    let second : flush_some c t (flushed_before (want c.image q.stand.cpu) (length (list_at now.both.machine (slot_of t)))) now ≡ Some now = no_flush c t now _ (ap (λ z. flushed_before z (length (list_at now.both.machine (slot_of t)))) e ∙ none) in
    ap (option_and_then (event c t q)) first ∙ sym (ap (option_and_then (event c t q)) second) ∙ acts reach right

-- ---- a part that asks

module _ (h : HallData Block) (t : ℕ) (own : Own) (table : Table) (v : Virtual) (d : Stand) where
  abbrev before : Own
  before = record own { state = v }

  -- the thread is at the part's instruction
  pub rip_is : (r : Request) (rip : ℕ) → (a : Asking h t own table v d r) → ((kept : KeptData) (part : ℕ) → own.at ≡ Inside kept part → rip ≡ slice_index (places_of kept.image kept.block) part) → d.cpu.rip ≡ rip
  rip_is r rip a told =
      let x = a.asks in
      let s = stands_inside h.case (both h) t before table d x.kept x.part a.along x.at in
      let same = is_under h.case (both h) t before table d x.kept x.part a.along x.at in
      sym (told x.kept x.part x.at ∙ ap (λ i. slice_index (places_of i x.kept.block) x.part) same ∙ here_rip h.case.image (both h).gate.grown x.kept.block x.part own.last v d s)

  pub need_now : (r : Request) (rip : ℕ) (need : Need) (w : Want) → (a : Asking h t own table v d r) → want h.case.image d.cpu ≡ w → need_of (core_with (machine h) t d.cpu) w ≡ need → d.cpu.rip ≡ rip → NeedsAt h t own.k rip need
  need_now r rip need w a e is at = needs_at h t own.k d need rip a.along.going a.along.with.ahead (ap (need_of (core_with (machine h) t d.cpu)) e ∙ is) at

  pub event_may : (r : Request) (left : List ℕ) (m : Machine) → (a : Asking h t own table v d r) → entered h.case.image (both h).gate.grown d.cpu.rip d.left ≡ Some left → carried_out (want h.case.image d.cpu) (later (machine h) (own.k + 1)) t d.cpu ≡ Some m → Comes h (Ev t own.k)
  event_may r left m a enters carried =
      let q = event_comes h.case (both h) t (data_of before) d a.along.going a.along.with left m a.room.below enters carried in
      record { next = q.0; step = q.1; allowed = tt }

-- ---- the thread after an answer of memory

abbrev pub after_answer : Own → KeptData → ℕ → Part → Option ℕ → Own
after_answer own kept part piece None = record own { k = 0 }
after_answer own kept part piece (Some x) = record own { state = answered piece.end x own.state; at = Inside kept (part + 1); k = 0 }

pub answer_is : (own mid : Own) (kept : KeptData) (part : ℕ) (piece : Part) (o : Option ℕ) → IfSome o (λ x. mid ≡ record own { state = answered piece.end x own.state; at = Inside kept (part + 1) }) → (o ≡ None → mid ≡ own) → record mid { k = 0 } ≡ after_answer own kept part piece o
answer_is own mid kept part piece None some none = ap (λ (z : Own). record z { k = 0 }) (none refl)
answer_is own mid kept part piece (Some x) some none = ap (λ (z : Own). record z { k = 0 }) some

pub none_waiting : (l : List PendingWrite) → length l ≡ 0 → is_none_waiting l ≡ true
none_waiting [] e = refl
none_waiting (x ∷ l) e = absurd (omega (arith, e))

pub new_write : (most : ℕ) (ages : List ℕ) → AreAges most ages → AreAges most (ages ++ 0 ∷ [])
new_write most [] h = (omega arith, tt)
new_write most (a ∷ ages) h = (h.0, new_write a ages h.1)

same_need : {A : Type 0} (f : A → Need) (x y : A) → x ≡ y → f x ≡ f y
same_need f x y e = ap f e

module _ (h new : HallData Block) (t : ℕ) (own : Own) (table : Table) (v : Virtual) (d : Stand) where
  abbrev asked_of : Request → Type 0
  asked_of r = Asking h t own table v d r

  abbrev prior : Own
  prior = record own { state = v }

  under_way : (r : Request) (a : asked_of r) → a.asks.kept.image ≡ h.case.image
  under_way r a = is_under h.case (both h) t prior table d a.asks.kept a.asks.part a.along a.asks.at

  -- ---- loads

  module _ (a : ℕ) (w : IrWidth) (q : asked_of (ask.Load a w)) where
    pub load_need : (rip : ℕ) → d.cpu.rip ≡ rip → NeedsAt h t own.k rip (Loads a (request_width_of w))
    load_need rip at = let l = q.asks.wanted in need_now h t own table v d (ask.Load a w) rip (Loads a (request_width_of w)) (wants.Load a l.width) q l.wants (ap (Loads a) (sym (width_is w l.width l.is_width))) at

    pub load_may : Comes h (Ev t own.k)
    load_may = let l = q.asks.wanted in event_may h t own table v d (ask.Load a w) l.left _ q l.enters (ap (λ z. carried_out z (later (machine h) (own.k + 1)) t d.cpu) l.wants)

    pub load_takes : (o : Option ℕ) → IfSome o (λ x. x < 256 ^ size_of (request_width_of w)) → IfSome o (λ x. Answers q.asks.piece.end x)
    load_takes None f = tt
    load_takes (Some x) f = let l = q.asks.wanted in l.on.takes x (bits_fit w l.width x l.is_width f)

    load_by : (o r : Option ℕ) → refusal (both h) access.Load a q.asks.wanted.width ≡ r → o ≡ unless_denied (number_from (seen_by (machine h).tso (slot_of t)) (size_of (memory_width_of q.asks.wanted.width)) a) r → IfSome o (λ x. x < 256 ^ size_of (request_width_of w)) → new ≡ added h (Ev t own.k) → Entered h new t own (after_answer own q.asks.kept q.asks.part q.asks.piece o) table d AtEvent
    load_by (Some x) None e is f n =
        let l = q.asks.wanted in
        let after = after_answer own q.asks.kept q.asks.part q.asks.piece (Some x) in
        let left = load_leaves h.case (both h) t (data_of prior) d q.along.going q.along.with q.room.below q.asks.kept.block q.asks.part q.asks.piece a own.state l.width l.left x l.wants l.enters l.on e (same_Some _ _ is) (bits_fit w l.width x l.is_width f) in
        let m = left_with h.case (both h) t (Ev t own.k) after table left (under_way (ask.Load a w) q) q.along.kept (grown_event h.case (both h) left.next t own.k q.along.going.whole left.comes) in
        entered_by h new t own after table d (Ev t own.k) AtEvent m refl n (acts_now h.case t (point_at own.k d) (both h) m.next h.journal own.ages (wants.Load a l.width) l.wants refl refl m.comes) refl (λ z. z)
    load_by None (Some y) e is f n =
        let l = q.asks.wanted in
        let after = after_answer own q.asks.kept q.asks.part q.asks.piece None in
        let left = load_ends h.case (both h) t (data_of prior) d q.along.going q.along.with q.room.below a y l.width l.left l.wants l.enters e in
        let m = left_ended h.case (both h) t (Ev t own.k) after table left in
        entered_by h new t own after table d (Ev t own.k) AtEvent m refl n (acts_now h.case t (point_at own.k d) (both h) m.next h.journal own.ages (wants.Load a l.width) l.wants refl refl m.comes) refl (λ z. z)
    load_by None None e is f n = absurd (none-some _ is)
    load_by (Some x) (Some y) e is f n = absurd (none-some x (sym is))

    pub load_entered : (o : Option ℕ) → o ≡ loaded_value (shared_of (machine h)) t a (size_of (request_width_of w)) → IfSome o (λ x. x < 256 ^ size_of (request_width_of w)) → new ≡ added h (Ev t own.k) → Entered h new t own (after_answer own q.asks.kept q.asks.part q.asks.piece o) table d AtEvent
    load_entered o is f n = load_by o (refusal (both h) access.Load a q.asks.wanted.width) refl (is ∙ ap (λ z. loaded_value (shared_of (machine h)) t a (size_of z)) (width_is w q.asks.wanted.width q.asks.wanted.is_width)) f n

  -- ---- locked accesses

  module _ (a : ℕ) (w : IrWidth) (z : IrChange) (q : asked_of (ask.Locked a w z)) (none : own.ages ≡ []) where
    no_writes : length (writes_at (both h) t) ≡ 0
    no_writes = sym q.along.with.ages ∙ ap length none

    pub locked_need : (rip : ℕ) → d.cpu.rip ≡ rip → NeedsAt h t own.k rip (Locks a (request_width_of w) (request_change_of z))
    locked_need rip at =
        let l = q.asks.wanted in
        let same : request_change_of z ≡ memory_change_of l.change = ap request_change_of l.is_change ∙ same_change l.change in
        need_now h t own table v d (ask.Locked a w z) rip (Locks a (request_width_of w) (request_change_of z)) (wants.Locked a l.width l.change) q l.wants (ap (λ x. Locks a x (memory_change_of l.change)) (sym (width_is w l.width l.is_width)) ∙ ap (Locks a (request_width_of w)) (sym same)) at

    pub locked_may : Comes h (Ev t own.k)
    locked_may =
        let l = q.asks.wanted in
        let n = size_of (memory_width_of l.width) in
        let before = later (machine h) (own.k + 1) in
        let m = exchanged before t d.cpu a n (memory_change_of l.change) (refused before access.Locked a n) in
        event_may h t own table v d (ask.Locked a w z) l.left m q l.enters (ap (λ x. carried_out x before t d.cpu) l.wants ∙ ap (λ x. cond x (Some m) None) (none_waiting (writes_at (both h) t) no_writes))

    pub locked_takes : (o : Option ℕ) → IfSome o (λ x. x < 256 ^ size_of (request_width_of w)) → IfSome o (λ x. Answers q.asks.piece.end x)
    locked_takes None f = tt
    locked_takes (Some x) f = let l = q.asks.wanted in l.on.takes x (bits_fit w l.width x l.is_width f)

    locked_by : (o r : Option ℕ) → refusal (both h) access.Locked a q.asks.wanted.width ≡ r → o ≡ unless_denied (memory_number (machine h).tso (size_of (memory_width_of q.asks.wanted.width)) a) r → IfSome o (λ x. x < 256 ^ size_of (request_width_of w)) → new ≡ added h (Ev t own.k) → Entered h new t own (after_answer own q.asks.kept q.asks.part q.asks.piece o) table d AtEvent
    locked_by (Some x) None e is f n =
        let l = q.asks.wanted in
        let after = after_answer own q.asks.kept q.asks.part q.asks.piece (Some x) in
        let left = locked_leaves h.case (both h) t (data_of prior) d q.along.going q.along.with q.room.below q.asks.kept.block q.asks.part q.asks.piece a own.state l.width l.change l.left x l.wants l.enters l.on (none_waiting (writes_at (both h) t) no_writes) e (same_Some _ _ is) (bits_fit w l.width x l.is_width f) in
        let m = left_with h.case (both h) t (Ev t own.k) after table left (under_way (ask.Locked a w z) q) q.along.kept (grown_event h.case (both h) left.next t own.k q.along.going.whole left.comes) in
        entered_by h new t own after table d (Ev t own.k) AtEvent m refl n (acts_now h.case t (point_at own.k d) (both h) m.next h.journal own.ages (wants.Locked a l.width l.change) l.wants no_writes refl m.comes) refl (λ y. y)
    locked_by None (Some y) e is f n =
        let l = q.asks.wanted in
        let after = after_answer own q.asks.kept q.asks.part q.asks.piece None in
        let left = locked_ends h.case (both h) t (data_of prior) d q.along.going q.along.with q.room.below a y l.width l.change l.left l.wants l.enters (none_waiting (writes_at (both h) t) no_writes) e in
        let m = left_ended h.case (both h) t (Ev t own.k) after table left in
        entered_by h new t own after table d (Ev t own.k) AtEvent m refl n (acts_now h.case t (point_at own.k d) (both h) m.next h.journal own.ages (wants.Locked a l.width l.change) l.wants no_writes refl m.comes) refl (λ x. x)
    locked_by None None e is f n = absurd (none-some _ is)
    locked_by (Some x) (Some y) e is f n = absurd (none-some x (sym is))

    pub locked_entered : (o : Option ℕ) → o ≡ locked_value (shared_of (machine h)) a (size_of (request_width_of w)) → IfSome o (λ x. x < 256 ^ size_of (request_width_of w)) → new ≡ added h (Ev t own.k) → Entered h new t own (after_answer own q.asks.kept q.asks.part q.asks.piece o) table d AtEvent
    locked_entered o is f n = locked_by o (refusal (both h) access.Locked a q.asks.wanted.width) refl (is ∙ ap (λ x. locked_value (shared_of (machine h)) a (size_of x)) (width_is w q.asks.wanted.width q.asks.wanted.is_width)) f n

-- ---- stores and fences

-- the store that the thread wants
pub record Storing (h : HallData Block) (own : Own) (a value to : ℕ) (w : IrWidth) (d : Stand) : Type 0 where
  pub kept : KeptData
  pub part : ℕ
  pub at : own.at ≡ Inside kept part
  pub width : Width
  pub is_width : w ≡ ir_width width
  pub next : Cpu
  pub left : List ℕ
  pub wants : want h.case.image d.cpu ≡ wants.Store a width value next
  pub enters : entered h.case.image (both h).gate.grown d.cpu.rip d.left ≡ Some left
  pub stands : StandOn h.case.image (both h).gate.grown kept.block part own.last d.cpu.rip to own.state (stand_by next (onward next.mid left))

store_is : (h : HallData Block) (own : Own) (a value to a' value' to' : ℕ) (w w' : IrWidth) (d : Stand) (kept : KeptData) (part : ℕ) → own.at ≡ Inside kept part → a' ≡ a → w' ≡ w → value' ≡ value → to ≡ to' → IsStore h.case.image (both h).gate.grown kept.block part own.last to' a' value' w' own.state d → Storing h own a value to w d
store_is h own a value to a' value' to' w w' d kept part at e f g same s = record {
  kept = kept;
  part = part;
  at = at;
  width = s.width;
  is_width = sym f ∙ s.is_width;
  next = s.next;
  left = s.left;
  wants = s.wants ∙ ap (λ z. wants.Store z s.width value' s.next) e ∙ ap (λ z. wants.Store a s.width z s.next) g;
  enters = s.enters;
  stands = subst (λ z. StandOn h.case.image (both h).gate.grown kept.block part own.last d.cpu.rip z own.state (stand_by s.next (onward s.next.mid s.left))) (sym same) s.stands;
}

pub storing : (h : HallData Block) (own : Own) (a value to : ℕ) (w : IrWidth) (d : Stand) (r : Request) → StoresBy r a w value to own.at → AsksAt h.case (both h) own r d → Storing h own a value to w d
storing h own a value to w d (ask.Store b u x) by q =
    let s = subst (StoresBy (ask.Store b u x) a w value to) q.at by in
    store_is h own a value to b x (end_of q.kept.block) w u d q.kept q.part q.at s.0 s.1 s.2 s.3 q.wanted
storing h own a value to w d (ask.StoreGo b x target) by q =
    let s = subst (StoresBy (ask.StoreGo b x target) a w value to) q.at by in
    store_is h own a value to b x target w ir_size.W64 d q.kept q.part q.at s.0 (sym s.1) s.2 s.3 q.wanted
storing h own a value to w d (ask.Load b u) by q = absurd (subst (StoresBy (ask.Load b u) a w value to) q.at by)
storing h own a value to w d ask.Tick by q = absurd (subst (StoresBy ask.Tick a w value to) q.at by)
storing h own a value to w d ask.Fence by q = absurd (subst (StoresBy ask.Fence a w value to) q.at by)
storing h own a value to w d (ask.Locked b u z) by q = absurd (subst (StoresBy (ask.Locked b u z) a w value to) q.at by)
storing h own a value to w d (ask.Go b) by q = absurd (subst (StoresBy (ask.Go b) a w value to) q.at by)
storing h own a value to w d (ask.Bad kind) by q = absurd (subst (StoresBy (ask.Bad kind) a w value to) q.at by)

pub few_writes : (n : ℕ) → n < 64 → ◌≡◌ {A = ℕ} (cond (nat_le 64 n) 1 0) 0
few_writes n lt = ap {A = Bool} (λ b. cond b 1 0) (le-ltb-no n lt)
  where
    le-ltb-no : (m : ℕ) → m < 64 → nat_le 64 m ≡ false
    le-ltb-no m h = grind (arith, nat_tests)

module _ (h new : HallData Block) (t : ℕ) (own : Own) (table left : Table) (v : Virtual) (d : Stand) (r : Request) (q : Asking h t own table v d r) where
  abbrev was : Own
  was = record own { state = v }

  module _ (a value to : ℕ) (w : IrWidth) (s : Storing h own a value to w d) where
    pub store_need : (rip : ℕ) → d.cpu.rip ≡ rip → NeedsAt h t own.k rip (Stores a (request_width_of w) value)
    store_need rip at = need_now h t own table v d r rip (Stores a (request_width_of w) value) (wants.Store a s.width value s.next) q s.wants (ap (λ x. Stores a x value) (sym (width_is w s.width s.is_width))) at

    pub store_may : Comes h (Ev t own.k)
    store_may = event_may h t own table v d r s.left _ q s.enters (ap (λ z. carried_out z (later (machine h) (own.k + 1)) t d.cpu) s.wants)

    abbrev stored_by : Own → Own
    stored_by z = record own { at = z.at; last = z.last; k = 0; ages = own.ages ++ 0 ∷ [] }

    store_by : (z : Own) (o : Option ℕ) → refusal (both h) access.Store a s.width ≡ o → length own.ages < 64 → StandsIn h.case.image (both h).gate.grown (position_of z.at) z.last own.state (stand_by s.next (onward s.next.mid s.left)) → IsUnder h.case.image z.at → AreKept h.case.image (both h).gate.grown left → new ≡ added h (Ev t own.k) → Entered h new t own (stored_by z) left d AtEvent
    store_by z o e few stands under kept n =
        let count : length (list_at (both h).machine (slot_of t)) < 64 = omega (arith, few, q.along.with.ages) in
        let quiet = few_writes (length (list_at (both h).machine (slot_of t))) count in
        let acts : (n : Both) → advance h.case (both h) (Ev t own.k) ≡ Some n → Acts h.case t (point_at own.k d) (turn_in h own.ages) AtEvent (turn_of n (h.journal ++ Ev t own.k ∷ []) (own.ages ++ 0 ∷ [])) = λ n comes. acts_now h.case t (point_at own.k d) (both h) n h.journal own.ages (wants.Store a s.width value s.next) s.wants quiet refl comes in
        go o e acts
      where
        go : (o : Option ℕ) → refusal (both h) access.Store a s.width ≡ o → ((n : Both) → advance h.case (both h) (Ev t own.k) ≡ Some n → Acts h.case t (point_at own.k d) (turn_in h own.ages) AtEvent (turn_of n (h.journal ++ Ev t own.k ∷ []) (own.ages ++ 0 ∷ []))) → Entered h new t own (stored_by z) left d AtEvent
        go None e acts =
            let l = store_leaves h.case (both h) t (data_of was) d q.along.going q.along.with q.room.below (position_of z.at) z.last own.state a value s.width s.next s.left s.wants s.enters stands e in
            let m = left_with h.case (both h) t (Ev t own.k) (stored_by z) left l under kept (grown_event h.case (both h) l.next t own.k q.along.going.whole l.comes) in
            entered_by h new t own (stored_by z) left d (Ev t own.k) AtEvent m refl n (acts m.next m.comes) refl (new_write 255 own.ages)
        go (Some y) e acts =
            let l = store_ends h.case (both h) t (data_of was) d q.along.going q.along.with q.room.below a value y s.width s.next s.left s.wants s.enters e in
            let m = left_ended h.case (both h) t (Ev t own.k) (stored_by z) left l in
            entered_by h new t own (stored_by z) left d (Ev t own.k) AtEvent m refl n (acts m.next m.comes) refl (new_write 255 own.ages)

    pub store_entered : (z : Own) → length own.ages < 64 → Passed s.kept s.part to (record own { k = 0; ages = own.ages ++ 0 ∷ [] }) z table left → new ≡ added h (Ev t own.k) → Entered h new t own z left d AtEvent
    store_entered z few p n =
        let same = is_under h.case (both h) t was table d s.kept s.part q.along s.at in
        let here = here_rip h.case.image (both h).gate.grown s.kept.block s.part own.last v d (stands_inside h.case (both h) t was table d s.kept s.part q.along s.at) in
        let on : StandOn s.kept.image (both h).gate.grown s.kept.block s.part own.last (slice_index (places_of s.kept.image s.kept.block) s.part) to own.state (stand_by s.next (onward s.next.mid s.left)) = subst (λ i. StandOn i (both h).gate.grown s.kept.block s.part own.last (slice_index (places_of i s.kept.block) s.part) to own.state (stand_by s.next (onward s.next.mid s.left))) (sym same) (subst (λ x. StandOn h.case.image (both h).gate.grown s.kept.block s.part own.last x to own.state (stand_by s.next (onward s.next.mid s.left))) (sym here) s.stands) in
        let stands = subst (λ i. StandsIn i (both h).gate.grown (position_of z.at) z.last own.state (stand_by s.next (onward s.next.mid s.left))) same (p.stands (both h).gate.grown (stand_by s.next (onward s.next.mid s.left)) on) in
        let kept = p.table h.case.image (both h).gate.grown q.along.kept (is_kept h.case (both h) t was table d s.kept s.part q.along s.at) in
        subst (λ y. Entered h new t own y left d AtEvent) (sym p.own) (store_by z (refusal (both h) access.Store a s.width) refl few stands (subst (λ i. IsUnder i z.at) same p.under) kept n)

-- ---- fences

module _ (h new : HallData Block) (t : ℕ) (own : Own) (table left : Table) (v : Virtual) (d : Stand) (q : Asking h t own table v d ask.Fence) (none : own.ages ≡ []) where
  abbrev fence_was : Own
  fence_was = record own { state = v }

  fence_writes : length (writes_at (both h) t) ≡ 0
  fence_writes = sym q.along.with.ages ∙ ap length none

  pub fence_need : Needs h t own.k Fences
  fence_need = (need_now h t own table v d ask.Fence d.cpu.rip Fences (wants.Fence q.asks.wanted.next) q q.asks.wanted.wants refl refl).needs

  pub fence_may : Comes h (Ev t own.k)
  fence_may =
      let l = q.asks.wanted in
      let m = with_cpu (later (machine h) (own.k + 1)) (slot_of t) l.next in
      event_may h t own table v d ask.Fence l.left m q l.enters (ap (λ x. carried_out x (later (machine h) (own.k + 1)) t d.cpu) l.wants ∙ ap (λ x. cond x (Some m) None) (none_waiting (writes_at (both h) t) fence_writes))

  pub fence_entered : (z : Own) → Passed q.asks.kept q.asks.part (end_of q.asks.kept.block) (record own { k = 0 }) z table left → new ≡ added h (Ev t own.k) → Entered h new t own z left d AtEvent
  fence_entered z p n =
      let l = q.asks.wanted in
      let x = q.asks.kept in
      let to = end_of x.block in
      let on = stand_by l.next (onward l.next.mid l.left) in
      let same = is_under h.case (both h) t fence_was table d x q.asks.part q.along q.asks.at in
      let here = here_rip h.case.image (both h).gate.grown x.block q.asks.part own.last v d (stands_inside h.case (both h) t fence_was table d x q.asks.part q.along q.asks.at) in
      let there : StandOn x.image (both h).gate.grown x.block q.asks.part own.last (slice_index (places_of x.image x.block) q.asks.part) to own.state on = subst (λ i. StandOn i (both h).gate.grown x.block q.asks.part own.last (slice_index (places_of i x.block) q.asks.part) to own.state on) (sym same) (subst (λ y. StandOn h.case.image (both h).gate.grown x.block q.asks.part own.last y to own.state on) (sym here) l.stands) in
      let stands = subst (λ i. StandsIn i (both h).gate.grown (position_of z.at) z.last own.state on) same (p.stands (both h).gate.grown on there) in
      let kept = p.table h.case.image (both h).gate.grown q.along.kept (is_kept h.case (both h) t fence_was table d x q.asks.part q.along q.asks.at) in
      let after : Own = record own { at = z.at; last = z.last; k = 0 } in
      let f = fence_leaves h.case (both h) t (data_of fence_was) d q.along.going q.along.with q.room.below (position_of z.at) z.last own.state l.next l.left l.wants l.enters stands (none_waiting (writes_at (both h) t) fence_writes) in
      let m = left_with h.case (both h) t (Ev t own.k) after left f (subst (λ i. IsUnder i z.at) same p.under) kept (grown_event h.case (both h) f.next t own.k q.along.going.whole f.comes) in
      subst (λ y. Entered h new t own y left d AtEvent) (sym p.own) (entered_by h new t own after left d (Ev t own.k) AtEvent m refl n (acts_now h.case t (point_at own.k d) (both h) m.next h.journal own.ages (wants.Fence l.next) l.wants fence_writes refl m.comes) refl (λ y. y))

-- ---- steps that can't be made

module _ (h new : HallData Block) (t : ℕ) (own : Own) (table : Table) (v : Virtual) (d : Stand) where
  -- what the thread can't do, by the kind of the request
  pub record Failing (kind : IrBadKind) : Type 0 where
    pub step : BadStep
    pub is_kind : kind_of step ≡ request_kind_of kind
    pub left : List ℕ
    pub wants : want h.case.image d.cpu ≡ wants.Bad step
    pub enters : entered h.case.image (both h).gate.grown d.cpu.rip d.left ≡ Some left

  pub failing : (kind : IrBadKind) → IsBad kind h.case.image (both h).gate.grown d → Failing kind
  failing ir_bad.Code b = record { step = step.Code; is_kind = refl; left = b.left; wants = b.wants; enters = b.enters }
  failing ir_bad.Divide b = record { step = step.Divide; is_kind = refl; left = b.left; wants = b.wants; enters = b.enters }
  failing (ir_bad.Access a) b = absurd b
  failing ir_bad.Depth b = absurd b
  failing ir_bad.Door b = absurd b

  module _ (kind : IrBadKind) (q : Asking h t own table v d (ask.Bad kind)) where
    pub bad_need : (rip : ℕ) → d.cpu.rip ≡ rip → NeedsAt h t own.k rip (Fails (request_kind_of kind))
    bad_need rip at = let f = failing kind q.asks.wanted in need_now h t own table v d (ask.Bad kind) rip (Fails (request_kind_of kind)) (wants.Bad f.step) q f.wants (ap Fails f.is_kind) at

    bad_left : Left h.case (both h) t (Ev t own.k) (record own { k = 0 }) table
    bad_left = let f = failing kind q.asks.wanted in left_ended h.case (both h) t (Ev t own.k) (record own { k = 0 }) table (bad_ends h.case (both h) t (data_of (record own { state = v })) d q.along.going q.along.with f.left f.step q.room.below f.wants f.enters)

    pub bad_may : Comes h (Ev t own.k)
    bad_may = may_come h t (Ev t own.k) (record own { k = 0 }) table bad_left tt

    pub bad_entered : new ≡ added h (Ev t own.k) → Entered h new t own (record own { k = 0 }) table d AtEvent
    bad_entered n =
        let f = failing kind q.asks.wanted in
        let m = bad_left in
        entered_by h new t own (record own { k = 0 }) table d (Ev t own.k) AtEvent m refl n (acts_now h.case t (point_at own.k d) (both h) m.next h.journal own.ages (wants.Bad f.step) f.wants refl refl m.comes) refl (λ y. y)
