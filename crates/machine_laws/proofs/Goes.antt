-- What an entry makes of the life of a number.
use Rattle.std.proofs.Common.{◌≡◌, ◌≢◌, ℕ, ◌-◌, true, false, List, [], ◌∷◌, Some, None, refl, sym, ap, ◌∙◌, subst, arith, inl, inr, length}
use Rattle.std.specs.Prelude.{slice_get, slice_index_or}
use Rattle.std.proofs.lemmas.Bool.{cases_eq}
use Rattle.std.proofs.lemmas.Option.{none-some, option_and_then_some, slice_get-get_or}
use Rattle.address_space.specs.Slots.{slot_of, generation_of}
use Rattle.callbacks.specs.declared.Frame.{Frame}
use Rattle.elf_image.specs.declared.place.Function.TheVariants as function
use Rattle.journal_pack.specs.declared.entry.Entry.{Entry}
use Rattle.journal_pack.specs.declared.entry.Entry.TheVariants.{Ev}
use Rattle.lib_table.specs.declared.answer.Called.{Called}
use Rattle.lib_table.specs.declared.answer.Called.TheVariants as called_as
use Rattle.lib_table.specs.declared.ask.Ask.{Ask}
use Rattle.lib_table.specs.declared.ask.Asked.{Asked}
use Rattle.lib_table.specs.declared.ask.Asked.TheVariants.{Lib, EndDoor}
use Rattle.lib_table.specs.declared.life.Life.TheVariants.{Unborn, Ended, Joined}
use Rattle.lib_table.specs.Library.{LibraryData, is_kept, is_live, is_running, life_at, life_in, new_slot}
use Rattle.lib_table.proofs.LifeLaws.{kept-next, next-unborn, with_joined-other, with_joined-own, with_life-other, with_life-own}
use Rattle.tso_memory.specs.declared.write.PendingWrite.{PendingWrite}
use Rattle.tso_memory.specs.Tso.{is_none_waiting}
use Rattle.machine_model.specs.CaseData.{CaseData}
use Rattle.machine_model.specs.Frames.{IsAnswer}
use Rattle.machine_model.specs.Gated.{Both, Other, Spot, Stand, advance, entered, onward, spot_with}
use Rattle.machine_model.specs.Own.{IsEntered, IsMade, IsWhole, frames_at, writes_at}
use Rattle.machine_model.specs.State.{Core}
use Rattle.machine_model.specs.Step.{ask_of, called, core_with, cpu_at, without_top}
use Rattle.machine_model.proofs.Own.{made_of}
use Rattle.machine_model.proofs.OwnKinds.{call_own}
use Rattle.machine_model.proofs.RowLives.{row_answers}
use Rattle.machine_model.proofs.Settled.{live_slot}
use Rattle.machine_laws.specs.Lives.{LifeChange, Keeps, Bears, Ends, Joins, HasCause, lives_after, Requests, life_of, Finishes, LifeGoes, Stays, Begun, Finished, Taken}
use Rattle.machine_laws.proofs.Effects.{Effect, IsQuiet, IsServed, Served, effect_of}
use Rattle.machine_laws.proofs.Leaving.{changed_by, library_by}
use Rattle.machine_laws.proofs.Requests.{Changed}
use Rattle.machine_laws.proofs.SlotMoves.{live_next}

-- ---- by a request

-- a number's life stays, begins, ends by its own return, or is joined
pub data LifeMoves (l after : LibraryData) (t : ℕ) (ask : Ask) (u : ℕ) : Type 0 where
  IsKept : (same : life_at after u ≡ life_at l u) → LifeMoves l after t ask u
  IsBegun : (before : life_at l u ≡ Unborn) → (now : is_live after u ≡ true) → (what : ask.what ≡ Lib function.PthreadCreate) → LifeMoves l after t ask u
  IsOver : (own : u ≡ t) → (now : life_at after u ≡ Ended ask.rax) → (what : ask.what ≡ EndDoor) → (top : ask.top ≡ None) → (other : t ≢ 0) → LifeMoves l after t ask u
  IsJoined : (value : ℕ) → (before : life_at l u ≡ Ended value) → (now : life_at after u ≡ Joined) → (what : ask.what ≡ Lib function.PthreadJoin) → LifeMoves l after t ask u

-- a life is told by the slots
by_slots : (a b : LibraryData) (u : ℕ) → a.slots ≡ b.slots → life_at a u ≡ life_at b u
by_slots a b u e = ap (λ z. life_in (slice_index_or z (slot_of u) new_slot) (generation_of u)) e

moves_by : (l after : LibraryData) (t : ℕ) (ask : Ask) (u : ℕ) (x : LifeChange) → length l.slots ≡ 64 → is_live l t ≡ true → HasCause l t ask x → after.slots ≡ (lives_after l t ask x).slots → LifeMoves l after t ask u
moves_by l after t ask u Keeps sized live cause e = IsKept (by_slots after l u e)
moves_by l after t ask u (Bears v) sized live cause e =
    let next = next-unborn l v cause.1 sized in
    let there = by_slots after (lives_after l t ask (Bears v)) u e in
    elim (cases_eq u v) [
      | inl same ↦ IsBegun (ap (life_at l) same ∙ next.1) (ap is_running (there ∙ ap (life_at (lives_after l t ask (Bears v))) same ∙ with_life-own l v _ sized)) cause.0
      | inr other ↦ IsKept (there ∙ with_life-other l v u _ sized next.0 other)
    ]
moves_by l after t ask u Ends sized live cause e =
    let there = by_slots after (lives_after l t ask Ends) u e in
    elim (cases_eq u t) [
      | inl same ↦ IsOver same (there ∙ ap (life_at (lives_after l t ask Ends)) same ∙ with_life-own l t _ sized) cause.0 cause.1 cause.2
      | inr other ↦ IsKept (there ∙ with_life-other l t u _ sized (live_next l t live) other)
    ]
moves_by l after t ask u (Joins v) sized live cause e =
    let there = by_slots after (lives_after l t ask (Joins v)) u e in
    elim (cases_eq u v) [
      | inl same ↦ IsJoined cause.0 (ap (life_at l) same ∙ cause.2) (there ∙ ap (life_at (lives_after l t ask (Joins v))) same ∙ with_joined-own l v sized) cause.1
      | inr other ↦ IsKept (there ∙ with_joined-other l v u sized (kept-next l v (ap is_kept cause.2)) other)
    ]

pub life_moves : (l after : LibraryData) (t : ℕ) (ask : Ask) (u : ℕ) → length l.slots ≡ 64 → is_live l t ≡ true → Changed l t ask after → LifeMoves l after t ask u
life_moves l after t ask u sized live h = moves_by l after t ask u h.change sized live h.cause h.slots

-- ---- a thread that ends

-- without an innermost call there is none
no_frames : (fs : List Frame) → slice_get fs (length fs - 1) ≡ None → fs ≡ []
no_frames [] h = refl
no_frames (f ∷ fs) h = absurd (none-some _ (sym h ∙ slice_get-get_or (f ∷ fs) (length (f ∷ fs) - 1) f (omega arith)))

no_writes : (ws : List PendingWrite) → is_none_waiting ws ≡ true → ws ≡ []
no_writes [] h = refl
no_writes (w ∷ ws) h = absurd (let e : false ≡ true = h in cc)

-- a return to the end door begins no call
end_frames : (core : Core) (ask : Ask) (answer : Called) → core.frames ≡ [] → IsAnswer EndDoor ask answer → (called core EndDoor answer).frames ≡ []
end_frames core ask (called_as.Back rax rsp rip false) e h = e
end_frames core ask (called_as.Back rax rsp rip true) e h = ap without_top e
end_frames core ask (called_as.Probe frame place) e h = absurd h.1
end_frames core ask called_as.Stay e h = e
end_frames core ask called_as.Over e h = e

pub entered_of : (c : CaseData) (b n : Both) (t k : ℕ) (d : Stand) (spot : Spot) → IsMade c b (Ev t k) d n.machine spot → (left : List ℕ) × IsEntered c b d left
entered_of c b n t k d spot h = option_and_then_some (λ l. Some (spot_with (onward (cpu_at n.machine (slot_of t)).mid l) Other)) (entered c.image b.gate.grown d.cpu.rip d.left) spot h.last (λ l p _. (l, p))

module _ (c : CaseData) (b n : Both) (t k : ℕ) (d : Stand) (spot : Spot) (whole : IsWhole b) (p : advance c b (Ev t k) ≡ Some n) (is : IsMade c b (Ev t k) d n.machine spot) (h : Served c b.machine n.machine t k d.cpu) where
  abbrev the_core : Core
  the_core = core_with b.machine t d.cpu

  requests : (what : Asked) → h.what ≡ what → Requests c b (Ev t k) t what
  requests what e = record { k = k; event = refl; stand = d; ahead = is.ahead; asks = h.asks ∙ ap (λ x. Some x) e }

  finishes : (u : ℕ) → u ≡ t → life_of n u ≡ Ended (ask_of the_core h.what).rax → h.what ≡ EndDoor → (ask_of the_core h.what).top ≡ None → t ≢ 0 → Finishes c b n (Ev t k) t
  finishes u own now what top other =
      let left = entered_of c b n t k d spot is in
      let before : frames_at b t ≡ [] = no_frames (frames_at b t) top in
      let quiet : writes_at b t ≡ [] = no_writes (writes_at b t) h.quiet in
      let stands = call_own c b n t k d left.0 h.what h.after h.memory h.answer whole p is.ahead left.1 h.asks h.row (live_slot b.machine t is.live) in
      let answers = row_answers b.machine.library h.after b.machine.tso.memory h.memory t (ask_of the_core h.what) h.answer whole.machine.slots h.row in
      let none : (called the_core h.what h.answer).frames ≡ [] = subst (λ w. (called the_core w h.answer).frames ≡ []) (sym what) (end_frames the_core (ask_of the_core h.what) h.answer before (subst (λ w. IsAnswer w (ask_of the_core h.what) h.answer) what answers)) in
      record {
        before = is.live;
        value = (ask_of the_core h.what).rax;
        after = ap (life_of n) (sym own) ∙ now;
        call = requests EndDoor what;
        other = other;
        frames = (before, stands.0.frames ∙ none);
        writes = (quiet, stands.0.writes ∙ quiet);
      }

  lib : n.machine.library ≡ h.after
  lib = library_by c b.machine n.machine t k d.cpu h

  goes_by : (u : ℕ) → LifeMoves b.machine.library h.after t (ask_of the_core h.what) u → LifeGoes c b n (Ev t k) u
  goes_by u (IsKept same) = Stays (ap (λ l. life_at l u) lib ∙ same)
  goes_by u (IsBegun before now what) = Begun (record { before = before; after = ap (λ l. is_live l u) lib ∙ now; creator = t; call = requests (Lib function.PthreadCreate) what })
  goes_by u (IsOver own now what top other) = subst (LifeGoes c b n (Ev t k)) (sym own) (Finished (finishes u own (ap (λ l. life_at l u) lib ∙ now) what top other))
  goes_by u (IsJoined value before now what) = Taken (record { value = value; before = before; after = ap (λ l. life_at l u) lib ∙ now; caller = t; call = requests (Lib function.PthreadJoin) what })

  served_goes : (u : ℕ) → LifeGoes c b n (Ev t k) u
  served_goes u = goes_by u (life_moves b.machine.library h.after t (ask_of the_core h.what) u whole.machine.slots is.live (changed_by c b.machine n.machine t k d.cpu h))

by_effect : (c : CaseData) (b n : Both) (e : Entry) (u : ℕ) (d : Stand) (spot : Spot) → IsWhole b → advance c b e ≡ Some n → IsMade c b e d n.machine spot → Effect c b.machine n.machine e d.cpu → LifeGoes c b n e u
by_effect c b n e u d spot whole p is (IsQuiet q) = Stays (ap (λ l. life_at l u) q.library)
by_effect c b n e u d spot whole p is (IsServed t k event h) =
    subst (λ x. LifeGoes c b n x u) (sym event) (served_goes c b n t k d spot whole (subst (λ x. advance c b x ≡ Some n) event p) (subst (λ x. IsMade c b x d n.machine spot) event is) h u)

-- what an entry makes of the life of a number
pub life_goes : (c : CaseData) (b n : Both) (e : Entry) (u : ℕ) → IsWhole b → advance c b e ≡ Some n → LifeGoes c b n e u
life_goes c b n e u whole p =
    let m = made_of c b n e p in
    by_effect c b n e u m.stand m.spot whole p m.is (effect_of c b.machine n.machine e m.stand.cpu m.is.made)
