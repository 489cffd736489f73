-- The rule of the lock's table: what is true between any two steps on it, and what each step tells the thread that makes it.
-- The table has one slot, for the value. Word 0 is twice the length of the journal, plus 1 while a thread has the turn. Word 1 counts the numbers that were given out.
use Rattle.std.specs.Prelude.{◌≡◌, ◌≢◌, ℕ, ◌+◌, ◌*◌, ◌^◌, ◌<◌, ◌≤◌, ◌⊎◌, true, false, List, [], ◌∷◌, ◌++◌, length, slice_index, map, Option, Some, None, is_some}
use mathlib.Core.Option.{some}
use lib.ListN.{get_elem?}
use Rattle.atomic_table.specs.Table.{State, Me, Step}
use Rattle.turn_lock.specs.declared.view.View.{View}
use Rattle.turn_lock.specs.Journal.{StartsWith, own}

module _ {T : Type 0} where
  -- a pass with no number, made where the value was x
  abbrev pub fresh : T → View T
  fresh x = record { fresh = Some x; passes = []; holds = false }

  -- a pass with the number n, which saw the value x last
  abbrev pub idle : ℕ → T → View T
  idle n x = record { fresh = None; passes = (n, x) ∷ []; holds = false }

  -- the same pass while it has the turn, and took x
  abbrev pub holding : ℕ → T → View T
  holding n x = record { fresh = None; passes = (n, x) ∷ []; holds = true }

  -- what is left of a pass that another one took in: it stands for no number
  abbrev pub spent : View T
  spent = record { fresh = None; passes = []; holds = false }

  -- a seat that stands for these numbers, each with the value as it was last seen
  abbrev pub standing_for : List (ℕ × T) → View T
  standing_for ps = record { fresh = None; passes = ps; holds = false }

  -- a second pass, with no number, beside the pass v
  abbrev pub unnumbered : View T → View T
  unnumbered v = record { fresh = v.fresh; passes = []; holds = false }

  -- the pass v, which from now on stands for all that w did too
  abbrev pub gathered : View T → View T → View T
  gathered v w = record { fresh = v.fresh; passes = w.passes ++ v.passes; holds = v.holds }

  -- it has one number, has not the turn, and holds no slot
  abbrev pub IsIdle : Me (Option T) (View T) → Type 0
  IsIdle me = (length me.1 ≡ 0) × (is_some me.0.fresh ≡ false) × (length me.0.passes ≡ 1) × (me.0.holds ≡ false)

  -- it has one number and the turn, and holds the slot, out of which the value was taken
  abbrev pub IsHolding : Me (Option T) (View T) → Type 0
  IsHolding me = (map (λ (x : ℕ × Option T). x.0) me.1 ≡ 0 ∷ []) × (map (λ (x : ℕ × Option T). is_some x.1) me.1 ≡ false ∷ [])
      × (is_some me.0.fresh ≡ false) × (length me.0.passes ≡ 1) × (me.0.holds ≡ true)

  abbrev pub first_number : List (ℕ × T) → ℕ
  first_number [] = 0
  first_number (p ∷ ps) = p.0

  abbrev pub first_seen : {E : Type 0} → (T → List E) → List (ℕ × T) → List E
  first_seen entries [] = []
  first_seen entries (p ∷ ps) = entries p.1

  abbrev pub first_case : {C : Type 0} → (T → C) → List (ℕ × T) → Option C
  first_case case [] = None
  first_case case (p ∷ ps) = Some (case p.1)

  -- the number of a pass with the view v
  abbrev pub number_of : View T → ℕ
  number_of v = first_number v.passes

  -- the entries that it has seen
  abbrev pub seen_of : {E : Type 0} → (T → List E) → View T → List E
  seen_of entries v = first_seen entries v.passes

  -- its case, which a pass with a number has
  abbrev pub case_of : {C : Type 0} → (T → C) → View T → Option C
  case_of case v = first_case case v.passes

  -- the seat with the view v stands for the number n
  abbrev pub HasNumber : View T → ℕ → Type 0
  HasNumber v n = (i : ℕ) × (p : ℕ × T) × (get_elem? v.passes i ≡ some p) × (p.0 ≡ n)

  -- no two seats stand for one number
  abbrev pub Apart : List (View T) → Type 0
  Apart views = (i j n : ℕ) (v w : View T) → get_elem? views i ≡ some v → get_elem? views j ≡ some w → HasNumber v n → HasNumber w n → i ≡ j

module _ {T C E : Type 0} (case : T → C) (entries : T → List E) (number : E → ℕ) where
  -- the value `now` has the case of x, and its journal is that of x with entries behind it that do not bear n
  pub record Extends (now x : T) (n : ℕ) : Type 0 where
    pub same_case : case now ≡ case x
    pub begins : StartsWith (entries now) (entries x)
    pub same_own : own number n (entries now) ≡ own number n (entries x)

  -- what the seat with the view v knows of the value `now`, where `drawn` numbers were given out
  pub record Fits (now : T) (drawn : ℕ) (v : View T) : Type 0 where
    -- made where the value was x: since then no entry came that bears a number which is not yet given out
    pub unnumbered : (x : T) → v.fresh ≡ Some x → (n : ℕ) → drawn ≤ n → Extends now x n
    -- each of its numbers was given out, and no entry with it came since the seat saw the value last
    pub numbered : (i : ℕ) (p : ℕ × T) → get_elem? v.passes i ≡ some p → (p.0 < drawn) × Extends now p.1 p.0

  abbrev pub EachFits : T → ℕ → List (View T) → Type 0
  EachFits now drawn views = (j : ℕ) (v : View T) → get_elem? views j ≡ some v → Fits now drawn v

  -- no seat but the holder has the turn; where it has it, word 0 is odd, and the value that it took is `now`
  abbrev pub Alone : T → ℕ → ℕ → List (View T) → Type 0
  Alone now holder word views = (j : ℕ) (v : View T) → get_elem? views j ≡ some v → v.holds ≡ true
      → (j ≡ holder) × (word ≡ 2 * length (entries now) + 1) × ((p : ℕ × T) × (get_elem? v.passes 0 ≡ some p) × (p.1 ≡ now))

  -- word 0 is even and the value is in its slot, or word 0 is odd and the holder has the turn
  abbrev pub Placed : T → ℕ → State (Option T) (View T) → Type 0
  Placed now holder s =
      ((slice_index s.words 0 ≡ 2 * length (entries now)) × (get_elem? s.homes 0 ≡ some (some (Some now))))
      ⊎ ((slice_index s.words 0 ≡ 2 * length (entries now) + 1) × ((v : View T) × (get_elem? s.views holder ≡ some v) × (v.holds ≡ true)))

  -- the rule of a lock with `limit` passes
  pub record Ruled (limit : ℕ) (s : State (Option T) (View T)) : Type 0 where
    -- the value in the slot, or while a thread has the turn the value that it took
    pub now : T
    -- the seat that has the turn, if one has
    pub holder : ℕ
    -- there are two words and one slot
    pub two : length s.words ≡ 2
    pub one : length s.homes ≡ 1
    -- no more numbers are given out than there are passes
    pub few : slice_index s.words 1 ≤ limit
    -- twice the length fits a word, with room to spare
    pub short : length (entries now) < 2 ^ 62
    -- where the value is
    pub place : Placed now holder s
    -- what each seat knows of it
    pub each : EachFits now (slice_index s.words 1) s.views
    -- who has the turn
    pub alone : Alone now holder (slice_index s.words 0) s.views
    -- whose the numbers are
    pub apart : Apart s.views

  -- the value x has the case of the pass with the view v, its journal begins with all that the pass has seen, and of the pass's own entries it has just those
  pub record Keeps (v : View T) (x : T) : Type 0 where
    pub same_case : case_of case v ≡ Some (case x)
    pub begins : StartsWith (entries x) (seen_of entries v)
    pub same_own : own number (number_of v) (entries x) ≡ own number (number_of v) (seen_of entries v)

  -- the pass with the view v, after it won the turn where the value was y
  abbrev pub taken_by : T → View T → View T
  taken_by y v = record { fresh = v.fresh; passes = (number_of v, y) ∷ []; holds = true }

  -- the turn was won, and the slot with the value y is out with the seat
  abbrev pub Won : Me (Option T) (View T) → Me (Option T) (View T) → Type 0
  Won m m' = (y : T) × (m' ≡ (taken_by y m.0, (0, Some y) ∷ m.1)) × Keeps m.0 y × (length (entries y) < 2 ^ 62)

  -- the turn was won, or nothing changed
  abbrev pub takes : Step (Option T) → Me (Option T) (View T) → ℕ → Me (Option T) (View T) → Type 0
  takes st m r m' = (r ≡ st.first → Won m m') × (r ≢ st.first → m' ≡ m)

module _ {T : Type 0} where
  -- a holder after it gave the slot back with the value that it had put there
  abbrev pub given_by : Me (Option T) (View T) → Me (Option T) (View T)
  given_by (v, []) = (v, [])
  given_by (v, (k, None) ∷ cs) = (v, cs)
  given_by (v, (k, Some x) ∷ cs) = (record { fresh = v.fresh; passes = (number_of v, x) ∷ []; holds = false }, cs)

  abbrev pub gives : Step (Option T) → Me (Option T) (View T) → ℕ → Me (Option T) (View T) → Type 0
  gives st m r m' = m' ≡ given_by m

  abbrev pub numbered_by : ℕ → Option T → View T → View T
  numbered_by n (Some x) v = idle n x
  numbered_by n None v = v

  -- the number was drawn, or nothing changed
  abbrev pub draws : Step (Option T) → Me (Option T) (View T) → ℕ → Me (Option T) (View T) → Type 0
  draws st m r m' = (r ≡ st.first → m' ≡ (numbered_by st.first m.0.fresh m.0, m.1)) × (r ≢ st.first → m' ≡ m)
