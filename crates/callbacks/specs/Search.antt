-- A whole search of `bsearch`, in which a function of the element's address answers each probe.
use Rattle.std.specs.Prelude.{◌≡◌, ◌≢◌, ℕ, zero, suc, ◌<◌, ◌≤◌, ◌⊎◌, ℤ, pos, ◌<ℤ◌}
use Rattle.callbacks.specs.declared.Frame.{Frame}
use Rattle.callbacks.specs.declared.Next.{Next}
use Rattle.callbacks.specs.declared.Next.TheVariants.{Probe, Done}
use Rattle.callbacks.specs.Frame.{element, resumed}

-- goes on after a probe, and stops at the end
unfoldable pub answer_on : (ℕ → ℤ) → (Frame × Next → Next) → Frame → Next → Next
answer_on compare go_on f (Done place) = Done place
answer_on compare go_on f (Probe place) = go_on (resumed f (compare place))

-- what the search wants after so many probes were answered
unfoldable pub search_after : ℕ → (ℕ → ℤ) → Frame × Next → Next
search_after zero compare s = s.1
search_after (suc probes) compare s = answer_on compare (search_after probes compare) s.0 s.1

-- The elements stand in the order in which `bsearch` wants them: first those that the key is above, then those that
-- compare equal to it, then those that it is below.
pub record IsOrdered (compare : ℕ → ℤ) (f : Frame) : Type 0 where
  pub above : (i j : ℕ) → f.lo ≤ i → i ≤ j → j < f.hi → pos 0 <ℤ compare (element f j) → pos 0 <ℤ compare (element f i)
  pub below : (i j : ℕ) → f.lo ≤ i → i ≤ j → j < f.hi → compare (element f i) <ℤ pos 0 → compare (element f j) <ℤ pos 0

-- the search ended at an element that compares equal, or there is none and it ended with 0
abbrev pub Finds : (ℕ → ℤ) → Frame → Next → Type 0
Finds compare f next =
    ((i : ℕ) × (f.lo ≤ i) × (i < f.hi) × (compare (element f i) ≡ pos 0) × (next ≡ Done (element f i)))
    ⊎ (((i : ℕ) → f.lo ≤ i → i < f.hi → compare (element f i) ≢ pos 0) × (next ≡ Done 0))
