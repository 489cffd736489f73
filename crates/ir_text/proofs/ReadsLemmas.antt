-- Reading piece by piece: what has been read, and what follows from the next piece.
use Rattle.std.proofs.Common.{◌≡◌, ◌≢◌, ℕ, ◌-◌, ◌<◌, ◌≤◌, List, [], ◌∷◌, ◌++◌, length, All, Some, Ok, Err, refl, sym, ap, subst, ◌∙◌, append_assoc, arith, length-append}
use Rattle.std.proofs.lemmas.List.{append-nil}
use Rattle.ir_text.specs.declared.pieces.Item.{Item}
use Rattle.ir_text.specs.declared.pieces.Item.TheVariants as item
use Rattle.ir_text.specs.declared.pieces.State.{State}
use Rattle.ir_text.specs.declared.pieces.State.TheVariants as state
use Rattle.ir_text.specs.Text.{text, HasText}
use Rattle.ir_text.specs.Faults.{IsPlace}
use Rattle.ir_text.specs.Reading.{literal}
use Rattle.ir_text.specs.Row.{reading}
use Rattle.ir_text.specs.Items.{IsRun, item_row, next}
use Rattle.ir_text.specs.Made.{Made, taken, taken_all, nothing, behind}
use Rattle.ir_text.proofs.LiteralLemmas.{literal_takes}
use Rattle.ir_text.proofs.LineLemmas.{item_exact, none_next}
use Rattle.ir_text.proofs.RunLemmas.{run_append, one_run, run_blocks, some_text, same_state, taken_one}
use Rattle.ir_text.proofs.PlaceLemmas.{first_line, stop_place}

pub record Reads (bytes rest : List ℕ) (m : Made) (q : State) : Type 0 where
  pub items : List Item
  pub front : List ℕ
  pub run : IsRun state.Between items q front
  pub parts : bytes ≡ first_line ++ (front ++ rest)
  pub made : m ≡ taken_all nothing items

pub reads_first : (bytes rest : List ℕ) (m : Made) (q : State) → literal first_line bytes ≡ Ok rest → m ≡ nothing → q ≡ state.Between → Reads bytes rest m q
reads_first bytes rest m q e em eq = record { items = []; front = []; run = (sym eq, refl); parts = sym (literal_takes first_line bytes rest e); made = em }

behind_of : (q : State) (i : Item) (p : State) → next q i ≡ Some p → p ≡ behind i
behind_of state.Between (item.Address n) p e = sym (same_state state.Code p e)
behind_of state.Code (item.Byte c) p e = sym (same_state state.InCode p e)
behind_of state.Code item.CodeEnd p e = sym (same_state state.Inside p e)
behind_of state.InCode (item.Byte c) p e = sym (same_state state.InCode p e)
behind_of state.InCode item.CodeEnd p e = sym (same_state state.Inside p e)
behind_of state.Inside (item.Op o) p e = sym (same_state state.Inside p e)
behind_of state.Inside (item.Part x) p e = sym (same_state state.After p e)
behind_of state.After (item.Op o) p e = sym (same_state state.Inside p e)
behind_of state.After (item.Part x) p e = sym (same_state state.After p e)
behind_of state.After item.End p e = sym (same_state state.Between p e)
behind_of q i p e = none_next p e

some_length : (s : List ℕ) → s ≢ [] → 0 < length s
some_length [] e = absurd (e refl)
some_length (c ∷ s) e = omega arith

pub reads_next : (bytes rest tail : List ℕ) (m n : Made) (q p : State) (i : Item) → Reads bytes rest m q → reading (item_row q) rest ≡ Ok (i, tail) → n ≡ taken m i → p ≡ behind i → Reads bytes tail n p × (length tail < length rest)
reads_next bytes rest tail m n q p i r e en ep =
    let t = (item_exact q).takes rest i tail e in
    let after = t.1.1.0 in
    let one = subst (IsRun q (i ∷ []) after) t.1.2 (one_run q after i t.1.0 t.1.1.1) in
    let run = run_append r.items (i ∷ []) state.Between q after r.front t.0 r.run one in
    let same : after ≡ p = behind_of q i after t.1.1.1 ∙ sym ep in
    let next : Reads bytes tail n p = record {
      items = r.items ++ i ∷ [];
      front = r.front ++ t.0;
      run = subst (λ p. IsRun state.Between (r.items ++ i ∷ []) p (r.front ++ t.0)) same run;
      parts = r.parts ∙ ap (λ (z : List ℕ). first_line ++ z) (ap (λ (z : List ℕ). r.front ++ z) (sym t.2) ∙ sym (append_assoc r.front t.0 tail));
      made = en ∙ ap (λ m. taken m i) r.made ∙ sym (taken_one r.items i nothing);
    } in
    (next, omega (arith, some_length t.0 (some_text q i t.0 t.1), ap length t.2, length-append t.0 tail))

pub reads_stop : (bytes rest : List ℕ) (m : Made) (q : State) (left : ℕ) → Reads bytes rest m q → reading (item_row q) rest ≡ Err left → (q ≡ state.Between → rest ≢ []) → (left ≤ length bytes) × IsPlace bytes (length bytes - left)
reads_stop bytes rest m q left r e going = stop_place bytes r.items q r.front rest left r.run r.parts e going

pub reads_done : (bytes rest : List ℕ) (m : Made) (q : State) → Reads bytes rest m q → q ≡ state.Between → rest ≡ [] → All HasText m.blocks × (bytes ≡ text m.blocks)
reads_done bytes rest m q r eq er =
    let run = subst (λ q. IsRun state.Between r.items q r.front) eq r.run in
    let made = run_blocks r.items r.front run in
    let whole : bytes ≡ text (taken_all nothing r.items).blocks =
    r.parts ∙ ap (λ (z : List ℕ). first_line ++ (r.front ++ z)) er ∙ ap (λ (z : List ℕ). first_line ++ z) (append-nil r.front ∙ sym made.1) in
    subst (λ (m : Made). All HasText m.blocks × (bytes ≡ text m.blocks)) (sym r.made) (made.0, whole)
