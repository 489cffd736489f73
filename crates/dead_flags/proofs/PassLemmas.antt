-- One step of the passes from the end: over the op lines of a part, and over the parts.
use Rattle.std.proofs.Common.{◌≡◌, ℕ, ◌+◌, ◌-◌, ◌<◌, ◌≤◌, Bool, true, false, ap, sym, subst, ◌∙◌, arith, ⊎_elim, List, [], ◌∷◌, ◌++◌, length, take, drop, get_or, append_assoc, Some, None}
use Rattle.std.proofs.lemmas.List.{drop_more, take_more, get_or_default, get_or-take, take-take, take-set-le, drop-set, set_at, length-take-le, length-append, get_or_append_left, length-set, take_at, length-drop}
use Rattle.std.proofs.lemmas.Option.{slice_get_cases, get_or_from_slice_get}
use Rattle.std.specs.Prelude.{if◌then◌else◌, slice_set, slice_get}
use Rattle.ir_syntax.specs.declared.block.Part.{Part}
use Rattle.ir_syntax.specs.declared.line.Op.{Op}
use Rattle.x86_flags.specs.declared.flags.Flags.{Flags}
use Rattle.ir_meaning.specs.Live.{live_before, live_before_end, live_before_ops, live_before_part, live_before_parts, is_dead, kept_ops, kept_parts}

-- the lines from i on are gathered behind `first`, and those before i aren't touched yet
pub record Gathered (orig lines : List Op) (i first : ℕ) (live before : Flags) : Type 0 where
  pub within : i ≤ first
  pub fits : first ≤ length lines
  pub ahead : take i lines ≡ take i orig
  pub kept : drop first lines ≡ kept_ops (drop i orig) live
  pub is_live : before ≡ live_before_ops (drop i orig) live

-- a line is put before the kept ones, or not
placed : (dead : Bool) (op : Op) (ks lines : List Op) (first : ℕ) → 0 < first → first ≤ length lines → drop first lines ≡ ks → drop (if dead then first else first - 1) (if dead then lines else slice_set lines (first - 1) op) ≡ (if dead then ks else op ∷ ks)
placed true op ks lines first some fits e = e
placed false op ks lines first some fits e =
    let less : first - 1 < length lines = omega arith in
    let one : first - 1 + 1 ≡ first = omega arith in
    drop-set lines (first - 1) op less ∙ ap (λ (n : ℕ). op ∷ drop n lines) one ∙ ap (λ (rest : List Op). op ∷ rest) e

placed_room : (dead : Bool) (op : Op) (orig lines : List Op) (j first : ℕ) → j + 1 ≤ first → first ≤ length lines → take j lines ≡ take j orig → (j ≤ (if dead then first else first - 1)) × ((if dead then first else first - 1) ≤ length (if dead then lines else slice_set lines (first - 1) op)) × (take j (if dead then lines else slice_set lines (first - 1) op) ≡ take j orig)
placed_room true op orig lines j first below fits e = (omega arith, fits, e)
placed_room false op orig lines j first below fits e =
    let less : j ≤ first - 1 = omega arith in
    (less, rw (length-set lines (first - 1) op) (omega arith), take-set-le j lines (first - 1) op less ∙ e)

gather_line : (orig lines : List Op) (j first : ℕ) (live before : Flags) (op : Op) → length lines ≡ length orig → op ≡ get_or lines j op → Gathered orig lines (j + 1) first live before → Gathered orig (if is_dead op before then lines else slice_set lines (first - 1) op) j (if is_dead op before then first else first - 1) live (live_before op before)
gather_line orig lines j first live before op same at g =
    let some : 0 < first = omega (arith, g.within) in
    let inside : j < length orig = omega (arith, g.within, g.fits, same) in
    let next : j < j + 1 = omega arith in
    let below : j ≤ j + 1 = omega arith in
    let here : get_or orig j op ≡ op = sym (get_or-take (j + 1) orig j op next) ∙ ap (λ (l : List Op). get_or l j op) (sym g.ahead) ∙ get_or-take (j + 1) lines j op next ∙ sym at in
    let split : drop j orig ≡ op ∷ drop (j + 1) orig = drop_more orig j op inside ∙ ap (λ (o : Op). o ∷ drop (j + 1) orig) here in
    let ahead : take j lines ≡ take j orig = sym (take-take j (j + 1) lines below) ∙ ap (take j) g.ahead ∙ take-take j (j + 1) orig below in
    let room = placed_room (is_dead op before) op orig lines j first g.within g.fits ahead in
    record {
      within = room.0;
      fits = room.1;
      ahead = room.2;
      kept = placed (is_dead op before) op _ lines first some g.fits g.kept ∙ ap (λ (b : Flags). if is_dead op b then kept_ops (drop (j + 1) orig) live else op ∷ kept_ops (drop (j + 1) orig) live) g.is_live ∙ ap (λ (l : List Op). kept_ops l live) (sym split);
      is_live = ap (live_before op) g.is_live ∙ ap (λ (l : List Op). live_before_ops l live) (sym split);
    }

-- the step at i, which goes to i - 1
pub gather_step : (orig lines new : List Op) (i first begins : ℕ) (live before now : Flags) (d : Op) → 0 < i → length lines ≡ length orig → begins ≡ (if is_dead (get_or lines (i - 1) d) before then first else first - 1) → new ≡ (if is_dead (get_or lines (i - 1) d) before then lines else slice_set lines (first - 1) (get_or lines (i - 1) d)) → now ≡ live_before (get_or lines (i - 1) d) before → Gathered orig lines i first live before → Gathered orig new (i - 1) begins live now
gather_step orig lines new i first begins live before now d some same e f h g =
    let one : i ≡ i - 1 + 1 = omega arith in
    let inside : i - 1 < length lines = omega (arith, g.within, g.fits) in
    let op = get_or lines (i - 1) d in
    let at : op ≡ get_or lines (i - 1) op = get_or_default lines (i - 1) d op inside in
    let step = gather_line orig lines (i - 1) first live before op same at (subst (λ (k : ℕ). Gathered orig lines k first live before) one g) in
    rw (e, f, h) step

-- the parts from i on are stripped
pub record Stripped (orig items : List Part) (i : ℕ) (live : Flags) : Type 0 where
  pub kept : items ≡ take i orig ++ kept_parts (drop i orig)
  pub is_live : live ≡ live_before_parts (drop i orig)

part_at : (orig items : List Part) (j : ℕ) (live : Flags) (p : Part) → j < length orig → slice_get items j ≡ Some p → Stripped orig items (j + 1) live → Stripped orig (slice_set items j (record p { ops = kept_ops p.ops (live_before_end p.end live) })) j (live_before_part p live)
part_at orig items j live p inside at s =
    let next : j < j + 1 = omega arith in
    let upto : length (take (j + 1) orig) ≡ j + 1 = length-take-le (j + 1) orig (omega arith) in
    let before : length (take j orig) ≡ j = length-take-le j orig (omega arith) in
    let rest = kept_parts (drop (j + 1) orig) in
    let within : j < length (take (j + 1) orig) = omega arith in
    let here : get_or orig j p ≡ p =
    sym (get_or-take (j + 1) orig j p next) ∙ sym (get_or_append_left (take (j + 1) orig) rest p j within) ∙ ap (λ (l : List Part). get_or l j p) (sym s.kept) ∙ get_or_from_slice_get items j p p at in
    let items_are : items ≡ take j orig ++ p ∷ rest =
    s.kept ∙ ap (λ (l : List Part). l ++ rest) (take_more orig j p inside ∙ ap (λ (q : Part). take j orig ++ q ∷ []) here) ∙ append_assoc (take j orig) (p ∷ []) rest in
    let split : drop j orig ≡ p ∷ drop (j + 1) orig = drop_more orig j p inside ∙ ap (λ (q : Part). q ∷ drop (j + 1) orig) here in
    record {
      kept = ap (λ (l : List Part). slice_set l j (record p { ops = kept_ops p.ops (live_before_end p.end live) })) items_are ∙ set_at (take j orig) p rest _ j before ∙ ap (λ (b : Flags). take j orig ++ (record p { ops = kept_ops p.ops (live_before_end p.end b) }) ∷ rest) s.is_live ∙ ap (λ (l : List Part). take j orig ++ kept_parts l) (sym split);
      is_live = ap (live_before_part p) s.is_live ∙ ap live_before_parts (sym split);
    }

abbrev StripsAt : List Part → List Part → ℕ → Flags → Flags → Type 0
StripsAt items new j live before = ((p : Part) → slice_get items j ≡ Some p → new ≡ slice_set items j (record p { ops = kept_ops p.ops (live_before_end p.end live) })) × ((p : Part) → slice_get items j ≡ Some p → before ≡ live_before_part p live)

part_next : (orig items new : List Part) (j : ℕ) (live before : Flags) → j < length orig → j < length items → StripsAt items new j live before → Stripped orig items (j + 1) live → Stripped orig new j before
part_next orig items new j live before inside within e s =
    ⊎_elim
    (λ (found : (p : Part) × (j < length items) × (slice_get items j ≡ Some p) × (get_or items j p ≡ p)).
    let p = found.0 in
    let at = found.2 in
    let done = part_at orig items j live p inside at s in
    record { kept = e.0 p at ∙ done.kept; is_live = e.1 p at ∙ done.is_live })
    (λ (past : (length items ≤ j) × (slice_get items j ≡ None)). absurd (omega (arith, past.0)))
    (slice_get_cases items j).1

-- the step at i, which goes to i - 1
pub part_step : (orig items new : List Part) (i : ℕ) (live before : Flags) → 0 < i → i ≤ length orig → i ≤ length items → StripsAt items new (i - 1) live before → Stripped orig items i live → Stripped orig new (i - 1) before
part_step orig items new i live before some inside within e s =
    let one : i ≡ i - 1 + 1 = omega arith in
    part_next orig items new (i - 1) live before (omega arith) (omega arith) e (subst (λ (k : ℕ). Stripped orig items k live) one s)

pub length_stripped : (orig items : List Part) (i : ℕ) (live : Flags) → i ≤ length orig → Stripped orig items i live → i ≤ length items
length_stripped orig items i live h s =
    let whole = ap length s.kept ∙ length-append (take i orig) (kept_parts (drop i orig)) in
    let front = length-take-le i orig h in
    omega arith

-- the kept lines, turned to the front
pub turned_front : (lines : List Op) (first : ℕ) → first ≤ length lines → take (length lines - first) (drop first lines ++ take first lines) ≡ drop first lines
turned_front lines first h = take_at (drop first lines) (take first lines) (length lines - first) (length-drop first lines)
