-- Runs of pieces: what they make, and that a text has one run.
use Rattle.std.proofs.Common.{◌≡◌, ◌≢◌, ℕ, ◌<◌, List, [], ◌∷◌, ◌++◌, map, All, Option, Some, Ok, Err, refl, sym, ap, subst, ◌∙◌, append_assoc, rules, codes}
use Rattle.std.specs.List.{flat_map, AllByRecursion}
use Rattle.std.proofs.lemmas.List.{append-nil}
use Rattle.std.proofs.lemmas.List.Concat.{flat_map-append}
use Rattle.std.proofs.lemmas.List.Elements.{All-push, recursion_from_All}
use Rattle.ir_syntax.specs.declared.block.Block.{Block}
use Rattle.ir_syntax.specs.declared.block.Part.{Part}
use Rattle.ir_syntax.specs.declared.line.Op.{Op}
use Rattle.ir_syntax.specs.declared.line.PartEnd.{PartEnd}
use Rattle.ir_text.specs.declared.pieces.Item.{Item}
use Rattle.ir_text.specs.declared.pieces.Item.TheVariants as item
use Rattle.ir_text.specs.declared.pieces.State.{State}
use Rattle.ir_text.specs.declared.pieces.State.TheVariants as state
use Rattle.ir_text.specs.Text.{op_text, end_text, part_text, byte_text, code_text, block_text, spaced, lined, hex, HasOp, HasEnd, HasPart, HasText, IsNumber}
use Rattle.ir_text.specs.Reading.{literal, digit_or, word_from}
use Rattle.ir_text.specs.Row.{reading}
use Rattle.ir_text.specs.Items.{next, HasItem, item_text, IsItem, item_row, IsRun}
use Rattle.ir_text.specs.Made.{Made, taken, taken_all, nothing, part_items, items_of}
use Rattle.ir_text.proofs.Exact.{same_ok, err_ok}
use Rattle.ir_text.proofs.LineLemmas.{item_exact, none_next}

pub same_state : (p q : State) → ◌≡◌ {A = Option State} (Some p) (Some q) → p ≡ q
same_state p q e = cc

-- ---- what the pieces make

abbrev front_text : Made → List ℕ
front_text m = codes "block " ++ spaced (hex m.at)

abbrev open_text : State → Made → List ℕ
open_text state.Between m = []
open_text state.Code m = front_text m
open_text state.InCode m = front_text m ++ flat_map byte_text m.code
open_text state.Inside m = front_text m ++ (lined (code_text m.code) ++ (flat_map part_text m.parts ++ flat_map op_text m.ops))
open_text state.After m = front_text m ++ (lined (code_text m.code) ++ flat_map part_text m.parts)

abbrev IsEmpty : Made → Type 0
IsEmpty m = (m.code ≡ []) × (m.parts ≡ []) × (m.ops ≡ [])

abbrev HasBody : Made → Type 0
HasBody m = IsNumber m.at × All (λ c. c < 256) m.code × All HasPart m.parts × All HasOp m.ops

abbrev IsOpen : State → Made → Type 0
IsOpen state.Between m = IsEmpty m
IsOpen state.Code m = IsNumber m.at × IsEmpty m
IsOpen state.InCode m = IsNumber m.at × All (λ c. c < 256) m.code × (m.code ≢ []) × (m.parts ≡ []) × (m.ops ≡ [])
IsOpen state.Inside m = HasBody m
IsOpen state.After m = HasBody m × (m.parts ≢ []) × (m.ops ≡ [])

-- the text so far is that of the blocks, and of what stands of the open one
pub record Shows (q : State) (m : Made) (s : List ℕ) : Type 0 where
  pub blocks : All HasText m.blocks
  pub begun : IsOpen q m
  pub text : flat_map block_text m.blocks ++ open_text q m ≡ s

all_nil : {A : Type 0} (P : A → Type 0) (xs : List A) → xs ≡ [] → All P xs
all_nil {A} P xs e = subst (All P) (sym e) (none P)
  where
    none : (P : A → Type 0) → All P []
    none P = search rules

never_pushed : {A : Type 0} (xs : List A) (x : A) → xs ++ x ∷ [] ≢ []
never_pushed [] x e = cc
never_pushed (y ∷ ys) x e = cc

pushed_text : {A : Type 0} (f : A → List ℕ) (xs : List A) (x : A) → flat_map f (xs ++ x ∷ []) ≡ flat_map f xs ++ f x
pushed_text f xs x = flat_map-append f xs (x ∷ []) ∙ ap (λ (z : List ℕ). flat_map f xs ++ z) (append-nil (f x))

-- the next piece's text behind the text so far
behind_text : (a b c s x : List ℕ) → a ++ b ≡ s → c ≡ b ++ x → a ++ c ≡ s ++ x
behind_text a b c s x e f = ap (λ (z : List ℕ). a ++ z) f ∙ sym (append_assoc a b x) ∙ ap (λ (z : List ℕ). z ++ x) e

pub code_is_bytes : (code : List ℕ) → code ≢ [] → code_text code ≡ flat_map byte_text code
code_is_bytes [] e = absurd (e refl)
code_is_bytes (c ∷ cs) e = refl

module _ (m : Made) (s : List ℕ) where
  step_address : (n : ℕ) → Shows state.Between m s → IsNumber n → Shows state.Code (taken m (item.Address n)) (s ++ item_text state.Between (item.Address n))
  step_address n h hn = record { blocks = h.blocks; begun = (hn, h.begun); text = behind_text (flat_map block_text m.blocks) [] (codes "block " ++ spaced (hex n)) s (codes "block " ++ spaced (hex n)) h.text refl }

  step_first : (c : ℕ) → Shows state.Code m s → c < 256 → Shows state.InCode (taken m (item.Byte c)) (s ++ byte_text c)
  step_first c h hc = record {
    blocks = h.blocks;
    begun = (h.begun.0, All-push (λ c. c < 256) m.code c (all_nil (λ c. c < 256) m.code h.begun.1.0) hc, never_pushed m.code c, h.begun.1.1, h.begun.1.2);
    text = behind_text (flat_map block_text m.blocks) (front_text m) (front_text m ++ flat_map byte_text (m.code ++ c ∷ [])) s (byte_text c) h.text
        (ap (λ (z : List ℕ). front_text m ++ flat_map byte_text (z ++ c ∷ [])) h.begun.1.0);
  }

  step_byte : (c : ℕ) → Shows state.InCode m s → c < 256 → Shows state.InCode (taken m (item.Byte c)) (s ++ byte_text c)
  step_byte c h hc = record {
    blocks = h.blocks;
    begun = (h.begun.0, All-push (λ c. c < 256) m.code c h.begun.1 hc, never_pushed m.code c, h.begun.3, h.begun.4);
    text = behind_text (flat_map block_text m.blocks) (front_text m ++ flat_map byte_text m.code) (front_text m ++ flat_map byte_text (m.code ++ c ∷ [])) s (byte_text c) h.text
        (ap (λ (z : List ℕ). front_text m ++ z) (pushed_text byte_text m.code c) ∙ sym (append_assoc (front_text m) (flat_map byte_text m.code) (byte_text c)));
  }

  body_text : (p : List Part) (o : List Op) → p ≡ [] → o ≡ [] → (x : List ℕ) → x ++ (flat_map part_text p ++ flat_map op_text o) ≡ x
  body_text p o ep eo x = ap (λ (z : List Part). x ++ (flat_map part_text z ++ flat_map op_text o)) ep ∙ ap (λ (z : List Op). x ++ flat_map op_text z) eo ∙ append-nil x

  step_no_code : Shows state.Code m s → Shows state.Inside m (s ++ codes "-\n")
  step_no_code h = record {
    blocks = h.blocks;
    begun = (h.begun.0, all_nil (λ c. c < 256) m.code h.begun.1.0, all_nil HasPart m.parts h.begun.1.1, all_nil HasOp m.ops h.begun.1.2);
    text = behind_text (flat_map block_text m.blocks) (front_text m) (open_text state.Inside m) s (codes "-\n") h.text
        (ap (λ (z : List ℕ). front_text m ++ z) (body_text m.parts m.ops h.begun.1.1 h.begun.1.2 (lined (code_text m.code)) ∙ ap (λ (z : List ℕ). lined (code_text z)) h.begun.1.0));
  }

  step_code_end : Shows state.InCode m s → Shows state.Inside m (s ++ codes "\n")
  step_code_end h = record {
    blocks = h.blocks;
    begun = (h.begun.0, h.begun.1, all_nil HasPart m.parts h.begun.3, all_nil HasOp m.ops h.begun.4);
    text = behind_text (flat_map block_text m.blocks) (front_text m ++ flat_map byte_text m.code) (open_text state.Inside m) s (codes "\n") h.text
        (ap (λ (z : List ℕ). front_text m ++ z) (body_text m.parts m.ops h.begun.3 h.begun.4 (lined (code_text m.code)) ∙ ap lined (code_is_bytes m.code h.begun.2))
        ∙ sym (append_assoc (front_text m) (flat_map byte_text m.code) (codes "\n")));
  }

  regroup : (f l p o x : List ℕ) → f ++ (l ++ (p ++ (o ++ x))) ≡ (f ++ (l ++ (p ++ o))) ++ x
  regroup f l p o x = simp append_assoc

  step_op : (o : Op) → Shows state.Inside m s → HasOp o → Shows state.Inside (taken m (item.Op o)) (s ++ op_text o)
  step_op o h ho = record {
    blocks = h.blocks;
    begun = (h.begun.0, h.begun.1, h.begun.2, All-push HasOp m.ops o h.begun.3 ho);
    text = behind_text (flat_map block_text m.blocks) (open_text state.Inside m) (open_text state.Inside (taken m (item.Op o))) s (op_text o) h.text
        (ap (λ (z : List ℕ). front_text m ++ (lined (code_text m.code) ++ (flat_map part_text m.parts ++ z))) (pushed_text op_text m.ops o)
        ∙ regroup (front_text m) (lined (code_text m.code)) (flat_map part_text m.parts) (flat_map op_text m.ops) (op_text o));
  }

  regroup_part : (f l p o x : List ℕ) → f ++ (l ++ (p ++ (o ++ x))) ≡ (f ++ (l ++ (p ++ o))) ++ x
  regroup_part f l p o x = simp append_assoc

  step_part : (e : PartEnd) → Shows state.Inside m s → HasEnd e → Shows state.After (taken m (item.Part e)) (s ++ end_text e)
  step_part e h he =
      let part : Part = record { ops = m.ops; end = e } in
      record {
        blocks = h.blocks;
        begun = ((h.begun.0, h.begun.1, All-push HasPart m.parts part h.begun.2 (record { ops = h.begun.3; end = he }), all_nil HasOp [] refl), never_pushed m.parts part, refl);
        text = behind_text (flat_map block_text m.blocks) (open_text state.Inside m) (open_text state.After (taken m (item.Part e))) s (end_text e) h.text
            (ap (λ (z : List ℕ). front_text m ++ (lined (code_text m.code) ++ z)) (pushed_text part_text m.parts part)
            ∙ regroup_part (front_text m) (lined (code_text m.code)) (flat_map part_text m.parts) (flat_map op_text m.ops) (end_text e));
      }

  -- behind a part nothing of the next one stands
  as_inside : Shows state.After m s → Shows state.Inside m s
  as_inside h = record {
    blocks = h.blocks;
    begun = h.begun.0;
    text = ap (λ (z : List Op). flat_map block_text m.blocks ++ (front_text m ++ (lined (code_text m.code) ++ (flat_map part_text m.parts ++ flat_map op_text z)))) h.begun.2
        ∙ ap (λ (z : List ℕ). flat_map block_text m.blocks ++ (front_text m ++ (lined (code_text m.code) ++ z))) (append-nil (flat_map part_text m.parts))
        ∙ h.text;
  }

  regroup_end : (b f l p x : List ℕ) → b ++ (f ++ (l ++ (p ++ x))) ≡ (b ++ (f ++ (l ++ p))) ++ x
  regroup_end b f l p x = simp append_assoc

  step_end : Shows state.After m s → Shows state.Between (taken m item.End) (s ++ codes "end\n")
  step_end h =
      let block : Block = record { at = m.at; code = m.code; parts = m.parts } in
      let has : HasText block = record { at = h.begun.0.0; code = h.begun.0.1; some = h.begun.1; parts = h.begun.0.2 } in
      record {
        blocks = All-push HasText m.blocks block h.blocks has;
        begun = (refl, refl, refl);
        text = append-nil (flat_map block_text (m.blocks ++ block ∷ []))
            ∙ pushed_text block_text m.blocks block
            ∙ regroup_end (flat_map block_text m.blocks) (front_text m) (lined (code_text m.code)) (flat_map part_text m.parts) (codes "end\n")
            ∙ ap (λ (z : List ℕ). z ++ codes "end\n") h.text;
      }

  shows_step : (q : State) (i : Item) (p : State) → Shows q m s → HasItem i → next q i ≡ Some p → Shows p (taken m i) (s ++ item_text q i)
  shows_step state.Between (item.Address n) p h hi e = subst (λ p. Shows p (taken m (item.Address n)) (s ++ item_text state.Between (item.Address n))) (same_state state.Code p e) (step_address n h hi)
  shows_step state.Code (item.Byte c) p h hi e = subst (λ p. Shows p (taken m (item.Byte c)) (s ++ byte_text c)) (same_state state.InCode p e) (step_first c h hi)
  shows_step state.Code item.CodeEnd p h hi e = subst (λ p. Shows p m (s ++ codes "-\n")) (same_state state.Inside p e) (step_no_code h)
  shows_step state.InCode (item.Byte c) p h hi e = subst (λ p. Shows p (taken m (item.Byte c)) (s ++ byte_text c)) (same_state state.InCode p e) (step_byte c h hi)
  shows_step state.InCode item.CodeEnd p h hi e = subst (λ p. Shows p m (s ++ codes "\n")) (same_state state.Inside p e) (step_code_end h)
  shows_step state.Inside (item.Op o) p h hi e = subst (λ p. Shows p (taken m (item.Op o)) (s ++ op_text o)) (same_state state.Inside p e) (step_op o h hi)
  shows_step state.Inside (item.Part x) p h hi e = subst (λ p. Shows p (taken m (item.Part x)) (s ++ end_text x)) (same_state state.After p e) (step_part x h hi)
  shows_step state.After (item.Op o) p h hi e = subst (λ p. Shows p (taken m (item.Op o)) (s ++ op_text o)) (same_state state.Inside p e) (step_op o (as_inside h) hi)
  shows_step state.After (item.Part x) p h hi e = subst (λ p. Shows p (taken m (item.Part x)) (s ++ end_text x)) (same_state state.After p e) (step_part x (as_inside h) hi)
  shows_step state.After item.End p h hi e = subst (λ p. Shows p (taken m item.End) (s ++ codes "end\n")) (same_state state.Between p e) (step_end h)
  shows_step q i p h hi e = none_next p e

pub run_shows : (is : List Item) (q p : State) (m : Made) (s t : List ℕ) → Shows q m s → IsRun q is p t → Shows p (taken_all m is) (s ++ t)
run_shows [] q p m s t h r = subst (λ p. Shows p m (s ++ t)) r.0 (subst (Shows q m) (sym (append-nil s) ∙ ap (λ (z : List ℕ). s ++ z) r.1) h)
run_shows (i ∷ is) q p m s t h r =
    let x = r.1 in
    let first = shows_step m s q i x.0 h r.0 x.1 in
    let others = run_shows is x.0 p (taken m i) (s ++ item_text q i) x.2.0 first x.2.1 in
    subst (Shows p (taken_all (taken m i) is)) (append_assoc s (item_text q i) x.2.0 ∙ ap (λ (z : List ℕ). s ++ z) x.2.2) others

shows_nothing : Shows state.Between nothing []
shows_nothing = record { blocks = all_nil HasText [] refl; begun = (refl, refl, refl); text = refl }

pub run_made : (is : List Item) (p : State) (t : List ℕ) → IsRun state.Between is p t → Shows p (taken_all nothing is) t
run_made is p t r = run_shows is state.Between p nothing [] t shows_nothing r

-- a whole run is the text of the blocks that it makes
pub run_blocks : (is : List Item) (t : List ℕ) → IsRun state.Between is state.Between t → All HasText (taken_all nothing is).blocks × (flat_map block_text (taken_all nothing is).blocks ≡ t)
run_blocks is t r = let h = run_made is state.Between t r in (h.blocks, sym (append-nil (flat_map block_text (taken_all nothing is).blocks)) ∙ h.text)

-- ---- runs, one behind the other

pub run_append : (a b : List Item) (q p r : State) (s t : List ℕ) → IsRun q a p s → IsRun p b r t → IsRun q (a ++ b) r (s ++ t)
run_append [] b q p r s t x y = subst (λ q. IsRun q b r (s ++ t)) (sym x.0) (subst (IsRun p b r) (ap (λ (z : List ℕ). z ++ t) x.1) y)
run_append (i ∷ is) b q p r s t x y =
    let n = x.1 in
    let others = run_append is b n.0 p r n.2.0 t n.2.1 y in
    (x.0, (n.0, n.1, (n.2.0 ++ t, others, sym (append_assoc (item_text q i) n.2.0 t) ∙ ap (λ (z : List ℕ). z ++ t) n.2.2)))

pub one_run : (q p : State) (i : Item) → HasItem i → next q i ≡ Some p → IsRun q (i ∷ []) p (item_text q i)
one_run q p i h e = (h, (p, e, ([], (refl, refl), append-nil (item_text q i))))

cons_run : (q p r : State) (i : Item) (is : List Item) (t : List ℕ) → HasItem i → next q i ≡ Some p → IsRun p is r t → IsRun q (i ∷ is) r (item_text q i ++ t)
cons_run q p r i is t h e x = (h, (p, e, (t, x, refl)))

-- ---- the run of a text

bytes_run : (cs : List ℕ) → AllByRecursion (λ c. c < 256) cs → IsRun state.InCode (map item.Byte cs) state.InCode (flat_map byte_text cs)
bytes_run [] h = (refl, refl)
bytes_run (c ∷ cs) h = cons_run state.InCode state.InCode state.InCode (item.Byte c) (map item.Byte cs) (flat_map byte_text cs) h.0 refl (bytes_run cs h.1)

code_run : (cs : List ℕ) → AllByRecursion (λ c. c < 256) cs → IsRun state.Code (map item.Byte cs ++ item.CodeEnd ∷ []) state.Inside (lined (code_text cs))
code_run [] h = one_run state.Code state.Inside item.CodeEnd tt refl
code_run (c ∷ cs) h =
    let end = one_run state.InCode state.Inside item.CodeEnd tt refl in
    cons_run state.Code state.InCode state.Inside (item.Byte c) (map item.Byte cs ++ item.CodeEnd ∷ []) (flat_map byte_text cs ++ codes "\n") h.0 refl
    (run_append (map item.Byte cs) (item.CodeEnd ∷ []) state.InCode state.InCode state.Inside (flat_map byte_text cs) (codes "\n") (bytes_run cs h.1) end)

ops_run : (os : List Op) → AllByRecursion HasOp os → IsRun state.Inside (map item.Op os) state.Inside (flat_map op_text os)
ops_run [] h = (refl, refl)
ops_run (o ∷ os) h = cons_run state.Inside state.Inside state.Inside (item.Op o) (map item.Op os) (flat_map op_text os) h.0 refl (ops_run os h.1)

part_run : (p : Part) → HasPart p → IsRun state.Inside (part_items p) state.After (part_text p)
part_run p h =
    run_append (map item.Op p.ops) (item.Part p.end ∷ []) state.Inside state.Inside state.After (flat_map op_text p.ops) (end_text p.end) (ops_run p.ops (recursion_from_All HasOp p.ops h.ops))
    (one_run state.Inside state.After (item.Part p.end) h.end refl)

-- what may stand inside a part may begin one
from_after : (is : List Item) (r : State) (t : List ℕ) → is ≢ [] → IsRun state.Inside is r t → IsRun state.After is r t
from_after [] r t ne x = absurd (ne refl)
from_after (item.Op o ∷ is) r t ne x = x
from_after (item.Part e ∷ is) r t ne x = x
from_after (item.Address n ∷ is) r t ne x = none_next x.1.0 x.1.1
from_after (item.Byte c ∷ is) r t ne x = none_next x.1.0 x.1.1
from_after (item.CodeEnd ∷ is) r t ne x = none_next x.1.0 x.1.1
from_after (item.End ∷ is) r t ne x = none_next x.1.0 x.1.1

parts_run : (ps : List Part) → AllByRecursion HasPart ps → IsRun state.After (flat_map part_items ps) state.After (flat_map part_text ps)
parts_run [] h = (refl, refl)
parts_run (p ∷ ps) h =
    run_append (part_items p) (flat_map part_items ps) state.After state.After state.After (part_text p) (flat_map part_text ps)
    (from_after (part_items p) state.After (part_text p) (never_pushed (map item.Op p.ops) (item.Part p.end)) (part_run p h.0))
    (parts_run ps h.1)

body_run : (ps : List Part) → ps ≢ [] → AllByRecursion HasPart ps → IsRun state.Inside (flat_map part_items ps) state.After (flat_map part_text ps)
body_run [] ne h = absurd (ne refl)
body_run (p ∷ ps) ne h = run_append (part_items p) (flat_map part_items ps) state.Inside state.After state.After (part_text p) (flat_map part_text ps) (part_run p h.0) (parts_run ps h.1)

regroup_items : {A : Type 0} (a : A) (b c d : List A) (x y : A) → a ∷ ((b ++ x ∷ []) ++ (c ++ (y ∷ d))) ≡ a ∷ (b ++ (x ∷ (c ++ (y ∷ d))))
regroup_items a b c d x y = simp append_assoc

pub blocks_run : (bs : List Block) → AllByRecursion HasText bs → IsRun state.Between (items_of bs) state.Between (flat_map block_text bs)
blocks_run [] h = (refl, refl)
blocks_run (b ∷ bs) h =
    let end = cons_run state.After state.Between state.Between item.End (items_of bs) (flat_map block_text bs) tt refl (blocks_run bs h.1) in
    let body = run_append (flat_map part_items b.parts) (item.End ∷ items_of bs) state.Inside state.After state.Between (flat_map part_text b.parts) (codes "end\n" ++ flat_map block_text bs)
    (body_run b.parts h.0.some (recursion_from_All HasPart b.parts h.0.parts)) end in
    let code = run_append (map item.Byte b.code ++ item.CodeEnd ∷ []) (flat_map part_items b.parts ++ (item.End ∷ items_of bs)) state.Code state.Inside state.Between
    (lined (code_text b.code)) (flat_map part_text b.parts ++ (codes "end\n" ++ flat_map block_text bs)) (code_run b.code (recursion_from_All (λ c. c < 256) b.code h.0.code)) body in
    let whole = cons_run state.Between state.Code state.Between (item.Address b.at) ((map item.Byte b.code ++ item.CodeEnd ∷ []) ++ (flat_map part_items b.parts ++ (item.End ∷ items_of bs)))
    (lined (code_text b.code) ++ (flat_map part_text b.parts ++ (codes "end\n" ++ flat_map block_text bs))) h.0.at refl code in
    subst (λ is. IsRun state.Between is state.Between (flat_map block_text (b ∷ bs))) (regroup_items (item.Address b.at) (map item.Byte b.code) (flat_map part_items b.parts) (items_of bs) item.CodeEnd item.End)
    (subst (IsRun state.Between (item.Address b.at ∷ ((map item.Byte b.code ++ item.CodeEnd ∷ []) ++ (flat_map part_items b.parts ++ (item.End ∷ items_of bs)))) state.Between)
    (regroup_text (spaced (hex b.at)) (lined (code_text b.code)) (flat_map part_text b.parts) (codes "end\n") (flat_map block_text bs)) whole)
  where
    regroup_text : (h l p e x : List ℕ) → (codes "block " ++ h) ++ (l ++ (p ++ (e ++ x))) ≡ (codes "block " ++ (h ++ (l ++ (p ++ e)))) ++ x
    regroup_text h l p e x = simp append_assoc

-- ---- a text has one run

never_empty : (q : State) → reading (item_row q) [] ≡ Err 0
unfolding literal digit_or word_from
never_empty state.Between = refl
never_empty state.Code = refl
never_empty state.InCode = refl
never_empty state.Inside = refl
never_empty state.After = refl

-- a piece's text isn't empty
pub some_text : (q : State) (i : Item) (s : List ℕ) → IsItem q i s → s ≢ []
some_text q i s h e = err_ok (i, []) 0 (sym (never_empty q) ∙ ap (λ (z : List ℕ). reading (item_row q) z) (sym (append-nil s ∙ e)) ∙ (item_exact q).again i s [] h)

-- the first piece of a run, read with what follows the run
pub run_first : (q r : State) (i : Item) (is : List Item) (s rest : List ℕ) (x : IsRun q (i ∷ is) r s) → reading (item_row q) (s ++ rest) ≡ Ok (i, x.1.2.0 ++ rest)
run_first q r i is s rest x =
    ap (λ (z : List ℕ). reading (item_row q) (z ++ rest)) (sym x.1.2.2) ∙ ap (λ (z : List ℕ). reading (item_row q) z) (append_assoc (item_text q i) x.1.2.0 rest)
    ∙ (item_exact q).again i (item_text q i) (x.1.2.0 ++ rest) (x.0, (x.1.0, x.1.1), refl)

nil_front : (s t : List ℕ) → s ++ t ≡ [] → s ≡ []
nil_front [] t e = refl
nil_front (c ∷ s) t e = absurd cc

-- where two runs begin alike, the longer goes on from where the shorter ends
pub runs_apart : (a b : List Item) (q p r : State) (u x : List ℕ) → IsRun q a p u → IsRun q b r (u ++ x) → (more : List Item) × IsRun p more r x × (b ≡ a ++ more)
runs_apart [] b q p r u x ra rb =
    (b, subst (λ p. IsRun p b r x) ra.0 (subst (IsRun q b r) (ap (λ (z : List ℕ). z ++ x) (sym ra.1)) rb), refl)
runs_apart (i ∷ a) [] q p r u x ra rb =
    absurd (some_text q i (item_text q i) (ra.0, (ra.1.0, ra.1.1), refl) (nil_front (item_text q i) ra.1.2.0 (nil_front (item_text q i ++ ra.1.2.0) x (ap (λ (z : List ℕ). z ++ x) ra.1.2.2 ∙ sym rb.1))))
runs_apart (i ∷ a) (j ∷ b) q p r u x ra rb =
    let na = ra.1 in
    let nb = rb.1 in
    let reads : Ok (i, na.2.0 ++ x) ≡ Ok (j, nb.2.0 ++ []) =
    sym (run_first q p i a u x ra) ∙ ap (λ (z : List ℕ). reading (item_row q) z) (sym (append-nil (u ++ x))) ∙ run_first q r j b (u ++ x) [] rb in
    let same = same_ok (i, na.2.0 ++ x) (j, nb.2.0 ++ []) reads in
    let item_same : i ≡ j = λ k. (same k).0 in
    let rest_same : na.2.0 ++ x ≡ nb.2.0 = (λ k. (same k).1) ∙ append-nil nb.2.0 in
    let state_same : na.0 ≡ nb.0 = same_state na.0 nb.0 (sym na.1 ∙ ap (next q) item_same ∙ nb.1) in
    let run : IsRun na.0 b r (na.2.0 ++ x) = subst (λ s. IsRun s b r (na.2.0 ++ x)) (sym state_same) (subst (IsRun nb.0 b r) (sym rest_same) nb.2.1) in
    let others = runs_apart a b na.0 p r na.2.0 x na.2.1 run in
    (others.0, others.1, λ k. sym item_same k ∷ others.2 k)

-- ---- the blocks come back

taken-append : (a b : List Item) (m : Made) → taken_all m (a ++ b) ≡ taken_all (taken_all m a) b
taken-append [] b m = refl
taken-append (i ∷ a) b m = taken-append a b (taken m i)

pub taken_one : (a : List Item) (i : Item) (m : Made) → taken_all m (a ++ i ∷ []) ≡ taken (taken_all m a) i
taken_one a i m = taken-append a (i ∷ []) m

bytes_taken : (cs : List ℕ) (m : Made) → taken_all m (map item.Byte cs) ≡ record { blocks = m.blocks; at = m.at; code = m.code ++ cs; parts = m.parts; ops = m.ops }
bytes_taken [] m = λ i. record { blocks = m.blocks; at = m.at; code = sym (append-nil m.code) i; parts = m.parts; ops = m.ops }
bytes_taken (c ∷ cs) m =
    bytes_taken cs (taken m (item.Byte c)) ∙ (λ i. record { blocks = m.blocks; at = m.at; code = append_assoc m.code (c ∷ []) cs i; parts = m.parts; ops = m.ops })

ops_taken : (os : List Op) (m : Made) → taken_all m (map item.Op os) ≡ record { blocks = m.blocks; at = m.at; code = m.code; parts = m.parts; ops = m.ops ++ os }
ops_taken [] m = λ i. record { blocks = m.blocks; at = m.at; code = m.code; parts = m.parts; ops = sym (append-nil m.ops) i }
ops_taken (o ∷ os) m =
    ops_taken os (taken m (item.Op o)) ∙ (λ i. record { blocks = m.blocks; at = m.at; code = m.code; parts = m.parts; ops = append_assoc m.ops (o ∷ []) os i })

parts_taken : (ps : List Part) (b : List Block) (at : ℕ) (code : List ℕ) (before : List Part)
    → taken_all (record { blocks = b; at = at; code = code; parts = before; ops = [] }) (flat_map part_items ps) ≡ record { blocks = b; at = at; code = code; parts = before ++ ps; ops = [] }
parts_taken [] b at code before = λ i. record { blocks = b; at = at; code = code; parts = sym (append-nil before) i; ops = [] }
parts_taken (p ∷ ps) b at code before =
    let m : Made = record { blocks = b; at = at; code = code; parts = before; ops = [] } in
    taken-append (part_items p) (flat_map part_items ps) m
    ∙ ap (λ m. taken_all m (flat_map part_items ps)) (taken-append (map item.Op p.ops) (item.Part p.end ∷ []) m ∙ ap (λ m. taken m (item.Part p.end)) (ops_taken p.ops m))
    ∙ parts_taken ps b at code (before ++ p ∷ [])
    ∙ (λ i. record { blocks = b; at = at; code = code; parts = append_assoc before (p ∷ []) ps i; ops = [] })

blocks_taken : (bs before : List Block) (at : ℕ) → (taken_all (record { blocks = before; at = at; code = []; parts = []; ops = [] }) (items_of bs)).blocks ≡ before ++ bs
blocks_taken [] before at = sym (append-nil before)
blocks_taken (b ∷ bs) before at =
    let m : Made = record { blocks = before; at = b.at; code = []; parts = []; ops = [] } in
    let after = item.CodeEnd ∷ (flat_map part_items b.parts ++ (item.End ∷ items_of bs)) in
    let code : taken_all m (map item.Byte b.code ++ after) ≡ taken_all (record { blocks = before; at = b.at; code = b.code; parts = []; ops = [] }) (flat_map part_items b.parts ++ (item.End ∷ items_of bs)) =
    taken-append (map item.Byte b.code) after m ∙ ap (λ m. taken_all m after) (bytes_taken b.code m) in
    let parts : taken_all (record { blocks = before; at = b.at; code = b.code; parts = []; ops = [] }) (flat_map part_items b.parts ++ (item.End ∷ items_of bs)) ≡ taken_all (record { blocks = before ++ b ∷ []; at = b.at; code = []; parts = []; ops = [] }) (items_of bs) =
    taken-append (flat_map part_items b.parts) (item.End ∷ items_of bs) (record { blocks = before; at = b.at; code = b.code; parts = []; ops = [] })
    ∙ ap (λ m. taken_all m (item.End ∷ items_of bs)) (parts_taken b.parts before b.at b.code []) in
    ap (λ (m : Made). m.blocks) (code ∙ parts) ∙ blocks_taken bs (before ++ b ∷ []) b.at ∙ append_assoc before (b ∷ []) bs

pub blocks_back : (bs : List Block) → (taken_all nothing (items_of bs)).blocks ≡ bs
blocks_back bs = blocks_taken bs [] 0
