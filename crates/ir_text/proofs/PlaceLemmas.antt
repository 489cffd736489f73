-- The first place at which a text goes wrong.
use Rattle.std.proofs.Common.{◌≡◌, ◌≢◌, ℕ, ◌+◌, ◌-◌, ◌<◌, ◌≤◌, List, [], ◌∷◌, ◌++◌, length, take, drop, All, Err, refl, sym, ap, subst, ◌∙◌, append_assoc, arith, length-append, rules, codes}
use Rattle.std.specs.List.{flat_map}
use Rattle.std.proofs.lemmas.List.{append-nil, take_at, take-take, take-append-drop}
use Rattle.std.proofs.lemmas.List.Elements.{recursion_from_All}
use Rattle.ir_syntax.specs.declared.block.Block.{Block}
use Rattle.ir_syntax.specs.declared.line.PartEnd.TheVariants.{Tick}
use Rattle.ir_text.specs.declared.pieces.Item.{Item}
use Rattle.ir_text.specs.declared.pieces.Item.TheVariants as item
use Rattle.ir_text.specs.declared.pieces.State.{State}
use Rattle.ir_text.specs.declared.pieces.State.TheVariants as state
use Rattle.ir_text.specs.Text.{block_text, text, HasText}
use Rattle.ir_text.specs.Faults.{IsBegun, IsPlace}
use Rattle.ir_text.specs.Reading.{literal}
use Rattle.ir_text.specs.Row.{reading}
use Rattle.ir_text.specs.Items.{IsItem, IsRun, item_row, item_text}
use Rattle.ir_text.specs.Made.{taken_all, nothing, items_of}
use Rattle.ir_text.proofs.Exact.{err_ok}
use Rattle.ir_text.proofs.LiteralLemmas.{literal_again, literal_begins, literal_local}
use Rattle.ir_text.proofs.LineLemmas.{item_exact}
use Rattle.ir_text.proofs.RunLemmas.{run_append, one_run, run_blocks, blocks_run, runs_apart, run_first, blocks_back, some_text}

abbrev pub first_line : List ℕ
first_line = codes "ir 1\n"

-- ---- the law of one text

same_front : (f x y : List ℕ) → f ++ x ≡ f ++ y → x ≡ y
same_front [] x y e = e
same_front (c ∷ f) x y e = let others : f ++ x ≡ f ++ y = cc in same_front f x y others

run_of : (bs : List Block) → All HasText bs → IsRun state.Between (items_of bs) state.Between (flat_map block_text bs)
run_of bs h = blocks_run bs (recursion_from_All HasText bs h)

-- where a run has come so far in the text of some blocks, more pieces follow
going_on : (is : List Item) (q : State) (u rest : List ℕ) (bs : List Block) → IsRun state.Between is q u → All HasText bs → first_line ++ (u ++ rest) ≡ text bs
    → (more : List Item) × IsRun q more state.Between rest × (items_of bs ≡ is ++ more)
going_on is q u rest bs r h e =
    let whole : u ++ rest ≡ flat_map block_text bs = same_front first_line (u ++ rest) (flat_map block_text bs) e in
    runs_apart is (items_of bs) state.Between q state.Between u rest r (subst (IsRun state.Between (items_of bs) state.Between) (sym whole) (run_of bs h))

-- a run that has come to the end of the text made its blocks
ended : (more : List Item) (q r : State) → IsRun q more r [] → more ≡ []
ended [] q r x = refl
ended (i ∷ is) q r x = absurd (some_text q i (item_text q i) (x.0, (x.1.0, x.1.1), refl) (nil_of (item_text q i) x.1.2.0 x.1.2.2))
  where
    nil_of : (s t : List ℕ) → s ++ t ≡ [] → s ≡ []
    nil_of [] t e = refl
    nil_of (c ∷ s) t e = absurd cc

pub whole_run : (is : List Item) (u : List ℕ) (bs : List Block) → IsRun state.Between is state.Between u → All HasText bs → first_line ++ u ≡ text bs → (taken_all nothing is).blocks ≡ bs
whole_run is u bs r h e =
    let g = going_on is state.Between u [] bs r h (ap (λ (z : List ℕ). first_line ++ z) (append-nil u) ∙ e) in
    let none : g.0 ≡ [] = ended g.0 state.Between state.Between g.1 in
    let same : items_of bs ≡ is = g.2 ∙ ap (λ (z : List Item). is ++ z) none ∙ append-nil is in
    ap (λ (z : List Item). (taken_all nothing z).blocks) (sym same) ∙ blocks_back bs

pub one_text_of : (a b : List Block) → All HasText a → All HasText b → text a ≡ text b → a ≡ b
one_text_of a b ha hb e = sym (blocks_back a) ∙ whole_run (items_of a) (flat_map block_text a) b (run_of a ha) hb e

-- ---- places

abbrev pub fin_items : State → List Item
fin_items state.Between = []
fin_items state.Code = item.CodeEnd ∷ item.Part Tick ∷ item.End ∷ []
fin_items state.InCode = item.CodeEnd ∷ item.Part Tick ∷ item.End ∷ []
fin_items state.Inside = item.Part Tick ∷ item.End ∷ []
fin_items state.After = item.End ∷ []

-- each state goes on to the end of a text
fin_run : (q : State) → (t : List ℕ) × IsRun q (fin_items q) state.Between t
fin_run state.Between = ([], (refl, refl))
fin_run state.Code = (_, (tt, (state.Inside, refl, (_, (tt, (state.After, refl, (_, (tt, (state.Between, refl, (_, (refl, refl), refl))), refl))), refl))))
fin_run state.InCode = (_, (tt, (state.Inside, refl, (_, (tt, (state.After, refl, (_, (tt, (state.Between, refl, (_, (refl, refl), refl))), refl))), refl))))
fin_run state.Inside = (_, (tt, (state.After, refl, (_, (tt, (state.Between, refl, (_, (refl, refl), refl))), refl))))
fin_run state.After = (_, (tt, (state.Between, refl, (_, (refl, refl), refl))))

-- what a run and the beginning of a piece spell begins a text
begun_by : (is : List Item) (q : State) (u good tail : List ℕ) (i : Item) → IsRun state.Between is q u → IsItem q i (good ++ tail) → IsBegun (first_line ++ (u ++ good))
begun_by is q u good tail i r h =
    let p = h.1.0 in
    let one = subst (IsRun q (i ∷ []) p) h.2 (one_run q p i h.0 h.1.1) in
    let fin = fin_run p in
    let far = run_append is (i ∷ []) state.Between q p u (good ++ tail) r one in
    let whole = run_append (is ++ i ∷ []) (fin_items p) state.Between p state.Between (u ++ (good ++ tail)) fin.0 far fin.1 in
    let made = run_blocks ((is ++ i ∷ []) ++ fin_items p) ((u ++ (good ++ tail)) ++ fin.0) whole in
    record {
      blocks = (taken_all nothing ((is ++ i ∷ []) ++ fin_items p)).blocks;
      have = made.0;
      tail = tail ++ fin.0;
      whole = ap (λ (z : List ℕ). first_line ++ z) (regroup u good tail fin.0 ∙ sym made.1);
    }
  where
    regroup : (a b c d : List ℕ) → (a ++ b) ++ (c ++ d) ≡ (a ++ (b ++ c)) ++ d
    regroup a b c d = simp append_assoc

-- the beginning of a beginning
begun_front : (front more : List ℕ) → IsBegun (front ++ more) → IsBegun front
begun_front front more b = record { blocks = b.blocks; have = b.have; tail = more ++ b.tail; whole = sym (append_assoc front more b.tail) ∙ b.whole }

split_at : (bytes front rest : List ℕ) → bytes ≡ front ++ rest → (take (length front) bytes ≡ front) × (length bytes - length rest ≡ length front)
split_at bytes front rest e = (ap (take (length front)) e ∙ take_at front rest (length front) refl, omega (arith, ap length e, length-append front rest))

one_more : (bytes front : List ℕ) (c : ℕ) (rest : List ℕ) → bytes ≡ front ++ (c ∷ rest) → take (length front + 1) bytes ≡ front ++ c ∷ []
one_more bytes front c rest e =
    ap (take (length front + 1)) (e ∙ sym (append_assoc front (c ∷ []) rest)) ∙ take_at (front ++ c ∷ []) rest (length front + 1) (length-append front (c ∷ []))

-- a place is known by what stands before it
place_of : (bytes front rest : List ℕ) (left : ℕ) → bytes ≡ front ++ rest → left ≡ length rest → IsBegun front → ((c : ℕ) (more : List ℕ) → rest ≡ c ∷ more → IsBegun (front ++ c ∷ []) → ⊥)
    → ((blocks : List Block) → All HasText blocks → bytes ≢ text blocks) → (left ≤ length bytes) × IsPlace bytes (length bytes - left)
place_of bytes front rest left e count begun stop never =
    let s = split_at bytes front rest e in
    let n : length bytes - left ≡ length front = omega (arith, count, s.1) in
    let place : IsPlace bytes (length front) = record {
      within = omega (arith, ap length e, length-append front rest);
      begun = subst IsBegun (sym s.0) begun;
      next = λ h b. next_by rest refl h b;
      end = λ h. never;
    } in
    (omega (arith, count, ap length e, length-append front rest), subst (IsPlace bytes) (sym n) place)
  where
    next_by : (r : List ℕ) → rest ≡ r → length front < length bytes → IsBegun (take (length front + 1) bytes) → ⊥
    next_by [] er h b = omega (arith, h, ap length e, length-append front rest, ap length er)
    next_by (c ∷ more) er h b = stop c more er (subst IsBegun (one_more bytes front c more (e ∙ ap (λ (z : List ℕ). front ++ z) er)) b)

-- where a piece goes wrong behind a run, that is the place
pub stop_place : (bytes : List ℕ) (is : List Item) (q : State) (u rest : List ℕ) (left : ℕ) → IsRun state.Between is q u → bytes ≡ first_line ++ (u ++ rest) → reading (item_row q) rest ≡ Err left → (q ≡ state.Between → rest ≢ [])
    → (left ≤ length bytes) × IsPlace bytes (length bytes - left)
stop_place bytes is q u rest left r e stop going =
    let b = (item_exact q).begins rest left stop in
    let parts : bytes ≡ (first_line ++ (u ++ b.good)) ++ b.rest =
    e ∙ ap (λ (z : List ℕ). first_line ++ (u ++ z)) (sym b.parts) ∙ regroup u b.good b.rest in
    place_of bytes (first_line ++ (u ++ b.good)) b.rest left parts b.count (begun_by is q u b.good b.tail b.value r b.text)
    (λ c more er g. no_more c more b.good (b.parts) er b.count g) never
  where
    regroup : (u good rest : List ℕ) → first_line ++ (u ++ (good ++ rest)) ≡ (first_line ++ (u ++ good)) ++ rest
    regroup u good rest = simp append_assoc

    -- nothing that goes on is a piece
    no_piece : (more : List Item) (s : List ℕ) (m : ℕ) → IsRun q more state.Between s → reading (item_row q) s ≡ Err m → (q ≡ state.Between → s ≢ []) → ⊥
    no_piece [] s m x f g = g x.0 (sym x.1)
    no_piece (i ∷ is) s m x f g = err_ok _ m (sym f ∙ ap (λ (z : List ℕ). reading (item_row q) z) (sym (append-nil s)) ∙ run_first q state.Between i is s [] x)

    never : (blocks : List Block) → All HasText blocks → bytes ≢ text blocks
    never blocks h same = let g = going_on is q u rest blocks r h (sym e ∙ same) in no_piece g.0 rest left g.1 stop going

    not_nil : (good : List ℕ) (c : ℕ) (t : List ℕ) → (good ++ c ∷ []) ++ t ≢ []
    not_nil [] c t z = cc
    not_nil (d ∷ good) c t z = cc

    no_more : (c : ℕ) (more good : List ℕ) {x : List ℕ} → good ++ x ≡ rest → x ≡ c ∷ more → left ≡ length x → IsBegun ((first_line ++ (u ++ good)) ++ c ∷ []) → ⊥
    no_more c more good {x} parts er count g =
        let again : reading (item_row q) ((good ++ c ∷ []) ++ more) ≡ Err left =
        ap (λ (z : List ℕ). reading (item_row q) z) (append_assoc good (c ∷ []) more ∙ ap (λ (z : List ℕ). good ++ z) (sym er) ∙ parts) ∙ stop in
        let l = (item_exact q).local (good ++ c ∷ []) more g.tail left again (omega (arith, count, ap length er)) in
        let whole : first_line ++ (u ++ ((good ++ c ∷ []) ++ g.tail)) ≡ text g.blocks = regroup_more u good c g.tail ∙ g.whole in
        let f = going_on is q u ((good ++ c ∷ []) ++ g.tail) g.blocks r g.have whole in
        no_piece f.0 ((good ++ c ∷ []) ++ g.tail) l.0 f.1 l.1 (λ s. not_nil good c g.tail)
      where
        regroup_more : (u good : List ℕ) (c : ℕ) (t : List ℕ) → first_line ++ (u ++ ((good ++ c ∷ []) ++ t)) ≡ ((first_line ++ (u ++ good)) ++ c ∷ []) ++ t
        regroup_more u good c t = simp append_assoc

-- where the first line goes wrong, that is the place
pub first_place : (bytes : List ℕ) (left : ℕ) → literal first_line bytes ≡ Err left → (left ≤ length bytes) × IsPlace bytes (length bytes - left)
first_place bytes left stop =
    let b = literal_begins first_line bytes left stop in
    place_of bytes b.good b.rest left (sym b.parts) b.count (record { blocks = []; have = none; tail = b.tail; whole = b.whole }) (λ c more er g. no_more c more b.good b.parts er b.count g) never
  where
    none : All HasText []
    none = search rules

    never : (blocks : List Block) → All HasText blocks → bytes ≢ text blocks
    never blocks h same = err_ok (flat_map block_text blocks) left (sym stop ∙ ap (literal first_line) same ∙ literal_again first_line (flat_map block_text blocks))

    no_more : (c : ℕ) (more good : List ℕ) {x : List ℕ} → good ++ x ≡ bytes → x ≡ c ∷ more → left ≡ length x → IsBegun (good ++ c ∷ []) → ⊥
    no_more c more good {x} parts er count g =
        let again : literal first_line ((good ++ c ∷ []) ++ more) ≡ Err left =
        ap (literal first_line) (append_assoc good (c ∷ []) more ∙ ap (λ (z : List ℕ). good ++ z) (sym er) ∙ parts) ∙ stop in
        let l = literal_local first_line (good ++ c ∷ []) more g.tail left again (omega (arith, count, ap length er)) in
        err_ok (flat_map block_text g.blocks) l.0 (sym l.1 ∙ ap (literal first_line) g.whole ∙ literal_again first_line (flat_map block_text g.blocks))

-- ---- there is one place, and none in a text

take_more : (m n : ℕ) (bytes : List ℕ) → m ≤ n → take m bytes ++ drop m (take n bytes) ≡ take n bytes
take_more m n bytes h = ap (λ (z : List ℕ). z ++ drop m (take n bytes)) (sym (take-take m n bytes h)) ∙ take-append-drop m (take n bytes)

not_before : (bytes : List ℕ) (m n : ℕ) → IsPlace bytes m → IsPlace bytes n → m < n → ⊥
not_before bytes m n a b h =
    a.next (omega (arith, h, b.within)) (begun_front (take (m + 1) bytes) (drop (m + 1) (take n bytes)) (subst IsBegun (sym (take_more (m + 1) n bytes (omega (arith, h)))) b.begun))

pub one_place : (bytes : List ℕ) (m n : ℕ) → IsPlace bytes m → IsPlace bytes n → m ≡ n
one_place bytes m n a b = omega (arith, not_before bytes m n a b, not_before bytes n m b a)

pub never_place : (bytes : List ℕ) (n : ℕ) (blocks : List Block) → All HasText blocks → bytes ≡ text blocks → IsPlace bytes n → ⊥
never_place bytes n blocks h e a = omega (arith, a.within, inside, ended_by)
  where
    inside : n < length bytes → ⊥
    inside lt = a.next lt (record { blocks = blocks; have = h; tail = drop (n + 1) bytes; whole = take-append-drop (n + 1) bytes ∙ e })

    ended_by : n ≡ length bytes → ⊥
    ended_by same = a.end same blocks h e

-- what begins a text and isn't one is refused at its end
pub prefix_place : (front tail : List ℕ) (blocks : List Block) → All HasText blocks → front ++ tail ≡ text blocks → ((others : List Block) → All HasText others → front ≢ text others) → IsPlace front (length front)
prefix_place front tail blocks h e never = record {
  within = omega arith;
  begun = subst IsBegun (sym (ap (take (length front)) (sym (append-nil front)) ∙ take_at front [] (length front) refl)) (record { blocks = blocks; have = h; tail = tail; whole = e });
  next = λ lt b. absurd (omega (arith, lt));
  end = λ s. never;
}
