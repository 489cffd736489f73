-- Blocks that are accepted one after another.
use Rattle.std.proofs.Common.{◌≡◌, ℕ, zero, suc, ◌+◌, ◌<◌, ◌≤◌, ◌⊎◌, inl, inr, Bool, true, false, cond, List, [], ◌∷◌, ◌++◌, map, refl, sym, ap, ◌∙◌, subst, arith, length, Some, None}
use Rattle.std.specs.Prelude.{◌==◌, ◌||◌, IsTrue, if◌then◌else◌, ⊤}
use Rattle.std.specs.List.Sorted.{IsStrictlySortedBy}
use Rattle.std.specs.Ordering.{nat_cmp, match_ordering}
use Rattle.std.specs.declared.cmp.Ordering.{Ordering}
use Rattle.std.specs.declared.cmp.Ordering.TheVariants.{Less, Equal, Greater}
use Rattle.std.specs.BTreeMap.{insert_entry, is_at}
use Rattle.std.specs.Map.{lookup}
use Rattle.std.specs.Option.{is_some}
use Rattle.std.specs.Result.{IfErr, IsErrAnd}
use Rattle.std.specs.Prelude.{Result, Ok, Err}
use Rattle.std.proofs.lemmas.List.{append_assoc, append-nil}
use Rattle.std.proofs.lemmas.List.Folds.{list_any-append}
use Rattle.std.proofs.lemmas.Bool.Decides.{nat_tests}
use Rattle.elf_image.specs.Layout.{ImageData}
use Rattle.ir_syntax.specs.declared.block.Block.{Block}
use Rattle.basic_blocks.specs.Places.{is_code_place}
use Rattle.basic_blocks.specs.Reach.{is_among}
use Rattle.lift_table.specs.Block.{lifted_block}
use Rattle.block_lift.specs.declared.accepting.AcceptFault.{AcceptFault}
use Rattle.block_lift.specs.declared.accepting.AcceptFault.TheVariants.{Stale, Twice, Memory}
use Rattle.block_lift.specs.Accepted.{IsFresh, standing, places_of, AreRight, AreAccepted, IsFirstWrong, TellsStale, IsFaultOf}

or-none : (b : Bool) → (b || false) ≡ b
or-none true = refl
or-none false = refl

or_turned : (a b : Bool) → (a || b) ≡ (b || a)
or_turned true true = refl
or_turned true false = refl
or_turned false true = refl
or_turned false false = refl

or_swap : (a b r : Bool) → (a || (b || r)) ≡ (b || (a || r))
or_swap true true r = refl
or_swap true false r = refl
or_swap false true r = refl
or_swap false false r = refl

same_again : (b r : Bool) → (b || r) ≡ (b || (b || r))
same_again true r = refl
same_again false r = refl

same_cmp : (a x : ℕ) → nat_cmp a x ≡ Equal → a ≡ x
same_cmp a x h = grind (arith, nat_tests)

-- ---- places

abbrev pub keys_of : List (ℕ × Block) → List ℕ
keys_of es = map (λ e. e.0) es

places-append : (xs ys : List Block) → places_of (xs ++ ys) ≡ places_of xs ++ places_of ys
places-append [] ys = refl
places-append (x ∷ xs) ys = ap (λ l. x.at ∷ l) (places-append xs ys)

among_both : (xs : List Block) (b : Block) (a : ℕ) → is_among (places_of (xs ++ b ∷ [])) a ≡ (is_among (places_of xs) a || (b.at == a))
among_both xs b a = ap (λ l. is_among l a) (places-append xs (b ∷ [])) ∙ list_any-append (λ x. x == a) (places_of xs) (b.at ∷ []) ∙ ap (λ t. is_among (places_of xs) a || t) (or-none (b.at == a))

-- ---- right blocks, one more

apart_turned : (a b : ℕ) → (a == b) ≡ false → (b == a) ≡ false
apart_turned a b h = grind (arith, nat_tests)

none-or : (a b : Bool) → (a || b) ≡ false → (a ≡ false) × (b ≡ false)
none-or true b h = absurd (cc)
none-or false b h = (refl, h)

or_false : (a b : Bool) → a ≡ false → b ≡ false → (a || b) ≡ false
or_false a b h k = rw (h, k) refl

right_more : (image : ImageData) (xs : List Block) (b : Block) → AreRight image xs → IsFresh image b → is_among (places_of xs) b.at ≡ false → AreRight image (xs ++ b ∷ [])
right_more image [] b r f n = (f, refl, tt)
right_more image (x ∷ xs) b r f n =
    let apart = none-or (x.at == b.at) (is_among (places_of xs) b.at) n in
    (r.0, among_both xs b x.at ∙ or_false _ _ r.1 (apart_turned x.at b.at apart.0), right_more image xs b r.2 f apart.1)

-- ---- what is kept

-- the kept blocks are those so far, by rising address
pub record IsKept (image : ImageData) (so_far : List Block) (entries : List (ℕ × Block)) : Type 0 where
  pub right : AreRight image so_far
  pub fresh : entries ≡ map (λ a. (a, lifted_block image a)) (keys_of entries)
  pub same : (a : ℕ) → is_among (keys_of entries) a ≡ is_among (places_of so_far) a

pub kept_none : (image : ImageData) (entries : List (ℕ × Block)) → entries ≡ [] → IsKept image [] entries
kept_none image entries e = rw e (record { right = tt; fresh = refl; same = λ a. refl })

abbrev fresh_entry : ImageData → ℕ → ℕ × Block
fresh_entry image a = (a, lifted_block image a)

abbrev AreEntries : ImageData → List (ℕ × Block) → Type 0
AreEntries image es = es ≡ map (fresh_entry image) (keys_of es)

head_of : ℕ × Block → List (ℕ × Block) → ℕ × Block
head_of d [] = d
head_of d (e ∷ es) = e

tail_of : List (ℕ × Block) → List (ℕ × Block)
tail_of [] = []
tail_of (e ∷ es) = es

first_fresh : (image : ImageData) (e : ℕ × Block) (es : List (ℕ × Block)) → AreEntries image (e ∷ es) → e ≡ fresh_entry image e.0
unfolding head_of
first_fresh image e es h = ap (head_of e) h

rest_fresh : (image : ImageData) (e : ℕ × Block) (es : List (ℕ × Block)) → AreEntries image (e ∷ es) → AreEntries image es
unfolding tail_of
rest_fresh image e es h = ap tail_of h

cons_fresh : (image : ImageData) (e : ℕ × Block) (es : List (ℕ × Block)) → e ≡ fresh_entry image e.0 → AreEntries image es → AreEntries image (e ∷ es)
cons_fresh image e es h k = ap (λ x. x ∷ es) h ∙ ap (λ x. fresh_entry image e.0 ∷ x) k

inserted_by : (image : ImageData) (o : Ordering) (a : ℕ) (e : ℕ × Block) (es : List (ℕ × Block)) → nat_cmp a e.0 ≡ o → AreEntries image (e ∷ es) → AreEntries image (insert_entry nat_cmp es a (lifted_block image a)) → AreEntries image (match_ordering o ((a, lifted_block image a) ∷ e ∷ es) ((e.0, lifted_block image a) ∷ es) (e ∷ insert_entry nat_cmp es a (lifted_block image a)))
inserted_by image Less a e es c h more = cons_fresh image (a, lifted_block image a) (e ∷ es) refl h
inserted_by image Equal a e es c h more = cons_fresh image (e.0, lifted_block image a) es (ap (λ x. (e.0, lifted_block image x)) (same_cmp a e.0 c)) (rest_fresh image e es h)
inserted_by image Greater a e es c h more = cons_fresh image e (insert_entry nat_cmp es a (lifted_block image a)) (first_fresh image e es h) more

inserted_fresh : (image : ImageData) (a : ℕ) (es : List (ℕ × Block)) → AreEntries image es → AreEntries image (insert_entry nat_cmp es a (lifted_block image a))
inserted_fresh image a [] h = refl
inserted_fresh image a (e ∷ es) h = inserted_by image (nat_cmp a e.0) a e es refl h (inserted_fresh image a es (rest_fresh image e es h))

among_by : (o : Ordering) (a q : ℕ) (v : Block) (e : ℕ × Block) (es : List (ℕ × Block)) → nat_cmp a e.0 ≡ o → is_among (keys_of (insert_entry nat_cmp es a v)) q ≡ ((a == q) || is_among (keys_of es) q) → is_among (keys_of (match_ordering o ((a, v) ∷ e ∷ es) ((e.0, v) ∷ es) (e ∷ insert_entry nat_cmp es a v))) q ≡ ((a == q) || ((e.0 == q) || is_among (keys_of es) q))
among_by Less a q v e es c more = refl
among_by Equal a q v e es c more = rw (same_cmp a e.0 c) (same_again (e.0 == q) (is_among (keys_of es) q))
among_by Greater a q v e es c more = rw more (or_swap (e.0 == q) (a == q) (is_among (keys_of es) q))

among_inserted : (a q : ℕ) (v : Block) (es : List (ℕ × Block)) → is_among (keys_of (insert_entry nat_cmp es a v)) q ≡ ((a == q) || is_among (keys_of es) q)
among_inserted a q v [] = refl
among_inserted a q v (e ∷ es) = among_by (nat_cmp a e.0) a q v e es refl (among_inserted a q v es)

pub kept_more : (image : ImageData) (so_far : List Block) (entries now : List (ℕ × Block)) (b : Block) → IsKept image so_far entries → IsFresh image b → is_among (keys_of entries) b.at ≡ false → now ≡ insert_entry nat_cmp entries b.at b → IsKept image (so_far ++ b ∷ []) now
kept_more image so_far entries now b k f none e =
    let here : now ≡ insert_entry nat_cmp entries b.at (lifted_block image b.at) = e ∙ ap (insert_entry nat_cmp entries b.at) f.1 in
    rw here (record {
      right = right_more image so_far b k.right f (sym (k.same b.at) ∙ none);
      fresh = inserted_fresh image b.at entries k.fresh;
      same = λ a. among_inserted b.at a (lifted_block image b.at) entries ∙ or_turned (b.at == a) (is_among (keys_of entries) a) ∙ ap (λ t. t || (b.at == a)) (k.same a) ∙ sym (among_both so_far b a);
    })

-- ---- the answers

abbrev pub blocks_of : List (ℕ × Block) → List Block
blocks_of es = map (λ e. e.1) es

values_are : (image : ImageData) (ks : List ℕ) → blocks_of (map (fresh_entry image) ks) ≡ map (lifted_block image) ks
values_are image [] = refl
values_are image (k ∷ ks) = ap (λ l. lifted_block image k ∷ l) (values_are image ks)

places_are : (image : ImageData) (ks : List ℕ) → places_of (map (lifted_block image) ks) ≡ ks
places_are image [] = refl
places_are image (k ∷ ks) = ap (λ l. k ∷ l) (places_are image ks)

pub accepted_all : (image : ImageData) (blocks so_far accepted : List Block) (entries : List (ℕ × Block)) → IsKept image so_far entries → so_far ≡ blocks → accepted ≡ blocks_of entries → IsStrictlySortedBy nat_cmp (keys_of entries) → AreAccepted image blocks accepted
accepted_all image blocks so_far accepted entries k whole e rising =
    let all : accepted ≡ map (lifted_block image) (keys_of entries) = e ∙ ap blocks_of k.fresh ∙ values_are image (keys_of entries) in
    let places : places_of accepted ≡ keys_of entries = ap places_of all ∙ places_are image (keys_of entries) in
    record {
      right = subst (AreRight image) whole k.right;
      rising = subst (IsStrictlySortedBy nat_cmp) (sym places) rising;
      same = λ a. ap (λ l. is_among l a) places ∙ k.same a ∙ ap (λ l. is_among (places_of l) a) whole;
      fresh = all ∙ ap (map (lifted_block image)) (sym places);
    }

is_same : (a k : ℕ) → is_at (nat_cmp a) k ≡ (k == a)
is_same a k = grind (arith, nat_tests)

there_by : (b d : Bool) (v : Block) (es : List (ℕ × Block)) (a : ℕ) → b ≡ d → is_some (lookup (is_at (nat_cmp a)) es) ≡ is_among (keys_of es) a → is_some (cond b (Some v) (lookup (is_at (nat_cmp a)) es)) ≡ (d || is_among (keys_of es) a)
there_by true d v es a h more = rw (← h) refl
there_by false d v es a h more = rw (← h) more

pub is_there : (es : List (ℕ × Block)) (a : ℕ) → is_some (lookup (is_at (nat_cmp a)) es) ≡ is_among (keys_of es) a
is_there [] a = refl
is_there (e ∷ es) a = there_by (is_at (nat_cmp a) e.0) (e.0 == a) e.1 es a (is_same a e.0) (is_there es a)

-- ---- one block after another

pub split_next : (blocks so_far here rest : List Block) (b : Block) → blocks ≡ so_far ++ here → here ≡ b ∷ rest → blocks ≡ (so_far ++ b ∷ []) ++ rest
split_next blocks so_far here rest b h e = h ∙ ap (λ x. so_far ++ x) e ∙ sym (append_assoc so_far (b ∷ []) rest)

pub kept_next : (image : ImageData) (so_far : List Block) (entries now : List (ℕ × Block)) (b judged : Block) (there : Bool) → IsKept image so_far entries → judged ≡ b → IsFresh image b → there ≡ is_among (keys_of entries) judged.at → there ≡ false → now ≡ insert_entry nat_cmp entries judged.at judged → IsKept image (so_far ++ b ∷ []) now
kept_next image so_far entries now b judged there k same f is none e =
    kept_more image so_far entries now b k f (ap (λ x. is_among (keys_of entries) x.at) (sym same) ∙ sym is ∙ none) (e ∙ ap (λ x. insert_entry nat_cmp entries x.at x) same)

pub twice_next : (image : ImageData) (blocks so_far here rest : List Block) (entries : List (ℕ × Block)) (b judged : Block) (there : Bool) → IsKept image so_far entries → blocks ≡ so_far ++ here → here ≡ b ∷ rest → judged ≡ b → IsFresh image b → there ≡ is_among (keys_of entries) judged.at → there ≡ true → IsFaultOf image blocks (Twice judged.at)
twice_next image blocks so_far here rest entries b judged there k h e same f is met =
    let at : b.at ≡ judged.at = ap (λ x. x.at) (sym same) in
    let found : is_among (keys_of entries) b.at ≡ true = ap (is_among (keys_of entries)) at ∙ sym is ∙ met in (
      b,
      at,
      record {
        before = so_far;
        after = rest;
        split = h ∙ ap (λ x. so_far ++ x) e;
        right = k.right;
        here = (f, sym (k.same judged.at) ∙ ap (is_among (keys_of entries)) (sym at) ∙ found);
      },
    )

pub stale_next : (image : ImageData) (blocks so_far here rest : List Block) (entries : List (ℕ × Block)) (b : Block) (e : AcceptFault) → IsKept image so_far entries → blocks ≡ so_far ++ here → here ≡ b ∷ rest → TellsStale image b e → IsFaultOf image blocks e
stale_next image blocks so_far here rest entries b (Stale address file lifted) k h e t = record {
  before = so_far;
  after = rest;
  split = h ∙ ap (λ x. so_far ++ x) e ∙ ap (λ x. so_far ++ x ∷ rest) (sym t.2);
  right = k.right;
  here = subst (λ x. TellsStale image x (Stale address file lifted)) (sym t.2) t;
}
stale_next image blocks so_far here rest entries b (Twice a) k h e t = absurd t
stale_next image blocks so_far here rest entries b (Memory m) k h e t = tt

none_left : (xs : List Block) → length xs ≡ 0 → xs ≡ []
none_left [] e = refl
none_left (x ∷ xs) e = absurd (omega arith)

pub all_taken : (blocks so_far here : List Block) → blocks ≡ so_far ++ here → length here ≡ 0 → so_far ≡ blocks
all_taken blocks so_far here h e = sym (append-nil so_far) ∙ ap (λ x. so_far ++ x) (sym (none_left here e)) ∙ sym h

-- an error that is handed on
pub err_kept : {A E : Type 0} (r : Result A E) (e : E) (P : E → Type 0) → IsErrAnd r (λ y. y ≡ e) → P e → IfErr r P
err_kept (Ok x) e P h p = tt
err_kept (Err y) e P h p = subst P (sym h) p
