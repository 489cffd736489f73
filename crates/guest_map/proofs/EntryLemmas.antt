-- The arguments' strings, and the stack that a process is entered with.
use Rattle.std.proofs.Common.{◌≡◌, ℕ, suc, ◌+◌, ◌-◌, ◌*◌, ◌<◌, ◌≤◌, List, [], ◌∷◌, ◌++◌, length, map, get_or, drop, refl, sym, ap, ◌∙◌, arith, length-append}
use Rattle.std.proofs.lemmas.List.{append_assoc, append-nil, drop_more, drop_all, length-replicate, length-map}
use Rattle.byteorder.specs.Endian.{little_bytes}
use Rattle.address_space.specs.Addresses.{top, bottom}
use Rattle.guest_map.specs.Addresses.{zeros}
use Rattle.guest_map.specs.Entry.{up16, strings, pointers, string_base, entry_rsp, entry_words, eightbytes, entry_stack}

pub length-zeros : (from to : ℕ) → length (zeros from to) ≡ to - from
unfolding zeros
length-zeros from to = length-replicate (to - from) 0

pub length-strings : (a : List ℕ) (args : List (List ℕ)) → length (strings (a ∷ args)) ≡ length a + (1 + length (strings args))
unfolding strings
length-strings a args = omega (arith, length-append a (0 ∷ strings args))

-- each has a byte
pub few : (args : List (List ℕ)) → length args ≤ length (strings args)
few [] = omega arith
few (a ∷ args) = omega (arith, few args, length-strings a args)

pub up16_from : (n : ℕ) → n ≤ up16 n
up16_from n = omega arith

pub up16_to : (n : ℕ) → up16 n < n + 16
up16_to n = omega arith

strings_push : (bs a : List ℕ) (args : List (List ℕ)) → bs ++ strings (a ∷ args) ≡ ((bs ++ a) ++ 0 ∷ []) ++ strings args
unfolding strings
strings_push bs a args = sym (append_assoc bs a (0 ∷ strings args)) ∙ sym (append_assoc (bs ++ a) (0 ∷ []) (strings args))

pointers_push : (bs : List ℕ) (at : ℕ) (a : List ℕ) (args : List (List ℕ)) → bs ++ eightbytes (pointers at (a ∷ args)) ≡ (bs ++ little_bytes 8 at) ++ eightbytes (pointers (at + (length a + 1)) args)
unfolding pointers eightbytes
pointers_push bs at a args = sym (append_assoc bs (little_bytes 8 at) (eightbytes (pointers (at + (length a + 1)) args)))

strings_none : (bs : List ℕ) → bs ++ strings [] ≡ bs
unfolding strings
strings_none bs = append-nil bs

pointers_none : (bs : List ℕ) (at : ℕ) → bs ++ eightbytes (pointers at []) ≡ bs
unfolding pointers eightbytes
pointers_none bs at = append-nil bs

module _ {X : Type 0} (f : X → List ℕ) (xs : List X) (i : ℕ) (x : X) (lt : i < length xs) (is : x ≡ get_or xs i x) where
  pub rest : map f (drop i xs) ≡ f x ∷ map f (drop (i + 1) xs)
  rest = ap (map f) (drop_more xs i x lt) ∙ ap (λ y. f y ∷ map f (drop (i + 1) xs)) (sym is)

  pub size_more : length (strings (map f (drop i xs))) ≡ length (f x) + (1 + length (strings (map f (drop (i + 1) xs))))
  size_more = ap (λ ys. length (strings ys)) rest ∙ length-strings (f x) (map f (drop (i + 1) xs))

  pub strings_more : (bs : List ℕ) → bs ++ strings (map f (drop i xs)) ≡ ((bs ++ f x) ++ 0 ∷ []) ++ strings (map f (drop (i + 1) xs))
  strings_more bs = ap (λ ys. bs ++ strings ys) rest ∙ strings_push bs (f x) (map f (drop (i + 1) xs))

  pub pointers_more : (bs : List ℕ) (at : ℕ) → bs ++ eightbytes (pointers at (map f (drop i xs))) ≡ (bs ++ little_bytes 8 at) ++ eightbytes (pointers (at + (length (f x) + 1)) (map f (drop (i + 1) xs)))
  pointers_more bs at = ap (λ ys. bs ++ eightbytes (pointers at ys)) rest ∙ pointers_push bs at (f x) (map f (drop (i + 1) xs))

module _ {X : Type 0} (f : X → List ℕ) (xs : List X) (i : ℕ) (past : length xs ≤ i) where
  pub none_left : map f (drop i xs) ≡ []
  none_left = ap (map f) (drop_all i xs past)

  pub strings_all : (bs : List ℕ) → bs ++ strings (map f (drop i xs)) ≡ bs
  strings_all bs = ap (λ ys. bs ++ strings ys) none_left ∙ strings_none bs

  pub pointers_all : (bs : List ℕ) (at : ℕ) → bs ++ eightbytes (pointers at (map f (drop i xs))) ≡ bs
  pointers_all bs at = ap (λ ys. bs ++ eightbytes (pointers at ys)) none_left ∙ pointers_none bs at

  pub size_all : length (strings (map f (drop i xs))) ≡ 0
  size_all = ap length (strings_all [])

eightbytes-append : (xs ys : List ℕ) → eightbytes (xs ++ ys) ≡ eightbytes xs ++ eightbytes ys
unfolding eightbytes
eightbytes-append [] ys = refl
eightbytes-append (x ∷ xs) ys = ap (λ bs. little_bytes 8 x ++ bs) (eightbytes-append xs ys) ∙ sym (append_assoc (little_bytes 8 x) (eightbytes xs) (eightbytes ys))

eightbytes-one : (x : ℕ) (xs : List ℕ) → eightbytes (x ∷ xs) ≡ little_bytes 8 x ++ eightbytes xs
unfolding eightbytes
eightbytes-one x xs = refl

eightbytes-none : eightbytes [] ≡ []
unfolding eightbytes
eightbytes-none = refl

join_six : (bs n p a b c d : List ℕ) → (((((bs ++ n) ++ p) ++ a) ++ b) ++ c) ++ d ≡ bs ++ (n ++ (p ++ (a ++ (b ++ (c ++ (d ++ []))))))
join_six bs n p a b c d = simp (append_assoc, append-nil) refl

-- argc, the pointers, and four nulls
pub words_are : (bs ps : List ℕ) (n : ℕ) → (((((bs ++ little_bytes 8 n) ++ eightbytes ps) ++ little_bytes 8 0) ++ little_bytes 8 0) ++ little_bytes 8 0) ++ little_bytes 8 0 ≡ bs ++ eightbytes (n ∷ (ps ++ (0 ∷ 0 ∷ 0 ∷ 0 ∷ [])))
words_are bs ps n =
    join_six bs (little_bytes 8 n) (eightbytes ps) (little_bytes 8 0) (little_bytes 8 0) (little_bytes 8 0) (little_bytes 8 0)
    ∙ ap (λ ys. bs ++ ys) (sym (eightbytes-one n (ps ++ (0 ∷ 0 ∷ 0 ∷ 0 ∷ [])) ∙ ap (λ ys. little_bytes 8 n ++ ys) (eightbytes-append ps (0 ∷ 0 ∷ 0 ∷ 0 ∷ []) ∙ ap (λ ys. eightbytes ps ++ ys) (zeros_are little_bytes))))
  where
    zeros_are : (lb : ℕ → ℕ → List ℕ) → eightbytes (0 ∷ 0 ∷ 0 ∷ 0 ∷ []) ≡ little_bytes 8 0 ++ (little_bytes 8 0 ++ (little_bytes 8 0 ++ (little_bytes 8 0 ++ [])))
    zeros_are lb = rw (eightbytes-one, eightbytes-one, eightbytes-one, eightbytes-one, eightbytes-none) refl

join_five : (a b c d e : List ℕ) → (((([] ++ a) ++ b) ++ c) ++ d) ++ e ≡ a ++ (b ++ (c ++ (d ++ e)))
join_five a b c d e = simp append_assoc refl

pub stack_is : (args : List (List ℕ)) → (((([] ++ zeros (bottom 0) (entry_rsp args)) ++ eightbytes (entry_words args)) ++ zeros (entry_rsp args + 8 * (length args + 5)) (string_base args)) ++ strings args) ++ zeros (string_base args + length (strings args)) (top 0) ≡ entry_stack args
unfolding entry_stack
stack_is args = join_five (zeros (bottom 0) (entry_rsp args)) (eightbytes (entry_words args)) (zeros (entry_rsp args + 8 * (length args + 5)) (string_base args)) (strings args) (zeros (string_base args + length (strings args)) (top 0))

module _ {X : Type 0} (f : X → List ℕ) (xs : List X) where
  pub words_of : (bs : List ℕ) (base : ℕ) → base ≡ string_base (map f xs) → (((((bs ++ little_bytes 8 (length xs)) ++ eightbytes (pointers base (map f xs))) ++ little_bytes 8 0) ++ little_bytes 8 0) ++ little_bytes 8 0) ++ little_bytes 8 0 ≡ bs ++ eightbytes (entry_words (map f xs))
  words_of bs base e =
      words_are bs (pointers base (map f xs)) (length xs)
      ∙ (ap (λ n. bs ++ eightbytes (n ∷ (pointers base (map f xs) ++ (0 ∷ 0 ∷ 0 ∷ 0 ∷ [])))) (sym (length-map xs f))
      ∙ ap (λ b. bs ++ eightbytes (length (map f xs) ∷ (pointers b (map f xs) ++ (0 ∷ 0 ∷ 0 ∷ 0 ∷ [])))) e)

  pub stack_of : (low high size base rsp : ℕ) → low ≡ bottom 0 → high ≡ top 0 → size ≡ length (strings (map f xs)) → base ≡ string_base (map f xs) → rsp ≡ entry_rsp (map f xs) → (((([] ++ zeros low rsp) ++ eightbytes (entry_words (map f xs))) ++ zeros (rsp + 8 * (length xs + 5)) base) ++ strings (map f xs)) ++ zeros (base + size) high ≡ entry_stack (map f xs)
  stack_of low high size base rsp l h s b r = rw (l, h, s, b, r, ← length-map xs f) (stack_is (map f xs))

pub few_of : {X : Type 0} (f : X → List ℕ) (xs : List X) → length (strings (map f xs)) ≤ 4096 → length xs ≤ 4096
few_of f xs short = omega (arith, few (map f xs), length-map xs f)

length-eightbytes : (xs : List ℕ) → length (eightbytes xs) ≡ 8 * length xs
unfolding eightbytes
length-eightbytes [] = refl
length-eightbytes (x ∷ xs) = omega (arith, length-eightbytes xs, length-append (little_bytes 8 x) (eightbytes xs))

length-pointers : (at : ℕ) (args : List (List ℕ)) → length (pointers at args) ≡ length args
unfolding pointers
length-pointers at [] = refl
length-pointers at (a ∷ args) = ap suc (length-pointers (at + (length a + 1)) args)

length_five : (a b c d e : List ℕ) → length (a ++ (b ++ (c ++ (d ++ e)))) ≡ length a + (length b + (length c + (length d + length e)))
length_five a b c d e = omega (arith, length-append a (b ++ (c ++ (d ++ e))), length-append b (c ++ (d ++ e)), length-append c (d ++ e), length-append d e)

length-words : (args : List (List ℕ)) → length (eightbytes (entry_words args)) ≡ 8 * (length args + 5)
length-words args = omega (arith, length-eightbytes (entry_words args), length-append (pointers (string_base args) args) (0 ∷ 0 ∷ 0 ∷ 0 ∷ []), length-pointers (string_base args) args)

pub length-entry_stack : (args : List (List ℕ)) → length (strings args) ≤ 4096 → length (entry_stack args) ≡ 65536
unfolding entry_stack
length-entry_stack args short = omega (
  arith,
  short,
  few args,
  length_five (zeros (bottom 0) (entry_rsp args)) (eightbytes (entry_words args)) (zeros (entry_rsp args + 8 * (length args + 5)) (string_base args)) (strings args) (zeros (string_base args + length (strings args)) (top 0)),
  length-zeros (bottom 0) (entry_rsp args),
  length-words args,
  length-zeros (entry_rsp args + 8 * (length args + 5)) (string_base args),
  length-zeros (string_base args + length (strings args)) (top 0),
)
