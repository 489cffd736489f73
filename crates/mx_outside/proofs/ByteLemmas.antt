-- Bytes that are taken or written in pieces.
use Rattle.std.proofs.Common.{◌≡◌, ℕ, ◌+◌, ◌-◌, ◌≤◌, List, ◌++◌, length, take, drop, Option, None, Some, sym, ap, ◌∙◌, arith}
use Rattle.std.specs.Io.KnownBytes.{Consumes, Appends, Keeps}
use Rattle.std.proofs.lemmas.List.{append_assoc, take-append-drop, take-take, drop-take, take_at, length-take-le, drop-drop, take_rest}

-- one piece and then another was taken
pub Consumes-append : (a b c : Option (List ℕ)) (xs ys : List ℕ) → Consumes a b xs → Consumes b c ys → Consumes a c (xs ++ ys)
Consumes-append None b c xs ys p q = tt
Consumes-append (Some a) None c xs ys p q = absurd p
Consumes-append (Some a) (Some b) None xs ys p q = absurd q
Consumes-append (Some a) (Some b) (Some c) xs ys p q = p ∙ ap (λ r. xs ++ r) q ∙ sym (append_assoc xs ys c)

-- some first items, and then some of the rest
pub take-add : (m n : ℕ) (xs : List ℕ) → take (m + n) xs ≡ take m xs ++ take n (drop m xs)
take-add m n xs = cc (take-append-drop m (take (m + n) xs), take-take m (m + n) xs (omega arith), drop-take m n xs)

-- some first bytes were written, and then some of the rest
pub Appends-take : (a b c : Option (List ℕ)) (m n : ℕ) (bytes : List ℕ) → Appends a b (take m bytes) → Appends b c (take n (drop m bytes)) → Appends a c (take (m + n) bytes)
Appends-take None b c m n bytes p q = tt
Appends-take (Some a) None c m n bytes p q = absurd p
Appends-take (Some a) (Some b) None m n bytes p q = absurd q
Appends-take (Some a) (Some b) (Some c) m n bytes p q = q ∙ ap (λ r. r ++ take n (drop m bytes)) p ∙ append_assoc a _ _ ∙ ap (λ r. a ++ r) (sym (take-add m n bytes))

-- what is written and left after a refusal is as before
pub Appends-kept : (a b c : Option (List ℕ)) (bytes : List ℕ) → Appends a b bytes → Keeps b c → Appends a c bytes
Appends-kept None b c bytes p q = tt
Appends-kept (Some a) None c bytes p q = absurd p
Appends-kept (Some a) (Some b) None bytes p q = absurd q
Appends-kept (Some a) (Some b) (Some c) bytes p q = q ∙ p

-- the next n bytes, copied to the front of a buffer, are what is taken from those that are left
pub piece-taken : (left bytes copied rest : List ℕ) (at n : ℕ) → drop at bytes ≡ left → copied ≡ take n (take (length bytes - at) (drop at bytes)) → n ≤ length (drop at bytes) → left ≡ take n (copied ++ rest) ++ drop (at + n) bytes
piece-taken left bytes copied rest at n l c h =
    let e : copied ≡ take n (drop at bytes) = c ∙ ap (λ r. take n r) (take_rest bytes at) in
    let front : take n (copied ++ rest) ≡ take n (drop at bytes) = take_at copied rest n (ap length e ∙ length-take-le n (drop at bytes) h) ∙ e in
    sym l ∙ sym (take-append-drop n (drop at bytes)) ∙ ap (λ r. r ++ drop n (drop at bytes)) (sym front) ∙ ap (λ r. take n (copied ++ rest) ++ r) (drop-drop n at bytes)
