-- Tables of entries, one more at a time.
use Rattle.std.proofs.Common.{◌≡◌, ℕ, ◌+◌, ◌*◌, List, [], ◌∷◌, ◌++◌, append_assoc, arith}
use Rattle.std.proofs.lemmas.List.FromFn.{map-range_with_len_more}
use Rattle.elf_image.specs.Elf.{table}

-- one more entry
pub table_more : {X : Type 0} (entry : List ℕ → ℕ → X) (offset size n : ℕ) (bytes : List ℕ) → table entry offset size (n + 1) bytes ≡ table entry offset size n bytes ++ entry bytes (offset + size * n) ∷ []
table_more entry offset size n bytes = map-range_with_len_more (λ k. entry bytes (offset + size * k)) 0 n n (omega arith)

-- the same behind other items
pub pushed_more : {X : Type 0} (entry : List ℕ → ℕ → X) (offset size n : ℕ) (bytes : List ℕ) (first xs ys : List X) (x : X) → xs ≡ first ++ table entry offset size n bytes → ys ≡ xs ++ x ∷ [] → x ≡ entry bytes (offset + size * n) → ys ≡ first ++ table entry offset size (n + 1) bytes
pushed_more entry offset size n bytes first xs ys x so_far pushed is =
    rw (pushed, so_far, is, table_more entry offset size n bytes) (append_assoc first (table entry offset size n bytes) (entry bytes (offset + size * n) ∷ []))
