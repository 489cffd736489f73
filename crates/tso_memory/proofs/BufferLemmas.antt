-- Bytes of numbers, and what a buffer shows.
use Rattle.std.proofs.Common.{◌≡◌, ℕ, zero, suc, ◌+◌, ◌<◌, ◌≤◌, List, [], ◌∷◌, length, get_or, take, slice_get, None, refl, sym, ap, ◌∙◌, arith, add-zero}
use Rattle.std.specs.Int.{byte_at, bytes_low_first}
use Rattle.tso_memory.specs.declared.write.PendingWrite.{PendingWrite}

-- the byte at a place of a number's bytes
pub low_first_at : (n k i v : ℕ) → k < n → get_or (bytes_low_first i n v) k 0 ≡ byte_at (i + k) v
low_first_at zero k i v h = absurd (omega arith)
low_first_at (suc n) zero i v h = ap (λ j. byte_at j v) (sym (add-zero i))
low_first_at (suc n) (suc k) i v h = low_first_at n k (suc i) v (omega arith) ∙ (let e : suc i + k ≡ i + suc k = omega arith in ap (λ j. byte_at j v) e)

-- the first bytes of a number are those of a narrower one
pub take_low_first : (n m i v : ℕ) → n ≤ m → take n (bytes_low_first i m v) ≡ bytes_low_first i n v
take_low_first zero m i v h = refl
take_low_first (suc n) zero i v h = absurd (omega arith)
take_low_first (suc n) (suc m) i v h = ap (λ bs. byte_at i v ∷ bs) (take_low_first n m (suc i) v (omega arith))

-- a place below the length has a write
pub there : (ps : List PendingWrite) (i : ℕ) → i < length ps → slice_get ps i ≡ None → ⊥
there [] i h e = omega arith
there (q ∷ ps) zero h e = cc
there (q ∷ ps) (suc i) h e = there ps i (omega arith) e
