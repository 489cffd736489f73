-- The low bytes of a number, one after another.
use Rattle.std.proofs.Common.{◌≡◌, ℕ, suc, ◌+◌, ◌-◌, ◌/◌, ◌%◌, ◌<◌, ◌≤◌, List, [], ◌∷◌, ◌++◌, arith, append_assoc, append-nil}
use Rattle.guest_asm.specs.Places.{low_bytes}

pub low_step : (xs : List ℕ) (n c r : ℕ) → c < n → (xs ++ (r % 256) ∷ []) ++ low_bytes (n - (c + 1)) (r / 256) ≡ xs ++ low_bytes (n - c) r
low_step xs n c r h =
    let e : n - c ≡ suc (n - (c + 1)) = omega (arith, h) in
    rw e (append_assoc xs ((r % 256) ∷ []) (low_bytes (n - (c + 1)) (r / 256)))

pub low_end : (xs : List ℕ) (n c r : ℕ) → n ≤ c → xs ++ low_bytes (n - c) r ≡ xs
low_end xs n c r h =
    let e : n - c ≡ 0 = omega (arith, h) in
    rw e (append-nil xs)
