-- Bytes that are copied out of memory.
use Rattle.std.proofs.Common.{◌≡◌, ℕ, suc, ◌+◌, ◌-◌, ◌<◌, ◌≤◌, List, [], ◌∷◌, length, get_or, take, drop, refl, sym, ap, ◌∙◌, arith, add-zero, length-drop, zero}
use Rattle.std.proofs.lemmas.List.{get_or-drop, get_or-take, length-take-le}
use Rattle.tso_memory.specs.Piece.{PieceData}
use Rattle.tso_memory.specs.Memory.{Memory, byte_of, cell_byte, bytes_from}
use Rattle.tso_memory.proofs.RunLemmas.{IsRun, run_get}

-- a list of n bytes that are memory's from an address on
pub bytes_from-is : (m : Memory) (a n : ℕ) (xs : List ℕ) → length xs ≡ n → ((k : ℕ) → k < n → get_or xs k 0 ≡ byte_of m (a + k)) → xs ≡ bytes_from m a n
unfolding bytes_from
bytes_from-is m a zero [] e h = refl
bytes_from-is m a zero (x ∷ xs) e h = absurd (omega (arith, e))
bytes_from-is m a (suc n) [] e h = absurd (omega (arith, e))
bytes_from-is m a (suc n) (x ∷ xs) e h =
    let here : x ≡ byte_of m a = h 0 (omega arith) ∙ ap (byte_of m) (add-zero a) in
    let rest : xs ≡ bytes_from m (a + 1) n = bytes_from-is m (a + 1) n xs (omega (arith, e)) (λ k within. h (suc k) (omega (arith, within)) ∙ (let z : a + suc k ≡ a + 1 + k = omega arith in ap (byte_of m) z)) in
    λ i. here i ∷ rest i

-- the bytes of a run
pub run_bytes : (ps : List PieceData) (m : Memory) (p : PieceData) (a n i k : ℕ) → IsRun ps m p a n i k → take n (drop k p.bytes) ≡ bytes_from m a n
run_bytes ps m p a n i k r =
    let rest : n ≤ length (drop k p.bytes) = omega (arith, r.fits, length-drop k p.bytes) in
    bytes_from-is m a n (take n (drop k p.bytes)) (length-take-le n (drop k p.bytes) rest) (λ j within.
    let place : k + j ≡ a + j - p.at = omega (arith, r.begins) in
    get_or-take n (drop k p.bytes) j 0 within
    ∙ (get_or-drop k p.bytes j 0
    ∙ (ap (λ z. get_or p.bytes z 0) place ∙ sym (ap cell_byte (run_get ps m p a n i k (a + j) r (omega arith) (omega (arith, within)))))))
