-- Reads and writes of bytes that lie in one piece.
use Rattle.std.proofs.Common.{◌≡◌, ℕ, ◌+◌, ◌-◌, ◌<◌, ◌≤◌, ◌^◌, true, List, [], ◌∷◌, ◌++◌, length, get_or, slice_set, take, drop, Some, None, refl, sym, ap, subst, ◌∙◌, inl, inr, arith, length-append, length-drop}
use Rattle.std.specs.FinMap.{get}
use Rattle.std.proofs.lemmas.List.{get_or-drop, get_or-take, get_or_append_left, get_or-append_right, length-take-le, drop_more, drop_all}
use Rattle.byteorder.specs.Endian.{little_number}
use Rattle.tso_memory.specs.declared.access.Access.TheVariants.{Load}
use Rattle.tso_memory.specs.Piece.{PieceData, has, piece_at, IsLaidOut, IsRunAt}
use Rattle.tso_memory.specs.Memory.{Memory, memory_of, permits, may, first_denied, byte_of, cell_byte, number_from, put_byte, put_bytes, cell_of}
use Rattle.tso_memory.proofs.PieceLemmas.{read_piece, overwritten}
use Rattle.tso_memory.proofs.SpaceLemmas.{found_place}
use Rattle.tso_memory.proofs.MemoryLemmas.{has_in, has_out, memory_at, memory_none, laid_apart, laid_splice, first_denied-none, number_from-little, IsSplice, memory_splice}

-- the piece of a run, as it is read
pub record IsRun (ps : List PieceData) (m : Memory) (p : PieceData) (a n i k : ℕ) : Type 0 where
  pub laid : IsLaidOut ps
  pub view : memory_of ps ≡ m
  pub within : i < length ps
  pub same : p ≡ piece_at ps i
  pub begins : a ≡ p.at + k
  pub fits : k + n ≤ length p.bytes

pub run_is : (qs ps : List PieceData) (m : Memory) (p : PieceData) (a n i k : ℕ) → qs ≡ ps → memory_of ps ≡ m → IsLaidOut ps → p ≡ get_or ps i p → IsRunAt qs a n i k → IsRun ps m p a n i k
run_is qs ps m p a n i k d v h e f =
    let within : i < length ps = omega (arith, f.within, ap length d) in
    let same : p ≡ piece_at ps i = read_piece ps i p within e in
    let there : piece_at qs i ≡ p = ap (λ (rs : List PieceData). piece_at rs i) d ∙ sym same in
    record {
      laid = h;
      view = v;
      within = within;
      same = same;
      begins = f.begins ∙ ap (λ (q : PieceData). q.at + k) there;
      fits = omega (arith, f.fits, ap (λ (q : PieceData). length q.bytes) there);
    }

pub run_get : (ps : List PieceData) (m : Memory) (p : PieceData) (a n i k y : ℕ) → IsRun ps m p a n i k → a ≤ y → y < a + n → get m y ≡ Some (cell_of p y)
run_get ps m p a n i k y r from to =
    let inside : has (piece_at ps i) y ≡ true = ap (λ (q : PieceData). has q y) (sym r.same) ∙ has_in p y (omega (arith, r.begins)) (omega (arith, r.begins, r.fits)) in
    ap (λ (o : Memory). get o y) (sym r.view) ∙ (memory_at ps i y (laid_apart ps r.laid) r.within inside ∙ ap (λ (q : PieceData). Some (cell_of q y)) (sym r.same))

pub run_number : (ps : List PieceData) (m : Memory) (p : PieceData) (a n i k : ℕ) → IsRun ps m p a n i k → number_from (byte_of m) n a ≡ little_number n (drop k p.bytes)
run_number ps m p a n i k r = number_from-little n 0 (byte_of m) a (drop k p.bytes) (λ j within.
    let place : a + j - p.at ≡ k + (0 + j) = omega (arith, r.begins) in
    ap cell_byte (run_get ps m p a n i k (a + j) r (omega arith) (omega arith)) ∙ (ap (λ z. get_or p.bytes z 0) place ∙ sym (get_or-drop k p.bytes (0 + j) 0)))

pub run_load : (ps : List PieceData) (m : Memory) (p : PieceData) (a n i k : ℕ) → IsRun ps m p a n i k → p.r ≡ true → first_denied (may m Load) a n ≡ None
run_load ps m p a n i k r readable = first_denied-none (may m Load) a n (λ y from to. ap (permits Load) (run_get ps m p a n i k y r from to) ∙ readable)

-- an overwritten list is a splice
pub splice : (old : List ℕ) (k : ℕ) (bs : List ℕ) → k + length bs ≤ length old → IsSplice old k bs (take k old ++ (bs ++ drop (k + length bs) old))
splice old k bs fits =
    let front : length (take k old) ≡ k = length-take-le k old (omega arith) in
    let rest : length (drop (k + length bs) old) ≡ length old - (k + length bs) = length-drop (k + length bs) old in
    let mid : length (bs ++ drop (k + length bs) old) ≡ length bs + length (drop (k + length bs) old) = length-append bs (drop (k + length bs) old) in
    let tail = drop (k + length bs) old in
    record {
      same_length = length-append (take k old) (bs ++ tail) ∙ omega (arith, front, rest, mid);
      fits = fits;
      inside = λ j from to. get_or-append_right (take k old) (bs ++ tail) k j 0 front from ∙ get_or_append_left bs tail 0 (j - k) (omega arith);
      outside = λ j out. elim out [
        | inl below ↦ get_or_append_left (take k old) (bs ++ tail) 0 j (omega (arith, front)) ∙ get_or-take k old j 0 below
        | inr past ↦ get_or-append_right (take k old) (bs ++ tail) k j 0 front (omega arith)
            ∙ (get_or-append_right bs tail (length bs) (j - k) 0 refl (omega arith)
            ∙ (get_or-drop (k + length bs) old (j - k - length bs) 0 ∙ (let z : k + length bs + (j - k - length bs) ≡ j = omega arith in ap (λ q. get_or old q 0) z)))
      ];
    }

-- the pieces after a write into a run, and their memory
pub run_laid : (ps : List PieceData) (m : Memory) (p q : PieceData) (a i k : ℕ) (bs : List ℕ) → IsRun ps m p a (length bs) i k → q ≡ overwritten p k bs → IsLaidOut (slice_set ps i q)
run_laid ps m p q a i k bs r e =
    let s = splice (piece_at ps i).bytes k bs (omega (arith, r.fits, ap (λ (z : PieceData). length z.bytes) r.same)) in
    subst (λ (z : PieceData). IsLaidOut (slice_set ps i z)) (ap (λ (z : PieceData). overwritten z k bs) (sym r.same) ∙ sym e) (laid_splice ps i _ r.laid r.within s.same_length)

pub run_put : (ps : List PieceData) (m : Memory) (p q : PieceData) (a i k : ℕ) (bs : List ℕ) → IsRun ps m p a (length bs) i k → q ≡ overwritten p k bs → memory_of (slice_set ps i q) ≡ put_bytes m a bs
run_put ps m p q a i k bs r e =
    let s = splice (piece_at ps i).bytes k bs (omega (arith, r.fits, ap (λ (z : PieceData). length z.bytes) r.same)) in
    let at : (piece_at ps i).at + k ≡ a = sym (r.begins ∙ ap (λ (z : PieceData). z.at + k) r.same) in
    ap (λ (z : PieceData). memory_of (slice_set ps i z)) (e ∙ ap (λ (z : PieceData). overwritten z k bs) r.same)
    ∙ (memory_splice ps i k bs _ (laid_apart ps r.laid) r.within s
    ∙ (ap (λ (o : Memory). put_bytes o ((piece_at ps i).at + k) bs) r.view ∙ ap (λ x. put_bytes m x bs) at))

-- where nothing stands, nothing is put
pub put_absent : (m : Memory) (x b : ℕ) → get m x ≡ None → m ≡ put_byte m x b
put_absent m x b none = rw none refl

-- nothing stands from 2^47 on
pub high_absent : (ps : List PieceData) (m : Memory) (x : ℕ) → IsLaidOut ps → memory_of ps ≡ m → 2 ^ 47 ≤ x → get m x ≡ None
high_absent ps m x h v high = ap (λ (o : Memory). get o x) (sym v) ∙ memory_none ps x (λ i within. has_out (piece_at ps i) x (inr (omega (arith, h.low i within))))

pub put_one : (m : Memory) (x b : ℕ) → put_bytes m x (b ∷ []) ≡ put_byte m x b
unfolding put_bytes
put_one m x b = refl

-- one byte more, and the end
pub put_more : (m : Memory) (a k : ℕ) (bs : List ℕ) → k < length bs → put_bytes m (a + k) (drop k bs) ≡ put_bytes (put_byte m (a + k) (get_or bs k 0)) (a + (k + 1)) (drop (k + 1) bs)
unfolding put_bytes
put_more m a k bs within = ap (put_bytes m (a + k)) (drop_more bs k 0 within) ∙ (let z : a + k + 1 ≡ a + (k + 1) = omega arith in ap (λ x. put_bytes (put_byte m (a + k) (get_or bs k 0)) x (drop (k + 1) bs)) z)

pub put_end : (m : Memory) (x k : ℕ) (bs : List ℕ) → length bs ≤ k → put_bytes m x (drop k bs) ≡ m
unfolding put_bytes
put_end m x k bs past = ap (put_bytes m x) (drop_all k bs past)

-- the run of the one byte at an address that a piece has
pub run_one : (qs ps : List PieceData) (m : Memory) (p : PieceData) (i x k : ℕ) → qs ≡ ps → memory_of ps ≡ m → IsLaidOut ps → p ≡ get_or ps i p → (i < length qs) × (has (piece_at qs i) x ≡ true) → k ≡ x - p.at → IsRun ps m p x 1 i k
run_one qs ps m p i x k d v h e f place =
    let within : i < length ps = omega (arith, f.0, ap length d) in
    let there = found_place qs ps p i x d e f in
    record {
      laid = h;
      view = v;
      within = within;
      same = read_piece ps i p within e;
      begins = omega (arith, place, there.0);
      fits = omega (arith, place, there.0, there.1);
    }
