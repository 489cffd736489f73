-- Pieces that are taken from the end of a list, one by one.
use Rattle.std.proofs.Common.{◌≡◌, ℕ, ◌+◌, ◌-◌, ◌<◌, ◌≤◌, ◌^◌, true, IsTrue, List, [], ◌∷◌, ◌++◌, length, get_or, take, drop, None, refl, sym, ap, ◌∙◌, inl, inr, arith, length-append, length-drop}
use Rattle.std.specs.FinMap.{get}
use Rattle.std.proofs.lemmas.Bool.{cases_Bool}
use Rattle.std.proofs.lemmas.List.{get_or_at, get_or-take, get_or-drop, take_at, take-take, take_all, drop_more, drop_all}
use Rattle.tso_memory.specs.Piece.{PieceData, end_of, has, piece_at, no_piece, AreApart, AreLow}
use Rattle.tso_memory.specs.Memory.{Memory, memory_of, add_cells}
use Rattle.tso_memory.proofs.MemoryLemmas.{memory_none}

-- all but the last k pieces are left, and the memory has those
pub record LaidFrom (ps qs : List PieceData) (m : Memory) : Type 0 where
  pub within : length qs ≤ length ps
  pub left : qs ≡ take (length qs) ps
  pub memory : m ≡ memory_of (drop (length qs) ps)

pub laid_none : (ps : List PieceData) (m : Memory) → m ≡ memory_of [] → LaidFrom ps ps m
laid_none ps m e = record { within = omega arith; left = sym (take_all (length ps) ps (omega arith)); memory = e ∙ ap memory_of (sym (drop_all (length ps) ps (omega arith))) }

-- the piece that comes off the end
pub record ComesOff (ps qs rs : List PieceData) (p : PieceData) : Type 0 where
  pub count : length qs ≡ length rs + 1
  pub within : length rs < length ps
  pub same : p ≡ piece_at ps (length rs)
  pub left : rs ≡ take (length rs) ps
  pub rest : drop (length rs) ps ≡ p ∷ drop (length qs) ps

pub comes_off : (ps qs rs : List PieceData) (p : PieceData) (m : Memory) → LaidFrom ps qs m → qs ≡ rs ++ p ∷ [] → ComesOff ps qs rs p
comes_off ps qs rs p m l e =
    let count : length qs ≡ length rs + 1 = ap length e ∙ length-append rs (p ∷ []) in
    let within : length rs < length ps = omega (arith, l.within) in
    let same : p ≡ piece_at ps (length rs) =
    sym (get_or_at rs p [] no_piece (length rs) refl) ∙ (ap (λ (xs : List PieceData). get_or xs (length rs) no_piece) (sym e ∙ l.left) ∙ get_or-take (length qs) ps (length rs) no_piece (omega arith)) in
    record {
      count = count;
      within = within;
      same = same;
      left = sym (take_at rs (p ∷ []) (length rs) refl) ∙ (ap (λ (xs : List PieceData). take (length rs) xs) (sym e ∙ l.left) ∙ take-take (length rs) (length qs) ps (omega arith));
      rest = drop_more ps (length rs) no_piece within ∙ (ap (λ (q : PieceData). q ∷ drop (length rs + 1) ps) (sym same) ∙ ap (λ n. p ∷ drop n ps) (sym count));
    }

-- none of its addresses is in memory
pub off_apart : (ps qs rs : List PieceData) (p : PieceData) (m : Memory) → AreApart ps → LaidFrom ps qs m → ComesOff ps qs rs p → (x : ℕ) → IsTrue (has p x) → get m x ≡ None
off_apart ps qs rs p m apart l off = λ x in_p. ap (λ (n : Memory). get n x) l.memory ∙ memory_none (drop (length qs) ps) x (λ i far.
    let place : piece_at (drop (length qs) ps) i ≡ piece_at ps (length qs + i) = get_or-drop (length qs) ps i no_piece in
    let inside : has (piece_at ps (length rs)) x ≡ true = ap (λ (q : PieceData). has q x) (sym off.same) ∙ in_p in
    let size : i < length ps - length qs = omega (arith, length-drop (length qs) ps) in
    ap (λ (q : PieceData). has q x) place ∙ elim (cases_Bool (has (piece_at ps (length qs + i)) x)) [
      | inl in_q ↦ absurd (apart (length rs) (length qs + i) (omega (arith, off.count)) (omega arith) x inside in_q)
      | inr out ↦ out
    ])

pub off_low : (ps qs rs : List PieceData) (p : PieceData) → AreLow ps → ComesOff ps qs rs p → end_of p ≤ 2 ^ 47
off_low ps qs rs p low off = omega (arith, low (length rs) off.within, ap end_of off.same)

-- with it in memory one less is left
pub off_next : (ps qs rs : List PieceData) (p : PieceData) (m n : Memory) → LaidFrom ps qs m → ComesOff ps qs rs p → n ≡ add_cells m p.at p.r p.w p.bytes → LaidFrom ps rs n
unfolding memory_of
off_next ps qs rs p m n l off e = record {
  within = omega (arith, off.within);
  left = off.left;
  memory = e ∙ (ap (λ (o : Memory). add_cells o p.at p.r p.w p.bytes) l.memory ∙ sym (ap memory_of off.rest));
}

-- none is left
pub all_off : (ps qs : List PieceData) (m : Memory) → LaidFrom ps qs m → length qs ≡ 0 → m ≡ memory_of ps
all_off ps qs m l none = l.memory ∙ ap (λ n. memory_of (drop n ps)) none
