-- The stacks of threads that aren't born, and where each stack lies.
use Rattle.std.proofs.Common.{◌≡◌, ℕ, zero, suc, ◌+◌, ◌<◌, ◌≤◌, List, [], ◌∷◌, ◌++◌, length, map, refl, sym, ap, ◌∙◌, arith}
use Rattle.std.specs.List.{range_with_len}
use Rattle.std.proofs.lemmas.List.{append_assoc, append-nil}
use Rattle.std.proofs.lemmas.List.FromFn.{map-range_with_len_more, length-map-range_with_len, get_or-map-range_with_len}
use Rattle.tso_memory.specs.Piece.{PieceData, end_of, piece_at, no_piece}
use Rattle.address_space.specs.Addresses.{top, bottom}
use Rattle.guest_map.specs.Addresses.{unborn_stack, unborn_stacks}
use Rattle.guest_map.specs.Entry.{strings}
use Rattle.guest_map.specs.Layout.{stacks}
use Rattle.guest_map.proofs.EntryLemmas.{length-zeros, length-entry_stack}

pub unborn_none : (ps : List PieceData) → ps ≡ ps ++ unborn_stacks 0
unfolding unborn_stacks
unborn_none ps = sym (append-nil ps)

pub unborn_more : (ps : List PieceData) (n t : ℕ) → 1 + n ≡ t → (ps ++ unborn_stacks n) ++ unborn_stack t ∷ [] ≡ ps ++ unborn_stacks (n + 1)
unfolding unborn_stacks
unborn_more ps n t e = append_assoc ps (map unborn_stack (range_with_len 1 n)) (unborn_stack t ∷ []) ∙ ap (λ qs. ps ++ qs) (sym (map-range_with_len_more unborn_stack 1 n t e))

length-unborn : (n : ℕ) → length (unborn_stacks n) ≡ n
unfolding unborn_stacks
length-unborn n = length-map-range_with_len unborn_stack 1 n

pub length-stacks : (args : List (List ℕ)) → length (stacks args) ≡ 64
length-stacks args = ap suc (length-unborn 63)

-- a piece is where the stack of a thread is
pub record IsStack (t : ℕ) (p : PieceData) : Type 0 where
  pub from : p.at ≡ bottom t
  pub to : end_of p ≡ top t

unborn_is : (t : ℕ) → IsStack t (unborn_stack t)
unborn_is t = record { from = refl; to = omega (arith, length-zeros (bottom t) (top t)) }

unborn_at : (n k : ℕ) → k < n → piece_at (unborn_stacks n) k ≡ unborn_stack (suc k)
unfolding unborn_stacks
unborn_at n k lt = get_or-map-range_with_len unborn_stack 1 n k (suc k) no_piece lt (omega arith)

pub stack_at : (args : List (List ℕ)) → length (strings args) ≤ 4096 → (k : ℕ) → k < 64 → IsStack k (piece_at (stacks args) k)
stack_at args short zero lt = record { from = refl; to = omega (arith, length-entry_stack args short) }
stack_at args short (suc k) lt = rw (unborn_at 63 k (omega arith)) (unborn_is (suc k))
