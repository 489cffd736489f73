-- The part at which a guest is, whatever it is called.
use Rattle.std.proofs.Common.{◌≡◌, ℕ, ◌<◌, List, ◌∷◌, drop, length, Option, IfSome, sym, subst, ◌∙◌}
use Rattle.guest_state.specs.declared.virtual_state.Virtual.{Virtual}
use Rattle.ir_meaning.specs.Ready.{Answers}
use Rattle.ir_syntax.specs.declared.block.Block.{Block}
use Rattle.ir_syntax.specs.declared.block.Part.{Part}
use Rattle.ir_syntax.specs.declared.request.Request.{Request}
use Rattle.machine_model.specs.Gated.{Stand}
use Rattle.hall_core.specs.Hall.{HallData, both}
use Rattle.guest_steps.specs.declared.own.Own.{Own}
use Rattle.guest_steps.specs.declared.own.Position.{Position}
use Rattle.guest_steps.specs.declared.own.Position.TheVariants.{Inside}
use Rattle.guest_steps.specs.Kept.{KeptData, Table}
use Rattle.guest_entries.specs.Entered.{Asking}
use Rattle.guest_steps.proofs.Moves.{stands_inside}

same_kept : (x y : KeptData) (n m : ℕ) (p : Position) → p ≡ Inside x n → p ≡ Inside y m → x ≡ y
same_kept x y n m p e f = let z : Inside x n ≡ Inside y m = sym e ∙ f in cc

same_part : (x y : KeptData) (n m : ℕ) (p : Position) → p ≡ Inside x n → p ≡ Inside y m → n ≡ m
same_part x y n m p e f = let z : Inside x n ≡ Inside y m = sym e ∙ f in cc

first_same : (p q : Part) (ps qs : List Part) → p ∷ ps ≡ q ∷ qs → p ≡ q
first_same p q ps qs e = cc

-- any part at which it is, is this one
pub at_part : (P : KeptData → ℕ → Type 0) (x y : KeptData) (n m : ℕ) (p : Position) → p ≡ Inside x n → p ≡ Inside y m → P x n → P y m
at_part P x y n m p e f h = subst (λ k. P y k) (same_part x y n m p e f) (subst (λ z. P z n) (same_kept x y n m p e f) h)

module _ (h : HallData Block) (t : ℕ) (own : Own) (table : Table) (v : Virtual) (d : Stand) (r : Request) (a : Asking h t own table v d r) where
  pub inside_part : (kept : KeptData) (part : ℕ) → own.at ≡ Inside kept part → part < length kept.block.parts
  inside_part kept part at = at_part (λ x n. n < length x.block.parts) a.asks.kept kept a.asks.part part own.at a.asks.at at (stands_inside h.case (both h) t (record own { state = v }) table d a.asks.kept a.asks.part a.along a.asks.at).inside

  pub piece_there : (kept : KeptData) (part : ℕ) (p : Part) (ps : List Part) → own.at ≡ Inside kept part → drop part kept.block.parts ≡ p ∷ ps → a.asks.piece ≡ p
  piece_there kept part p ps at e = first_same a.asks.piece p a.asks.rest ps (sym (at_part (λ x n. drop n x.block.parts ≡ a.asks.piece ∷ a.asks.rest) a.asks.kept kept a.asks.part part own.at a.asks.at at a.asks.there) ∙ e)

  pub takes_there : (o : Option ℕ) → IfSome o (λ x. Answers a.asks.piece.end x) → (kept : KeptData) (part : ℕ) (p : Part) (ps : List Part) → own.at ≡ Inside kept part → drop part kept.block.parts ≡ p ∷ ps → IfSome o (λ x. Answers p.end x)
  takes_there o h kept part p ps at e = subst (λ q. IfSome o (λ x. Answers q.end x)) (piece_there kept part p ps at e) h
