use Rattle.std.proofs.Common.{◌≡◌, zero, suc, ◌≤◌, ◌^◌, List, [], ◌∷◌, ◌++◌, sym, ap, subst, ◌∙◌, arith}
use Rattle.tso_memory.specs.Piece.{PieceData, AreApart, AreLow, end_of}
use Rattle.tso_memory.proofs.MemoryLemmas.{has_from, has_to}
use Rattle.tso_memory.proofs.tests.of_two.Goals as goal

two_apart : (p q : PieceData) → end_of q ≤ p.at → AreApart (p ∷ q ∷ [])
two_apart p q h zero zero less within = absurd (omega arith)
two_apart p q h zero (suc zero) less within = λ x in_p in_q. absurd (omega (arith, has_from p x in_p, has_to q x in_q))
two_apart p q h zero (suc (suc j)) less within = absurd (omega arith)
two_apart p q h (suc i) zero less within = absurd (omega arith)
two_apart p q h (suc i) (suc zero) less within = absurd (omega arith)
two_apart p q h (suc i) (suc (suc j)) less within = absurd (omega arith)

two_low : (p q : PieceData) → end_of q ≤ p.at → end_of p ≤ 2 ^ 47 → AreLow (p ∷ q ∷ [])
two_low p q h low zero within = low
two_low p q h low (suc zero) within = omega arith
two_low p q h low (suc (suc i)) within = absurd (omega arith)

pub make-requires-clause-apart : goal.make-requires-clause-apart
make-requires-clause-apart c =
    let items : c.push-2.new.self.items ≡ c.args.high ∷ c.args.low ∷ [] =
    c.in_ok-push-2.ensures.items ∙ ap (λ (ps : List PieceData). ps ++ c.args.low ∷ []) (c.in_ok-push.ensures.items ∙ ap (λ (ps : List PieceData). ps ++ c.args.high ∷ []) c.new-pieces.ensures.items) in
    subst AreApart (sym items) (two_apart c.args.high c.args.low c.requires.order)

pub make-requires-clause-low : goal.make-requires-clause-low
make-requires-clause-low c =
    let items : c.push-2.new.self.items ≡ c.args.high ∷ c.args.low ∷ [] =
    c.in_ok-push-2.ensures.items ∙ ap (λ (ps : List PieceData). ps ++ c.args.low ∷ []) (c.in_ok-push.ensures.items ∙ ap (λ (ps : List PieceData). ps ++ c.args.high ∷ []) c.new-pieces.ensures.items) in
    subst AreLow (sym items) (two_low c.args.high c.args.low c.requires.order c.requires.low)
