-- A book as its readers see it.
use Rattle.std.specs.Prelude.{ℕ, refl}
use Rattle.std.specs.Ordering.{nat_cmp}
use Rattle.std.specs.FinMap.{FinMap, code}
use Rattle.std.specs.Coded.{Coded, code_by, coded×, coded_ℕ}

-- the blocks by their places, and for how many more there is room
pub record Graph (B : Type 0) : Type 0 where
  pub blocks : FinMap nat_cmp B
  pub room : ℕ

abbrev pub graph_code : {B : Type 0} → Coded B → Coded (Graph B)
graph_code {B} b =
    code_by (FinMap nat_cmp B × ℕ) (coded× (code coded_ℕ b) coded_ℕ) (λ g. (g.blocks, g.room)) (λ p. record { blocks = p.0; room = p.1 }) (λ _. refl)
