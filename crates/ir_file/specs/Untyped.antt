-- The first line of a text of blocks that isn't well typed.
use Rattle.std.specs.Prelude.{◌≡◌, ℕ, List, ◌∷◌, ◌++◌, All}
use Rattle.ir_syntax.specs.declared.block.Block.{Block}
use Rattle.ir_syntax.specs.declared.typing.TypeFault.{TypeFault}
use Rattle.ir_syntax.specs.Typed.{IsFault, IsWellTyped}
use Rattle.ir_text.specs.Faults.{line_from}
use Rattle.ir_file.specs.Lines.{before_line}

-- In the text of these blocks the first op, or end of a part, that isn't well typed stands on this line, counted from 1: the
-- blocks before its own are well typed, and it is the first of its own that isn't.
pub record IsUntyped (blocks : List Block) (line : ℕ) : Type 0 where
  pub before : List Block
  pub block : Block
  pub after : List Block
  pub are : blocks ≡ before ++ block ∷ after
  pub typed : All IsWellTyped before
  pub fault : TypeFault
  pub wrong : IsFault block.parts fault
  pub stands : line ≡ line_from 1 (before_line before block fault.part fault.op)
