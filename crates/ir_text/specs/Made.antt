-- What the pieces of a text make: the blocks so far, and what stands of the open one.
use Rattle.std.specs.Prelude.{ℕ, List, [], ◌∷◌, ◌++◌, map}
use Rattle.std.specs.List.{flat_map}
use Rattle.ir_syntax.specs.declared.block.Block.{Block}
use Rattle.ir_syntax.specs.declared.block.Part.{Part}
use Rattle.ir_syntax.specs.declared.line.Op.{Op}
use Rattle.ir_text.specs.declared.pieces.Item.{Item}
use Rattle.ir_text.specs.declared.pieces.Item.TheVariants as item
use Rattle.ir_text.specs.declared.pieces.State.{State}
use Rattle.ir_text.specs.declared.pieces.State.TheVariants as state

-- the blocks that are read, and the address, the code, the parts and the op lines of the one that isn't whole yet
pub record Made : Type 0 where
  pub blocks : List Block
  pub at : ℕ
  pub code : List ℕ
  pub parts : List Part
  pub ops : List Op

abbrev pub taken : Made → Item → Made
taken m (item.Address n) = record { blocks = m.blocks; at = n; code = m.code; parts = m.parts; ops = m.ops }
taken m (item.Byte c) = record { blocks = m.blocks; at = m.at; code = m.code ++ c ∷ []; parts = m.parts; ops = m.ops }
taken m item.CodeEnd = m
taken m (item.Op o) = record { blocks = m.blocks; at = m.at; code = m.code; parts = m.parts; ops = m.ops ++ o ∷ [] }
taken m (item.Part e) = record { blocks = m.blocks; at = m.at; code = m.code; parts = m.parts ++ (record { ops = m.ops; end = e }) ∷ []; ops = [] }
taken m item.End = record { blocks = m.blocks ++ (record { at = m.at; code = m.code; parts = m.parts }) ∷ []; at = m.at; code = []; parts = []; ops = [] }

abbrev pub taken_all : Made → List Item → Made
taken_all m [] = m
taken_all m (i ∷ is) = taken_all (taken m i) is

abbrev pub nothing : Made
nothing = record { blocks = []; at = 0; code = []; parts = []; ops = [] }

-- where a piece leads, wherever it may stand
abbrev pub behind : Item → State
behind (item.Address n) = state.Code
behind (item.Byte c) = state.InCode
behind item.CodeEnd = state.Inside
behind (item.Op o) = state.Inside
behind (item.Part e) = state.After
behind item.End = state.Between

-- the pieces of some blocks
abbrev pub part_items : Part → List Item
part_items p = map item.Op p.ops ++ item.Part p.end ∷ []

abbrev pub items_of : List Block → List Item
items_of [] = []
items_of (b ∷ bs) = item.Address b.at ∷ (map item.Byte b.code ++ (item.CodeEnd ∷ (flat_map part_items b.parts ++ (item.End ∷ items_of bs))))
