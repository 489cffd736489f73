-- Blocks that somebody hands in: which are those of the image, and what is wrong with the first that isn't.
use Rattle.std.specs.Prelude.{◌≡◌, ℕ, Bool, false, if◌then◌else◌, List, [], ◌∷◌, ◌++◌, map, IsTrue, ⊤}
use Rattle.std.specs.List.Sorted.{IsStrictlySortedBy}
use Rattle.std.specs.Ordering.{nat_cmp}
use Rattle.elf_image.specs.Layout.{ImageData}
use Rattle.ir_syntax.specs.declared.block.Block.{Block}
use Rattle.basic_blocks.specs.Places.{is_code_place}
use Rattle.basic_blocks.specs.Reach.{is_among}
use Rattle.lift_table.specs.Block.{lifted_block}
use Rattle.block_lift.specs.declared.accepting.AcceptFault.{AcceptFault}
use Rattle.block_lift.specs.declared.accepting.AcceptFault.TheVariants.{Stale, Twice, Memory}

-- a block is the lifted one at its own place, which is a code place
abbrev pub IsFresh : ImageData → Block → Type 0
IsFresh image b = IsTrue (is_code_place image b.at) × (b ≡ lifted_block image b.at)

-- what lifting gives at an address: where that is no code place, a block without bytes and parts
abbrev pub standing : ImageData → ℕ → Block
standing image a = if is_code_place image a then lifted_block image a else record { at = a; code = []; parts = [] }

abbrev pub places_of : List Block → List ℕ
places_of blocks = map (λ b. b.at) blocks

-- each is the lifted one at its own place, and no two stand at one place
abbrev pub AreRight : ImageData → List Block → Type 0
AreRight image [] = ⊤
AreRight image (b ∷ bs) = IsFresh image b × (is_among (places_of bs) b.at ≡ false) × AreRight image bs

-- right blocks by rising address
pub record AreAccepted (image : ImageData) (blocks accepted : List Block) : Type 0 where
  pub right : AreRight image blocks
  pub rising : IsStrictlySortedBy nat_cmp (places_of accepted)
  pub same : (a : ℕ) → is_among (places_of accepted) a ≡ is_among (places_of blocks) a
  pub fresh : accepted ≡ map (lifted_block image) (places_of accepted)

-- the block is the first of them that is wrong
pub record IsFirstWrong (image : ImageData) (blocks : List Block) (b : Block) (wrong : List Block → Type 0) : Type 0 where
  pub before : List Block
  pub after : List Block
  pub split : blocks ≡ before ++ b ∷ after
  pub right : AreRight image before
  pub here : wrong before

-- the block isn't the lifted one at its place, and this is what the fault tells of it
abbrev pub TellsStale : ImageData → Block → AcceptFault → Type 0
TellsStale image b (Stale address file lifted) = ¬ IsFresh image b × (address ≡ b.at) × (file ≡ b) × (lifted ≡ standing image b.at)
TellsStale image b (Twice a) = ⊥
TellsStale image b (Memory e) = ⊤

-- The fault is that of the first wrong block. That it isn't the lifted one at its place comes before that one of the blocks
-- before it has its address.
abbrev pub IsFaultOf : ImageData → List Block → AcceptFault → Type 0
IsFaultOf image blocks (Stale address file lifted) = IsFirstWrong image blocks file (λ before. TellsStale image file (Stale address file lifted))
IsFaultOf image blocks (Twice a) = (b : Block) × (b.at ≡ a) × IsFirstWrong image blocks b (λ before. IsFresh image b × IsTrue (is_among (places_of before) a))
IsFaultOf image blocks (Memory e) = ⊤
