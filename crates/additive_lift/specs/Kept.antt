-- Direct successors that are kept.
use Rattle.std.specs.Prelude.{◌≡◌, ℕ, Some}
use Rattle.std.specs.Ordering.{nat_cmp}
use Rattle.std.specs.BTreeMap.{BTreeMap, get}
use Rattle.elf_image.specs.Layout.{ImageData}
use Rattle.basic_blocks.specs.Span.{successors}
use Rattle.additive_lift.specs.declared.exits.Exits.{Exits}
use Rattle.additive_lift.specs.Exits.{exits_of}

-- what is kept at a place are the direct successors of the block there
abbrev pub AreKept : ImageData → BTreeMap ℕ Exits → Type 0
AreKept image kept = (a : ℕ) (e : Exits) → get nat_cmp kept a ≡ Some e → exits_of e ≡ successors image a
