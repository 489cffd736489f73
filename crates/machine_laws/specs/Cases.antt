-- The case of a run, as a relation to what it was read from.
use Rattle.std.specs.Prelude.{◌≡◌, ℕ, Bool, true, false, List, [], ◌∷◌, Option, Some, None, IfSome}
use Rattle.std.specs.List.{list_any}
use Rattle.elf_image.specs.Layout.{ImageData}
use Rattle.elf_image.specs.declared.place.Function.{Function}
use Rattle.elf_image.specs.declared.place.Function.TheVariants as function
use Rattle.basic_blocks.specs.Reach.{IsReach}
use Rattle.machine_model.specs.CaseData.{CaseData}

-- `read`
abbrev pub is_read : Function → Bool
is_read function.Read = true
is_read f = false

-- the image has a place of `read`
abbrev pub reads_input : ImageData → Bool
reads_input image = list_any (λ p. is_read p.function) image.entries

-- all that was left of a source, where it tells that; without a place of `read` nothing
abbrev pub IsInput : Bool → Option (List ℕ) → List ℕ → Type 0
IsInput true left input = IfSome left (λ bytes. input ≡ bytes)
IsInput false left input = input ≡ []

-- what counts as grown before the first entry: the places of blocks that were given, else what is reached from the entry
abbrev pub IsFirst : ImageData → Option (List ℕ) → List ℕ → Type 0
IsFirst image None first = IsReach image (image.entry ∷ []) first
IsFirst image (Some places) first = first ≡ places

-- The case of the run of a program file's bytes, where `is_image` says which image bytes are: its image; its arguments, the
-- program's own word first; its input, where a source has this left; the limit of steps; whether a miss ends it; and the first
-- places, where these were given, if any were.
pub record IsCase (is_image : List ℕ → ImageData → Type 0) (bytes : List ℕ) (args : List (List ℕ)) (left : Option (List ℕ)) (limit : ℕ) (strict : Bool) (given : Option (List ℕ)) (c : CaseData) : Type 0 where
  pub image : is_image bytes c.image
  pub arguments : c.args ≡ args
  pub input : IsInput (reads_input c.image) left c.input
  pub steps : c.limit ≡ limit
  pub misses : c.strict ≡ strict
  pub first : IsFirst c.image given c.first
