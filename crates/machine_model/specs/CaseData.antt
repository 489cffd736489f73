-- The case of a run, as contracts see it.
use Rattle.std.specs.Prelude.{ℕ, Bool, List}
use Rattle.elf_image.specs.declared.image.Image.{Image}

pub record CaseData : Type 0 where
  pub image : Image
  pub args : List (List ℕ)
  pub input : List ℕ
  pub limit : ℕ
  pub strict : Bool
  pub first : List ℕ
