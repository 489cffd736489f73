-- Which faults are ruled out, by what the tables of a file are.
use Rattle.std.proofs.Common.{◌≡◌, ℕ, ◌||◌, Bool, false, List, Some, None, refl, sym, ◌∙◌}
use Rattle.std.specs.List.{position}
use mathlib.Core.Bool.{false≢true}
use Rattle.elf_image.specs.declared.range.Range.{Range}
use Rattle.elf_image.specs.Layout.{SegmentData}
use Rattle.dyn_link.specs.declared.dynamic.Dynamic.{Dynamic}
use Rattle.dyn_link.specs.declared.relocation.Relocation.{Relocation}
use Rattle.dyn_link.specs.Bound.{has_bad_relocation, has_unknown, first_unknown}
use Rattle.dyn_link.specs.Dynamic.{HasBadTable, tables, is_bad_segment, is_bad_dynamic, lacks_table}
use Rattle.dyn_link.specs.Relocations.{relocations, strings, symbols_of, is_bad_relocation, is_unknown}
use Rattle.dyn_link.proofs.Finding.{none_passes}

none_of : (a b c : Bool) → a ≡ false → b ≡ false → c ≡ false → (a || b || c) ≡ false
none_of a b c p q r = rw (p, q, r) refl

module _ (bytes : List ℕ) (range : Range) (segments : List SegmentData) (d : Dynamic) (is : d ≡ tables bytes range) where
  pub readable : is_bad_segment bytes range ≡ false → is_bad_dynamic d ≡ false → lacks_table segments d ≡ false → HasBadTable bytes range segments → ⊥
  readable segment dynamic table bad =
      let none = none_of (is_bad_segment bytes range) (is_bad_dynamic (tables bytes range)) (lacks_table segments (tables bytes range)) segment (rw is at dynamic) (rw is at table) in
      false≢true (sym none ∙ bad)

  module _ (text : List ℕ) (symbols : ℕ) (rs : List Relocation) (texts : text ≡ strings segments d) (firsts : symbols ≡ symbols_of d) (all : rs ≡ relocations segments d) where
    pub none_bad : position (is_bad_relocation segments text symbols) rs ≡ None → has_bad_relocation segments (tables bytes range) ≡ false
    none_bad none = rw (texts, firsts, all, is) at (none_passes (is_bad_relocation segments text symbols) rs none)

    pub none_unknown : position (is_unknown segments text symbols) rs ≡ None → has_unknown segments (tables bytes range) ≡ false
    none_unknown none = rw (texts, firsts, all, is) at (none_passes (is_unknown segments text symbols) rs none)

    pub unknown_first : (n : ℕ) → position (is_unknown segments text symbols) rs ≡ Some n → first_unknown segments (tables bytes range) ≡ Some n
    unknown_first n some = rw (texts, firsts, all, is) at some
