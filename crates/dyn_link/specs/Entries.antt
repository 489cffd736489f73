-- Places of the library at the addresses of functions that are bound.
use Rattle.std.specs.Prelude.{◌≡◌}
use Rattle.elf_image.specs.declared.place.Function.{Function}
use Rattle.elf_image.specs.declared.place.LibPlace.{LibPlace}
use Rattle.dyn_link.specs.Bound.{address_of}

-- where a function that is bound is called, no other stands
abbrev pub IsOwn : LibPlace → Type 0
IsOwn p = (f : Function) → p.at ≡ address_of f → p.function ≡ f
