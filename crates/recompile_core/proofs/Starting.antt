-- What a run that begins has read of the input.
use Rattle.std.proofs.Common.{◌≡◌, ℕ, Bool, true, false, List, Option, refl, ap}
use Rattle.std.specs.Io.KnownBytes.{IsAtEnd}
use Rattle.recompile_core.specs.After.{InputRead}
use Rattle.recompile_core.specs.World.{input_now}

pub input_read : {I : Type 0} (left : I → Option (List ℕ)) (faults : I → ℕ) (old new : I) (b : Bool) → (b ≡ false → new ≡ old) → (b ≡ true → IsAtEnd (left new)) → InputRead b (input_now left faults old) (input_now left faults new)
input_read left faults old new true same end = end refl
input_read left faults old new false same end = ap (input_now left faults) (same refl)
