-- A number is told by its slot and its generation.
use Rattle.std.proofs.Common.{◌≡◌, ℕ, ◌<◌, arith}
use Rattle.address_space.specs.Slots.{slot_of, generation_of, number_in}

pub number_back : (u : ℕ) → number_in (slot_of u) (generation_of u) ≡ u
unfolding number_in slot_of generation_of
number_back u = omega arith

pub slot_below : (u : ℕ) → slot_of u < 64
unfolding slot_of
slot_below u = omega arith

pub slot_back : (s g : ℕ) → s < 64 → slot_of (number_in s g) ≡ s
unfolding number_in slot_of
slot_back s g below = omega arith

pub generation_back : (s g : ℕ) → s < 64 → generation_of (number_in s g) ≡ g
unfolding number_in generation_of
generation_back s g below = omega arith
