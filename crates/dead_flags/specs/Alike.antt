-- When two lists of parts do the same, as far as anyone can see.
use Rattle.std.specs.Prelude.{ℕ, ◌≡◌, Bool, true, List, [], ◌∷◌, length, slice_index}
use Rattle.guest_state.specs.declared.virtual_state.Virtual.{Virtual}
use Rattle.ir_syntax.specs.declared.block.Part.{Part}
use Rattle.ir_syntax.specs.declared.cond.Flag.{Flag}
use Rattle.ir_meaning.specs.Does.{does, answered, flags_of, flag_in}
use Rattle.ir_meaning.specs.Live.{live_before_parts}
use Rattle.ir_meaning.specs.Needs.{needed_before_parts}
use Rattle.x86_flags.specs.declared.flags.Flags.{Flags}

-- the same registers, the same numbers in the needed temporaries, and the same live flags
pub record Agrees (live : Flags) (need : ℕ → Bool) (v u : Virtual) : Type 0 where
  pub regs : v.regs ≡ u.regs
  pub room : length v.temps ≡ length u.temps
  pub temps : (t : ℕ) → need t ≡ true → slice_index v.temps t ≡ slice_index u.temps t
  pub flags : (flag : Flag) → flag_in live flag ≡ true → flag_in (flags_of v) flag ≡ flag_in (flags_of u) flag

-- the states agree in all that is live or needed before these last parts of a block, where some temporaries are needed after it
abbrev pub AgreesBefore : List Part → (ℕ → Bool) → Virtual → Virtual → Type 0
AgreesBefore parts need = Agrees (live_before_parts parts) (needed_before_parts parts need)

-- from states that agree before the second part, both parts ask for the same, and with every answer the states agree again
pub record AsksAlike (p q : Part) (rest : List Part) (need : ℕ → Bool) : Type 0 where
  pub request : (v u : Virtual) → AgreesBefore (q ∷ rest) need v u → (does p v).request ≡ (does q u).request
  pub again : (v u : Virtual) (x : ℕ) → AgreesBefore (q ∷ rest) need v u → AgreesBefore rest need (answered p.end x (does p v).state) (answered q.end x (does q u).state)

-- part for part they ask alike; after the last part the states agree in all five flags, and in the temporaries that are needed there
abbrev pub Alike : (ℕ → Bool) → List Part → List Part → Type 0
Alike need [] [] = Unit {0}
Alike need [] (q ∷ qs) = ⊥
Alike need (p ∷ ps) [] = ⊥
Alike need (p ∷ ps) (q ∷ qs) = AsksAlike p q qs need × Alike need ps qs

-- the same registers, the same temporaries, and the same live flags
pub record IsSame (live : Flags) (v u : Virtual) : Type 0 where
  pub regs : v.regs ≡ u.regs
  pub temps : v.temps ≡ u.temps
  pub flags : (flag : Flag) → flag_in live flag ≡ true → flag_in (flags_of v) flag ≡ flag_in (flags_of u) flag

-- from states that are the same before the second part, both parts ask for the same, and with every answer the states are the same again
pub record AsksSame (p q : Part) (rest : List Part) : Type 0 where
  pub request : (v u : Virtual) → IsSame (live_before_parts (q ∷ rest)) v u → (does p v).request ≡ (does q u).request
  pub again : (v u : Virtual) (x : ℕ) → IsSame (live_before_parts (q ∷ rest)) v u → IsSame (live_before_parts rest) (answered p.end x (does p v).state) (answered q.end x (does q u).state)

-- part for part they ask the same; after the last part the states have the same registers, temporaries and five flags
abbrev pub StaysSame : List Part → List Part → Type 0
StaysSame [] [] = Unit {0}
StaysSame [] (q ∷ qs) = ⊥
StaysSame (p ∷ ps) [] = ⊥
StaysSame (p ∷ ps) (q ∷ qs) = AsksSame p q qs × StaysSame ps qs
