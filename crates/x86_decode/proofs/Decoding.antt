-- What a reading says of the fronts of the bytes that are spellings.
use Rattle.std.proofs.Common.{◌≡◌, ℕ, ◌≤◌, true, List, length, take, inl, inr, None, refl, sym, subst, arith, take_all, ◌∙◌}
use Rattle.std.specs.Prelude.{nat_le}
use Rattle.std.proofs.lemmas.Bool.{cases_Bool, leb-true}
use Rattle.std.proofs.lemmas.Option.{none-some}
use Rattle.std.proofs.Math.Seq.{take-length}
use Rattle.x86_forms.specs.Spelling.{Spells, SpellsNothing, are_bytes}
use Rattle.x86_forms.specs.Reading.{read}
use Rattle.x86_forms.proofs.LawLemmas.{exactly}

-- the length of the front, or of all bytes where it is longer
front_of : (bytes : List ℕ) (n : ℕ) → (m : ℕ) × (m ≤ length bytes) × (take n bytes ≡ take m bytes)
front_of bytes n =
    elim (cases_Bool (nat_le n (length bytes))) [
      | inl t ↦ (n, leb-true n (length bytes) t, refl)
      | inr f ↦ (let long : length bytes ≤ n = grind (arith, f) in (length bytes, omega (arith), take_all n bytes long ∙ sym (take-length bytes)))
    ]

pub none_spelled : (bytes : List ℕ) → are_bytes bytes ≡ true → read bytes ≡ None → (n : ℕ) → SpellsNothing (take n bytes)
none_spelled bytes all e n i h =
    let f = front_of bytes n in
    none-some (i, f.0) (sym e ∙ (exactly bytes i f.0 all f.1).1 (subst (λ s. Spells i s) f.2 h))
