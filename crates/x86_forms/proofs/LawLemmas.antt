-- The two laws, and what the reader says of spellings.
use Rattle.std.proofs.Common.{◌≡◌, ℕ, suc, ◌≤◌, ◌<◌, ◌↔◌, true, List, [], ◌∷◌, ◌++◌, get_or, length, take, drop, Some, None, refl, sym, ap, arith, ◌∙◌, append-nil, length-append}
use Rattle.std.specs.Prelude.{nat_lt}
use Rattle.std.proofs.lemmas.Bool.{and_from, lt-ltb}
use Rattle.std.proofs.lemmas.List.{take-append-drop, length-take, nil_from_length}
use Rattle.std.proofs.lemmas.Option.{some_pair_parts, none-some}
use Rattle.x86_forms.specs.declared.instructions.Instr.{Instr}
use Rattle.x86_forms.specs.Spelling.{Spells, SpellsNothing, are_bytes}
use Rattle.x86_forms.specs.Reading.{read}
use Rattle.x86_forms.proofs.Again.{again}
use Rattle.x86_forms.proofs.Sound.{sound}

alone : (i : Instr) (s : List ℕ) → Spells i s → read s ≡ Some (i, length s)
alone i s h = rw append-nil at (again i s [] h)

-- a string spells at most one instruction
pub one_meaning : (i j : Instr) (s : List ℕ) → Spells i s → Spells j s → i ≡ j
one_meaning i j s p q = (some_pair_parts i j (length s) (length s) (sym (alone i s p) ∙ alone j s q)).0

-- no spelling is a proper prefix of another
pub no_prefix : (i j : Instr) (s rest : List ℕ) → Spells i s → Spells j (s ++ rest) → rest ≡ []
no_prefix i j s rest p q =
    let e = (some_pair_parts i j (length s) (length (s ++ rest)) (sym (again i s rest p) ∙ alone j (s ++ rest) q)).1 in
    nil_from_length rest (omega (arith, e, length-append s rest))

-- The reader gives exactly the spellings.
pub exactly : (bytes : List ℕ) (i : Instr) (n : ℕ) → are_bytes bytes ≡ true → n ≤ length bytes → (read bytes ≡ Some (i, n)) ↔ Spells i (take n bytes)
exactly bytes i n all le =
    let len : length (take n bytes) ≡ n = omega (arith, length-take n bytes) in
    (λ e. sound bytes i n all e, λ h. ap read (sym (take-append-drop n bytes)) ∙ again i (take n bytes) (drop n bytes) h ∙ ap (λ (k : ℕ). Some (i, k)) len)

-- What reads as nothing is no spelling.
pub nothing : (s : List ℕ) → read s ≡ None → SpellsNothing s
nothing s e i h = none-some (i, length s) (sym e ∙ alone i s h)

-- The bytes of a slice are bytes.
pub bytes_are : (s : List ℕ) → ((k : ℕ) → get_or s k 0 < 256) → are_bytes s ≡ true
bytes_are [] h = refl
bytes_are (b ∷ bs) h = and_from (nat_lt b 256) (are_bytes bs) (lt-ltb b 256 (h 0)) (bytes_are bs (λ k. h (suc k)))
