-- Lines one after another: what is typed, and the types after them.
use Rattle.std.proofs.Common.{◌≡◌, ℕ, ◌<◌, ◌+◌, Bool, true, false, ◌&&◌, List, [], ◌∷◌, ◌++◌, length, refl, take, get_or, ap, ◌∙◌}
use Rattle.std.proofs.lemmas.List.{take_more}
use Rattle.ir_syntax.specs.declared.line.Op.{Op}
use Rattle.ir_syntax.specs.Typed.{Types, is_typed, are_typed, types_after, types_after_all}

pub types_after_all-append : (types : Types) (xs ys : List Op) → types_after_all types (xs ++ ys) ≡ types_after_all (types_after_all types xs) ys
types_after_all-append types [] ys = refl
types_after_all-append types (x ∷ xs) ys = types_after_all-append (types_after types x) xs ys

and-assoc : (a b c : Bool) → a && (b && c) ≡ (a && b) && c
and-assoc true b c = refl
and-assoc false b c = refl

and-true : (a b : Bool) → a ≡ true → b ≡ true → (a && (b && true)) ≡ true
and-true a b p q = rw (p, q) refl

pub are_typed-append : (types : Types) (xs ys : List Op) → are_typed types (xs ++ ys) ≡ are_typed types xs && are_typed (types_after_all types xs) ys
are_typed-append types [] ys = refl
are_typed-append types (x ∷ xs) ys =
    ap (λ b. is_typed types x && b) (are_typed-append (types_after types x) xs ys)
    ∙ and-assoc (is_typed types x) (are_typed (types_after types x) xs) (are_typed (types_after_all (types_after types x) xs) ys)

-- one more line, k, is typed
pub are_typed-take_more : (types now : Types) (ops : List Op) (k : ℕ) (d : Op) → k < length ops → now ≡ types_after_all types (take k ops) → are_typed types (take k ops) ≡ true → is_typed now (get_or ops k d) ≡ true → are_typed types (take (k + 1) ops) ≡ true
are_typed-take_more types now ops k d within here before typed =
    rw (take_more ops k d within, are_typed-append types (take k ops) (get_or ops k d ∷ []))
    (and-true (are_typed types (take k ops)) (is_typed (types_after_all types (take k ops)) (get_or ops k d)) before (rw (← here) typed))

pub types_after_all-take_more : (types now then : Types) (ops : List Op) (k : ℕ) (d : Op) → k < length ops → now ≡ types_after_all types (take k ops) → then ≡ types_after now (get_or ops k d) → then ≡ types_after_all types (take (k + 1) ops)
types_after_all-take_more types now then ops k d within here after =
    rw (take_more ops k d within, types_after_all-append types (take k ops) (get_or ops k d ∷ []), ← here) after
