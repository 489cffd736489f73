-- Bytes that are written one after another.
use Rattle.std.proofs.Common.{◌≡◌, ℕ, ◌+◌, Bool, true, false, List, [], ◌++◌, Option, Some, None, refl, sym, ap, ◌∙◌, subst, arith, length, length-append, take, drop}
use Rattle.std.specs.Io.KnownBytes.{Appends}
use Rattle.std.proofs.lemmas.List.{append-nil, append_assoc}
use Rattle.std.proofs.Math.Seq.{drop-append_seam, take-append-add}
use Rattle.mx_outside.specs.Bytes.{AppendsPrefix}
use Rattle.mx_outside.specs.Causes.{Rose}
use Rattle.ir_runner.specs.Outputs.{Gains, GainsBy, GainsSince, HoldsPart, written}

appends_then : (a b c : Option (List ℕ)) (xs ys : List ℕ) → Appends a b xs → Appends b c ys → Appends a c (xs ++ ys)
appends_then None b c xs ys p q = tt
appends_then (Some x) None c xs ys p q = absurd p
appends_then (Some x) (Some y) None xs ys p q = absurd q
appends_then (Some x) (Some y) (Some z) xs ys p q = q ∙ ap (λ l. l ++ ys) p ∙ append_assoc x xs ys

appends_none : (a : Option (List ℕ)) → Appends a a []
appends_none None = tt
appends_none (Some x) = sym (append-nil x)

prefix_then : (a b c : Option (List ℕ)) (xs ys : List ℕ) → Appends a b xs → AppendsPrefix b c ys → AppendsPrefix a c (xs ++ ys)
prefix_then a b c xs ys p q = (length xs + q.0, (let n = length-append xs ys in omega (arith, n, q.1)), subst (Appends a c) (sym (take-append-add xs ys q.0)) (appends_then a b c xs (take q.0 ys) p q.2))

prefix_of : (a b : Option (List ℕ)) (xs ys : List ℕ) → Appends a b xs → AppendsPrefix a b (xs ++ ys)
prefix_of a b xs ys p = prefix_then a b b xs ys p (0, omega arith, appends_none b)

-- a sink before anything is written
pub gains_nothing : {S : Type 0} (faults : S → ℕ) (held : S → Option (List ℕ)) (x : S) → Gains (written faults held x x) []
gains_nothing faults held x = (refl, appends_none (held x))

rest_of : (old new more : List ℕ) → new ≡ old ++ more → drop (length old) new ≡ more
rest_of old new more e = ap (drop (length old)) e ∙ drop-append_seam old more

-- the sink had all that was written before, and what follows is appended, or a part of it
pub gains_on : {S : Type 0} (faults : S → ℕ) (held : S → Option (List ℕ)) (x y z : S) (old new more : List ℕ) (failed : Bool) → new ≡ old ++ more → Gains (written faults held x y) old → GainsBy failed (written faults held y z) (drop (length old) new) → GainsBy failed (written faults held x z) new
gains_on faults held x y z old new more false e g h = (h.0 ∙ g.0, subst (Appends (held x) (held z)) (sym e) (appends_then (held x) (held y) (held z) old more g.1 (subst (Appends (held y) (held z)) (rest_of old new more e) h.1)))
gains_on faults held x y z old new more true e g h = (subst (λ n. Rose n (faults z)) g.0 h.0, subst (AppendsPrefix (held x) (held z)) (sym e) (prefix_then (held x) (held y) (held z) old more g.1 (subst (AppendsPrefix (held y) (held z)) (rest_of old new more e) h.1)))

-- the sink has all that was written before
pub holds_on : {S : Type 0} (faults : S → ℕ) (held : S → Option (List ℕ)) (x y z : S) (old new more : List ℕ) → new ≡ old ++ more → Gains (written faults held x y) old → Gains (written faults held y z) [] → HoldsPart (written faults held x z) new
holds_on faults held x y z old new more e g h = (h.0 ∙ g.0, subst (AppendsPrefix (held x) (held z)) (sym e) (prefix_of (held x) (held z) old more (subst (Appends (held x) (held z)) (append-nil old) (appends_then (held x) (held y) (held z) old [] g.1 h.1))))

-- the same of a run that stops there
pub gains_since : {S : Type 0} (faults : S → ℕ) (held : S → Option (List ℕ)) (x y z : S) (old new more : List ℕ) (failed : Bool) → new ≡ old ++ more → Gains (written faults held x y) old → GainsBy failed (written faults held y z) (drop (length old) new) → GainsSince failed (length old) (written faults held x z) new
gains_since faults held x y z old new more false e g h = gains_on faults held x y z old new more false e g h
gains_since faults held x y z old new more true e g h =
    let p : AppendsPrefix (held y) (held z) more = subst (AppendsPrefix (held y) (held z)) (rest_of old new more e) h.1 in
    let n = ap length e in
    let m = length-append old more in
    (subst (λ k. Rose k (faults z)) g.0 h.0, (length old + p.0, omega arith, omega (arith, n, m, p.1), subst (λ l. Appends (held x) (held z) (take (length old + p.0) l)) (sym e) (subst (Appends (held x) (held z)) (sym (take-append-add old more p.0)) (appends_then (held x) (held y) (held z) old (take p.0 more) g.1 p.2))))
