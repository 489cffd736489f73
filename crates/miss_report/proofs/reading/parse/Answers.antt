use Rattle.std.proofs.Common.{◌≡◌, ◌≢◌, ℕ, Bool, true, false, eqb, List, [], ◌∷◌, ◌++◌, length, sym, ap, subst, ◌∙◌, arith}
use Rattle.std.proofs.lemmas.Bool.{eqb-true, eqb-false}
use Rattle.std.proofs.lemmas.List.{append-nil, nil_from_length, length-append}
use Rattle.std.proofs.lemmas.List.Elements.{All-push}
use Rattle.miss_report.specs.Miss.{HasLine}
use Rattle.miss_report.specs.Report.{report, IsFirstBadLine}
use Rattle.miss_report.proofs.ReportLemmas.{more_lines, length-line, never_report, one_bad_line, same_report}
use Rattle.miss_report.proofs.reading.parse.Goals as goal

some_left : (rest : List ℕ) (b : Bool) → b ≡ eqb (length rest) 0 → b ≡ false → rest ≢ []
some_left rest b e f z = eqb-false (length rest) 0 (sym e ∙ f) (ap length z)

none_left : (rest : List ℕ) (b : Bool) → b ≡ eqb (length rest) 0 → b ≡ true → rest ≡ []
none_left rest b e f = nil_from_length rest (eqb-true (length rest) 0 (sym e ∙ f))

-- the whole text, where nothing is left of it
whole : (text front rest : List ℕ) → text ≡ front ++ rest → rest ≡ [] → text ≡ front
whole text front rest e z = e ∙ ap (λ (t : List ℕ). front ++ t) z ∙ append-nil front

pub returns-in_default-clause-only : goal.returns-in_default-clause-only
returns-in_default-clause-only c = λ misses lines e.
    let some = some_left c.loop-rest.rest.now c.is_empty.result c.is_empty.ensures c.loop-rest-test.true in
    never_report c.loop-rest.misses.items misses c.loop-rest.rest.now c.loop-rest.invariant.lines lines (sym c.loop-rest.invariant.parts ∙ e) some c.in_default.ensures.none

pub returns-in_default-clause-refused : goal.returns-in_default-clause-refused
returns-in_default-clause-refused c = λ number bad.
    let place = one_bad_line c.loop-rest.misses.items c.loop-rest.rest.now number c.loop-rest.invariant.lines c.in_default.ensures.none
    (subst (λ (t : List ℕ). IsFirstBadLine t number) c.loop-rest.invariant.parts bad) in
    omega (arith, place)

pub loop-rest-preserved : goal.loop-rest-preserved
loop-rest-preserved c =
    let pushed : c.push.new.self.items ≡ c.loop-rest.misses.items ++ c.in-Some.miss ∷ [] = grind arith in
    let found = c.in-Some.ensures.found in
    record {
      parts = c.loop-rest.invariant.parts ∙ more_lines c.loop-rest.misses.items c.in-Some.miss c.loop-rest.rest.now c.in-Some.tail.now found.1 ∙ ap (λ ms. report ms ++ c.in-Some.tail.now) (sym pushed);
      lines = rw pushed (All-push HasLine c.loop-rest.misses.items c.in-Some.miss c.loop-rest.invariant.lines found.0);
      count = omega (arith, c.loop-rest.invariant.count, length-line c.in-Some.miss c.loop-rest.rest.now c.in-Some.tail.now found.1, ap length pushed, length-append c.loop-rest.misses.items (c.in-Some.miss ∷ []));
    }

pub returns-clause-only : goal.returns-clause-only
returns-clause-only c = λ misses lines e.
    let none = none_left c.loop-rest.rest.now c.is_empty.result c.is_empty.ensures c.loop-rest-test.false in
    same_report c.loop-rest.misses.items misses c.loop-rest.invariant.lines lines (sym (whole _ _ _ c.loop-rest.invariant.parts none) ∙ e)

pub returns-clause-refused : goal.returns-clause-refused
returns-clause-refused c = λ number bad.
    let none = none_left c.loop-rest.rest.now c.is_empty.result c.is_empty.ensures c.loop-rest-test.false in
    never_report bad.before c.loop-rest.misses.items bad.rest bad.lines c.loop-rest.invariant.lines (sym bad.parts ∙ whole _ _ _ c.loop-rest.invariant.parts none) bad.more bad.bad
