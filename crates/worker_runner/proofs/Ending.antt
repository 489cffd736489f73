-- What a run comes to, with all that it wrote.
use Rattle.std.proofs.Common.{◌≡◌, ℕ, inl, Bool, true, false, ◌||◌, List, [], ◌∷◌, ◌++◌, Option, Some, None, refl, sym, subst, ap, ◌∙◌, arith, append-nil, length-append}
use Rattle.std.specs.Prelude.{IsSome}
use Rattle.std.specs.Io.KnownBytes.{Appends}
use Rattle.std.proofs.lemmas.List.{take-append-le}
use Rattle.mx_outside.specs.Bytes.{AppendsPrefix}
use Rattle.journal_pack.specs.declared.entry.Entry.{Entry}
use Rattle.machine_model.specs.CaseData.{CaseData}
use Rattle.machine_model.specs.Comes.{both_of, walk_on}
use Rattle.machine_model.specs.Gated.{Both, Leads, begin}
use Rattle.machine_model.specs.State.{start}
use Rattle.machine_model.specs.declared.ending.RunEnd.{RunEnd}
use Rattle.machine_model.proofs.Own.{made_of}
use Rattle.guest_parts.specs.Running.{Rises}
use Rattle.guest_entries.specs.Steps.{instruction_steps, steps_from}
use Rattle.hall_core.specs.Hall.{both, machine}
use Rattle.ir_runner.specs.Outputs.{GainsBy, HoldsPart, written}
use Rattle.ir_runner.proofs.Sinks.{gains_nothing, holds_on}
use Rattle.thread_step.specs.Context.{HallOf}
use Rattle.worker_runner.specs.Ending.{Goes}
use Rattle.worker_runner.specs.Watched.{Grew, library_of}
use Rattle.worker_runner.proofs.Growing.{grew, onward}

pub goes_grew : (h n : HallOf) → Goes h n → Grew h n
goes_grew h n g = grew h n g.entries g.case g.journal g.before g.after

-- ---- nothing comes after an ending

no_end : (o : Option RunEnd) → IsSome o → o ≡ None → ⊥
no_end None some e = absurd (let no : false ≡ true = some in cc)
no_end (Some x) some e = absurd (let no : Some x ≡ None = e in cc)

none_after : (c : CaseData) (b n : Both) (es : List Entry) → Leads c b es n → IsSome b.machine.ending → es ≡ []
unfolding Leads
none_after c b n [] p ended = refl
none_after c b n (e ∷ es) p ended = absurd (no_end b.machine.ending ended (made_of c b p.0 e p.1).is.going)

pub same_end : (h n : HallOf) → Goes h n → IsSome (machine h).ending → machine n ≡ machine h
same_end h n g ended =
    let none : g.entries ≡ [] = none_after h.case (both h) (both n) g.entries (onward h n g.entries g.case g.journal g.before g.after) ended in
    let journal : n.journal ≡ h.journal = g.journal ∙ ap (λ es. h.journal ++ es) none ∙ append-nil h.journal in
    ap (λ (c : CaseData). (both_of c n.journal).machine) g.case ∙ ap (λ j. (both_of h.case j).machine) journal

-- ---- before the first entry

pub no_first : (h : HallOf) → h.journal ≡ [] → (library_of h).out1 ≡ []
unfolding both_of walk_on begin start
no_first h none = ap (λ j. (both_of h.case j).machine.library.out1) none

pub no_second : (h : HallOf) → h.journal ≡ [] → (library_of h).out2 ≡ []
unfolding both_of walk_on begin start
no_second h none = ap (λ j. (both_of h.case j).machine.library.out2) none

-- ---- sinks

module _ {S : Type 0} (faults : S → ℕ) (held : S → Option (List ℕ)) where
  part_of : (a b : Option (List ℕ)) (xs ys : List ℕ) → AppendsPrefix a b xs → AppendsPrefix a b (xs ++ ys)
  part_of a b xs ys p =
      let len = length-append xs ys in
      (p.0, omega (arith, len, p.1), subst (Appends a b) (sym (take-append-le p.0 xs ys p.1)) p.2)

  -- a part of what was there is a part of what grew from it
  pub holds_more : (x y : S) (old new more : List ℕ) → new ≡ old ++ more → HoldsPart (written faults held x y) old → HoldsPart (written faults held x y) new
  holds_more x y old new more is p = (p.0, subst (AppendsPrefix (held x) (held y)) (sym is) (part_of (held x) (held y) old more p.1))

  pub part_more : (x y : S) (old new more : List ℕ) → new ≡ old ++ more → GainsBy true (written faults held x y) old → GainsBy true (written faults held x y) new
  part_more x y old new more is p = (p.0, subst (AppendsPrefix (held x) (held y)) (sym is) (part_of (held x) (held y) old more p.1))

  -- nothing was written
  pub holds_nothing : (x : S) (bytes : List ℕ) → HoldsPart (written faults held x x) bytes
  holds_nothing x bytes = holds_on faults held x x x [] bytes bytes refl (gains_nothing faults held x) (gains_nothing faults held x)

pub either : (f s a b : Bool) → (f || s) ≡ true → (f ≡ true → a ≡ true) → (s ≡ true → b ≡ true) → (a || b) ≡ true
either true s a b e p q = ap (λ x. x || b) (p refl)
either false true true b e p q = refl
either false true false b e p q = q refl
either false false a b e p q = absurd (let no : false ≡ true = e in cc)

-- no step was made
pub none_ran : (a : ℕ) (h : HallOf) → h.journal ≡ [] → Rises a a (instruction_steps h.case h.journal)
unfolding steps_from
none_ran a h none = let z : instruction_steps h.case h.journal ≡ 0 = ap (instruction_steps h.case) none in inl (omega (arith, z))
