-- How a run's end is told, and what is left then.
use Rattle.std.proofs.Common.{◌≡◌, ℕ, ◌+◌, inl, inr, Bool, true, false, List, [], ◌++◌, length, take, Option, Some, None, refl, sym, ap, ◌∙◌, subst, arith}
use Rattle.std.specs.Prelude.{◌⊎◌, IsSome, Result, Ok, Err}
use Rattle.std.specs.Io.KnownBytes.{Appends}
use Rattle.std.proofs.lemmas.List.{append-nil, append_assoc, length-append, take-append-le}
use Rattle.std.proofs.Math.Seq.{take-append-add, take-length}
use Rattle.endings.specs.declared.ending.Ending.{Ending}
use Rattle.endings.specs.declared.ending.Ending.TheVariants.{Memory, Run, WriteFault}
use Rattle.endings.specs.Ending.{line_of}
use Rattle.endings.specs.Line.{LastLine}
use Rattle.journal_pack.specs.declared.entry.Entry.{Entry}
use Rattle.machine_model.specs.CaseData.{CaseData}
use Rattle.machine_model.specs.Serial as serial
use Rattle.machine_model.specs.Serial.{IsSerial}
use Rattle.machine_model.specs.State.{Machine}
use Rattle.machine_model.specs.declared.ending.RunEnd.{RunEnd}
use Rattle.mx_outside.specs.Bytes.{AppendsPrefix}
use Rattle.mx_outside.specs.Causes.{Rose}
use Rattle.ir_runner.specs.Outputs.{Gains, GainsBy, GainsPart, HoldsPart, Written, written}
use Rattle.recompile_core.specs.declared.files.Unwritten.{Unwritten}
use Rattle.recompile_core.specs.declared.files.Unwritten.TheVariants as unwritten
use Rattle.recompile_core.specs.declared.run.Came.{Came}
use Rattle.recompile_core.specs.declared.run.Came.TheVariants as came
use Rattle.recompile_core.specs.After.{ErrAfter, FilesAfter, GainsOrFails, Wrote, part_and_line, with_files}
use Rattle.recompile_core.specs.Answer.{BeginsOrder, InOrder}
use Rattle.recompile_core.specs.Runs.{AskedFiles, Breaks, Closes, Finished, IsMade, Played, RunsTo, Told, WriteFailed, ending_by, settled}
use Rattle.recompile_core.specs.World.{FilesNow}
use Rattle.recompile_core.proofs.Writing.{files_same}

-- ---- bytes one after another

appends_then : (a b c : Option (List ℕ)) (xs ys : List ℕ) → Appends a b xs → Appends b c ys → Appends a c (xs ++ ys)
appends_then None b c xs ys p q = tt
appends_then (Some x) None c xs ys p q = absurd p
appends_then (Some x) (Some y) None xs ys p q = absurd q
appends_then (Some x) (Some y) (Some z) xs ys p q = q ∙ ap (λ l. l ++ ys) p ∙ append_assoc x xs ys

prefix_then : (a b c : Option (List ℕ)) (xs ys : List ℕ) → Appends a b xs → AppendsPrefix b c ys → AppendsPrefix a c (xs ++ ys)
prefix_then a b c xs ys p q = (length xs + q.0, (let n = length-append xs ys in omega (arith, n, q.1)), subst (Appends a c) (sym (take-append-add xs ys q.0)) (appends_then a b c xs (take q.0 ys) p q.2))

-- a first part is one of more
prefix_more : (a b : Option (List ℕ)) (xs ys : List ℕ) → AppendsPrefix a b xs → AppendsPrefix a b (xs ++ ys)
prefix_more a b xs ys p = (p.0, (let n = length-append xs ys in omega (arith, n, p.1)), subst (Appends a b) (sym (take-append-le p.0 xs ys p.1)) p.2)

whole-prefix : (a b : Option (List ℕ)) (xs : List ℕ) → Appends a b xs → AppendsPrefix a b xs
whole-prefix a b xs p = (length xs, omega arith, subst (Appends a b) (sym (take-length xs)) p)

-- two parts of one call to a sink
pub joined : Written → Written → Written
joined x y = record { before = x.before; now = y.now; old = x.old; new = y.new }

abbrev sink : ℕ → ℕ → Option (List ℕ) → Option (List ℕ) → Written
sink b n h k = record { before = b; now = n; old = h; new = k }

-- all of the bytes, or a part of them and a fault
abbrev By : Bool → Written → List ℕ → Type 0
By true s bytes = Gains s bytes
By false s bytes = GainsPart s bytes

module _ (b0 b1 b2 : ℕ) (h0 h1 h2 : Option (List ℕ)) where
  line-on : (part line : List ℕ) (whole : Bool) → Gains (sink b0 b1 h0 h1) part → LastLine whole b1 b2 h1 h2 line → By whole (sink b0 b2 h0 h2) (part ++ line)
  line-on part line true p l = (l.0 ∙ p.0, appends_then h0 h1 h2 part line p.1 l.1)
  line-on part line false p l = (subst (λ n. Rose n b2) p.0 l.0, prefix_then h0 h1 h2 part line p.1 l.1)

  -- the line of a failure, or of want of memory
  memory-line : (m : Machine) (n : ℕ) (whole : Bool) → By whole (sink b0 b2 h0 h2) (part_and_line m.library.out2 n Memory) → ErrAfter Memory m (sink b0 b2 h0 h2)
  memory-line m n true p = (n, inl p)
  memory-line m n false p = (n, inr p)

  all-of : (m : Machine) (e : Ending) (whole : Bool) → By whole (sink b0 b2 h0 h2) (m.library.out2 ++ line_of e) → By whole (sink b0 b2 h0 h2) (part_and_line m.library.out2 (length m.library.out2) e)
  all-of m e whole p = subst (λ l. By whole (sink b0 b2 h0 h2) (l ++ line_of e)) (sym (take-length m.library.out2)) p

  fault-line : (m : Machine) (whole : Bool) → By whole (sink b0 b2 h0 h2) (m.library.out2 ++ line_of WriteFault) → ErrAfter WriteFault m (sink b0 b2 h0 h2)
  fault-line m true p = inl p
  fault-line m false p = inr (inl (length m.library.out2, all-of m WriteFault false p))

  -- the line of the machine's ending that wasn't written whole
  run-line : (m : Machine) (e : RunEnd) → m.ending ≡ Some e → GainsPart (sink b0 b2 h0 h2) (m.library.out2 ++ line_of (Run e)) → ErrAfter WriteFault m (sink b0 b2 h0 h2)
  run-line m e is p = inr (inr (length m.library.out2, e, is, all-of m (Run e) false p))

  -- a sink that failed before, and had no line
  failed-before : (m : Machine) → b2 ≡ b1 → h2 ≡ h1 → GainsPart (sink b0 b1 h0 h1) m.library.out2 → ErrAfter WriteFault m (sink b0 b2 h0 h2)
  failed-before m b h p =
      let q = prefix_more h0 h1 m.library.out2 (line_of WriteFault) p.1 in
      inr (inl (length m.library.out2, all-of m WriteFault false (subst (Rose b0) (sym b) p.0, subst (λ (k : Option (List ℕ)). AppendsPrefix h0 k (m.library.out2 ++ line_of WriteFault)) (sym h) q)))

-- ---- a run and its end

begins-so : (c : CaseData) (o : Option serial.Rules) (journal : List Entry) → InOrder o c journal → BeginsOrder o c journal
begins-so c None journal s = tt
begins-so c (Some r) journal s = ([], subst (IsSerial c r) (sym (append-nil journal)) s)

module _ (c : CaseData) (order : Option serial.Rules) (journal : List Entry) (f g : FilesNow) (a b : Option (List ℕ)) (out : Written) (b0 b1 b2 : ℕ) (h0 h1 h2 : Option (List ℕ)) where
  abbrev Run-so : Ending → Type 0
  Run-so e = Played c order journal e f g out (sink b0 b2 h0 h2) a b

  abbrev Made : Came → Type 0
  Made how = IsMade c order journal how out (sink b0 b1 h0 h1)

  to-run : {how : Came} (m : Made how) (e : RunEnd) → RunsTo c order journal e f g out (sink b0 b2 h0 h2) a b → Run-so (Run e)
  to-run m e x = record { gated = m.gated; by_ending = inl (e, refl, x) }

  to-fault : {how : Came} (m : Made how) → WriteFailed f g out (sink b0 b2 h0 h2) → Breaks c order journal WriteFault f g out (sink b0 b2 h0 h2) a b → Run-so WriteFault
  to-fault m x y = record { gated = m.gated; by_ending = inr (inl (refl, x, y)) }

  to-memory : {how : Came} (m : Made how) → Breaks c order journal Memory f g out (sink b0 b2 h0 h2) a b → Run-so Memory
  to-memory m y = record { gated = m.gated; by_ending = inr (inr (refl, y)) }

  -- the line of `Memory`, after all of the outputs or a part of them
  memory-after : {how : Came} (m : Made how) (n : ℕ) (whole : Bool) → BeginsOrder order c journal → AppendsPrefix out.old out.new m.machine.library.out1 → Gains (sink b0 b1 h0 h1) (take n m.machine.library.out2) → FilesAfter f g a b journal → LastLine whole b1 b2 h1 h2 (line_of Memory) → Run-so Memory
  memory-after m n whole begins o p files l = to-memory m (record {
    leaves = record { machine = m.machine; played = m.played; left_out = o; left_err = memory-line b0 b1 b2 h0 h1 h2 m.machine n whole (line-on b0 b1 b2 h0 h1 h2 (take n m.machine.library.out2) (line_of Memory) whole p l); ended = tt };
    begins = begins;
    files = files;
  })

  all-taken : (bytes : List ℕ) → Gains (sink b0 b1 h0 h1) bytes → Gains (sink b0 b1 h0 h1) (take (length bytes) bytes)
  all-taken bytes p = subst (Gains (sink b0 b1 h0 h1)) (sym (take-length bytes)) p

  -- the line of `WriteFault`, after all of the outputs
  fault-after : {how : Came} (m : Made how) (whole : Bool) → BeginsOrder order c journal → GainsOrFails out m.machine.library.out1 → Gains (sink b0 b1 h0 h1) m.machine.library.out2 → FilesAfter f g a b journal → WriteFailed f g out (sink b0 b2 h0 h2) → (Rose out.before out.now ⊎ (Rose b0 b2 ⊎ IsSome m.machine.ending)) → LastLine whole b1 b2 h1 h2 (line_of WriteFault) → Run-so WriteFault
  fault-after m whole begins o p files cause ended l = to-fault m cause (record {
    leaves = record { machine = m.machine; played = m.played; left_out = o; left_err = fault-line b0 b1 b2 h0 h1 h2 m.machine whole (line-on b0 b1 b2 h0 h1 h2 m.machine.library.out2 (line_of WriteFault) whole p l); ended = ended };
    begins = begins;
    files = files;
  })

  -- the line of the machine's ending
  run-after : (e : RunEnd) (m : Made (came.Ended e)) (whole : Bool) → Wrote f g (with_files a b journal) → FilesAfter f g a b journal → LastLine whole b1 b2 h1 h2 (line_of (Run e)) → Run-so (settled (Run e) whole)
  run-after e m true w files l = to-run m e (record {
    ends = record { machine = m.machine; played = m.played; ending = m.came.1; gained_out = m.came.2; gained_err = line-on b0 b1 b2 h0 h1 h2 m.machine.library.out2 (line_of (Run e)) true m.came.3 l };
    whole = m.came.0;
    files = w;
  })
  run-after e m false w files l =
      let p = line-on b0 b1 b2 h0 h1 h2 m.machine.library.out2 (line_of (Run e)) false m.came.3 l in
      to-fault m (inr (inl p.0)) (record {
        leaves = record { machine = m.machine; played = m.played; left_out = inl m.came.2; left_err = run-line b0 b1 b2 h0 h1 h2 m.machine e m.came.1 p; ended = inr (inl p.0) };
        begins = begins-so c order journal m.came.0;
        files = files;
      })

  -- an ending that isn't `Run` is settled as it is
  ended-some : (m : Machine) (e : RunEnd) → m.ending ≡ Some e → IsSome m.ending
  ended-some m e is = let P : Option RunEnd → Type 0 = λ o. IsSome o in subst P (sym is) refl

  -- what was shown, after a run to an ending
  ended-told : (e : RunEnd) (m : Made (came.Ended e)) (left : Result (Unit {0}) Unwritten) (ending : Ending) → AskedFiles (came.Ended e) left f g a b journal → Told (ending_by (came.Ended e) left) ending (sink b1 b2 h1 h2) → Run-so ending
  ended-told e m (Ok u) ending asked t =
      let s = begins-so c order journal m.came.0 in
      let P : Ending → Type 0 = λ x. LastLine t.whole b1 b2 h1 h2 (line_of x) in
      let Q : Ending → Type 0 = λ x. ending ≡ settled x t.whole in
      elim t.which [
        | inl x ↦ subst Run-so (sym (subst Q x t.final_is)) (run-after e m t.whole asked.0 asked.1 (subst P x t.line))
        | inr x ↦ subst Run-so (sym (subst Q x t.final_is)) (memory-after m _ t.whole s (whole-prefix out.old out.new m.machine.library.out1 m.came.2.1) (all-taken m.machine.library.out2 m.came.3) asked.1 (subst P x t.line))
      ]
  ended-told e m (Err unwritten.Failed) ending asked t =
      let s = begins-so c order journal m.came.0 in
      let P : Ending → Type 0 = λ x. LastLine t.whole b1 b2 h1 h2 (line_of x) in
      let Q : Ending → Type 0 = λ x. ending ≡ settled x t.whole in
      elim t.which [
        | inl x ↦ subst Run-so (sym (subst Q x t.final_is)) (fault-after m t.whole s (inl m.came.2) m.came.3 asked.1 (inr (inr asked.0)) (inr (inr (ended-some m.machine e m.came.1))) (subst P x t.line))
        | inr x ↦ subst Run-so (sym (subst Q x t.final_is)) (memory-after m _ t.whole s (whole-prefix out.old out.new m.machine.library.out1 m.came.2.1) (all-taken m.machine.library.out2 m.came.3) asked.1 (subst P x t.line))
      ]
  ended-told e m (Err unwritten.Memory) ending asked t =
      let s = begins-so c order journal m.came.0 in
      let P : Ending → Type 0 = λ x. LastLine t.whole b1 b2 h1 h2 (line_of x) in
      let Q : Ending → Type 0 = λ x. ending ≡ settled x t.whole in
      let is : t.shown ≡ Memory = elim t.which [ inl x ↦ x | inr x ↦ x ] in
      subst Run-so (sym (subst Q is t.final_is)) (memory-after m _ t.whole s (whole-prefix out.old out.new m.machine.library.out1 m.came.2.1) (all-taken m.machine.library.out2 m.came.3) asked.1 (subst P is t.line))

  gains-or : (x : Bool) (s : Written) (bytes : List ℕ) → GainsBy x s bytes → GainsOrFails s bytes
  gains-or true s bytes p = inr p
  gains-or false s bytes p = inl p

  -- a run that stopped
  stopped-told : (x y : Bool) (m : Made (came.Stopped x y)) (ending : Ending) → g ≡ f → Closes y WriteFault ending (sink b1 b2 h1 h2) → Run-so ending
  stopped-told x true m ending same t =
      let p : GainsPart (sink b0 b1 h0 h1) m.machine.library.out2 = m.came.3 in
      let rose : Rose b0 b2 = subst (Rose b0) (sym t.1) p.0 in
      subst Run-so (sym t.0) (to-fault m (inr (inl rose)) (record {
        leaves = record { machine = m.machine; played = m.played; left_out = gains-or x out m.machine.library.out1 m.came.2; left_err = failed-before b0 b1 b2 h0 h1 h2 m.machine t.1 t.2 p; ended = inr (inl rose) };
        begins = m.came.0;
        files = files_same f g a b journal same;
      }))
  stopped-told true false m ending same t =
      let o : GainsPart out m.machine.library.out1 = m.came.2 in
      let p : Gains (sink b0 b1 h0 h1) m.machine.library.out2 = m.came.3 in
      let P : Ending → Type 0 = λ x. LastLine t.whole b1 b2 h1 h2 (line_of x) in
      let Q : Ending → Type 0 = λ x. ending ≡ settled x t.whole in
      elim t.which [
        | inl x ↦ subst Run-so (sym (subst Q x t.final_is)) (fault-after m t.whole m.came.0 (inr o) p (files_same f g a b journal same) (inl o.0) (inl o.0) (subst P x t.line))
        | inr x ↦ subst Run-so (sym (subst Q x t.final_is)) (memory-after m _ t.whole m.came.0 o.1 (all-taken m.machine.library.out2 p) (files_same f g a b journal same) (subst P x t.line))
      ]
  stopped-told false false m ending same t = let no : false ≡ true = m.came.1 in absurd cc

  -- a run in which memory was wanting
  memory-told : (m : Made came.Memory) (ending : Ending) → g ≡ f → Told Memory ending (sink b1 b2 h1 h2) → Run-so ending
  memory-told m ending same t =
      let o : HoldsPart out m.machine.library.out1 = m.came.1 in
      let p : HoldsPart (sink b0 b1 h0 h1) m.machine.library.out2 = m.came.2 in
      let P : Ending → Type 0 = λ x. LastLine t.whole b1 b2 h1 h2 (line_of x) in
      let Q : Ending → Type 0 = λ x. ending ≡ settled x t.whole in
      let is : t.shown ≡ Memory = elim t.which [ inl x ↦ x | inr x ↦ x ] in
      subst Run-so (sym (subst Q is t.final_is)) (memory-after m p.1.0 t.whole m.came.0 o.1 (p.0, p.1.2) (files_same f g a b journal same) (subst P is t.line))

  finished-by : (how : Came) (ending : Ending) → Made how → Finished how ending f g (sink b1 b2 h1 h2) a b journal → Run-so ending
  finished-by (came.Ended e) ending m x = ended-told e m x.left ending x.asked x.closes
  finished-by (came.Stopped p q) ending m x = stopped-told p q m ending x.asked x.closes
  finished-by came.Memory ending m x = memory-told m ending x.asked x.closes

-- what a run and its end come to together
pub played_by : {S : Type 0} (faults : S → ℕ) (held : S → Option (List ℕ)) (x y z : S) (c d : CaseData) (order : Option serial.Rules) (journal last : List Entry) (how : Came) (ending : Ending) (f g : FilesNow) (a b : Option (List ℕ)) (out : Written) → d ≡ c → last ≡ journal → IsMade c order journal how out (written faults held x y) → Finished how ending f g (written faults held y z) a b journal → Played c order last ending f g out (written faults held x z) a b
played_by faults held x y z c d order journal last how ending f g a b out e l m n =
    let P : List Entry → Type 0 = λ j. Played c order j ending f g out (written faults held x z) a b in
    subst P (sym l) (finished-by c order journal f g a b out (faults x) (faults y) (faults z) (held x) (held y) (held z) how ending m n)
