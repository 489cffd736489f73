-- What is answered, from what the parts of a call come to.
use Rattle.std.proofs.Common.{◌≡◌, ◌⊎◌, ℕ, inl, inr, [], Option, None, Some, refl, ap, ◌∙◌}
use Rattle.std.specs.Prelude.{IfSome, IfNone, IsSome}
use Rattle.endings.specs.declared.ending.Ending.{Ending}
use Rattle.endings.specs.declared.ending.Ending.TheVariants.{Memory, Run, WriteFault}
use Rattle.endings.specs.Ending.{line_of}
use Rattle.ir_runner.specs.Outputs.{Gains}
use Rattle.machine_laws.specs.Cases.{reads_input}
use Rattle.machine_model.specs.CaseData.{CaseData}
use Rattle.machine_model.specs.declared.ending.RunEnd.{RunEnd}
use Rattle.run_start.specs.declared.fault.StartFault.{StartFault}
use Rattle.run_start.specs.declared.fault.StartFault.TheVariants as start
use Rattle.recompile_core.specs.declared.answer.Answer.{Answer}
use Rattle.recompile_core.specs.declared.plan.Task.{Task}
use Rattle.recompile_core.specs.declared.plan.RunPlan.{RunPlan}
use Rattle.recompile_core.specs.After.{FilesAfter, GainsOrFails, IfFailure, InputRead, IsRefused, Leaves}
use Rattle.recompile_core.specs.Answer.{Ends, HasCase, IfRun, IsCaseOfTask, JournalOf}
use Rattle.recompile_core.specs.Causes.{CauseOf, RefusesTask}
use Rattle.recompile_core.specs.Plans.{order_of}
use Rattle.recompile_core.specs.Runs.{Breaks, IsAnswer, Played, RunsTo, WriteFailed, ending_of}
use Rattle.mx_outside.specs.Names.{NameMap}
use Rattle.recompile_core.specs.World.{FilesNow, World}

in-some : {A : Type 0} (o : Option A) (x : A) (P : A → Type 0) → o ≡ Some x → P x → IfSome o P
in-some o x P e h = rw e h

some-there : {A : Type 0} (o : Option A) (x : A) → o ≡ Some x → IsSome o
some-there o x e = rw e refl

not-none : {A : Type 0} (o : Option A) (x : A) (P : Type 0) → o ≡ Some x → IfNone o P
not-none o x P e = rw e tt

-- a run that was played, by its ending
module _ (w : World) (p : RunPlan) (a : Answer) (c : CaseData) (there : a.case ≡ Some c) (case : IsCaseOfTask w.files.names w.input.left p.task c) (input : InputRead (reads_input c.image) w.input w.input_after) (reads : w.files_after.reads ≡ w.files.reads) (faults : w.input_after.faults ≡ w.input.faults) where
  abbrev Is : Ending → Type 0
  Is e = Played c (order_of p) a.journal e w.files w.files_after w.out w.err p.journal p.report

  made-run : (m : Is a.ending) (e : RunEnd) → a.ending ≡ Run e → RunsTo c (order_of p) a.journal e w.files w.files_after w.out w.err p.journal p.report → IsAnswer w p a
  made-run m e is x = record {
    case = in-some a.case c (λ k. IsCaseOfTask w.files.names w.input.left p.task k) there case;
    there = rw is (some-there a.case c there);
    journal = not-none a.case c (a.journal ≡ []) there;
    machine = rw is (in-some a.case c (λ k. Ends w.out w.err k a.journal e) there x.ends);
    gated = in-some a.case c _ there m.gated;
    serial = rw is (in-some a.case c (λ k. JournalOf (Run e) k (order_of p) a.journal) there x.whole);
    after_failure = rw is tt;
    files = rw is x.files;
    input = rw is (in-some a.case c (λ k. InputRead (reads_input k.image) w.input w.input_after) there input);
    refused = not-none a.case c (IsRefused w.files w.files_after w.out w.err a.ending) there;
    cause = rw is (record { reads = reads; writes = x.files.0; input = faults; out = x.ends.gained_out.0; err = x.ends.gained_err.0 });
  }

  made-fault : (m : Is a.ending) → a.ending ≡ WriteFault → WriteFailed w.files w.files_after w.out w.err → Breaks c (order_of p) a.journal WriteFault w.files w.files_after w.out w.err p.journal p.report → IsAnswer w p a
  made-fault m is why x = record {
    case = in-some a.case c (λ k. IsCaseOfTask w.files.names w.input.left p.task k) there case;
    there = rw is (some-there a.case c there);
    journal = not-none a.case c (a.journal ≡ []) there;
    machine = rw is tt;
    gated = in-some a.case c _ there m.gated;
    serial = rw is (in-some a.case c (λ k. JournalOf WriteFault k (order_of p) a.journal) there x.begins);
    after_failure = rw is (in-some a.case c (λ k. Leaves w.out w.err k a.journal WriteFault × FilesAfter w.files w.files_after p.journal p.report a.journal) there (x.leaves, x.files));
    files = rw is tt;
    input = rw is tt;
    refused = not-none a.case c (IsRefused w.files w.files_after w.out w.err a.ending) there;
    cause = rw is why;
  }

  made-memory : (m : Is a.ending) → a.ending ≡ Memory → Breaks c (order_of p) a.journal Memory w.files w.files_after w.out w.err p.journal p.report → IsAnswer w p a
  made-memory m is x = record {
    case = in-some a.case c (λ k. IsCaseOfTask w.files.names w.input.left p.task k) there case;
    there = rw is tt;
    journal = not-none a.case c (a.journal ≡ []) there;
    machine = rw is tt;
    gated = in-some a.case c _ there m.gated;
    serial = rw is (in-some a.case c (λ k. JournalOf Memory k (order_of p) a.journal) there x.begins);
    after_failure = rw is (in-some a.case c (λ k. Leaves w.out w.err k a.journal Memory × FilesAfter w.files w.files_after p.journal p.report a.journal) there (x.leaves, x.files));
    files = rw is tt;
    input = rw is tt;
    refused = not-none a.case c (IsRefused w.files w.files_after w.out w.err a.ending) there;
    cause = rw is tt;
  }

  pub played_answer : Is a.ending → IsAnswer w p a
  played_answer m =
      elim m.by_ending [
        | inl x ↦ made-run m x.0 x.1 x.2
        | inr y ↦ elim y [
          | inl x ↦ made-fault m x.0 x.1 x.2
          | inr x ↦ made-memory m x.0 x.1
        ]
      ]

-- files whose names and counts are as before
pub same_now : (f g : FilesNow) → g.names ≡ f.names → g.reads ≡ f.reads → g.writes ≡ f.writes → g ≡ f
same_now f g n r w =
    let of_parts : Option NameMap → ℕ → ℕ → FilesNow = λ x y z. record { names = x; reads = y; writes = z } in
    ap (λ (x : Option NameMap). of_parts x g.reads g.writes) n ∙ ap (λ y. of_parts f.names y g.writes) r ∙ ap (λ z. of_parts f.names f.reads z) w

-- ---- a call that can't be carried out

no_run : (fault : StartFault) (P : RunEnd → Type 0) → IfRun (ending_of fault) P
no_run (start.Image number) P = tt
no_run start.ReadFault P = tt
no_run start.Absent P = tt
no_run (start.IrText f) P = tt
no_run (start.Stale address file lifted) P = tt
no_run (start.Twice address) P = tt
no_run start.TooLong P = tt
no_run start.TooMany P = tt
no_run (start.Memory e) P = tt

in_failure : (fault : StartFault) (P : Type 0) → P → IfFailure (ending_of fault) P
in_failure (start.Image number) P x = tt
in_failure start.ReadFault P x = tt
in_failure start.Absent P x = tt
in_failure (start.IrText f) P x = tt
in_failure (start.Stale address file lifted) P x = tt
in_failure (start.Twice address) P x = tt
in_failure start.TooLong P x = tt
in_failure start.TooMany P x = tt
in_failure (start.Memory e) P x = x

no_case : (fault : StartFault) → HasCase (ending_of fault) None
no_case (start.Image number) = refl
no_case start.ReadFault = refl
no_case start.Absent = refl
no_case (start.IrText f) = refl
no_case (start.Stale address file lifted) = refl
no_case (start.Twice address) = refl
no_case start.TooLong = refl
no_case start.TooMany = refl
no_case (start.Memory e) = tt

cause_is : (w : World) (task : Task) (fault : StartFault) → RefusesTask w task fault → CauseOf w task (ending_of fault)
cause_is w task (start.Image number) r = r
cause_is w task start.ReadFault r = r
cause_is w task start.Absent r = r
cause_is w task (start.IrText f) r = r
cause_is w task (start.Stale address file lifted) r = r
cause_is w task (start.Twice address) r = r
cause_is w task start.TooLong r = r
cause_is w task start.TooMany r = r
cause_is w task (start.Memory e) r = tt

-- an ending without a case
module _ (w : World) (p : RunPlan) (a : Answer) (none : a.case ≡ None) (empty : a.journal ≡ []) (out : Gains w.out []) (err : GainsOrFails w.err (line_of a.ending)) (names : w.files_after.names ≡ w.files.names) (writes : w.files_after.writes ≡ w.files.writes) where
  ended : (e : Ending) → a.ending ≡ e → HasCase e None → ((P : RunEnd → Type 0) → IfRun e P) → ((P : Type 0) → P → IfFailure e P) → CauseOf w p.task e → IsAnswer w p a
  ended e is there run failure cause = record {
    case = rw none tt;
    there = rw none (rw is there);
    journal = rw none empty;
    machine = rw is (run (λ x. IfSome a.case (λ c. Ends w.out w.err c a.journal x)));
    gated = rw none tt;
    serial = rw none tt;
    after_failure = rw is (failure (IfSome a.case (λ c. Leaves w.out w.err c a.journal e × FilesAfter w.files w.files_after p.journal p.report a.journal)) (rw none tt));
    files = rw is (run _);
    input = rw is (run _);
    refused = rw none (record { left_out = out; left_err = err; names = names; writes = writes });
    cause = rw is cause;
  }

  pub refused_answer : (fault : StartFault) → (a.ending ≡ ending_of fault) ⊎ (a.ending ≡ Memory) → RefusesTask w p.task fault → IsAnswer w p a
  refused_answer fault which r = elim which [
    | inl is ↦ ended (ending_of fault) is (no_case fault) (no_run fault) (in_failure fault) (cause_is w p.task fault r)
    | inr is ↦ ended Memory is tt (λ P. tt) (λ P x. x) tt
  ]
