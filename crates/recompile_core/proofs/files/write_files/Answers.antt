use Rattle.std.proofs.Common.{subst, List, ℕ}
use Rattle.recompile_core.specs.World.{files_now}
use Rattle.recompile_core.specs.After.{Wrote, with_file}
use Rattle.recompile_core.proofs.Writing.{files_after, files_failed}
use Rattle.recompile_core.proofs.files.write_files.Goals as goal

pub returns-in-Ok-clause-after : goal.returns-in-Ok-clause-after
returns-in-Ok-clause-after g c =
    let now = files_now g.F.Files.names g.F.Files.read_faults g.F.Files.write_faults in
    let P : List ℕ → Type 0 = λ b. Wrote (now c.args.files.now) (now c.write_if.new.files) (with_file c.args.journal_name.now b) in
    files_after (now c.args.files.now) (now c.write_if.new.files) (now c.write_report.new.files) c.args.journal_name.now c.args.report_name.now c.args.journal.now c.write_report.result
    (subst P c.bytes.ensures c.in-Ok.ensures.ok) c.in-Ok.ensures.others c.write_report.ensures.ok c.write_report.ensures.err c.write_report.ensures.others

pub returns-in-Err-clause-after : goal.returns-in-Err-clause-after
returns-in-Err-clause-after g c =
    let now = files_now g.F.Files.names g.F.Files.read_faults g.F.Files.write_faults in
    files_failed (now c.args.files.now) (now c.write_if.new.files) c.args.journal_name.now c.args.report_name.now c.args.journal.now c.in-Err.ensures.err c.in-Err.ensures.others
