use Rattle.std.proofs.Common.{refl, None}
use Rattle.recompile_core.specs.World.{files_now}
use Rattle.recompile_core.proofs.Writing.{others_same, others_swap}
use Rattle.recompile_core.proofs.files.write_report.Goals as goal

pub returns-then-is_none-clause-others : goal.returns-then-is_none-clause-others
returns-then-is_none-clause-others g c =
    let old = files_now g.F.Files.names g.F.Files.read_faults g.F.Files.write_faults c.args.files.now in
    others_same old old None c.args.name.now refl

pub returns-in_default-clause-others : goal.returns-in_default-clause-others
returns-in_default-clause-others g c =
    let old = files_now g.F.Files.names g.F.Files.read_faults g.F.Files.write_faults c.args.files.now in
    others_same old old None c.args.name.now refl

pub returns-in-Ok-write_if-clause-others : goal.returns-in-Ok-write_if-clause-others
returns-in-Ok-write_if-clause-others g c =
    let now = files_now g.F.Files.names g.F.Files.read_faults g.F.Files.write_faults in
    others_swap (now c.args.files.now) (now c.write_if.new.files) c.args.name.now c.write_if.ensures.others

pub returns-clause-others : goal.returns-clause-others
returns-clause-others g c =
    let now = files_now g.F.Files.names g.F.Files.read_faults g.F.Files.write_faults in
    others_swap (now c.args.files.now) (now c.write_if.new.files) c.args.name.now c.write_if.ensures.others
