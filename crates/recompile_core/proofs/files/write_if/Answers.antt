use Rattle.std.proofs.Common.{refl, sym, subst, None, Some, List, ℕ, Option}
use Rattle.recompile_core.specs.After.{OthersKept}
use Rattle.recompile_core.specs.World.{files_now}
use Rattle.recompile_core.proofs.Writing.{others_same, others_wrote}
use Rattle.recompile_core.proofs.files.write_if.Goals as goal

pub returns-in-Some-clause-others : goal.returns-in-Some-clause-others
returns-in-Some-clause-others g c =
    let old = files_now g.F.Files.names g.F.Files.read_faults g.F.Files.write_faults c.args.files.now in
    let new = files_now g.F.Files.names g.F.Files.read_faults g.F.Files.write_faults c.write.new.self in
    let P : Option (List ℕ) → Type 0 = λ n. OthersKept old new n None in
    let Q : List ℕ → Type 0 = λ n. OthersKept old new (Some n) None in
    subst P (sym c.in-Some.is) (subst Q c.as_str.ensures (others_wrote old new c.as_str.result.now c.args.bytes.now c.write.result c.write.ensures.replaced))

pub returns-in-None-clause-others : goal.returns-in-None-clause-others
returns-in-None-clause-others g c =
    let old = files_now g.F.Files.names g.F.Files.read_faults g.F.Files.write_faults c.args.files.now in
    others_same old old c.args.name.now None refl
