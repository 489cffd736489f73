use Rattle.std.proofs.Common.{length}
use Rattle.tso_memory.proofs.RunLemmas.{run_is, run_laid, run_put}
use Rattle.tso_memory.proofs.space.AddressSpace.put.Goals as goal

pub invariant_of-self : goal.invariant_of-self
invariant_of-self c =
    let ps = c.self.inside.pieces.items in
    let p = c.index_mut.result.now in
    let bs = c.args.bytes.now in
    let run = run_is c.deref.result.now ps c.args.self.now p c.args.a (length bs) c.in-Some.i c.in-Some.place c.deref.ensures.value c.self.view_is c.self.invariant c.index_mut.ensures.value c.in-Some.ensures in
    run_laid ps c.args.self.now p c.overwrite.new.self c.args.a c.in-Some.i c.in-Some.place bs run c.overwrite.ensures

pub returns-in-Some : goal.returns-in-Some
returns-in-Some c =
    let ps = c.self.inside.pieces.items in
    let p = c.index_mut.result.now in
    let bs = c.args.bytes.now in
    let run = run_is c.deref.result.now ps c.args.self.now p c.args.a (length bs) c.in-Some.i c.in-Some.place c.deref.ensures.value c.self.view_is c.self.invariant c.index_mut.ensures.value c.in-Some.ensures in
    run_put ps c.args.self.now p c.overwrite.new.self c.args.a c.in-Some.i c.in-Some.place bs run c.overwrite.ensures
