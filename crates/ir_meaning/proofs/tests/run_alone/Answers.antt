use Rattle.std.proofs.Common.{rules}
use Rattle.ir_syntax.specs.Typed.{IsWellTyped}
use Rattle.ir_meaning.proofs.ReadyLemmas.{first_ready}
use Rattle.ir_meaning.proofs.tests.run_alone.Goals as goal

pub run_part-requires : goal.run_part-requires
run_part-requires c =
    let typed : IsWellTyped c.args.block.now = search rules in
    first_ready c.args.block.now.parts c.part-item.result c.args.state.now typed (search rules)
