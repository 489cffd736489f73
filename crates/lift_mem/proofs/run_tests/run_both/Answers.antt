use Rattle.ir_syntax.specs.Typed.{unwritten, types_after_all}
use Rattle.lift_mem.proofs.TwoParts.{first_under, second_ready}
use Rattle.lift_mem.proofs.run_tests.run_both.Goals as goal

pub run_part-requires : goal.run_part-requires
run_part-requires c =
    let first = first_under c.args.first.now c.args.second.now c.args.state.now c.requires in
    second_ready c.args.first.now c.args.second.now c.answer.new.state c.requires
    (c.answer.ensures.fits (types_after_all unwritten c.args.first.now.ops) (c.run_part-request.ensures.fits unwritten first))
