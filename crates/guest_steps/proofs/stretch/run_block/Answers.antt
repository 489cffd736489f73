use Rattle.std.proofs.Common.{arith, ◌<◌}
use Rattle.guest_steps.proofs.Stops.{block_ran}
use Rattle.guest_steps.proofs.stretch.run_block.Goals as goal

pub returns-clause-one : goal.returns-clause-one
returns-clause-one g c = λ k b t d h left.
    let few = c.go-went.ensures.few in
    let room : c.args.own.now.k < c.args.left = c.requires.room in
    block_ran k b t c.args.own.now c.go-went.new.own c.go-went.new.table.items d c.args.left left c.most_of.result c.go-went.result c.stop_of.result room c.most_of.ensures (c.go-went.ensures.went k b t d h (omega (arith, left, room, c.most_of.ensures)) (omega (arith, c.most_of.ensures))) c.go-went.ensures.few c.stop_of.ensures
