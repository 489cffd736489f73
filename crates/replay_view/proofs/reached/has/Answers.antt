use Rattle.std.proofs.lemmas.List.Sorted.{searched}
use Rattle.replay_view.proofs.Places.{found, missing, rises}
use Rattle.replay_view.proofs.reached.has.Goals as goal

pub returns-in-Ok : goal.returns-in-Ok
returns-in-Ok c =
    let s = searched c.args.places.now c.args.a c.binary_search.result c.binary_search.ensures.position (rises c.args.places.now c.requires) in
    found c.args.places.now c.args.a c.in-Ok.field-0 (rw c.in-Ok.is at s)

pub returns-in-Err : goal.returns-in-Err
returns-in-Err c =
    let s = searched c.args.places.now c.args.a c.binary_search.result c.binary_search.ensures.position (rises c.args.places.now c.requires) in
    missing c.args.places.now c.args.a c.in-Err.field-0 (rw c.in-Err.is at s)
