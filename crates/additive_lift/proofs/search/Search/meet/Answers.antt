use Rattle.std.proofs.Common.{◌≡◌, ◌+◌, length}
use Rattle.additive_lift.proofs.Searches.{meets_new}
use Rattle.additive_lift.proofs.search.Search.meet.Goals as goal

pub returns-in_ok-push : goal.returns-in_ok-push
returns-in_ok-push c =
    let longer : length c.insert.new.self.keys ≡ length c.args.self.now.met.keys + 1 = rw c.if-branch.true at c.in_ok-insert.ensures.len in
    meets_new c.args.a c.args.self.now.met.keys c.args.self.now.todo.items c.insert.new.self.keys c.push.new.self.items c.in_ok-insert.ensures.keys longer c.in_ok-push.ensures.items
