use Rattle.std.proofs.Common.{take, filter}
use Rattle.basic_blocks.specs.Places.{is_code_place}
use Rattle.additive_lift.specs.Search.{Meets}
use Rattle.additive_lift.proofs.search.Search.meet_roots.Given as goal

abbrev pub invariant-loop-a : goal.invariant-loop-a
invariant-loop-a l = Meets (filter (is_code_place l.image) (take l.a-index l.roots)) l.fn.self.met.keys l.fn.self.todo.items l.self.met.keys l.self.todo.items
