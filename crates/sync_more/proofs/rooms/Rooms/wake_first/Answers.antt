use Rattle.std.proofs.Common.{◌≤◌, length, sym, ap, ◌∙◌, arith, length-drop}
use Rattle.sync_more.specs.declared.state.Sleepers.{Sleepers}
use Rattle.sync_more.proofs.UpToLemmas.{UpTo-at, UpTo-remove, UpTo-with_line}
use Rattle.sync_more.proofs.rooms.Rooms.wake_first.Goals as goal

pub invariant_of-self-2 : goal.invariant_of-self-2
invariant_of-self-2 c =
    let n = c.self.inside.longest in
    let all : length c.in-Some.s.threads ≤ n =
    UpTo-at (λ (s : Sleepers). length s.threads) n c.self.inside.sleepers.places c.args.c c.in-Some.s (sym c.in-Some.is ∙ c.take.ensures.value) c.self.invariant.0 in
    let left : length c.leave.new.self ≤ n = omega (arith, all, ap length c.leave.ensures, length-drop 1 c.in-Some.s.threads) in (
      UpTo-with_line n c.take.new.self.places _ c.args.c c.in-Some.s.mutex c.leave.new.self c.put_line.ensures left
          (UpTo-remove (λ (s : Sleepers). length s.threads) n _ _ c.args.c c.take.ensures.places c.self.invariant.0),
      c.self.invariant.1,
      c.self.invariant.2,
      omega arith,
      λ h. absurd (omega arith),
    )
