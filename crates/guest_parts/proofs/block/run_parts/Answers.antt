use Rattle.std.proofs.Common.{◌+◌, ◌<◌, ◌≤◌, arith, ◌^◌}
use Rattle.guest_parts.proofs.block.run_parts.Goals as goal
use Rattle.guest_parts.proofs.Runs.{rises_more, rises_none, run_none, run_on, run_out}

pub loop-k-init : goal.loop-k-init
loop-k-init g c = record {
  inside = c.requires.inside;
  typed = c.requires.typed;
  few = c.requires.few;
  later = omega arith;
  count = rises_none _ _ (omega arith);
  runs = λ image grown last d h. run_none image grown _ _ _ last _ d (omega arith) h;
}

pub overflow_add-part : goal.overflow_add-part
overflow_add-part g c = let lt : c.loop-k.part + 1 < 2 ^ 64 = c.in-On.ensures.leaves.1 in omega arith

pub loop-k-preserved : goal.loop-k-preserved
loop-k-preserved g c =
    let later : c.args.k.now ≤ c.loop-k.k = c.loop-k.invariant.later in
    record {
      inside = c.in-On.ensures.leaves.0;
      typed = c.in-On.ensures.leaves.2;
      few = omega arith;
      later = omega arith;
      count = rises_more _ _ _ _ _ (omega arith) c.in-On.ensures.count c.loop-k.invariant.count;
      runs = λ image grown last d h. run_on image grown _ _ _ _ last _ _ d (omega arith) (c.loop-k.invariant.runs image grown last d h) (c.in-On.ensures.step image grown last);
    }

pub returns-in-Leaves-clause-stop : goal.returns-in-Leaves-clause-stop
returns-in-Leaves-clause-stop g c =
    let later : c.args.k.now ≤ c.loop-k.k = c.loop-k.invariant.later in
    λ image grown last d h. run_out image grown _ _ _ _ last _ _ _ d (omega arith) (c.loop-k.invariant.runs image grown last d h) (c.in-Leaves.ensures.step image grown last)
