use Rattle.std.proofs.Common.{◌≡◌, drop}
use Rattle.ir_meaning.specs.Does.{did_all}
use Rattle.ir_meaning.specs.Ready.{LinesReady}
use Rattle.ir_meaning.proofs.line.run_ops.Given as goal

abbrev pub invariant-loop-op : goal.invariant-loop-op
invariant-loop-op l = record {
  rest : did_all (drop l.op-index l.ops) l.state ≡ did_all l.ops l.fn.state;
  ready : LinesReady (drop l.op-index l.ops) l.state;
}
