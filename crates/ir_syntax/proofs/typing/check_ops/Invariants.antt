use Rattle.std.proofs.Common.{◌≡◌, true, take}
use Rattle.ir_syntax.specs.Typed.{are_typed, types_after_all}
use Rattle.ir_syntax.proofs.typing.check_ops.Given as goal

abbrev pub invariant-loop-k : goal.invariant-loop-k
invariant-loop-k l = record {
  right : are_typed l.fn.types (take l.k l.ops) ≡ true;
  after : l.types ≡ types_after_all l.fn.types (take l.k l.ops);
}
