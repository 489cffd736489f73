use Rattle.std.proofs.Common.{◌≡◌, drop}
use Rattle.ir_syntax.specs.Typed.{are_parts_typed, unwritten}
use Rattle.ir_syntax.proofs.PartLemmas.{FaultsFrom}
use Rattle.ir_syntax.proofs.typing.check_parts.Given as goal

abbrev pub invariant-loop-i : goal.invariant-loop-i
invariant-loop-i l = record {
  right : are_parts_typed l.types (drop l.i l.parts) ≡ are_parts_typed unwritten l.parts;
  wrong : FaultsFrom l.parts l.i l.types;
}
