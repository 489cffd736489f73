use Rattle.std.proofs.Common.{◌∙◌, ap, sym, length, arith}
use Rattle.std.specs.Prelude.{string_bytes}
use Rattle.guest_map.proofs.EntryLemmas.{size_more, pointers_more, pointers_all}
use Rattle.guest_map.proofs.entry.push_pointers.Goals as goal

pub overflow_add-at-in-loop-arg : goal.overflow_add-at-in-loop-arg
overflow_add-at-in-loop-arg c =
    let more = size_more string_bytes c.args.args.now c.loop-arg.arg-index c.arg-item.result c.loop-arg-test.true c.arg-item.is in
    omega (arith, more, c.loop-arg.invariant.0, c.requires, ap length c.as_bytes.ensures.value)

pub loop-arg-preserved : goal.loop-arg-preserved
loop-arg-preserved c =
    let more = size_more string_bytes c.args.args.now c.loop-arg.arg-index c.arg-item.result c.loop-arg-test.true c.arg-item.is in (
      omega (arith, more, c.loop-arg.invariant.0, ap length c.as_bytes.ensures.value),
      rw (c.in_ok-push_word.ensures, c.as_bytes.ensures.value)
          (sym (pointers_more string_bytes c.args.args.now c.loop-arg.arg-index c.arg-item.result c.loop-arg-test.true c.arg-item.is c.loop-arg.bytes.items c.loop-arg.at) ∙ c.loop-arg.invariant.1),
    )

pub returns : goal.returns
returns c = sym (pointers_all string_bytes c.args.args.now c.loop-arg.arg-index (omega (arith, c.loop-arg-test.false)) c.loop-arg.bytes.items c.loop-arg.at) ∙ c.loop-arg.invariant.1
