use Rattle.std.proofs.Common.{◌∙◌, ◌+◌, sym, map, drop, arith}
use Rattle.std.specs.Prelude.{string_bytes}
use Rattle.guest_map.specs.Entry.{strings}
use Rattle.guest_map.proofs.EntryLemmas.{strings_more, strings_all}
use Rattle.guest_map.proofs.entry.push_strings.Goals as goal

pub loop-text-preserved : goal.loop-text-preserved
loop-text-preserved c =
    let left = strings (map string_bytes (drop (c.loop-text.text-index + 1) c.args.args.now)) in
    rw (c.in_ok-push.ensures.items, c.in_ok-extend_from_slice.ensures.items, c.as_bytes.ensures.value)
    (sym (strings_more string_bytes c.args.args.now c.loop-text.text-index c.text-item.result c.loop-text-test.true c.text-item.is c.loop-text.bytes.items) ∙ c.loop-text.invariant)

pub returns : goal.returns
returns c = sym (strings_all string_bytes c.args.args.now c.loop-text.text-index (omega (arith, c.loop-text-test.false)) c.loop-text.bytes.items) ∙ c.loop-text.invariant
