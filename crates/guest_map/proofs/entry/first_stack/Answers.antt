use Rattle.std.proofs.Common.{◌≡◌, ◌∙◌, ap, map, arith}
use Rattle.std.specs.Prelude.{string_bytes}
use Rattle.std.proofs.lemmas.List.{length-map}
use Rattle.guest_map.specs.Addresses.{stack}
use Rattle.guest_map.specs.Entry.{entry_stack}
use Rattle.guest_map.proofs.EntryLemmas.{few_of, stack_of}
use Rattle.guest_map.proofs.entry.first_stack.Goals as goal

pub push_zeros-requires-clause-order : goal.push_zeros-requires-clause-order
push_zeros-requires-clause-order c = omega (arith, few_of string_bytes c.args.args.now c.requires.short, length-map c.args.args.now string_bytes, c.requires.short, c.requires.rsp, c.stack_bottom.ensures)

pub push_zeros-requires-2-clause-order : goal.push_zeros-requires-2-clause-order
push_zeros-requires-2-clause-order c = omega (arith, few_of string_bytes c.args.args.now c.requires.short, length-map c.args.args.now string_bytes, c.requires.short, c.requires.base, c.requires.rsp)

pub returns : goal.returns
returns c =
    let built : c.push_zeros-3.new.bytes.items ≡ entry_stack (map string_bytes c.args.args.now) =
    rw (c.in_ok-push_zeros-3.ensures, c.in_ok-push_strings.ensures, c.in_ok-push_zeros-2.ensures, c.in_ok-push_words.ensures, c.in_ok-push_zeros.ensures, c.in_ok-bytes.ensures.items) (stack_of string_bytes c.args.args.now c.stack_bottom.result c.stack_top.result c.args.size c.args.base c.args.rsp c.stack_bottom.ensures c.stack_top.ensures c.requires.size c.requires.base c.requires.rsp) in
    c.stack.ensures ∙ ap (stack 0) built
