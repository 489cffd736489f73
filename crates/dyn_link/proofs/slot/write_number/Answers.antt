use Rattle.std.proofs.Common.{◌≡◌, ℕ, ◌+◌, ◌-◌, ◌≤◌, ◌++◌, List, take, drop, length, ap, ◌∙◌, arith}
use Rattle.byteorder.specs.Endian.{little_bytes}
use Rattle.std.proofs.lemmas.List.{with_items_is, take_rest}
use Rattle.elf_image.specs.Layout.{SegmentData}
use Rattle.dyn_link.proofs.Writing.{segment_written, bytes_written, length_written}
use Rattle.dyn_link.proofs.slot.write_number.Goals as goal

pub returns-clause-number : goal.returns-clause-number
returns-clause-number c =
    let old = c.deref_mut.result.now in
    let v : SegmentData = record { at = c.segment.inside.at; size = c.segment.inside.size; r = c.segment.inside.r; w = c.segment.inside.w; x = c.segment.inside.x; bytes = c.segment.inside.bytes.items } in
    let buf : c.write_u64.new.buf ≡ little_bytes 8 c.args.n ++ drop 8 (drop c.args.place old) = c.write_u64.ensures ∙ ap (λ (xs : List ℕ). little_bytes 8 c.args.n ++ drop 8 xs) (take_rest old c.args.place) in
    let ws = take c.args.place old ++ (c.write_u64.new.buf ++ drop (length old - c.args.place) (drop c.args.place old)) in
    let e : ws ≡ take c.args.place v.bytes ++ (little_bytes 8 c.args.n ++ drop (c.args.place + 8) v.bytes) =
    bytes_written c.args.place c.args.n old c.write_u64.new.buf buf ∙ ap (λ (xs : List ℕ). take c.args.place xs ++ (little_bytes 8 c.args.n ++ drop (c.args.place + 8) xs)) c.deref_mut.ensures.value in
    let fits : c.args.place + 8 ≤ length v.bytes = omega (arith, c.requires, c.segment.invariant.filled, ap (λ (s : SegmentData). s.size) c.segment.view_is) in
    let len : length ws ≡ c.segment.inside.bytes.len = omega (arith, ap length e, length_written c.args.place c.args.n v.bytes fits, c.segment.inside.bytes.ok.0) in
    segment_written c.args.place c.args.n v c.args.segment.now _ c.segment.view_is (with_items_is c.segment.inside.bytes ws len ∙ e)
