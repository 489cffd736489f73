use Rattle.std.proofs.Common.{◌≡◌, ◌<◌, ◌≤◌, ◌+◌, sym, ap, arith}
use Rattle.elf_image.specs.Layout.{SegmentData}
use Rattle.elf_image.proofs.Indexing.{nothing_found, last_in_range, last_below, last_found, last_misses}
use Rattle.elf_image.proofs.index.segment_by.Goals as goal

pub returns-then-after-eq0 : goal.returns-then-after-eq0
returns-then-after-eq0 c = nothing_found c.args.segments.now c.args.starts.now c.requires.apart c.requires.whole c.requires.index c.args.a c.starts_by-after.result c.starts_by-after.ensures c.if-after-eq0.true

pub bounds-segments-last : goal.bounds-segments-last
bounds-segments-last c =
    let some : 0 < c.starts_by-after.result = omega (arith, c.if-after-eq0.false) in
    last_in_range c.args.segments.now c.args.starts.now c.requires.apart c.requires.whole c.requires.index c.args.a c.starts_by-after.result c.starts_by-after.ensures some

pub offset_bounds-segments-last : goal.offset_bounds-segments-last
offset_bounds-segments-last c =
    let some : 0 < c.starts_by-after.result = omega (arith, c.if-after-eq0.false) in
    let lt = last_in_range c.args.segments.now c.args.starts.now c.requires.apart c.requires.whole c.requires.index c.args.a c.starts_by-after.result c.starts_by-after.ensures some in
    omega (arith, lt, c.requires.few)

pub overflow_sub-a : goal.overflow_sub-a
overflow_sub-a c =
    let some : 0 < c.starts_by-after.result = omega (arith, c.if-after-eq0.false) in
    let below = last_below c.args.segments.now c.args.starts.now c.requires.apart c.requires.whole c.requires.index c.args.a c.starts_by-after.result c.starts_by-after.ensures some c.index-segments-last.result c.index-segments-last.is in
    omega (arith, below, ap (λ (s : SegmentData). s.at) c.segment.view_is)

pub returns-then-a-segment : goal.returns-then-a-segment
returns-then-a-segment c =
    let some : 0 < c.starts_by-after.result = omega (arith, c.if-after-eq0.false) in
    let below = last_below c.args.segments.now c.args.starts.now c.requires.apart c.requires.whole c.requires.index c.args.a c.starts_by-after.result c.starts_by-after.ensures some c.index-segments-last.result c.index-segments-last.is in
    last_found c.args.segments.now c.args.starts.now c.requires.apart c.requires.whole c.requires.index c.args.a c.starts_by-after.result c.starts_by-after.ensures some c.index-segments-last.result c.index-segments-last.is (omega (arith, below, c.if-a-segment.true, ap (λ (s : SegmentData). s.at) c.segment.view_is, ap (λ (s : SegmentData). s.size) c.segment.view_is))

pub returns-else-a-segment : goal.returns-else-a-segment
returns-else-a-segment c =
    let some : 0 < c.starts_by-after.result = omega (arith, c.if-after-eq0.false) in
    let below = last_below c.args.segments.now c.args.starts.now c.requires.apart c.requires.whole c.requires.index c.args.a c.starts_by-after.result c.starts_by-after.ensures some c.index-segments-last.result c.index-segments-last.is in
    last_misses c.args.segments.now c.args.starts.now c.requires.apart c.requires.whole c.requires.index c.args.a c.starts_by-after.result c.starts_by-after.ensures some c.index-segments-last.result c.index-segments-last.is (omega (arith, below, c.if-a-segment.false, ap (λ (s : SegmentData). s.at) c.segment.view_is, ap (λ (s : SegmentData). s.size) c.segment.view_is))
