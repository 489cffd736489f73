use Rattle.std.proofs.Common.{◌≡◌, ◌++◌, [], ◌∷◌, ap, ◌∙◌, sym}
use Rattle.elf_image.specs.declared.index.Start.{Start}
use Rattle.elf_image.specs.Layout.{SegmentData}
use Rattle.elf_image.proofs.Indexing.{none_before, one_more, all_before}
use Rattle.elf_image.proofs.index.all_starts.Goals as goal

pub loop-number-init : goal.loop-number-init
loop-number-init c = none_before c.in_ok-starts.starts.items c.args.segments.now c.in_ok-starts.ensures.items

pub loop-number-preserved : goal.loop-number-preserved
loop-number-preserved c =
    let g = c.index-segments-number.result in
    let at : c.segment.inside.at ≡ g.at = ap (λ (s : SegmentData). s.at) c.segment.view_is in
    one_more c.loop-number.starts.items c.push.new.self.items c.args.segments.now c.loop-number.number g c.loop-number-test.true c.index-segments-number.is (rw at at c.in_ok-push.ensures.items) c.loop-number.invariant

pub returns : goal.returns
returns c = all_before c.loop-number.starts.items c.args.segments.now c.loop-number.number c.loop-number-test.false c.loop-number.invariant
