use Rattle.std.proofs.Common.{◌≡◌, false, get_or, inl, length, take, sym, ◌∙◌, arith}
use Rattle.std.proofs.lemmas.List.{get_or_default, take_all}
use Rattle.std.proofs.lemmas.List.Elements.{All-more}
use Rattle.elf_image.specs.declared.place.Function.TheVariants.{PthreadCreate}
use Rattle.elf_image.specs.declared.place.LibPlace.{LibPlace}
use Rattle.elf_image.specs.Loading.{is_kept}
use Rattle.elf_image.proofs.Merging.{none_above, order_more, clash_more, none_below, kept_clash, none_kept}
use Rattle.elf_image.proofs.entries.merged.Goals as goal

-- what an index past the end would give
abbrev nowhere : LibPlace
nowhere = record { at = 0; function = PthreadCreate }

pub add-requires-clause-above : goal.add-requires-clause-above
add-requires-clause-above c = none_above c.args.sorted.now c.loop-p.entries.items c.loop-p.p-index (get_or c.args.sorted.now c.loop-p.p-index nowhere) c.loop-p-test.true (get_or_default c.args.sorted.now c.loop-p.p-index nowhere _ c.loop-p-test.true) c.loop-p.invariant.order c.requires

pub returns-then-is_kept : goal.returns-then-is_kept
returns-then-is_kept c = (
  kept_clash c.args.linking c.args.sorted.now c.loop-p.p-index nowhere c.loop-p-test.true (sym c.is_kept.ensures ∙ c.if-is_kept.true),
  none_below c.args.linking c.args.sorted.now c.requires c.loop-p.p-index c.loop-p.entries.items c.loop-p-test.true c.loop-p.invariant.order c.loop-p.invariant.free nowhere,
)

pub returns-then-not-branch : goal.returns-then-not-branch
returns-then-not-branch c = (
  inl (clash_more c.args.sorted.now c.loop-p.entries.items c.loop-p.p-index (get_or c.args.sorted.now c.loop-p.p-index nowhere) c.loop-p-test.true (get_or_default c.args.sorted.now c.loop-p.p-index nowhere _ c.loop-p-test.true) c.loop-p.invariant.order (rw c.if-not-branch.true at c.in_ok-add.ensures)),
  none_below c.args.linking c.args.sorted.now c.requires c.loop-p.p-index c.loop-p.entries.items c.loop-p-test.true c.loop-p.invariant.order c.loop-p.invariant.free nowhere,
)

pub loop-p-preserved : goal.loop-p-preserved
loop-p-preserved c = record {
  order = order_more c.args.sorted.now c.loop-p.entries.items c.loop-p.p-index (get_or c.args.sorted.now c.loop-p.p-index nowhere) c.loop-p-test.true (get_or_default c.args.sorted.now c.loop-p.p-index nowhere _ c.loop-p-test.true) c.loop-p.invariant.order _ (rw c.if-not-branch.false at c.in_ok-add.ensures);
  free = All-more (λ p. is_kept c.args.linking p.at ≡ false) c.args.sorted.now c.loop-p.p-index nowhere c.loop-p-test.true c.loop-p.invariant.free (sym c.is_kept.ensures ∙ c.if-is_kept.false);
}

pub returns : goal.returns
returns c =
    let all : take c.loop-p.p-index c.args.sorted.now ≡ c.args.sorted.now = take_all c.loop-p.p-index c.args.sorted.now c.loop-p-test.false in
    (rw all at c.loop-p.invariant.order, none_kept c.args.linking c.args.sorted.now (rw all at c.loop-p.invariant.free))
