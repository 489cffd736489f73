use Rattle.std.proofs.Common.{◌≡◌, ℕ, ◌<◌, ◌≤◌, length, true, inl, inr, refl, sym, ◌∙◌, arith}
use mathlib.Core.Bool.{false≢true}
use Rattle.std.proofs.lemmas.Bool.{cases_lt}
use Rattle.elf_image.specs.Loading.{Overlaps}
use Rattle.elf_image.proofs.Sharing.{overlap_is, overlap_has}
use Rattle.elf_image.proofs.overlap.partner.Goals as goal

pub returns-then-overlaps : goal.returns-then-overlaps
returns-then-overlaps c =
    let hs = c.args.headers.now in (
      overlap_is hs c.args.n c.loop-m.m (omega (arith, c.loop-m.auto.m)) c.loop-m-test.true (c.overlaps.ensures.0 c.if-overlaps.true),
      λ j two. elim (cases_lt j c.loop-m.m) [
        | inl before ↦ absurd (c.loop-m.invariant j before two)
        | inr rest ↦ rest
      ],
    )

pub loop-m-preserved : goal.loop-m-preserved
loop-m-preserved c = λ j less two. elim (cases_lt j c.loop-m.m) [
  | inl before ↦ c.loop-m.invariant j before two
  | inr rest ↦ let e : j ≡ c.loop-m.m = omega arith in false≢true (sym c.if-overlaps.false ∙ c.overlaps.ensures.1 (overlap_has c.args.headers.now c.args.n c.loop-m.m (rw e at two)))
]

pub returns : goal.returns
returns c = λ m two. c.loop-m.invariant m (omega (arith, c.loop-m-test.false, two.1.2.0)) two
