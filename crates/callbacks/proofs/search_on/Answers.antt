use Rattle.std.proofs.Common.{◌≡◌, ◌+◌, pos, sym, ap, ◌∙◌, arith}
use Rattle.std.specs.Prelude.{◌<ℤ◌}
use Rattle.std.proofs.lemmas.Int.{ints}
use Rattle.callbacks.specs.declared.Next.{Next}
use Rattle.callbacks.specs.declared.Next.TheVariants.{Done}
use Rattle.callbacks.specs.Frame.{element, probing}
use Rattle.callbacks.proofs.Steps.{searched_below, searched_above, searched_equal}
use Rattle.callbacks.proofs.search_on.Goals as goal
use Rattle.callbacks.proofs.search_on.Goals.{then-answer-lt0, else-answer-lt0+then-answer-gt0}

pub returns-else-answer-gt0 : goal.returns-else-answer-gt0
returns-else-answer-gt0 c =
    let equal : c.args.answer ≡ pos 0 = omega (arith, ints, c.if-answer-lt0.false, c.if-answer-gt0.false) in
    let place = c.element.ensures ∙ ap (element c.args.frame.now) c.middle-middle.ensures.middle in
    ap (λ a. (c.args.frame.now, Done a)) place ∙ sym (searched_equal c.args.frame.now c.args.answer equal)

pub returns : goal.returns
returns c =
    let now = c.args.frame.now in
    let half = c.middle-middle.ensures.middle in
    elim c.if-answer-lt0.branch [
      | then-answer-lt0 w ↦
          let negative : c.args.answer <ℤ pos 0 = omega (arith, ints, w.if-answer-lt0.true) in
          ap (λ (n : Next). (c.if-answer-lt0.frame, n)) c.next.ensures ∙ ap probing (w.frame-is ∙ ap (λ m. record now { hi = m }) half) ∙ sym (searched_below now c.args.answer negative)
      | else-answer-lt0+then-answer-gt0 w ↦
          let positive : pos 0 <ℤ c.args.answer = omega (arith, ints, w.if-answer-gt0.true) in
          ap (λ (n : Next). (c.if-answer-lt0.frame, n)) c.next.ensures ∙ ap probing (w.frame-is ∙ ap (λ m. record now { lo = m + 1 }) half) ∙ sym (searched_above now c.args.answer positive)
    ]
