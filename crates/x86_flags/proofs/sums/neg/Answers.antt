use Rattle.std.proofs.Common.{ℕ, ◌≡◌, ◌+◌, ◌-◌, ◌/◌, ◌%◌, ◌^◌, ◌<◌, ◌∙◌, arith, eqb, ap, neg_ℤ, pos}
use Rattle.std.specs.Prelude.{not}
use Rattle.x86_flags.specs.Numbers.{low_bits, overflows, signed}
use Rattle.x86_flags.specs.Outcome.{outcome, status}
use Rattle.x86_flags.specs.Sums.{neg_of}
use Rattle.x86_flags.specs.Width.{bits}
use Rattle.x86_flags.proofs.NumberLemmas.{bits-pos, range_pos, pow_twice}
use Rattle.x86_flags.proofs.SumLemmas.{negation_low, negation_overflow}
use Rattle.x86_flags.proofs.sums.neg.Goals as goal

-- the code's mask is 2 ^ w - 1
value_is : (w a n m : ℕ) → n ≡ (m + 1 - a) % 2 ^ w → m ≡ 2 ^ w - 1 → 0 < 2 ^ w → a < 2 ^ w → n ≡ low_bits w (neg_ℤ (pos a))
value_is w a n m e f p h =
    let same : m + 1 - a ≡ 2 ^ w - a = omega arith in
    e ∙ ap (λ k. k % 2 ^ w) same ∙ negation_low w a (omega arith)

overflow_is : (w a m : ℕ) → 0 < w → m ≡ 2 ^ w - 1 → a < 2 ^ w → eqb a (m / 2 + 1) ≡ overflows w (neg_ℤ (signed w a))
overflow_is w a m p e h =
    let twice = pow_twice w p in
    let half : m / 2 + 1 ≡ 2 ^ (w - 1) = omega arith in
    ap (λ k. eqb a k) half ∙ negation_overflow w a p h

pub returns-clause-value : goal.returns-clause-value
unfolding neg_of outcome
returns-clause-value c =
    value_is (bits c.args.w) c.args.a c.low-value.result c.mask.result c.low-value.ensures c.mask.ensures (range_pos c.args.w) c.requires

pub returns-clause-flags : goal.returns-clause-flags
unfolding neg_of outcome
returns-clause-flags c =
    let w = bits c.args.w in
    let value = value_is w c.args.a c.low-value.result c.mask.result c.low-value.ensures c.mask.ensures (range_pos c.args.w) c.requires in
    let overflow = overflow_is w c.args.a c.mask-2.result (bits-pos c.args.w) c.mask-2.ensures c.requires in
    c.status.ensures ∙ ap (λ n. status w n (not (eqb c.args.a 0)) (eqb c.args.a (c.mask-2.result / 2 + 1))) value
    ∙ ap (λ o. status w (low_bits w (neg_ℤ (pos c.args.a))) (not (eqb c.args.a 0)) o) overflow
