use Rattle.std.proofs.Common.{◌≡◌, ℕ, ◌<◌, sym, subst, arith, rules}
use Rattle.std.proofs.lemmas.List.Sorted.{IsNonDecreasingBy-from_sort_by_key, All-permutation}
use Rattle.std.specs.List.Sorted.{IsPermutation}
use Rattle.elf_image.specs.Loading.{Overlaps}
use Rattle.elf_image.specs.Spans.{spans_from}
use Rattle.elf_image.proofs.Sharing.{spans_occupied, none_overlap, least_below, partner_there}
use Rattle.elf_image.proofs.overlap.first_overlap.Goals as goal

pub least_shared-requires-clause-rising : goal.least_shared-requires-clause-rising
least_shared-requires-clause-rising c = rw c.deref.ensures.value (IsNonDecreasingBy-from_sort_by_key (λ s. s.at) _ c.sort_unstable_by_key.ensures.sorted (λ a r q k. search rules))

pub least_shared-requires-clause-occupied : goal.least_shared-requires-clause-occupied
least_shared-requires-clause-occupied c = rw c.deref.ensures.value (All-permutation (λ s. s.at < s.end) _ _ c.sort_unstable_by_key.ensures.permutation (rw c.in_ok-sorted.ensures (spans_occupied c.args.headers.now)))

pub returns-in-None : goal.returns-in-None
returns-in-None c =
    let moved : IsPermutation (spans_from 0 c.args.headers.now) c.deref.result.now = rw (c.deref.ensures.value, ← c.in_ok-sorted.ensures) c.sort_unstable_by_key.ensures.permutation in
    none_overlap c.args.headers.now c.deref.result.now moved c.in-None.ensures

pub returns-then-n-headers : goal.returns-then-n-headers
returns-then-n-headers c =
    let moved : IsPermutation (spans_from 0 c.args.headers.now) c.deref.result.now = rw (c.deref.ensures.value, ← c.in_ok-sorted.ensures) c.sort_unstable_by_key.ensures.permutation in
    let there = partner_there c.args.headers.now c.deref.result.now moved c.in-Some.n c.in-Some.ensures in
    absurd (omega (arith, there.1.1.1.0, c.if-n-headers.true))

pub returns-in-Some-partner : goal.returns-in-Some-partner
returns-in-Some-partner c =
    let hs = c.args.headers.now in
    let moved : IsPermutation (spans_from 0 hs) c.deref.result.now = rw (c.deref.ensures.value, ← c.in_ok-sorted.ensures) c.sort_unstable_by_key.ensures.permutation in (
      c.in-Some-partner.ensures.0,
      λ i j two. (
        least_below hs c.deref.result.now moved c.in-Some.n c.in-Some.ensures i j two,
        λ same. c.in-Some-partner.ensures.1 j (subst (λ (k : ℕ). Overlaps hs k j) (sym same) two),
      ),
    )

pub returns : goal.returns
returns c =
    let hs = c.args.headers.now in
    let moved : IsPermutation (spans_from 0 hs) c.deref.result.now = rw (c.deref.ensures.value, ← c.in_ok-sorted.ensures) c.sort_unstable_by_key.ensures.permutation in
    let there = partner_there hs c.deref.result.now moved c.in-Some.n c.in-Some.ensures in
    absurd (c.in-None-partner.ensures there.0 there.1)
