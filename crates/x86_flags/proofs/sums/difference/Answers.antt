use Rattle.std.proofs.Common.{ℕ, ◌<◌, ◌≤◌, ◌≡◌, ◌+◌, ◌-◌, ◌^◌, arith}
use Rattle.std.specs.Int.{from_bool}
use Rattle.x86_flags.specs.Width.{bits}
use Rattle.x86_flags.proofs.NumberLemmas.{bits-pos, from_bool_le, range_pos}
use Rattle.x86_flags.proofs.SumLemmas.{difference_low, difference_overflow}
use Rattle.x86_flags.proofs.sums.difference.Goals as goal

-- the code adds 2 ^ w before it takes away
value_is : (m a b c : ℕ) → 0 < m → a + (m - 1 + 1) - (b + c) ≡ a + m - (b + c)
value_is m a b c p = omega arith

pub returns-clause-value : goal.returns-clause-value
returns-clause-value c =
    let m = 2 ^ bits c.args.w in
    let borrow = from_bool c.args.borrow in
    let few : c.args.b + borrow ≤ m = omega (arith, from_bool_le c.args.borrow, c.requires.second) in
    rw (c.low-value.ensures, c.mask.ensures, value_is m c.args.a c.args.b borrow (range_pos c.args.w)) (difference_low (bits c.args.w) c.args.a c.args.b borrow few)

pub returns-clause-overflow : goal.returns-clause-overflow
returns-clause-overflow c =
    let borrow = from_bool c.args.borrow in
    rw (c.is_negative.ensures, c.is_negative-2.ensures, c.is_negative-3.ensures, c.is_negative-4.ensures, c.low-value.ensures, c.mask.ensures, value_is (2 ^ bits c.args.w) c.args.a c.args.b borrow (range_pos c.args.w))
    (difference_overflow (bits c.args.w) c.args.a c.args.b borrow (bits-pos c.args.w) c.requires.first c.requires.second (from_bool_le c.args.borrow))
