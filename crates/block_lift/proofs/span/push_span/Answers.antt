use Rattle.std.proofs.Common.{◌≡◌, ℕ, suc, ◌++◌, subst, refl, Option}
use Rattle.basic_blocks.specs.Span.{block_up_to}
use Rattle.lift_table.specs.Faithful.{lifted_all}
use Rattle.basic_blocks.specs.Bytes.{bytes_of}
use Rattle.block_lift.specs.Liftable.{ArePlaced}
use Rattle.block_lift.specs.Steps.{going_on}
use Rattle.block_lift.proofs.Blocks.{span_goes_on, span_ends, span_full, placed_goes_on, placed_ends, placed_full}
use Rattle.block_lift.proofs.span.push_span.Goals as goal

pub returns-in-None-clause-code : goal.returns-in-None-clause-code
returns-in-None-clause-code c =
    span_ends (bytes_of c.args.image.now) c.args.image.now c.loop-i.at c.loop-i.i _ _ _ refl
    (subst (λ (o : Option ℕ). (n : ℕ) → c.push_instr.new.code.items ++ bytes_of c.args.image.now (going_on c.args.image.now n o) ≡ c.loop-i.code.items ++ bytes_of c.args.image.now (block_up_to c.args.image.now (suc n) c.loop-i.at)) c.in-None.is c.in_ok-next.ensures.code)
    c.loop-i-test.true c.loop-i.invariant.0

pub returns-in-None-clause-parts : goal.returns-in-None-clause-parts
returns-in-None-clause-parts c =
    span_ends lifted_all c.args.image.now c.loop-i.at c.loop-i.i _ _ _ refl
    (subst (λ (o : Option ℕ). (n : ℕ) → c.push_instr.new.parts.items ++ lifted_all (going_on c.args.image.now n o) ≡ c.loop-i.parts.items ++ lifted_all (block_up_to c.args.image.now (suc n) c.loop-i.at)) c.in-None.is c.in_ok-next.ensures.parts)
    c.loop-i-test.true c.loop-i.invariant.1

pub returns-in-None-clause-placed : goal.returns-in-None-clause-placed
returns-in-None-clause-placed c =
    placed_ends c.args.image.now c.loop-i.at c.loop-i.i _
    (λ n. subst (λ (o : Option ℕ). ArePlaced (going_on c.args.image.now n o) → ArePlaced (block_up_to c.args.image.now (suc n) c.loop-i.at)) c.in-None.is (c.in_ok-next.ensures.placed n) tt)
    c.loop-i-test.true c.loop-i.invariant.2

pub loop-i-preserved : goal.loop-i-preserved
loop-i-preserved c = (
  span_goes_on (bytes_of c.args.image.now) c.args.image.now c.loop-i.at c.in-Some.next c.loop-i.i _ _ _
      (subst (λ (o : Option ℕ). (n : ℕ) → c.push_instr.new.code.items ++ bytes_of c.args.image.now (going_on c.args.image.now n o) ≡ c.loop-i.code.items ++ bytes_of c.args.image.now (block_up_to c.args.image.now (suc n) c.loop-i.at)) c.in-Some.is c.in_ok-next.ensures.code)
      c.loop-i-test.true c.loop-i.invariant.0,
  span_goes_on lifted_all c.args.image.now c.loop-i.at c.in-Some.next c.loop-i.i _ _ _
      (subst (λ (o : Option ℕ). (n : ℕ) → c.push_instr.new.parts.items ++ lifted_all (going_on c.args.image.now n o) ≡ c.loop-i.parts.items ++ lifted_all (block_up_to c.args.image.now (suc n) c.loop-i.at)) c.in-Some.is c.in_ok-next.ensures.parts)
      c.loop-i-test.true c.loop-i.invariant.1,
  placed_goes_on c.args.image.now c.loop-i.at c.in-Some.next c.loop-i.i _
      (λ n. subst (λ (o : Option ℕ). ArePlaced (going_on c.args.image.now n o) → ArePlaced (block_up_to c.args.image.now (suc n) c.loop-i.at)) c.in-Some.is (c.in_ok-next.ensures.placed n))
      c.loop-i-test.true c.loop-i.invariant.2,
)

pub returns-clause-code : goal.returns-clause-code
returns-clause-code c = span_full (bytes_of c.args.image.now) c.args.image.now c.loop-i.at c.loop-i.i _ _ refl c.loop-i-test.false c.loop-i.invariant.0

pub returns-clause-parts : goal.returns-clause-parts
returns-clause-parts c = span_full lifted_all c.args.image.now c.loop-i.at c.loop-i.i _ _ refl c.loop-i-test.false c.loop-i.invariant.1

pub returns-clause-placed : goal.returns-clause-placed
returns-clause-placed c = placed_full c.args.image.now c.loop-i.at c.loop-i.i _ c.loop-i-test.false c.loop-i.invariant.2
