use Rattle.std.proofs.Common.{◌-◌, ◌++◌, ◌+◌, ◌≡◌, ◌∙◌, ap, arith}
use Rattle.guest_map.specs.Addresses.{unborn_stacks}
use Rattle.guest_map.proofs.StackLemmas.{unborn_none, unborn_more}
use Rattle.guest_map.proofs.address.push_unborn.Goals as goal

pub loop-t-init : goal.loop-t-init
loop-t-init c = unborn_none c.args.pieces.now.items

pub loop-t-preserved : goal.loop-t-preserved
loop-t-preserved c =
    let next : c.loop-t.t - 1 + 1 ≡ c.loop-t.t + 1 - 1 = omega (arith, c.loop-t.auto) in
    rw (c.in_ok-push.ensures.items, c.loop-t.invariant, c.in_ok-unborn_stack.ensures) (unborn_more c.args.pieces.now.items (c.loop-t.t - 1) c.loop-t.t (omega (arith, c.loop-t.auto)) ∙ ap (λ n. c.args.pieces.now.items ++ unborn_stacks n) next)

pub returns : goal.returns
returns c =
    let all : c.loop-t.t - 1 ≡ 63 = omega (arith, c.loop-t-test.false, c.loop-t.auto) in
    c.loop-t.invariant ∙ ap (λ n. c.args.pieces.now.items ++ unborn_stacks n) all
