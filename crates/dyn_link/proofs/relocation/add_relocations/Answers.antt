use Rattle.std.proofs.Common.{◌≡◌, ◌+◌, ◌*◌, ◌/◌, ◌∙◌, ap, refl, length, arith}
use Rattle.dyn_link.specs.Relocations.{relocation, relocations_in}
use Rattle.dyn_link.proofs.Tables.{pushed_more}
use Rattle.dyn_link.proofs.relocation.add_relocations.Goals as goal

pub loop-n-preserved : goal.loop-n-preserved
loop-n-preserved c =
    let e : 24 * c.loop-n.n ≡ 0 + 24 * c.loop-n.n = omega arith in
    pushed_more relocation 0 24 c.loop-n.n c.args.table.now c.args.relocations.now.items c.loop-n.relocations.items c.push.new.self.items c.read_relocation.result c.loop-n.invariant c.in_ok-push.ensures.items (c.read_relocation.ensures ∙ ap (relocation c.args.table.now) e)

pub returns : goal.returns
unfolding relocations_in
returns c =
    let all : c.loop-n.n ≡ length c.args.table.now / 24 = omega (arith, c.loop-n-test.false, c.loop-n.auto.n-end) in
    rw (c.loop-n.invariant, all) refl
