use Rattle.std.proofs.Common.{◌≡◌, ◌&&◌, not, true, false, ap, sym, ◌∙◌}
use Rattle.sync_more.specs.declared.ask.SyncName.TheVariants.{CondWait}
use Rattle.sync_more.specs.Row.{waits}
use Rattle.lib_table.proofs.SyncLemmas.{wakes-when}
use Rattle.lib_table.proofs.sync.wakes.Goals as goal

pub returns-then-not-free : goal.returns-then-not-free
returns-then-not-free c = λ holds.
    let r = c.args.library.now.rooms in
    let stays = waits r c.args.t CondWait c.args.args false false in
    let takes = waits r c.args.t CondWait c.args.args false true in
    ap (λ x. x && (stays && not takes)) (sym c.if-not-free.true) ∙ wakes-when r c.args.t c.args.args holds c.args.free

pub returns-then-not-stays : goal.returns-then-not-stays
returns-then-not-stays c = λ holds.
    let r = c.args.library.now.rooms in
    let stays = waits r c.args.t CondWait c.args.args false false in
    let takes = waits r c.args.t CondWait c.args.args false true in
    let none : stays ≡ false = sym c.rooms_wait-stays.ensures ∙ c.if-not-stays.true in
    ap (λ x. x && not takes) (sym none) ∙ (ap (λ x. x && (stays && not takes)) (sym c.if-not-free.false) ∙ wakes-when r c.args.t c.args.args holds c.args.free)

pub returns : goal.returns
returns c = λ holds.
    let r = c.args.library.now.rooms in
    let stays = waits r c.args.t CondWait c.args.args false false in
    let takes = waits r c.args.t CondWait c.args.args false true in
    let some : stays ≡ true = sym c.rooms_wait-stays.ensures ∙ c.if-not-stays.false in
    ap (λ x. not x) c.rooms_wait.ensures
    ∙ (ap (λ x. x && not takes) (sym some) ∙ (ap (λ x. x && (stays && not takes)) (sym c.if-not-free.false) ∙ wakes-when r c.args.t c.args.args holds c.args.free))
