use Rattle.std.proofs.Common.{rules, ◌≡◌, [], ◌∷◌, MatchOption, refl, subst}
use Rattle.elf_image.specs.Layout.{ImageData}
use Rattle.basic_blocks.specs.Reach.{IsReach, IsReachAbove}
use Rattle.guest_entries.specs.Entered.{MissIs}
use Rattle.guest_entries.proofs.Growing.{on_err}
use Rattle.guest_entries.proofs.Missing.{not_begun}
use Rattle.guest_entries.proofs.growth.extend.Goals as goal

pub returns-in_err-block : goal.returns-in_err-block
returns-in_err-block g c = λ table d along stops. on_err (λ r. MissIs r c.args.hall.now c.args.hall.now c.args.t c.args.own.now c.args.own.now table d) (λ e. not_begun c.args.hall.now c.args.hall.now c.args.t c.args.own.now c.args.own.now table d refl refl along) c.from_residual.result c.from_residual.ensures.0

pub returns-in_err-onward : goal.returns-in_err-onward
returns-in_err-onward g c = λ table d along stops. on_err (λ r. MissIs r c.args.hall.now c.args.hall.now c.args.t c.args.own.now c.args.own.now table d) (λ e. not_begun c.args.hall.now c.args.hall.now c.args.t c.args.own.now c.args.own.now table d refl refl along) c.from_residual-in_err-onward.result c.from_residual-in_err-onward.ensures.0

pub tell_and_grow-requires-clause-onward : goal.tell_and_grow-requires-clause-onward
tell_and_grow-requires-clause-onward g c =
    let e : c.deref-2.result.now ≡ c.args.hall.now.case.image = search rules in
    subst (λ (x : ImageData). MatchOption c.in_ok-onward.onward (IsReachAbove x (c.args.a ∷ []) 65536) (λ places. IsReach x (c.args.a ∷ []) places.items)) e c.in_ok-onward.ensures
