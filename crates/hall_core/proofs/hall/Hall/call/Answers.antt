use Rattle.std.proofs.Common.{arith, ap, sym, ◌∙◌, ◌+◌, ◌<◌, ◌≤◌, ◌^◌, ◌≡◌, cond, false}
use Rattle.journal_pack.specs.declared.entry.Entry.TheVariants.{Ev}
use Rattle.hall_core.specs.Shared.{Asks, SharedState, after_need, has_to_wait, passed}
use Rattle.lib_table.specs.Row.{row}
use Rattle.lib_table.specs.Steps.{told}
use Rattle.hall_core.proofs.Asking.{can_ask, may_go}
use Rattle.hall_core.proofs.Closing.{closed, opened}
use Rattle.hall_core.proofs.EachKind.{event_moved, few_steps, in_limit}
use Rattle.hall_core.proofs.Spellings.{steps_spelled}
use Rattle.hall_core.proofs.hall.Hall.call.Goals as goal

pub ask-requires-clause-can : goal.ask-requires-clause-can
ask-requires-clause-can g c =
    let is = opened g.B.Fits.fits _ c.args.self.now c.self.inside.shared c.self.view_is c.self.invariant.0 in
    can_ask g.B.Fits.fits c.args.self.now c.self.inside.shared c.args.t c.args.k c.args.ask.now is c.requires.going c.requires.needs.needs

pub ask-requires-clause-counted : goal.ask-requires-clause-counted
ask-requires-clause-counted g c =
    let is = opened g.B.Fits.fits _ c.args.self.now c.self.inside.shared c.self.view_is c.self.invariant.0 in
    let n : c.self.inside.shared.steps ≤ 2 ^ 27 = in_limit g.B.Fits.fits c.args.self.now c.self.inside.shared is c.requires.going in
    let k : c.args.k < 2 ^ 32 = c.ranges.k.fits in
    omega (arith, n, k)

pub note-requires-clause-spelling : goal.note-requires-clause-spelling
note-requires-clause-spelling g c =
    let is = opened g.B.Fits.fits _ c.args.self.now c.self.inside.shared c.self.view_is c.self.invariant.0 in
    let comes = may_go g.B.Fits.fits c.args.self.now c.self.inside.shared c.args.t c.args.k c.args.ask.now c.in_ok-step.step _ _ is c.in_ok-step.ensures.row (sym c.has_to_wait.ensures ∙ c.if-not-has_to_wait.true) c.requires.comes in
    steps_spelled c.args.t c.args.k c.ranges.t.fits (few_steps c.args.self.now (Ev c.args.t c.args.k) comes)

pub invariant_of-self-then-not-has_to_wait : goal.invariant_of-self-then-not-has_to_wait
invariant_of-self-then-not-has_to_wait g c =
    let is = opened g.B.Fits.fits _ c.args.self.now c.self.inside.shared c.self.view_is c.self.invariant.0 in
    let goes : has_to_wait c.in_ok-step.step ≡ false = sym c.has_to_wait.ensures ∙ c.if-not-has_to_wait.true in
    let comes = may_go g.B.Fits.fits c.args.self.now c.self.inside.shared c.args.t c.args.k c.args.ask.now c.in_ok-step.step _ _ is c.in_ok-step.ensures.row goes c.requires.comes in
    let after : SharedState = after_need (Asks c.args.ask.now) (passed c.self.inside.shared (c.args.k + 1)) c.args.t c.args.rip in
    let same : c.ask.new.self ≡ after = c.in_ok-step.ensures.shared ∙ ap (λ b. cond b c.self.inside.shared after) goes in
    (closed g.B.Fits.fits c.self.inside.case c.self.inside.log c.note.new.log c.self.inside.book.blocks c.self.inside.marks.items c.note.new.marks.items c.args.self.now _ _ (Ev c.args.t c.args.k) c.self.view_is c.note.ensures.log c.note.ensures.marks same (event_moved g.B.Fits.fits c.args.self.now c.self.inside.shared c.args.t c.args.k c.args.rip (Asks c.args.ask.now) is c.requires.needs comes), c.self.invariant.1)

pub returns-then-not-has_to_wait-clause-row : goal.returns-then-not-has_to_wait-clause-row
returns-then-not-has_to_wait-clause-row g c =
    let is = opened g.B.Fits.fits _ c.args.self.now c.self.inside.shared c.self.view_is c.self.invariant.0 in
    let now = invariant_of-self-then-not-has_to_wait g c in
    ap (λ (x : SharedState). row x.library x.tso.memory c.args.t c.args.ask.now) is.shared
    ∙ c.in_ok-step.ensures.row
    ∙ ap (λ (x : SharedState). told c.in_ok-step.step x.library x.tso.memory) (sym now.0.shared)
