use Rattle.std.proofs.Common.{◌≡◌, false, ap, sym, ◌∙◌}
use Rattle.sync_more.specs.declared.ask.SyncName.TheVariants.{CondWait}
use Rattle.sync_more.specs.Rooms.{Reply}
use Rattle.sync_more.specs.Row.{row}
use Rattle.lib_table.specs.Sync.{is_simple, is_wake}
use Rattle.lib_table.proofs.SyncLemmas.{cond_wait-awake, no_wake-simple}
use Rattle.lib_table.proofs.sync.cond_wait.Goals as goal

pub simply-requires : goal.simply-requires
simply-requires c =
    let rooms = c.args.library.now.rooms in
    let args = c.sync_args-args.result in
    let holds = c.is_holder-holds.result in
    let free = c.is_takeable-free.result in
    let asleep : is_wake (row rooms c.args.t CondWait args holds free).outcome ≡ false = sym (c.wakes.ensures holds) ∙ c.if-wakes.false in
    ap (λ (p : Reply). is_simple p.outcome) (sym c.in_ok-outcome.ensures.row) ∙ no_wake-simple rooms c.args.t args holds free asleep

pub returns-in_default : goal.returns-in_default
returns-in_default c = record {
  row = λ m.
      cond_wait-awake c.args.library.now c.ask_rooms.new.self m c.args.t c.args.ask.now c.args.back c.sync_args-args.result c.is_holder-holds.result c.is_takeable-free.result c.in_ok-outcome.outcome
      c.sync_args-args.ensures c.is_holder-holds.ensures c.is_takeable-free.ensures c.in_ok-outcome.ensures.row c.in_ok-outcome.ensures.library c.in_default.not-Sleep
      ∙ c.simply.ensures.row c.ask_rooms.new.self m c.args.t;
  library = λ h. c.in_ok-outcome.ensures.refused (c.simply.ensures.refused h);
  err = tt;
}
