use Rattle.std.proofs.Common.{false, ap, sym, ◌∙◌}
use Rattle.sync_more.specs.Rooms.{Reply}
use Rattle.lib_table.specs.Sync.{is_simple}
use Rattle.lib_table.proofs.SyncLemmas.{no_deep-simple, once-deep, once-other}
use Rattle.lib_table.proofs.sync.once_blocked.Goals as goal

pub simply-requires : goal.simply-requires
simply-requires c =
    let told = ap (λ (p : Reply). p.outcome) (sym c.in_ok-outcome.ensures.row) in
    ap is_simple told ∙ no_deep-simple c.args.library.now.rooms c.args.t c.sync_args.result false (λ e. c.in_default.not-Deep (told ∙ e))

pub returns-in-Deep-clause-row : goal.returns-in-Deep-clause-row
returns-in-Deep-clause-row c =
    once-deep c.args.library.now c.args.memory.now.memory c.args.t c.args.ask.now c.args.back c.args.kind c.sync_args.result c.sync_args.ensures c.requires.kind
    (ap (λ (p : Reply). p.outcome) c.in_ok-outcome.ensures.row ∙ c.in-Deep.is)

pub returns-in_default : goal.returns-in_default
returns-in_default c = record {
  row =
      once-other c.args.library.now c.ask_rooms.new.self c.args.memory.now.memory c.args.t c.args.ask.now c.args.back c.sync_args.result c.in_ok-outcome.outcome
      c.sync_args.ensures c.in_ok-outcome.ensures.row c.in_ok-outcome.ensures.library c.in_default.not-Deep
      ∙ c.simply.ensures.row c.ask_rooms.new.self c.args.memory.now.memory c.args.t;
  library = λ h. c.in_ok-outcome.ensures.refused (c.simply.ensures.refused h);
  err = tt;
}
