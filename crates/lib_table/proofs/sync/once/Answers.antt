use Rattle.std.proofs.Common.{false, ap, sym, ◌∙◌}
use Rattle.sync_more.specs.Rooms.{Reply}
use Rattle.lib_table.specs.Sync.{is_simple}
use Rattle.lib_table.proofs.SyncLemmas.{no_begin-simple}
use Rattle.lib_table.proofs.sync.once.Goals as goal

pub simply-requires : goal.simply-requires
simply-requires c =
    let told = ap (λ (p : Reply). p.outcome) (sym c.in_ok-outcome.ensures.row) in
    ap is_simple told ∙ no_begin-simple c.args.library.now.rooms c.args.t c.sync_args.result false (λ e. c.in_default-outcome.not-Begin (told ∙ e))
