use Rattle.std.proofs.Common.{ap, sym, ◌∙◌, false}
use Rattle.sync_more.specs.Rooms.{Reply}
use Rattle.lib_table.specs.Sync.{is_simple}
use Rattle.lib_table.proofs.SyncLemmas.{simple-row}
use Rattle.lib_table.proofs.sync.sync.Goals as goal

pub simply-requires : goal.simply-requires
simply-requires c = ap (λ (p : Reply). is_simple p.outcome) (sym c.in_ok-outcome.ensures.row) ∙ simple-row c.args.library.now.rooms c.args.t c.args.name c.sync_args.result false false c.requires.simple
