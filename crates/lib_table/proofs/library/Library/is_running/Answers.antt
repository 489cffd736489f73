use Rattle.std.proofs.Common.{◌∷◌, [], ap, ◌∙◌}
use Rattle.sync_more.specs.Once.{is_running}
use Rattle.lib_table.specs.Library.{LibraryData}
use Rattle.lib_table.proofs.SyncLemmas.{runs-when}
use Rattle.lib_table.proofs.library.Library.is_running.Goals as goal

pub returns : goal.returns
returns c = c.waits.ensures ∙ (runs-when c.self.inside.rooms.state 0 c.args.control (0 ∷ 0 ∷ []) ∙ ap (λ (l : LibraryData). is_running l.rooms c.args.control) c.self.view_is)
