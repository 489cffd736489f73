use Rattle.std.proofs.Common.{sym, ap, ◌∙◌}
use Rattle.journal_pack.specs.Growing.{body}
use Rattle.journal_pack.proofs.PackedLemmas.{left_some}
use Rattle.journal_pack.proofs.journal.Journal.walk.Goals as goal

pub returns-in-Some : goal.returns-in-Some
returns-in-Some c =
    (left_some c.self.inside.bytes.items c.self.inside.count c.in-Some.rest.now c.self.invariant (ap body (sym c.deref.ensures.value) ∙ sym c.in-Some.ensures)).1 ∙ c.self.view_is
