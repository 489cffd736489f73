use Rattle.std.proofs.Common.{ap, sym, ◌∙◌}
use Rattle.machine_model.specs.Gated.{rest_of}
use Rattle.hall_core.specs.Hall.{both}
use Rattle.guest_entries.proofs.Flushed.{flush_comes, flushed_by}
use Rattle.guest_entries.proofs.flushes.flush_one.Goals as goal

pub flush-requires-clause-comes : goal.flush-requires-clause-comes
flush-requires-clause-comes c =
    let w = c.requires.with in
    flush_comes c.args.hall.now c.args.t w.0 w.1 (c.entries_leave_guests.ensures.flush c.args.hall.now.case (both c.args.hall.now) c.args.t w.0 w.1 w.2 w.3 c.requires.some)

pub returns-clause-flushed : goal.returns-clause-flushed
returns-clause-flushed c = λ g d going w same. flushed_by c.args.hall.now c.flush.new.self c.args.t g c.pop.new.self d c.flush.ensures (c.pop.ensures ∙ ap rest_of (sym same)) (c.entries_leave_guests.ensures.flush c.args.hall.now.case (both c.args.hall.now) c.args.t g d going w c.requires.some)
