use Rattle.std.proofs.Common.{◌≤◌, length, List, sym, subst}
use Rattle.callbacks.specs.declared.Frame.{Frame}
use Rattle.hall_core.specs.Hall.{machine}
use Rattle.guest_entries.proofs.Calling.{few_calls}
use Rattle.guest_entries.proofs.call.ask_of.Goals as goal

pub request-requires : goal.request-requires
request-requires c =
    let r = c.requires in
    let h = c.args.hall.now in
    record { few = subst (λ (l : List Frame). length l ≤ 16) (sym c.deref.ensures.value) (few_calls h r.1 c.args.own.now r.0 r.2 (c.calls_back.ensures.played h.case h.journal (machine h) c.facts.ensures.played) r.3) }
