use Rattle.std.proofs.Common.{◌≡◌, Some, None, refl}
use Rattle.std.specs.List.{position, position_or_len}
use Rattle.dyn_link.specs.Dynamic.{is_end}
use Rattle.dyn_link.proofs.Finding.{none_passes, one_passes, position_is}
use Rattle.dyn_link.proofs.dynamic.before_end.Goals as goal

pub returns-in-None : goal.returns-in-None
returns-in-None c =
    let none : position is_end c.args.entries.items ≡ None = rw (← c.deref.ensures.value, ← c.end_of.ensures) c.in-None.is in
    none_passes is_end c.args.entries.items none

pub returns-in-Some : goal.returns-in-Some
returns-in-Some c =
    let some : position is_end c.args.entries.items ≡ Some c.in-Some.end = rw (← c.deref.ensures.value, ← c.end_of.ensures) c.in-Some.is in
    let at : c.in-Some.end ≡ position_or_len is_end c.args.entries.items = position_is is_end c.args.entries.items c.in-Some.end some in
    (rw (c.truncate.ensures.items, at) refl, one_passes is_end c.args.entries.items c.in-Some.end some (record { tag = 0; value = 0 }))
