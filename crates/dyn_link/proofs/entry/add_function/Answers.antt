use Rattle.std.proofs.Common.{rules}
use Rattle.std.proofs.lemmas.List.Sorted.{answers_always}
use Rattle.dyn_link.specs.Bound.{place_for}
use Rattle.dyn_link.proofs.Ordering.{there_already, inserted}
use Rattle.dyn_link.proofs.entry.add_function.Goals as goal

pub returns-in-Ok : goal.returns-in-Ok
returns-in-Ok c =
    let facts = c.binary_search_by_key.ensures in
    let by_address = facts.position (λ p. p.at) (answers_always _ _ _ (λ f a r g called. search rules)) in
    let found = rw (c.in-Ok.is, c.deref.ensures.value, c.address_of-at.ensures) at by_address in
    let bound = rw (c.in-Ok.is, c.deref.ensures.value) at facts.bound in
    there_already c.args.entries.now.items (place_for c.args.function) c.requires.rising c.in-Ok.field-0 bound found (λ d at. c.requires.own c.in-Ok.field-0 d bound c.args.function at)

pub returns-in_ok-insert-in-Err : goal.returns-in_ok-insert-in-Err
returns-in_ok-insert-in-Err c =
    let facts = c.binary_search_by_key.ensures in
    let by_address = facts.position (λ p. p.at) (answers_always _ _ _ (λ f a r g called. search rules)) in
    let found = rw (c.in-Err.is, c.deref.ensures.value, c.address_of-at.ensures) at by_address in
    let bound = rw (c.in-Err.is, c.deref.ensures.value) at facts.bound in
    rw (c.in_ok-insert-in-Err.ensures.items, c.address_of-at.ensures) (inserted c.args.entries.now.items (place_for c.args.function) c.requires.rising c.in-Err.i bound found)
