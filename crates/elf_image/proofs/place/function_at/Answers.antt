use Rattle.std.proofs.Common.{rules}
use Rattle.std.proofs.lemmas.List.Sorted.{answers_always}
use Rattle.elf_image.proofs.Places.{looked_up}
use Rattle.elf_image.proofs.place.function_at.Goals as goal

-- the place that the search found is the one that has the address
pub returns-in-Ok : goal.returns-in-Ok
returns-in-Ok c =
    let facts = c.binary_search_by_key.ensures in
    let by_address = facts.position (λ p. p.at) (answers_always _ _ _ (λ f a r g called. search rules)) in
    let found = looked_up c.args.a c.args.places.now c.requires c.binary_search_by_key.result facts.bound by_address in
    (rw c.in-Ok.is at found) _

-- no place has the address
pub returns-in-Err : goal.returns-in-Err
returns-in-Err c =
    let facts = c.binary_search_by_key.ensures in
    let by_address = facts.position (λ p. p.at) (answers_always _ _ _ (λ f a r g called. search rules)) in
    let found = looked_up c.args.a c.args.places.now c.requires c.binary_search_by_key.result facts.bound by_address in
    rw c.in-Err.is at found
