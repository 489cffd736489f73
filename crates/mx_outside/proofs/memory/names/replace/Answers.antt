-- What was inserted stands under the name's bytes.
use Rattle.mx_outside.proofs.NameLemmas.{names_of-insert}
use Rattle.mx_outside.proofs.memory.names.replace.Goals as goal

pub returns-clause-ok : goal.returns-clause-ok
returns-clause-ok c = rw (← c.in_ok-key.ensures.ok, ← c.in_ok-copy.ensures.items) (names_of-insert c.args.files.now c.insert.new.self c.in_ok-key.key c.in_ok-copy.copy c.in_ok-insert.ensures.updates)
