-- What the map of names has under the name is what the `BTreeMap` has there.
use Rattle.std.proofs.Common.{rules}
use Rattle.mx_outside.proofs.NameLemmas.{get-names_of}
use Rattle.mx_outside.proofs.memory.names.copy_of.Goals as goal

pub returns-in_default-clause-found : goal.returns-in_default-clause-found
returns-in_default-clause-found c = rw (get-names_of c.args.files.now c.args.name.now, ← c.in_default.ensures.value) tt

pub returns-then-len-max : goal.returns-then-len-max
returns-then-len-max c = rw (get-names_of c.args.files.now c.args.name.now, ← c.in-Some.ensures.value) (search rules)

pub returns : goal.returns
returns c = rw (get-names_of c.args.files.now c.args.name.now, ← c.in-Some.ensures.value) (search rules)
