use Rattle.std.proofs.Common.{ap, ◌∙◌}
use Rattle.std.proofs.lemmas.List.{take_rest}
use Rattle.byteorder.specs.Endian.{little_number}
use Rattle.tso_memory.specs.Buffer.{size_of}
use Rattle.tso_memory.proofs.space.word_from.Goals as goal

pub returns-clause-number : goal.returns-clause-number
returns-clause-number c = c.word.ensures.number ∙ ap (little_number (size_of c.args.width)) (take_rest c.args.bytes.now c.args.place)
