use Rattle.std.proofs.Common.{◌≡◌, take}
use Rattle.words_line.specs.Commands.{texts}
use Rattle.words_line.proofs.words.copies.Given as goal

-- the words so far
abbrev pub invariant-loop-word : goal.invariant-loop-word
invariant-loop-word l = texts l.copies.items ≡ take l.word-index (texts l.words)
