use Rattle.std.proofs.Common.{◌≡◌, drop}
use Rattle.ir_text.specs.Reading.{literal}
use Rattle.ir_text.proofs.words.literal.Given as goal

-- what is left of the word is to be found in what is left of the bytes
abbrev pub invariant-loop-byte : goal.invariant-loop-byte
invariant-loop-byte l = literal (drop l.byte-index l.word) l.rest ≡ literal l.word l.bytes
