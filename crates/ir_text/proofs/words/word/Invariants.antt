use Rattle.std.proofs.Common.{◌≡◌, drop, map}
use Rattle.ir_text.specs.Reading.{word_from, word_at}
use Rattle.ir_text.proofs.words.word.Given as goal

-- what is left of the table is to be looked through
abbrev pub invariant-loop-word : goal.invariant-loop-word
invariant-loop-word g l = word_from l.left (map (λ w. (w.0.now, w.1)) (drop l.word-index l.words)) l.end l.bytes ≡ word_at (map (λ w. (w.0.now, w.1)) l.words) l.end l.bytes
