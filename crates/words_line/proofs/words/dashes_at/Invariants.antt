use Rattle.std.proofs.Common.{◌≡◌, ◌<◌, ℕ, [], false, get_or}
use Rattle.words_line.specs.Commands.{is_dashes, texts}
use Rattle.words_line.proofs.words.dashes_at.Given as goal

-- no word so far is `--`
abbrev pub invariant-loop-place : goal.invariant-loop-place
invariant-loop-place l = (k : ℕ) → k < l.place → is_dashes (get_or (texts l.words) k []) ≡ false
