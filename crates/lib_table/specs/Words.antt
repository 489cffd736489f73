-- Writes of numbers of eight bytes, where two may be refused.
use Rattle.std.specs.Prelude.{ℕ, Option, Some, None}
use Rattle.tso_memory.specs.Tso.{TsoState}
use Rattle.lib_table.specs.Outcome.{put_word}

-- the first refusal of two
abbrev pub either : Option ℕ → Option ℕ → Option ℕ
either None second = second
either (Some x) second = Some x

abbrev pub with_word : TsoState → ℕ → ℕ → TsoState
with_word s a v = record s { memory = put_word s.memory a v }
