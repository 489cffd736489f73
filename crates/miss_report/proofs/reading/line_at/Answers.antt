use Rattle.std.proofs.Common.{◌≡◌, ◌≢◌, ℕ, List, ◌++◌, Option, Some, None, Bor, option_map, ap, ◌∙◌}
use Rattle.std.specs.Option.{IfNone}
use Rattle.std.proofs.lemmas.Option.{none-some}
use Rattle.miss_report.specs.declared.miss.Miss.{Miss}
use Rattle.miss_report.specs.Miss.{HasLine, line}
use Rattle.miss_report.specs.Reading.{miss_at}
use Rattle.miss_report.proofs.Line.{miss_again}
use Rattle.miss_report.proofs.reading.line_at.Goals as goal

-- where nothing was read no line stands in front
none_read : (r : Option (Miss × Bor (List ℕ))) (bytes : List ℕ) → option_map (λ x. (x.0, x.1.now)) r ≡ miss_at bytes → IfNone r ((m : Miss) (tail : List ℕ) → HasLine m → bytes ≢ line m ++ tail)
none_read None bytes e = λ m tail h s. none-some (m, tail) (e ∙ ap miss_at s ∙ miss_again m tail h)
none_read (Some x) bytes e = tt

pub returns-clause-none : goal.returns-clause-none
returns-clause-none c = none_read _ _ c.miss_at.ensures
