-- Op lines one after another.
use Rattle.std.proofs.Common.{ℕ, ◌<◌, ◌+◌, List, length, subst, drop, get_or}
use Rattle.std.proofs.lemmas.List.{drop_more}
use Rattle.guest_state.specs.declared.virtual_state.Virtual.{Virtual}
use Rattle.ir_syntax.specs.declared.line.Op.{Op}
use Rattle.ir_meaning.specs.Does.{did}
use Rattle.ir_meaning.specs.Ready.{OpReady, LinesReady}

pub ready_step : (ops : List Op) (i : ℕ) (d : Op) (v : Virtual) → i < length ops → LinesReady (drop i ops) v → OpReady (get_or ops i d) v × LinesReady (drop (i + 1) ops) (did (get_or ops i d) v)
ready_step ops i d v h r = subst (λ (rest : List Op). LinesReady rest v) (drop_more ops i d h) r
