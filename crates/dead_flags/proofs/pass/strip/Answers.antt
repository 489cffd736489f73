use Rattle.std.proofs.Common.{subst, sym, ◌≡◌, ◌∙◌, ap}
use Rattle.ir_meaning.specs.Live.{kept_parts}
use Rattle.dead_flags.specs.Alike.{Alike, StaysSame}
use Rattle.dead_flags.proofs.AlikeLemmas.{strip_alike, strip_same}
use Rattle.dead_flags.proofs.TypeLemmas.{strip_typed}
use Rattle.dead_flags.proofs.pass.strip.Goals as goal

pub returns-clause-same : goal.returns-clause-same
returns-clause-same c needed =
    let parts : c.from_vec.result ≡ kept_parts c.args.block.parts = c.from_vec.ensures ∙ c.strip_parts.ensures ∙ ap kept_parts c.into_vec-parts.ensures in
    subst (Alike needed c.args.block.parts) (sym parts) (strip_alike c.args.block.parts needed)

pub returns-clause-typed : goal.returns-clause-typed
returns-clause-typed c typed =
    let parts : c.from_vec.result ≡ kept_parts c.args.block.parts = c.from_vec.ensures ∙ c.strip_parts.ensures ∙ ap kept_parts c.into_vec-parts.ensures in
    rw parts (strip_typed c.args.block typed)

pub returns-clause-equal : goal.returns-clause-equal
returns-clause-equal c =
    let parts : c.from_vec.result ≡ kept_parts c.args.block.parts = c.from_vec.ensures ∙ c.strip_parts.ensures ∙ ap kept_parts c.into_vec-parts.ensures in
    subst (StaysSame c.args.block.parts) (sym parts) (strip_same c.args.block.parts)
