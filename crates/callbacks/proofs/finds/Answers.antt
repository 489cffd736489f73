use Rattle.callbacks.proofs.Steps.{finds_within}
use Rattle.callbacks.proofs.finds.Goals as goal

pub returns : goal.returns
returns c = λ f probes compare. finds_within probes compare f
