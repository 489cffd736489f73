use Rattle.std.proofs.Common.{◌+◌, ◌*◌, ◌^◌, ◌≤◌, refl, arith}
use Rattle.dyn_link.specs.Dynamic.{run_at}
use Rattle.dyn_link.specs.Relocations.{symbol_record}
use Rattle.dyn_link.proofs.Finding.{none_above}
use Rattle.dyn_link.proofs.binding.symbol_record.Goals as goal

pub returns-in-None-clause-found : goal.returns-in-None-clause-found
unfolding symbol_record run_at
returns-in-None-clause-found c =
    let high : 2 ^ 47 ≤ c.args.symbols + 24 * c.args.r.symbol = let past = rw c.in-None.is at c.checked_add.ensures in omega (arith, past) in
    rw (← none_above (c.args.symbols + 24 * c.args.r.symbol) c.args.image.now.segments c.facts.ensures.segments high) refl
