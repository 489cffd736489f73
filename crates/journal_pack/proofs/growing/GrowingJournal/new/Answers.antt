use Rattle.std.proofs.Common.{arith}
use Rattle.journal_pack.proofs.PackedLemmas.{none_kept}
use Rattle.journal_pack.proofs.growing.GrowingJournal.new.Goals as goal

pub invariant_of-result : goal.invariant_of-result
invariant_of-result c = ((none_kept c.new.result.items c.new.ensures.items).0, record { fits = omega (arith, c.new.ensures.len); begun = λ h. absurd (omega (arith, h)) })

pub returns : goal.returns
returns c = let same = (none_kept c.new.result.items c.new.ensures.items).1 in (λ i. record { entries = same i; spare = 0 })
