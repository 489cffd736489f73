use Rattle.journal_pack.proofs.reading.+number_within.Given as goal

-- each call reads one byte less
abbrev pub decreases-number_within : goal.decreases-number_within
decreases-number_within l = l.more
