use Rattle.std.proofs.Common.{length}
use Rattle.x86_decode.proofs.prefixes.+prefix_count.Given as goal

abbrev pub decreases-prefix_count : goal.decreases-prefix_count
decreases-prefix_count l = length l.bytes.now
