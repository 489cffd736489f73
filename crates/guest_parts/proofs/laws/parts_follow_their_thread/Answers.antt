use Rattle.guest_parts.proofs.Begins.{begins}
use Rattle.guest_parts.proofs.Parts.{follows}
use Rattle.guest_parts.proofs.laws.parts_follow_their_thread.Goals as goal

pub returns-clause-parts : goal.returns-clause-parts
returns-clause-parts c = λ image grown b n last p ps v d h parts. follows image grown b n last p ps v d c.goes_on_after_its_bytes.ensures h parts

pub returns-clause-begins : goal.returns-clause-begins
returns-clause-begins c = begins
