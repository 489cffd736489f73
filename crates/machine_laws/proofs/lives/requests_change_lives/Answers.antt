use Rattle.machine_laws.proofs.Requests.{row_told}
use Rattle.machine_laws.proofs.lives.requests_change_lives.Goals as goal

pub returns : goal.returns
returns c = row_told
