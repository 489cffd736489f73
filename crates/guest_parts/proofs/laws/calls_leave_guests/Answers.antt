use Rattle.guest_parts.proofs.CallEntries.{answers_fit, asks_with, call_answers, call_comes, call_ends, call_faults, call_stops}
use Rattle.guest_parts.proofs.laws.calls_leave_guests.Goals as goal

pub returns-clause-asks : goal.returns-clause-asks
returns-clause-asks e = λ c b t g d a what w at. asks_with c b t g d a what w at

pub returns-clause-stops : goal.returns-clause-stops
returns-clause-stops e = λ c b t g d a what w at room few. call_stops c b t g d a what w at room few

pub returns-clause-comes : goal.returns-clause-comes
returns-clause-comes e = λ c b t g d a what h w room at none free. call_comes c b t g d a what w at h room none free

pub returns-clause-answers : goal.returns-clause-answers
returns-clause-answers e = λ c b t g d a what h w room at none library memory called is goes fits. call_answers c b t g d a what w at h room none library memory called is goes fits

pub returns-clause-fits : goal.returns-clause-fits
returns-clause-fits e = λ c b t g d a what h w at low key library memory called is. answers_fit c b t g d a what w at h low key library memory called is

pub returns-clause-ends : goal.returns-clause-ends
returns-clause-ends e = λ c b t g d a what h w room at none library memory is. call_ends c b t g d a what w at h room none library memory is

pub returns-clause-faults : goal.returns-clause-faults
returns-clause-faults e = λ c b t g d a what h w room at none kind is. call_faults c b t g d a what w at h room none kind is
