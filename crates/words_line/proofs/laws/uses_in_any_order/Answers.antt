use Rattle.words_line.proofs.Orders.{in_any_order}
use Rattle.words_line.proofs.laws.uses_in_any_order.Goals as goal

pub returns : goal.returns
returns c word kind words others e r = in_any_order word kind words others e r
