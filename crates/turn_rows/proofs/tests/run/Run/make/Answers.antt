use Rattle.std.proofs.Common.{sym, arith}
use Rattle.turn_rows.proofs.tests.run.Run.make.Goals as goal

pub returns-clause-good : goal.returns-clause-good
returns-clause-good c = record {
  ready = c.in_ok-guest.ensures.ready;
  second = c.in_ok-other.ensures.ready;
  apart = λ e. (let one = c.in_ok-other.ensures.slot in let none = c.in_ok-guest.ensures.slot in grind (arith, e));
  ruled = record { turn = c.requires.some; most = c.requires.most; hold = c.requires.hold; strict = sym c.in_ok-hall.ensures.strict };
}
