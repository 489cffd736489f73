use Rattle.std.proofs.Common.{sym}
use Rattle.turn_rows.proofs.tests.run.Run.swap.Goals as goal

pub returns : goal.returns
returns c = record {
  ready = c.requires.second;
  second = c.requires.ready;
  apart = λ e. c.requires.apart (sym e);
  ruled = c.requires.ruled;
}
