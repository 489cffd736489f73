use Rattle.basic_blocks.proofs.Fitting.{spelled_fits}
use Rattle.basic_blocks.proofs.place.read_front.Goals as goal

pub returns-clause-fits : goal.returns-clause-fits
returns-clause-fits c = spelled_fits c.args.bytes.now c.decode.result c.spelled_fits.ensures c.decode.ensures.exact c.decode.ensures.within
