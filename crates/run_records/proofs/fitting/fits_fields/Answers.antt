use Rattle.std.proofs.Common.{arith}
use Rattle.run_records.proofs.fitting.fits_fields.Goals as goal

pub returns : goal.returns
returns c = (
  λ e. record {
    class = c.is_name-class.ensures.0 c.if-not-class.false;
    method = c.is_name-method.ensures.0 c.if-not-method.false;
    heap = c.numbers_fit.ensures.heap;
    depth = c.numbers_fit.ensures.depth;
    limit = c.numbers_fit.ensures.limit;
    outcome = c.is_outcome-outcome.ensures.0 c.if-not-outcome.false;
    few_names = omega arith;
    names = c.names_fit.ensures.0 e;
    few_lines = omega arith;
    lines = c.lines_fit.ensures;
  },
  λ fits. c.names_fit.ensures.1 fits.names,
)
