use Rattle.transfer.proofs.arithmetic.computed.Goals as goal

pub returns : goal.returns
returns c = record {
  contains = c.alu.ensures.contains;
  exact = c.alu.ensures.exact;
  fits = c.alu.ensures.fits;
  limits = c.alu.ensures.limits;
  signed = c.alu.ensures.signed;
  low_limits = c.alu.ensures.low_limits;
  low_signed = c.alu.ensures.low_signed;
  raised = c.alu.ensures.raised;
  raised_signed = c.alu.ensures.raised_signed;
  sharp = c.alu.ensures.sharp;
  product = c.alu.ensures.product;
}
