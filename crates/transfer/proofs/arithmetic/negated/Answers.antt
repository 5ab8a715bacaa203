use Rattle.transfer.proofs.arithmetic.negated.Goals as goal

pub returns-in-Number : goal.returns-in-Number
returns-in-Number c =
    rw c.in-Number.is record {
      contains = c.negate.ensures.contains;
      exact = c.negate.ensures.exact;
      fits = c.negate.ensures.fits;
      signed = c.negate.ensures.signed;
      low_signed = c.negate.ensures.low_signed;
      sharp = c.negate.ensures.sharp;
    }
