use Rattle.transfer.proofs.arithmetic.sign_extended.Goals as goal

pub returns-in-Number : goal.returns-in-Number
returns-in-Number c =
    rw c.in-Number.is record {
      contains = c.sign_extend.ensures.contains;
      exact = c.sign_extend.ensures.exact;
      fits = c.sign_extend.ensures.fits;
      small = c.sign_extend.ensures.small;
      kept = c.sign_extend.ensures.kept;
      low_signed = c.sign_extend.ensures.low_signed;
      low_kept = c.sign_extend.ensures.low_kept;
      sharp = c.sign_extend.ensures.sharp;
    }
