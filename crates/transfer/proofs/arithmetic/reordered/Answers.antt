use Rattle.transfer.proofs.arithmetic.reordered.Goals as goal

pub returns-in-Number : goal.returns-in-Number
returns-in-Number c =
    rw c.in-Number.is record {
      contains = c.reorder.ensures.contains;
      exact = c.reorder.ensures.exact;
      fits = c.reorder.ensures.fits;
      limits = c.reorder.ensures.limits;
      low_limits = c.reorder.ensures.low_limits;
      bits = c.reorder.ensures.bits;
      sharp = c.reorder.ensures.sharp;
    }
