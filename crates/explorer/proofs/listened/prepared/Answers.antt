use Rattle.std.proofs.Common.{refl}
use Rattle.explorer.proofs.listened.prepared.Goals as goal

pub returns-in-Err : goal.returns-in-Err
returns-in-Err c =
    record {
      whole = tt;
      good = tt;
      image = tt;
      new = tt;
      refused = c.in-Err.ensures.refused;
      early = tt;
    }

pub returns-in-Ok-new : goal.returns-in-Ok-new
returns-in-Ok-new c = record {
  whole = c.slots-slots.ensures.fits;
  good = c.in-Ok.ensures.good;
  image = c.in-Ok.ensures.found;
  new = c.in-Ok-new.ensures.new;
  refused = tt;
  early = tt;
}

pub returns : goal.returns
returns c = record {
  whole = tt;
  good = tt;
  image = tt;
  new = tt;
  refused = (c.in-Ok.ensures.good, refl);
  early = tt;
}
