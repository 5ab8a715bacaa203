use Rattle.explorer.proofs.Common.{subst, StopsAt, IfRefused, precision_in}
use Rattle.explorer.proofs.search.Search.explore.Goals as goal

pub explore_all-requires : goal.explore_all-requires
explore_all-requires g c = record {
  image = c.requires.image;
  whole = c.requires.whole;
  good = c.requires.good;
  new = c.requires.new;
  untold = c.requires.untold;
}

pub returns-in-Ok : goal.returns-in-Ok
returns-in-Ok g c =
    let settled = c.in-Ok.ensures.settles in
    record {
      within = settled.0.within;
      number = settled.0.number;
      some = settled.1;
      most = c.in-Ok.ensures.most;
      stops = tt;
      too_long = tt;
      ends = λ how fine. tt;
      exact = c.explore_all.ensures.exact;
    }

pub returns-in-Err-Refused-clause-stops : goal.returns-in-Err-Refused-clause-stops
returns-in-Err-Refused-clause-stops g c =
    subst (λ h. IfRefused h (StopsAt (precision_in c.explore_all.new.self.kept) c.args.flow.now))
    c.in-Err-Refused.field-0-is
    c.in-Err-Refused.ensures.stops
