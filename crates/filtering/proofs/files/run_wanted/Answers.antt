use Rattle.std.proofs.Common.{ap, option_map}
use Rattle.filtering.proofs.DeliveringLaws.{runs-reported, runs-unreported}
use Rattle.filtering.proofs.files.run_wanted.Goals as goal

pub returns-in-Some-clause-runs : goal.returns-in-Some-clause-runs
returns-in-Some-clause-runs g c =
    runs-reported (ap (option_map (λ output. output.path.now)) c.in-Some.is)
    c.run_reported.ensures.filters

pub returns-in-None-clause-runs : goal.returns-in-None-clause-runs
returns-in-None-clause-runs g c =
    runs-unreported (ap (option_map (λ output. output.path.now)) c.in-None.is)
    c.run_unreported.ensures.filters
