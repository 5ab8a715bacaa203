use Rattle.insn_codec.proofs.Whole.{decoded-spelled, decoded-fits, decoded-spelling_of}
use Rattle.insn_codec.proofs.decoding_laws.Goals as goal

pub returns-clause-found : goal.returns-clause-found
returns-clause-found c = λ bytes i small e. decoded-spelled bytes i small e

pub returns-clause-fits : goal.returns-clause-fits
returns-clause-fits c = λ bytes i small e. decoded-fits bytes i small e

pub returns-clause-again : goal.returns-clause-again
returns-clause-again c = λ i rest h. decoded-spelling_of i rest h
