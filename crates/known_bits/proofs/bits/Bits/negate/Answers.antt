use Rattle.known_bits.proofs.bits.Bits.negate.Goals as goal

pub returns-clause-exact : goal.returns-clause-exact
returns-clause-exact c = λ u h. c.alu.ensures.exact 0 u c.constant.ensures.constant h
