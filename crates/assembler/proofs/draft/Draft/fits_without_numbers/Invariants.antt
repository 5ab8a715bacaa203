use Rattle.assembler.proofs.Common.{◌≡◌, ◌++◌, map, take, drop, zeroed}
use Rattle.assembler.proofs.draft.Draft.fits_without_numbers.Given as goal

abbrev pub invariant-loop-token : goal.invariant-loop-token
invariant-loop-token l = l.token-items
    ≡ map zeroed (take l.token-index l.fn.self.tokens.items)
    ++ drop l.token-index l.fn.self.tokens.items
