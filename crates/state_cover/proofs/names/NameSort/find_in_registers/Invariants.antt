use Rattle.state_cover.proofs.Common.{◌≡◌, drop, zip, first_named}
use Rattle.state_cover.proofs.names.NameSort.find_in_registers.Given as goal

-- none of the places before it
abbrev pub invariant-loop-index : goal.invariant-loop-index
invariant-loop-index l =
    first_named l.self l.identity (zip (drop l.index l.left) (drop l.index l.right))
    ≡ first_named l.self l.identity (zip l.left l.right)
