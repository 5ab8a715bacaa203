use Rattle.state_cover.proofs.Common.{◌≡◌, drop, zip, spilled_kinds, first_named}
use Rattle.state_cover.proofs.names.NameSort.find_in_slots.Given as goal

-- none of the slots before it
abbrev pub invariant-loop-index : goal.invariant-loop-index
invariant-loop-index l =
    first_named l.self l.identity
    (zip (spilled_kinds (drop l.index l.left)) (spilled_kinds (drop l.index l.right)))
    ≡ first_named l.self l.identity (zip (spilled_kinds l.left) (spilled_kinds l.right))
