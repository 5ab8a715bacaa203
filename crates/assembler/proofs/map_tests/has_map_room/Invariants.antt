use Rattle.std.proofs.Common.{◌≡◌, ◌+◌, take, sum_by}
use Rattle.image.specs.Images.{room_of}
use Rattle.isa_model.specs.declared.limits.TheConstants.{MAX_MAP_ROOM}
use Rattle.assembler.proofs.map_tests.has_map_room.Given as goal

abbrev pub invariant-loop-other : goal.invariant-loop-other
invariant-loop-other l =
    l.left + (sum_by room_of (take l.other-index l.maps) + room_of l.row) ≡ MAX_MAP_ROOM
