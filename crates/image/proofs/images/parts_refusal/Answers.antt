use Rattle.std.proofs.Common.{sym}
use Rattle.image.proofs.RowLaws.{All-rows_refusal}
use Rattle.image.proofs.images.parts_refusal.Goals as goal

pub room_refusal-requires-clause-fit : goal.room_refusal-requires-clause-fit
room_refusal-requires-clause-fit c =
    All-rows_refusal 0 c.args.maps.now (sym c.in_default-rows_refusal.ensures)
