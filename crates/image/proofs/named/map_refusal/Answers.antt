use Rattle.std.proofs.Common.{rules}
use Rattle.image.proofs.named.map_refusal.Goals as goal

pub returns-in-LoadMap : goal.returns-in-LoadMap
returns-in-LoadMap c = search rules

pub returns-in-LoadMap-2 : goal.returns-in-LoadMap-2
returns-in-LoadMap-2 c = search rules
