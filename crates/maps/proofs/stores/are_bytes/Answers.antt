use Rattle.maps.proofs.Common.{◌<◌, arith, All-from_get_or}
use Rattle.maps.proofs.stores.are_bytes.Goals as goal

pub returns : goal.returns
returns c =
    All-from_get_or (λ b. b < 256) c.args.bytes.now 0 (λ j l. omega (arith, c.type_inv.bytes j))
