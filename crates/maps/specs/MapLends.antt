-- What maps are once a borrow of them ends.
use Rattle.std.specs.Prelude.{◌≡◌, ℕ, List, length, ⊤}
use Rattle.std.specs.List.{refill}
use Rattle.std.specs.Borrow.{MutBor, Fml, follows_so}
use Rattle.maps.specs.LentBytes.{LendsBytes}
use mathlib.Core.Option.{none}
use Rattle.maps.specs.contracts.all.Maps.{the_row}
use Rattle.maps.specs.Maps.{MapState, map_at, with_block}

-- the maps are as they were before
abbrev pub Stay : MutBor (List MapState) → Fml
Stay maps = follows_so the_row the_row maps.ghost_name none (λ _ _. ⊤) (λ after. after ≡ maps.now)

-- the block of one map is lent, and keeps its length
abbrev pub LendsMapBlock : MutBor (List MapState) → ℕ → MutBor (List ℕ) → Fml
LendsMapBlock maps m r =
    LendsBytes the_row maps r
    (λ bytes. with_block maps.now m
    (refill (length (map_at maps.now m).block) (map_at maps.now m).block bytes))
