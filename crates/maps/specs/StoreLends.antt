-- What the stores of all maps are once a borrow of them ends.
use Rattle.std.specs.Prelude.{◌≡◌, vec_capacity, ⊤}
use Rattle.std.specs.Borrow.{MutBor, Fml, follows_so}
use mathlib.Core.Option.{none}
use Rattle.maps.specs.contracts.stores.Stores.{the_row}
use Rattle.maps.specs.declared.stores.Stores.{Stores}
use Rattle.maps.specs.StoreStates.{IsListOf}

-- the stores are as they were before, and the list has the same room and is that of a map
abbrev pub StoresStay : MutBor Stores → Fml
StoresStay s =
    follows_so the_row the_row s.ghost_name none (λ _ _. ⊤)
    (λ after. (after.all ≡ s.now.all) × (vec_capacity after.list ≡ vec_capacity s.now.list)
    × IsListOf after.listed after.list.items after.all.items)
