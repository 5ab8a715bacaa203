-- The keys and values of a map, as they are listed in the order of the report.
use Rattle.isa_model.specs.Machine.States.{KeyValues}
use Rattle.maps.specs.declared.ordered.Ordered.{Ordered}
use Rattle.maps.specs.Either.{places_of}
use Rattle.maps.specs.Maps.{ordered_in}
use Rattle.maps.specs.StoreStates.{state_by}

abbrev pub listed_key_values : Ordered → KeyValues
listed_key_values o = ordered_in (state_by places_of o.store.now)
