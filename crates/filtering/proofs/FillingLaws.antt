-- What the maps of a program hold after a text that was read.
use Rattle.filtering.proofs.Common.{◌≡◌, ◌∙◌, ℕ, List, Option, Some, None, Ok, map, ap, ap₂, sym, inr, Program, KeyValues, TaskOutcome}
use Rattle.isa_model.specs.declared.map_defs.MapDef.{MapDef}
use Rattle.isa_model.specs.Reporting.Reports.{starting_contents}
use Rattle.maps.specs.Maps.{MapState, contents_of, rows_of, starting_map}
use Rattle.maps.proofs.MapLaws.{contents_of-starting, rows_of-starting}
use Rattle.map_texts.specs.Fillings.{FilledMaps, filled_by}
use Rattle.map_texts.specs.Reading.{AreFilledFrom}
use Rattle.filtering.specs.Filling.{BeginsNot, BeginsWith, RefusesMapText}

pub rows-begun : (p : Program) (maps : List MapState) → maps ≡ map starting_map p.maps
    → rows_of maps ≡ p.maps
rows-begun p maps is = ap rows_of is ∙ rows_of-starting p.maps

pub contents-begun : (p : Program) (maps : List MapState) → maps ≡ map starting_map p.maps
    → contents_of maps ≡ starting_contents p.maps
contents-begun p maps is = ap contents_of is ∙ contents_of-starting p.maps

pub rows-filled : (p : Program) (source : Option (List ℕ)) (old new : List MapState)
    → old ≡ map starting_map p.maps → AreFilledFrom source old new (Ok tt) → rows_of new ≡ p.maps
rows-filled p source old new is f = f.rows ∙ rows-begun p old is

-- the text filled the maps
pub begins_filled : (p : Program) (given : Option (List ℕ)) (path : List ℕ)
    (source : Option (List ℕ)) (old new : List MapState) → given ≡ Some path
    → old ≡ map starting_map p.maps → AreFilledFrom source old new (Ok tt)
    → BeginsWith p given (contents_of new)
begins_filled p given path source old new e is f = rw e (
  f.input,
  sym (f.filled ∙ ap₂ (λ (rows : List MapDef) (contents : List KeyValues).
      filled_by rows contents f.input) (rows-begun p old is) (contents-begun p old is)),
)

-- the text does not fill them
pub begins_refused : (p : Program) (given : Option (List ℕ)) (path : List ℕ)
    (source old new : Option (List ℕ)) (maps : List MapState) (r : TaskOutcome)
    → given ≡ Some path → maps ≡ map starting_map p.maps
    → RefusesMapText source maps path old new r → BeginsNot p given old new r
begins_refused p given path source old new maps r e is (error, filled, f, says) =
    let same = f.filled ∙ ap₂ (λ (rows : List MapDef) (contents : List KeyValues).
    filled_by rows contents f.input) (rows-begun p maps is) (contents-begun p maps is) in
    rw e (inr (f.input, error, sym (ap (λ (x : FilledMaps). x.error) same), says))

pub begins_new : (p : Program) (given : Option (List ℕ)) (maps : List MapState) → given ≡ None
    → maps ≡ map starting_map p.maps → BeginsWith p given (contents_of maps)
begins_new p given maps e is = rw e (contents-begun p maps is)
