-- The maps of a machine between runs, and texts of what they hold.
use Rattle.std.specs.Prelude.{◌≡◌, ℕ, List, Option}
use Rattle.isa_model.specs.Reporting.Streams.{ByEnd}
use Rattle.map_texts.specs.declared.errors.MapTextError.{MapTextError}
use Rattle.map_texts.specs.Fillings.{FilledMaps, filled_by}
use Rattle.machine.specs.Running.{Running}

-- what the maps hold after the lines of a text, and why it is refused, if it is
abbrev pub filled_maps : Running → List ℕ → FilledMaps
filled_maps r text =
    filled_by r.program.maps r.contents (record { bytes = text; ending = ByEnd })

-- a text fills the maps, or is refused with this error; program and bound stay
pub record FillsMaps (text : List ℕ) (error : Option MapTextError) (old new : Running)
    : Type 0 where
  pub error_is : error ≡ (filled_maps old text).error
  pub machine : new ≡ record old { contents = (filled_maps old text).contents }
