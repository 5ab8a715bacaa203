-- What the calls on texts of maps return.
use Rattle.std.specs.Prelude.{◌≡◌, ℕ, List, Some, ◌⊎◌}
use Rattle.machine.specs.Running.{Running}
use Rattle.machine.specs.Texts.{FillsMaps}
use Rattle.map_texts.specs.declared.errors.MapTextError.{MapTextError}
use Rattle.map_texts.specs.Listings.{ReadsBack, text_of}
use Rattle.map_texts.specs.Messages.{code_of}
use Rattle.calls.specs.Crossing.{FillsBuffer}
use Rattle.calls.specs.Numbers.{code_number}
use Rattle.calls.specs.declared.filling.MapRefusal.{MapRefusal}
use Rattle.calls.specs.declared.statuses.TheConstants.{MEMORY, OK, REFUSED, WRONG}

-- done, `WRONG`, or refused
abbrev pub IsFilling : ℕ → Type 0
IsFilling status = (status ≡ OK) ⊎ ((status ≡ WRONG) ⊎ (status ≡ REFUSED))

-- done, `WRONG`, or out of memory
abbrev pub IsListing : ℕ → Type 0
IsListing status = (status ≡ OK) ⊎ ((status ≡ WRONG) ⊎ (status ≡ MEMORY))

-- what is returned for a text none of whose lines is refused
abbrev pub no_map_refusal : MapRefusal
no_map_refusal = record { line = 0; column = 0; code = 0 }

-- a refusal: its line and column, and the number of its code, such as 3 for M3
abbrev pub refused_line : MapTextError → MapRefusal
refused_line error =
    record { line = error.line; column = error.column; code = code_number (code_of error.kind) }

-- a line of the text is refused; the maps are as the lines before it left them
abbrev pub RefusesMaps : List ℕ → MapRefusal → Running → Running → Type 0
RefusesMaps text out before after =
    (error : MapTextError) × FillsMaps text (Some error) before after
    × (out ≡ refused_line error)

-- the map lines of the machine are written to a buffer
abbrev pub ListsMaps : List ℕ → List ℕ → ℕ → Running → Type 0
ListsMaps old new size m = FillsBuffer old new size (text_of m.program.maps m.contents)

-- and as a text they fill new maps of its program with what its maps hold
abbrev pub ReadsBackMaps : Running → Type 0
ReadsBackMaps m = ReadsBack m.program.maps m.contents
