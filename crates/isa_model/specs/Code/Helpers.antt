-- The helpers by their numbers, and their arguments: the registers that they read. bpf-helpers(7).
use Rattle.std.specs.Prelude.{◌==◌, if◌then◌else◌, ℤ, pos, negsuc, List, [], ◌∷◌, Option, Some, None}
use Rattle.isa_model.specs.declared.registers.Reg.{Reg}
use Rattle.isa_model.specs.declared.registers.Reg.TheVariants.{R1, R2, R3, R4}
use Rattle.isa_model.specs.declared.helpers.Helper.{Helper}
use Rattle.isa_model.specs.declared.helpers.Helper.TheVariants.{MapLookupElem, MapUpdateElem, MapDeleteElem, KtimeGetNs}

-- the helper of a number, if there is one
abbrev pub helper_numbered : ℤ → Option Helper
helper_numbered (pos n) =
    if n == 1 then Some MapLookupElem
    else if n == 2 then Some MapUpdateElem
    else if n == 3 then Some MapDeleteElem
    else if n == 5 then Some KtimeGetNs
    else None
helper_numbered (negsuc n) = None

-- an unknown helper has no arguments
abbrev pub arguments_of : Option Helper → List Reg
arguments_of (Some MapLookupElem) = R1 ∷ R2 ∷ []
arguments_of (Some MapUpdateElem) = R1 ∷ R2 ∷ R3 ∷ R4 ∷ []
arguments_of (Some MapDeleteElem) = R1 ∷ R2 ∷ []
arguments_of (Some KtimeGetNs) = []
arguments_of None = []
