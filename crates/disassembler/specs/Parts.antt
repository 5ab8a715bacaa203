-- Parts that lines of canonical text have in common.
use Rattle.std.specs.Prelude.{ℕ, List, ◌++◌, codes}
use Rattle.isa_model.specs.declared.registers.Reg.{Reg}
use Rattle.isa_model.specs.declared.sizes.Width.{Width}
use Rattle.isa_model.specs.declared.sizes.Width.TheVariants.{Full64}
use Rattle.isa_model.specs.declared.instructions.Place.{Place}
use Rattle.isa_model.specs.Text.CanonicalText.{reg_text, width_text, place_text}

-- memory of a size: `*(u32 *)(r10 - 8)`
abbrev pub memory_text : List ℕ → Place → List ℕ
memory_text size p = codes "*(" ++ size ++ codes " *)(" ++ place_text p ++ codes ")"

-- an atomic instruction whose source register gets the old number: `r1 = xchg_64(r10 - 8, r1)`
abbrev pub fetch_insn_text : List ℕ → Width → Place → Reg → List ℕ
fetch_insn_text word w p s =
    reg_text Full64 s ++ codes " = " ++ word ++ width_text w ++ codes "(" ++ place_text p
    ++ codes ", "
    ++ reg_text Full64 s ++ codes ")\n"
