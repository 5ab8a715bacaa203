-- The program of an image is well-formed: `IsProgram` holds of it.
use Rattle.image.proofs.Common.{arith, inl, inr, Program, IsImage}
use Rattle.isa_model.specs.Machine.MachineStates.{IsProgram}
use Rattle.isa_model.proofs.InstructionLaws.{slots_filled-cases, fetch-below}
use Rattle.image.proofs.ImageLaws.{InsnFits-fetch, NamesRows-fetch, fetch-second}

pub IsProgram-IsImage : (p : Program) → IsImage p → IsProgram p
IsProgram-IsImage p h = record {
  some = h.some_slots;
  most = h.few_slots;
  fits = λ slot i e. InsnFits-fetch p slot i h e;
  inside = λ slot i e. elim (slots_filled-cases i) [
    | inl one ↦ let below = fetch-below p slot i e in omega arith
    | inr two ↦ let half = (fetch-second p slot i h e two).0 in omega arith
  ];
  halves = λ slot i e two. (fetch-second p slot i h e two).1;
  rows = h.rows;
  named = λ slot i e. NamesRows-fetch p slot i h e;
}
