-- What is counted in a search.
use Rattle.std.specs.Prelude.{◌≡◌, ℕ, ◌+◌, ◌-◌, ◌*◌, ◌<◌, ◌^◌, min, length, Bool, true, false, Some, None}
use Rattle.isa_model.specs.{Program}
use Rattle.survey_rows.specs.declared.rows.Counts.{Counts}
use Rattle.survey_rows.specs.declared.rows.Judgement.{Judgement}
use Rattle.survey_rows.specs.declared.rows.Judgement.TheVariants as verdict
use Rattle.surveys.specs.declared.tallies.SearchTally.{SearchTally}

-- a count in 64 bits, which stays at the greatest number
abbrev pub saturated : ℕ → ℕ
saturated count = min count (2 ^ 64 - 1)

-- bytes that are whole words
pub record AreWords (bytes : ℕ) : Type 0 where
  pub count : ℕ
  pub most : count < 2 ^ 32
  pub is : bytes ≡ count * 8

-- a number of bytes that grew by those of a stored state
pub record GrowsByWords (old new : ℕ) : Type 0 where
  pub bytes : ℕ
  pub are_words : AreWords bytes
  pub grown : new ≡ saturated (old + bytes)

-- the bytes of stored states after an instruction: they grow only if its state is stored, and the
-- stored state comes with its index
abbrev pub CountsBytes : ℕ → Bool → ℕ → Type 0
CountsBytes old false new = new ≡ old
CountsBytes old true new = GrowsByWords old new

-- counts with what was counted in a search
abbrev pub with_tally : Counts → SearchTally → Counts
with_tally counts t = record counts {
  explored = Some t.explored;
  stored = Some t.stored;
  deepest = Some t.deepest;
  stored_bytes = Some t.stored_bytes;
}

-- counts with a bound
abbrev pub with_bound : Counts → ℕ → Counts
with_bound counts bound = record counts { bound = Some bound }

-- what is counted before the verdict
abbrev pub searched : Counts → Counts
searched counts = record counts {
  slot = None;
  bound = None;
  table_bytes = None;
  prove_microseconds = None;
  recheck_microseconds = None;
}

-- the sizes are those of the program
pub record HasSizes (p : Program) (counts : Counts) : Type 0 where
  pub slots : counts.slots ≡ Some (length p.insns)
  pub maps : counts.maps ≡ Some (length p.maps)

-- a row says the sizes of a program, unless memory ran out
abbrev pub SaysSizes : Program → Judgement → Counts → Type 0
SaysSizes p verdict.NoMemory counts = Unit {0}
SaysSizes p v counts = HasSizes p counts
