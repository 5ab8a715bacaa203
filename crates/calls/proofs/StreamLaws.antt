-- A stream in memory is read to the end of its bytes.
use Rattle.calls.proofs.Common.{◌≡◌, [], ℕ, List, Option, Some, None, refl, sym, ap, ◌∙◌, subst, inl, inr, Ok, Bounded}
use Rattle.isa_model.specs.declared.streams.Fault.{Fault}
use Rattle.isa_model.specs.declared.streams.Fault.TheVariants.{BadMagic, TruncatedHead, TooLong, TruncatedBody, ReadFailed, TooManyRecords}
use Rattle.isa_model.specs.declared.streams.Finish.{Finish}
use Rattle.isa_model.specs.declared.streams.Finish.TheVariants as finish
use Rattle.isa_model.specs.Machine.States.{KeyValues}
use Rattle.isa_model.specs.Reporting.Streams.{ByEnd, Stream, stream_of}
use Rattle.frames.specs.Sources.{in_memory}
use Rattle.frames.proofs.InputsLaws.{AreReadFrom-in_memory}
use Rattle.frames.proofs.Stopping.{stream_of-sound}
use Rattle.host.specs.declared.tallies.Tally.{Tally}
use Rattle.host.specs.Accepted.{ReportsRunFrom, RunsWholeFrom, ShowsTallied}
use Rattle.host.specs.Tallies.{fault_of, ShowsTally}
use Rattle.host.specs.Writing.{Outputs}
use Rattle.calls.specs.Streams.{IsReadWell, WritesStreamFrom, fault_field}

pair_is : (p q : Fault × ℕ) → Some p ≡ Some q → p ≡ q
pair_is p q h = cc

fault_is : (stop : Finish) (offset : ℕ) → fault_of stop ≡ Some (ReadFailed, offset)
    → stop ≡ finish.Fault ReadFailed offset
fault_is finish.End offset h = absurd cc
fault_is (finish.Fault fault at) offset h =
    ap (λ (q : Fault × ℕ). finish.Fault q.0 q.1) (pair_is (fault, at) (ReadFailed, offset) h)

-- no read of bytes in memory failed
pub read_well : (source : List ℕ) (found : Stream) (tally : Tally)
    → found ≡ stream_of (record { bytes = source; ending = ByEnd }) → ShowsTally found tally
    → IsReadWell tally
read_well source found tally all tells = λ offset failed.
    let shown : fault_of found.finish ≡ Some (ReadFailed, offset) =
    sym (ap (λ (t : Tally). t.fault) tells) ∙ failed in
    stream_of-sound source offset
    (sym (ap (λ (s : Stream). s.finish) all) ∙ fault_is found.finish offset shown)

module _ (a : Bounded) (contents : List KeyValues) (source : List ℕ) where
  runs_whole : (old new : Outputs) (tally : Tally)
      → ReportsRunFrom a contents (in_memory source) ShowsTallied old new (Ok tally)
      → RunsWholeFrom a contents (in_memory source) ShowsTallied old new (Ok tally)
  runs_whole old new tally h = elim h.reports [
    | inl whole ↦ whole
    | inr failed ↦ absurd (cc failed.1)
  ]

  -- what a run writes from empty outputs on
  pub writes_stream : (old_report old_sent report sent : List ℕ) (tally : Tally)
      → old_report ≡ [] → old_sent ≡ []
      → ReportsRunFrom a contents (in_memory source) ShowsTallied
      (record { report = Some old_report; sent = Some old_sent })
      (record { report = Some report; sent = Some sent }) (Ok tally)
      → WritesStreamFrom a contents source report sent tally
  writes_stream old_report old_sent report sent tally none nothing h =
      let old : Outputs = record { report = Some old_report; sent = Some old_sent } in
      let new : Outputs = record { report = Some report; sent = Some sent } in
      let Runs : List ℕ → List ℕ → Type 0 =
      λ x y. RunsWholeFrom a contents (in_memory source) ShowsTallied
      (record { report = Some x; sent = Some y }) new (Ok tally) in
      let runs : Runs [] [] =
      subst (λ (y : List ℕ). Runs [] y) nothing
      (subst (λ (x : List ℕ). Runs x old_sent) none (runs_whole old new tally h)) in
      let all = AreReadFrom-in_memory source runs.found runs.read in
      record {
        runs = runs;
        all = all;
        no_failure = read_well source runs.found tally all runs.tells;
      }

-- the field for the fault is 5 only where a read failed
pub fault_other : (fault : Option (Fault × ℕ))
    → ((offset : ℕ) → fault ≡ Some (ReadFailed, offset) → ⊥) → fault_field fault ≡ 5 → ⊥
fault_other None none five = absurd cc
fault_other (Some (BadMagic, offset)) none five = absurd cc
fault_other (Some (TruncatedHead, offset)) none five = absurd cc
fault_other (Some (TooLong, offset)) none five = absurd cc
fault_other (Some (TruncatedBody, offset)) none five = absurd cc
fault_other (Some (ReadFailed, offset)) none five = none offset refl
fault_other (Some (TooManyRecords, offset)) none five = absurd cc
