-- The loops over the frames of a stream.
use Rattle.coverage.proofs.Common.{◌≡◌, ℕ, ◌+◌, ◌<◌, ◌≤◌, List, [], ◌∷◌, ◌++◌, length, Bool, Option, Result, sym, ap, ◌∙◌, subst, arith, length-append, inl, Version, Program, KeyValues, PacketFrame, max_frames, checked_rule, contents_after, contents_left, turn_on, HasBegun, HasBegun-opens, HasBegun-found}
use Rattle.isa_model.specs.declared.streams.Fault.{Fault}
use Rattle.frames.specs.Sources.{Origin}
use Rattle.frames.specs.Readers.{Position, Fresh, ReaderState}
use Rattle.frames.specs.Reading.{OpensStream, begun_at, Finds, Found}
use Rattle.frames.specs.Inputs.{IsBegunVersion}
use Rattle.coverage.proofs.RunsLaws.{contents_after-one}

-- a reader of a source that was made, and then read the magic
pub begun_by : {R : Type 0} (remaining : R → Option (List ℕ)) (may_fail : Bool) (source : R)
    (reader : ReaderState R) (left : Option (List ℕ)) (after : Position)
    (begun : Result ℕ (Fault × ℕ)) (v : Version)
    → reader ≡ record { source = source; position = Fresh }
    → OpensStream may_fail reader.position (remaining reader.source) left after
    → begun ≡ begun_at after → IsBegunVersion begun v
    → HasBegun v [] (record { bytes = remaining source; may_fail = may_fail }) left after
begun_by remaining may_fail source reader left after begun v made opens begins is =
    HasBegun-opens v (record { bytes = remaining source; may_fail = may_fail }) left after
    (subst (λ (r : ReaderState _). OpensStream may_fail r.position (remaining r.source) left after)
    made opens)
    (subst (λ (b : Result ℕ (Fault × ℕ)). IsBegunVersion b v) begins is)

-- one more frame was found
pub more_begun : (v : Version) (frames : List PacketFrame) (source : Origin)
    (known new : Option (List ℕ)) (p q : Position) (f : PacketFrame)
    → HasBegun v frames source known p → Finds source.may_fail p known new q (Found f)
    → HasBegun v (frames ++ f ∷ []) source new q
more_begun v frames source known new p q f begun finds =
    let (found, early, fits) = HasBegun-found v frames source known new p q f begun finds in
    inl found

-- there was a number for it
pub early_frame : (v : Version) (frames : List PacketFrame) (source : Origin)
    (known new : Option (List ℕ)) (p q : Position) (f : PacketFrame)
    → HasBegun v frames source known p → Finds source.may_fail p known new q (Found f)
    → length frames < max_frames
early_frame v frames source known new p q f begun finds =
    let (found, early, fits) = HasBegun-found v frames source known new p q f begun finds in
    early

pub more_numbered : (frames : List PacketFrame) (f : PacketFrame) (number : ℕ)
    → number ≡ length frames → number + 1 ≡ length (frames ++ f ∷ [])
more_numbered frames f number same =
    let more = length-append frames (f ∷ []) in omega (arith, same, more)

-- the contents that one more frame leaves
pub more_carried : (p q : Program) (limit : ℕ) (start contents left : List KeyValues)
    (frames : List PacketFrame) (f : PacketFrame) → q ≡ p
    → contents ≡ contents_after (checked_rule p limit) start frames
    → left ≡ contents_left contents (turn_on (checked_rule q limit) contents f)
    → left ≡ contents_after (checked_rule p limit) start (frames ++ f ∷ [])
more_carried p q limit start contents left frames f same before after =
    let rule = checked_rule p limit in
    after
    ∙ ap (λ (x : Program). contents_left contents (turn_on (checked_rule x limit) contents f)) same
    ∙ ap (λ (x : List KeyValues). contents_left x (turn_on rule x f)) before
    ∙ sym (contents_after-one rule start frames f)
