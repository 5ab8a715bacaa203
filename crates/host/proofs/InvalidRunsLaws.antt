-- What is noted of packet frames one after another is the first and the count of those whose runs
-- end with INVALID.
use Rattle.host.proofs.Common.{◌≡◌, ℕ, ◌+◌, ◌-◌, ◌^◌, ◌==◌, min, if◌then◌else◌, Bool, true, false, List, [], ◌∷◌, ◌++◌, length, Option, Some, None, Result, slice_get, refl, sym, ap, subst, ◌∙◌, append_assoc, length-append, arith, KeyValues, PacketFrame, turn_on, contents_left, starting_contents, Bounded, Origin, HostError, ReportsRunFrom, end_of, one_more, noted_after, is_invalid, rule_of, Outputs}
use Rattle.std.proofs.lemmas.List.{append-nil}
use Rattle.std.specs.Option.{option_or}
use Rattle.isa_model.specs.declared.ends.End.{End}
use Rattle.isa_model.specs.declared.ends.End.TheVariants.{Exit, Trap, Limit}
use Rattle.isa_model.specs.Reporting.Frames.{action_of}
use Rattle.host.specs.declared.invalid.InvalidFrame.{InvalidFrame}
use Rattle.host.specs.declared.invalid.InvalidFrames.{InvalidFrames}
use Rattle.host.specs.declared.noting.Ran.{Ran}
use Rattle.host.specs.InvalidRuns.{invalid_end, invalid_in, invalid_of, with_invalid, with_invalid_end, invalid_notes, ShowsInvalid, ReportsNoted}

-- from new maps on
pub ReportsNoted-starting : (a : Bounded) (contents : List KeyValues) (source : Origin)
    (old new : Outputs) (result : Result Ran HostError) → contents ≡ starting_contents a.program.maps
    → ReportsRunFrom a contents source (ShowsInvalid a contents) old new result
    → ReportsNoted a source old new result
ReportsNoted-starting a contents source old new result start r =
    subst (λ (k : List KeyValues). ReportsRunFrom a k source (ShowsInvalid a k) old new result)
    start r

-- ---- one more frame

first_append : (frames : List InvalidFrame) (f : InvalidFrame)
    → option_or (slice_get frames 0) (Some f) ≡ slice_get (frames ++ f ∷ []) 0
first_append [] f = refl
first_append (g ∷ frames) f = refl

capped : (n m top : ℕ) → m ≡ n + 1 → min (min n top + 1) top ≡ min m top
capped n m top e = omega (arith, e)

count_append : (frames : List InvalidFrame) (f : InvalidFrame)
    → one_more (min (length frames) (2 ^ 32 - 1))
    ≡ min (length (frames ++ f ∷ [])) (2 ^ 32 - 1)
count_append frames f =
    capped (length frames) (length (frames ++ f ∷ [])) (2 ^ 32 - 1) (length-append frames (f ∷ []))

abbrev noted : Option InvalidFrame → ℕ → InvalidFrames
noted first count = record { first = first; count = count }

invalid_of-append : (frames : List InvalidFrame) (f : InvalidFrame)
    → with_invalid (invalid_of frames) f ≡ invalid_of (frames ++ f ∷ [])
invalid_of-append frames f =
    ap (λ (first : Option InvalidFrame). noted first (one_more (invalid_of frames).count))
    (first_append frames f)
    ∙ ap (λ (n : ℕ). noted (slice_get (frames ++ f ∷ []) 0) n) (count_append frames f)

none_more : (frames : List InvalidFrame) → invalid_of frames ≡ invalid_of (frames ++ [])
none_more frames = ap invalid_of (sym (append-nil frames))

-- by how the run of a frame ended
one_end : (frames : List InvalidFrame) (number : ℕ) (end : End)
    → with_invalid_end (invalid_of frames) number end
    ≡ invalid_of (frames ++ invalid_end number (Some end))
one_end frames number (Exit answer steps) = by (is_invalid (action_of answer))
  where
    by : (b : Bool)
        → (if b
        then with_invalid (invalid_of frames) (record { frame = number; answer = answer })
        else invalid_of frames)
        ≡ invalid_of (frames
        ++ (if b then record { frame = number; answer = answer } ∷ [] else []))
    by true = invalid_of-append frames (record { frame = number; answer = answer })
    by false = none_more frames
one_end frames number (Trap reason steps) = none_more frames
one_end frames number Limit = none_more frames

-- ---- frames one after another

-- frames that come after others
pub invalid_after : (a : Bounded) (before : List InvalidFrame) (number : ℕ)
    (contents : List KeyValues) (frames : List PacketFrame)
    → noted_after (invalid_notes a) (rule_of a) (invalid_of before) number contents frames
    ≡ invalid_of (before ++ invalid_in (rule_of a) number contents frames)
invalid_after a before number contents [] = none_more before
invalid_after a before number contents (f ∷ frames) =
    let rule = rule_of a in
    let next = contents_left contents (turn_on rule contents f) in
    let here = invalid_end number (end_of (turn_on rule contents f)) in
    ap (λ (x : InvalidFrames). noted_after (invalid_notes a) rule x (number + 1) next frames)
    (one (f.reason == 0))
    ∙ invalid_after a (before ++ here) (number + 1) next frames
    ∙ ap invalid_of (append_assoc before here (invalid_in rule (number + 1) next frames))
  where
    one : (b : Bool)
        → (if b
        then with_invalid_end (invalid_of before) number
        (rule_of a f.head f.body contents).ends
        else invalid_of before)
        ≡ invalid_of (before
        ++ invalid_end number
        (end_of (if b then Some (rule_of a f.head f.body contents) else None)))
    one true = one_end before number (rule_of a f.head f.body contents).ends
    one false = none_more before
