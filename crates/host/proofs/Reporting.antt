-- From what a machine writes to the checked report.
use Rattle.host.proofs.Common.{◌≡◌, ℕ, ◌+◌, List, [], ◌∷◌, ◌++◌, length, Result, Ok, Err, IfOk, refl, sym, ap, ◌∙◌, subst, append_assoc, ◌⊎◌, inl, inr, MapDef, Finish, Version, stream_magic, KeyValues, PacketFrame, Stream, stream_with, AreOpen, OutputPiece, ToReport, ToFrames, turns_pieces, contents_after, maps_pieces, last_line, checked_report_from, Bounded, Origin, StreamEnded, HostError, rule_of, form_on, front_in, RunnerState, TakesWhole, TakesFront, Outputs, Wrote, WroteBefore, WritesEach}
use Rattle.frames.specs.Inputs.{AreReadFrom, IsBegunBy}
use Rattle.host.specs.Reported.{ReportsWhole, Reports}
use Rattle.host.proofs.Pieces.{Wrote-append, WroteBefore-append, WroteBefore-more}
use Rattle.host.proofs.FrameLoop.{turns_pieces-append}

-- the checked report of an accepted program's bound, or of a limit
abbrev pub report_by : Bounded → List KeyValues → Stream → List OutputPiece
report_by a contents found = checked_report_from a.program a.bound contents found

-- an output failed at the magic or at a piece of these frames, and no more was read
pub record StopsAtFrame (a : Bounded) (contents : List KeyValues) (source : Origin)
    (old new : Outputs) (error : HostError) : Type 0 where
  pub version : Version
  pub frames : List PacketFrame
  pub are_open : AreOpen version frames
  pub begun : IsBegunBy source version frames
  pub writes : WroteBefore old new (front_in (form_on a version) (rule_of a) contents frames) error

-- the checked report was written, whole or up to a piece that failed, and the maps hold what the
-- frames leave that were taken
abbrev pub ReportsBy : {X : Type 0} → Bounded → List KeyValues → Origin → (Stream → X → Type 0)
    → List KeyValues → Outputs → Outputs → Result X HostError → Type 0
ReportsBy a contents source Agrees left old new result =
    ((whole : ReportsWhole source (report_by a contents) Agrees old new result)
    × (left ≡ contents_after (rule_of a) contents whole.found.frames))
    ⊎ ((error : HostError) × (result ≡ Err error)
    × (front : StopsAtFrame a contents source old new error)
    × (left ≡ contents_after (rule_of a) contents front.frames))

-- pieces after others, where one of the later ones may have failed
WritesEach-append : {X : Type 0} (a b c : Outputs) (front more : List OutputPiece)
    (result : Result X HostError) → Wrote a b front → WritesEach b c result more
    → WritesEach a c result (front ++ more)
WritesEach-append a b c front more (Ok x) v w = Wrote-append a b c front more v w
WritesEach-append a b c front more (Err e) v w = WroteBefore-append a b c front more e v w

-- the lines of maps, and then the last line
abbrev pub closing : List MapDef → List KeyValues → ℕ → Finish → List OutputPiece
closing rows contents count finish =
    maps_pieces 0 rows contents ++ ToReport (last_line count finish) ∷ []

module _ (N : Type 0) (X : Type 0) (Agrees : Stream → X → Type 0) (source : Origin)
    (old new : RunnerState N) (before : Outputs) where
  -- an output failed before the stream was at its end
  pub reports_front : (after : Outputs) (error : HostError)
      → TakesFront source before old after new error
      → ReportsBy old.bounded old.contents source Agrees new.contents before after (Err error)
  reports_front after error t = go t.read
    where
      go : IsBegunBy source t.version t.frames
          ⊎ ((finish : Finish) × AreReadFrom source (stream_with t.version (t.frames, finish)))
          → ReportsBy old.bounded old.contents source Agrees new.contents before after (Err error)
      go (inl begun) = inr (
        error,
        refl,
        record {
          version = t.version;
          frames = t.frames;
          are_open = t.are_open;
          begun = begun;
          writes = t.wrote;
        },
        t.taken.contents,
      )
      go (inr (finish, read)) = inl (
        record {
          found = stream_with t.version (t.frames, finish);
          are_open = t.are_open;
          read = read;
          writes = WroteBefore-more before after
              (front_in (form_on old.bounded t.version) (rule_of old.bounded) old.contents t.frames)
              (closing old.bounded.program.maps
              (contents_after (rule_of old.bounded) old.contents t.frames) (length t.frames) finish)
              error t.wrote;
          tells = tt;
        },
        t.taken.contents,
      )

  -- the stream was read, and the end of the report was written, or a line of it failed
  pub reports_whole : (mid after : Outputs) (ended : StreamEnded) (result : Result X HostError)
      (rows : List MapDef) (contents : List KeyValues)
      (t : TakesWhole source before old mid new ended)
      → WritesEach mid after result (closing rows contents ended.frames ended.finish)
      → rows ≡ new.bounded.program.maps → contents ≡ new.contents
      → IfOk result (Agrees t.found)
      → ReportsBy old.bounded old.contents source Agrees new.contents before after result
  reports_whole mid after ended result rows contents t w rows_are held tells =
      let a = old.bounded in
      let maps : rows ≡ a.program.maps =
      rows_are ∙ ap (λ (b : Bounded). b.program.maps) t.taken.bounded in
      let left = held ∙ t.taken.contents in
      let last = contents_after (rule_of a) old.contents t.found.frames in
      let same : closing rows contents ended.frames ended.finish
      ≡ closing a.program.maps last (length t.found.frames) t.found.finish =
      ap (λ (r : List MapDef). closing r contents ended.frames ended.finish) maps
      ∙ ap (λ (c : List KeyValues). closing a.program.maps c ended.frames ended.finish) left
      ∙ ap (λ (n : ℕ). closing a.program.maps last n ended.finish) t.count
      ∙ ap (λ (f : Finish). closing a.program.maps last (length t.found.frames) f) t.finish in
      inl (
        record {
          found = t.found;
          are_open = t.are_open;
          read = t.read;
          writes = WritesEach-append before mid after
              (front_in (form_on a t.found.version) (rule_of a) old.contents t.found.frames)
              (closing a.program.maps last (length t.found.frames) t.found.finish) result t.wrote
              (subst (λ (l : List OutputPiece). WritesEach mid after result l) same w);
          tells = tells;
        },
        t.taken.contents,
      )

-- however a stream goes on after these packet frames, its checked report begins with their pieces
front_goes_on : (a : Bounded) (contents : List KeyValues) (v : Version)
    (frames more : List PacketFrame) (finish : Finish)
    → (rest : List OutputPiece)
    × (report_by a contents (stream_with v (frames ++ more, finish))
    ≡ front_in (form_on a v) (rule_of a) contents frames ++ rest)
front_goes_on a contents v frames more finish =
    let form = form_on a v in
    let later = turns_pieces form (rule_of a) (0 + length frames)
    (contents_after (rule_of a) contents frames) more in
    let last = closing a.program.maps (contents_after (rule_of a) contents (frames ++ more))
    (length (frames ++ more)) finish in (
      later ++ last,
      ap (λ (l : List OutputPiece). (ToFrames (stream_magic v) ∷ l) ++ last)
          (turns_pieces-append form (rule_of a) 0 contents frames more)
          ∙ append_assoc (front_in form (rule_of a) contents frames) later last,
    )

-- what a machine with checks writes is the checked report
pub Reports-By : {X : Type 0} (a : Bounded) (contents : List KeyValues) (source : Origin)
    (Agrees : Stream → X → Type 0) (left : List KeyValues) (old new : Outputs)
    (result : Result X HostError)
    → ReportsBy a contents source Agrees left old new result
    → Reports source (report_by a contents) Agrees old new result
Reports-By a contents source Agrees left old new result (inl (r, held)) = inl r
Reports-By a contents source Agrees left old new result (inr (error, is, r, held)) = inr (
  error,
  is,
  record {
    version = r.version;
    frames = r.frames;
    are_open = r.are_open;
    begun = r.begun;
    writes = λ more finish.
        let (rest, whole) = front_goes_on a contents r.version r.frames more finish in
        subst (λ (l : List OutputPiece). WroteBefore old new l error) (sym whole)
        (WroteBefore-more old new _ rest error r.writes);
  },
)

-- the same of a checked machine, for any program and limit
pub checked_whole : (N X : Type 0) (a : Bounded) (contents : List KeyValues) (source : Origin)
    (Agrees : Stream → X → Type 0) (before mid after : Outputs) (old new : RunnerState N)
    (ended : StreamEnded) (result : Result X HostError) (rows : List MapDef) (held : List KeyValues)
    → old.bounded ≡ a → old.contents ≡ contents
    → (t : TakesWhole source before old mid new ended)
    → WritesEach mid after result (closing rows held ended.frames ended.finish)
    → rows ≡ new.bounded.program.maps → held ≡ new.contents → IfOk result (Agrees t.found)
    → Reports source (checked_report_from a.program a.bound contents) Agrees before after result
checked_whole N X a contents source Agrees before mid after old new ended result rows held a_is
    contents_are t w rows_are held_is tells =
    let By : Bounded → List KeyValues → Type 0 = λ b k.
    ReportsBy b k source Agrees new.contents before after result in
    let r : By old.bounded old.contents =
    reports_whole N X Agrees source old new before mid after ended result rows held t w rows_are
    held_is tells in
    Reports-By a contents source Agrees new.contents before after result
    (subst (λ (k : List KeyValues). By a k) contents_are
    (subst (λ (b : Bounded). By b old.contents) a_is r))

pub checked_front : (N X : Type 0) (a : Bounded) (contents : List KeyValues) (source : Origin)
    (Agrees : Stream → X → Type 0) (before after : Outputs) (old new : RunnerState N) (error : HostError)
    → old.bounded ≡ a → old.contents ≡ contents
    → TakesFront source before old after new error
    → Reports source (checked_report_from a.program a.bound contents) Agrees before after
    (Err error)
checked_front N X a contents source Agrees before after old new error a_is contents_are t =
    let result : Result X HostError = Err error in
    let By : Bounded → List KeyValues → Type 0 = λ b k.
    ReportsBy b k source Agrees new.contents before after result in
    let r : By old.bounded old.contents =
    reports_front N X Agrees source old new before after error t in
    Reports-By a contents source Agrees new.contents before after result
    (subst (λ (k : List KeyValues). By a k) contents_are
    (subst (λ (b : Bounded). By b old.contents) a_is r))
