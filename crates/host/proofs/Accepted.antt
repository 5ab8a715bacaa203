-- From what a machine writes to the report of its program, where that is accepted.
use Rattle.host.proofs.Common.{◌≡◌, ℕ, ◌≤◌, List, Result, Ok, Err, IfOk, refl, sym, ap, ◌∙◌, subst, ◌⊎◌, inl, inr, MapDef, Program, KeyValues, Stream, stream_with, AreOpen, Turn, turn, OutputPiece, contents_after, checked_report, checked_report_from, starting_contents, report_form_of, IsReportFrom, StartsEnd, AllExit, FitRows, IsProgram, Bounded, Running, ReturnsOutcome, Origin, StreamEnded, HostError, ShowsTraced, ShowsTracedFrom, tallied, rule_of, RunnerState, TakesWhole, TakesFront, Leaves, Outputs, WroteBefore, WritesEach, ReportsRun, ReportsRunFrom, RunsWholeFrom, RunsFrontFrom, ShowsLast, ShowsTallied}
use Rattle.isa_model.specs.declared.frames.FrameHead.{FrameHead}
use Rattle.isa_model.specs.declared.ends.End.TheVariants.{Exit}
use Rattle.isa_model.specs.declared.streams.Finish.TheVariants as finish
use Rattle.isa_model.proofs.RunLaws.{turn-outcome}
use Rattle.isa_model.proofs.ReportLaws.{IsReportFrom-checked}
use Rattle.isa_model.specs.Code.Limits.{max_steps}
use Rattle.machine.specs.declared.machines.Exit.{Exit as TheExit}
use Rattle.host.specs.declared.errors.HostError.TheVariants as failure
use Rattle.host.specs.declared.traced.Traced.{Traced}
use Rattle.host.specs.Reported.{Reports}
use Rattle.host.proofs.Pieces.{WroteBefore-more}
use Rattle.host.proofs.Fronts.{first_pieces, last_contents}
use Rattle.host.proofs.Reporting.{ReportsBy, report_by, closing, reports_front, reports_whole}

-- what a machine returns of a run is the turn of its program
pub turn-ReturnsOutcome : (r : Running) (head : FrameHead) (packet : List ℕ) (clock : ℕ → ℕ)
    (exit : TheExit) (after : List ℕ) (left : List KeyValues) (coming : ℕ → ℕ)
    → ReturnsOutcome r head packet clock exit after left coming
    → ((turn r.program r.bound clock head packet r.contents).ends ≡ Exit exit.r0 exit.steps)
    × ((turn r.program r.bound clock head packet r.contents).packet ≡ after)
    × ((turn r.program r.bound clock head packet r.contents).contents ≡ left)
turn-ReturnsOutcome r head packet clock exit after left coming h =
    let o = h.outcome in
    let same = turn-outcome r.program head packet r.contents clock o r.bound h.found h.few in
    let numbers : Exit o.number o.steps ≡ Exit exit.r0 exit.steps =
    rw (h.number_is, h.steps_are) refl in (
      ap (λ (t : Turn). t.ends) same ∙ numbers,
      ap (λ (t : Turn). t.packet) same ∙ sym h.packet_is,
      ap (λ (t : Turn). t.contents) same ∙ sym h.contents_are,
    )

-- from new maps on
pub Reports-starting : (p : Program) (limit : ℕ) (contents : List KeyValues) (source : Origin)
    (old new : Outputs) (result : Result Traced HostError)
    → contents ≡ starting_contents p.maps
    → Reports source (checked_report_from p limit contents) (ShowsTracedFrom p limit contents)
    old new result
    → Reports source (checked_report p limit) (ShowsTraced p limit) old new result
Reports-starting p limit contents source old new result start r =
    subst (λ (c : List KeyValues). Reports source (checked_report_from p limit c)
    (ShowsTracedFrom p limit c) old new result) start r

-- ---- accepted programs

module _ (a : Bounded) (contents : List KeyValues) (is : IsProgram a.program)
    (ends : StartsEnd a.program a.bound) (fits : FitRows a.program.maps contents) where
  -- the report of a stream, and the exits of its frames' runs
  reported : (found : Stream) → AreOpen found.version found.frames
      → IsReportFrom a.program contents found (report_by a contents found)
      × AllExit a.program a.bound contents found.frames
  reported found are_open =
      IsReportFrom-checked a.program a.bound contents found is ends fits are_open.fit

  module _ (X : Type 0) (source : Origin) (Agrees : Stream → List KeyValues → X → Type 0)
      (some : 1 ≤ a.bound) (most : a.bound ≤ max_steps) (old new : Outputs)
      (result : Result X HostError) where
    abbrev Whole : Type 0
    Whole = RunsWholeFrom a contents source Agrees old new result

    abbrev Front : Type 0
    Front = (error : HostError) × (result ≡ Err error)
        × RunsFrontFrom a contents source old new error

    -- what the maps hold
    abbrev LeavesBy : List KeyValues → Whole ⊎ Front → Type 0
    LeavesBy left runs = Leaves a contents left source Agrees old new result runs

    abbrev AgreesLast : Stream → X → Type 0
    AgreesLast found x =
        Agrees found (contents_after (rule_of a) contents found.frames) x

    go : (left : List KeyValues)
        → ReportsBy a contents source AgreesLast left old new result
        → (runs : Whole ⊎ Front) × LeavesBy left runs
    go left (inl (r, held)) =
        let (is_report, exits) = reported r.found r.are_open in
        let last = last_contents a.program a.bound (report_form_of a.program r.found) 0 contents
        r.found.frames is_report.turns is_report.last exits is_report.frames in (
          inl (record {
            found = r.found;
            pieces = report_by a contents r.found;
            are_open = r.are_open;
            read = r.read;
            is_report = is_report;
            exits = exits;
            writes = r.writes;
            tells = subst (λ (c : List KeyValues). IfOk result (Agrees r.found c)) (sym last)
                r.tells;
          }),
          held ∙ sym last,
        )
    go left (inr (error, is_error, r, held)) =
        let (is_report, exits) =
        reported (stream_with r.version (r.frames, finish.End)) r.are_open in (
          inr (
            error,
            is_error,
            record {
              version = r.version;
              frames = r.frames;
              are_open = r.are_open;
              begun = r.begun;
              exits = exits;
              writes = λ more finish pieces report.
                  let (rest, whole) =
                  first_pieces a.program a.bound r.version contents r.frames more finish pieces
                  exits report in
                  subst (λ (l : List OutputPiece). WroteBefore old new l error) (sym whole)
                  (WroteBefore-more old new _ rest error r.writes);
            },
          ),
          held,
        )

    -- what was written of the program's turns is its report
    pub runs_reported : (left : List KeyValues)
        → ReportsBy a contents source AgreesLast left old new result
        → (runs : ReportsRunFrom a contents source Agrees old new result)
        × LeavesBy left runs.reports
    runs_reported left r =
        let (runs, leaves) = go left r in
        (record { some = some; most = most; reports = runs }, leaves)

-- a machine ran over a stream to the end of its report, or to a line after the frames
pub ran_whole : (N X : Type 0) (a : Bounded) (contents : List KeyValues) (source : Origin)
    (Agrees : Stream → List KeyValues → X → Type 0) (before mid after : Outputs) (old new : RunnerState N)
    (ended : StreamEnded) (result : Result X HostError) (rows : List MapDef) (held : List KeyValues)
    → IsProgram a.program → StartsEnd a.program a.bound → FitRows a.program.maps contents
    → 1 ≤ a.bound → a.bound ≤ max_steps → old.bounded ≡ a → old.contents ≡ contents
    → (t : TakesWhole source before old mid new ended)
    → WritesEach mid after result (closing rows held ended.frames ended.finish)
    → rows ≡ new.bounded.program.maps → held ≡ new.contents
    → ((last : List KeyValues) → new.contents ≡ last → IfOk result (Agrees t.found last))
    → (runs : ReportsRunFrom a contents source Agrees before after result)
    × Leaves a contents new.contents source Agrees before after result runs.reports
ran_whole N X a contents source Agrees before mid after old new ended result rows held is ends fits
    some most a_is contents_are t w rows_are held_is tells =
    let By : Bounded → List KeyValues → Type 0 = λ b k.
    ReportsBy b k source
    (λ found x. Agrees found (contents_after (rule_of b) k found.frames) x) new.contents before
    after result in
    let r : By old.bounded old.contents =
    reports_whole N X _ source old new before mid after ended result rows held t w rows_are held_is
    (tells _ t.taken.contents) in
    runs_reported a contents is ends fits X source Agrees some most before after result new.contents
    (subst (λ (k : List KeyValues). By a k) contents_are
    (subst (λ (b : Bounded). By b old.contents) a_is r))

-- an output failed before the stream was at its end
pub ran_front : (N X : Type 0) (a : Bounded) (contents : List KeyValues) (source : Origin)
    (Agrees : Stream → List KeyValues → X → Type 0) (before after : Outputs) (old new : RunnerState N)
    (error : HostError)
    → IsProgram a.program → StartsEnd a.program a.bound → FitRows a.program.maps contents
    → 1 ≤ a.bound → a.bound ≤ max_steps → old.bounded ≡ a → old.contents ≡ contents
    → TakesFront source before old after new error
    → (runs : ReportsRunFrom a contents source Agrees before after (Err error))
    × Leaves a contents new.contents source Agrees before after (Err error) runs.reports
ran_front N X a contents source Agrees before after old new error is ends fits some most a_is
    contents_are t =
    let result : Result X HostError = Err error in
    let By : Bounded → List KeyValues → Type 0 = λ b k.
    ReportsBy b k source
    (λ found x. Agrees found (contents_after (rule_of b) k found.frames) x) new.contents before
    after result in
    let r : By old.bounded old.contents =
    reports_front N X _ source old new before after error t in
    runs_reported a contents is ends fits X source Agrees some most before after result new.contents
    (subst (λ (k : List KeyValues). By a k) contents_are
    (subst (λ (b : Bounded). By b old.contents) a_is r))

-- ---- from new maps on

-- without what is noted of frames and without the maps
WritesEach-tallied : (old new : Outputs) (result : Result Traced HostError)
    (pieces : List OutputPiece) → WritesEach old new result pieces
    → WritesEach old new (tallied result) pieces
WritesEach-tallied old new (Ok traced) pieces w = w
WritesEach-tallied old new (Err e) pieces w = w

shows-tallied : (p : Program) (found : Stream) (last : List KeyValues)
    (result : Result Traced HostError) → IfOk result (ShowsLast p found last)
    → IfOk (tallied result) (ShowsTallied found last)
shows-tallied p found last (Ok traced) h = h.0
shows-tallied p found last (Err e) h = tt

-- memory ran out only if it did in the run
pub tallied-memory : (result : Result Traced HostError) → tallied result ≡ Err failure.Memory
    → result ≡ Err failure.Memory
tallied-memory (Ok traced) h = absurd cc
tallied-memory (Err error) h = cc

pub ReportsRun-tallied : (a : Bounded) (contents : List KeyValues) (source : Origin)
    (old new : Outputs) (result : Result Traced HostError)
    → contents ≡ starting_contents a.program.maps
    → ReportsRunFrom a contents source (ShowsLast a.program) old new result
    → ReportsRun a source old new (tallied result)
ReportsRun-tallied a contents source old new result start r =
    subst (λ (c : List KeyValues). ReportsRunFrom a c source ShowsTallied old new (tallied result))
    start (record { some = r.some; most = r.most; reports = go r.reports })
  where
    go : RunsWholeFrom a contents source (ShowsLast a.program) old new result
        ⊎ ((error : HostError) × (result ≡ Err error)
        × RunsFrontFrom a contents source old new error)
        → RunsWholeFrom a contents source ShowsTallied old new (tallied result)
        ⊎ ((error : HostError) × (tallied result ≡ Err error)
        × RunsFrontFrom a contents source old new error)
    go (inl w) = inl (record {
      found = w.found;
      pieces = w.pieces;
      are_open = w.are_open;
      read = w.read;
      is_report = w.is_report;
      exits = w.exits;
      writes = WritesEach-tallied old new result w.pieces w.writes;
      tells = shows-tallied a.program w.found w.is_report.last result w.tells;
    })
    go (inr (error, is, w)) = inr (error, ap tallied is, w)
