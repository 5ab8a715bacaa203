-- Laws of reports: where all runs exit within the limit, the checked report is the report, and the
-- only one.
use Rattle.isa_model.proofs.Common.{◌≡◌, ℕ, ◌+◌, ◌≤◌, ◌==◌, List, [], ◌∷◌, ◌++◌, length, if◌then◌else◌, Bool, true, false, All, Option, Some, None, sym, ap, ◌∙◌, subst, arith, refl, All-head, All-tail, Version, max_body, max_packet, Program, KeyValues, Outcome, Turn, FitRows, IsProgram, IsClock, IsGiven}
use Rattle.isa_model.specs.declared.versions.Version.TheVariants.{One, Two}
use Rattle.isa_model.specs.Code.Versions.{stream_magic}
use Rattle.isa_model.specs.Reporting.Streams.{PacketFrame, IsPacketFrame, Stream}
use Rattle.isa_model.proofs.RunLaws.{turn-outcome, HasOutcome-same}
use Rattle.isa_model.specs.Running.Outcomes.{StartsEnd, AllExit, ExitsOn}
use Rattle.isa_model.proofs.OutcomesLaws.{ExitsWithin, ExitsWithin-StartsEnd, FitRows-HasOutcome}
use Rattle.isa_model.specs.Reporting.Reports.{OutputPiece, ToReport, ToFrames, ReportForm, maps_pieces, last_line, frame_pieces, frame_line, skip_pieces, turn_pieces, contents_left, turns_pieces, contents_after, checked_rule, checked_report_from, turn_by, ReportsFrame, ReportsFrames, report_form_of, IsReportFrom}

-- the frames of a stream can be spelled
abbrev pub AreFrames : Stream → Type 0
AreFrames found = All (IsPacketFrame found.version) found.frames

-- the limit is only in the line of a run that it has stopped
abbrev with_limit : ℕ → ReportForm → ReportForm
with_limit n form = record form { limit = n }

frame_pieces-turn_by : (m : ℕ) (form : ReportForm) (number : ℕ) (f : PacketFrame) (o : Outcome)
    → frame_pieces (with_limit m form) number f (turn_by o) ≡ frame_pieces form number f (turn_by o)
unfolding frame_pieces frame_line
frame_pieces-turn_by m form number f o = refl

skip_pieces-limit : (m : ℕ) (form : ReportForm) (number : ℕ) (f : PacketFrame)
    → skip_pieces (with_limit m form) number f ≡ skip_pieces form number f
unfolding skip_pieces
skip_pieces-limit m form number f = refl

-- a body is a packet
packet_short : (v : Version) (f : PacketFrame) → length f.body ≤ max_body v
    → length f.body ≤ max_packet
packet_short One f h = omega arith
packet_short Two f h = h

-- a program all of whose runs exit has an outcome on each frame that can be spelled
outcome_on : (p : Program) (n : ℕ) (contents : List KeyValues) (v : Version) (f : PacketFrame)
    → StartsEnd p n → FitRows p.maps contents → IsPacketFrame v f
    → ExitsWithin p n f.head f.body contents (λ k. f.head.time) × IsGiven p f.head f.body contents
outcome_on p n contents v f h fits here =
    let given : IsGiven p f.head f.body
    contents = record {
      short = packet_short v f here.short;
      bytes = here.bytes;
      interface = here.interface;
      queue = here.queue;
      maps = fits;
    } in (
      ExitsWithin-StartsEnd p n f.head f.body contents (λ k. f.head.time) h (λ k. here.time) given,
      given,
    )

-- one frame: its run exits if it is run, its pieces are those of the report, and the contents that
-- are left fit the rows
abbrev RunsOne : Program → ℕ → ReportForm → ℕ → List KeyValues → PacketFrame → Bool → Option Turn
    → Type 0
RunsOne p n form number contents f runs t =
    ExitsOn p n contents f runs (contents_left contents t)
    × ReportsFrame form p number contents f runs (turn_pieces (with_limit n form) number f t)
    (contents_left contents t)
    × FitRows p.maps (contents_left contents t)

abbrev turn_if : Program → ℕ → List KeyValues → PacketFrame → Bool → Option Turn
turn_if p n contents f runs = if runs then Some (checked_rule p n f.head f.body contents) else None

runs_one : (p : Program) (n : ℕ) (form : ReportForm) (number : ℕ) (contents : List KeyValues)
    (v : Version) (f : PacketFrame) (runs : Bool) → IsProgram p → StartsEnd p n
    → FitRows p.maps contents → IsPacketFrame v f
    → RunsOne p n form number contents f runs (turn_if p n contents f runs)
runs_one p n form number contents v f false program h fits here =
    (refl, (skip_pieces-limit n form number f, refl), fits)
runs_one p n form number contents v f true program h fits here =
    let (exit, given) = outcome_on p n contents v f h fits here in
    let o = exit.outcome in
    let clock : ℕ → ℕ = λ k. f.head.time in
    let answers : IsClock clock = λ k. here.time in
    let same : checked_rule p n f.head f.body contents ≡ turn_by o =
    turn-outcome p f.head f.body contents clock o n exit.found exit.few in
    let left =
    FitRows-HasOutcome p f.head f.body contents clock o program answers given exit.found in
    subst (λ (t : Turn). RunsOne p n form number contents f true (Some t)) (sym same) (
      (o, exit.found, exit.few, refl),
      (o, exit.found, frame_pieces-turn_by n form number f o, refl),
      left,
    )

abbrev RunsOn : Program → ℕ → ReportForm → ℕ → List KeyValues → List PacketFrame → Type 0
RunsOn p n form number contents frames =
    AllExit p n contents frames
    × ReportsFrames form p number contents frames
    (turns_pieces (with_limit n form) (checked_rule p n) number contents frames)
    (contents_after (checked_rule p n) contents frames)

runs_on : (p : Program) (n : ℕ) (form : ReportForm) (number : ℕ) (contents : List KeyValues)
    (v : Version) (frames : List PacketFrame) → IsProgram p → StartsEnd p n
    → FitRows p.maps contents
    → All (IsPacketFrame v) frames → RunsOn p n form number contents frames
runs_on p n form number contents v [] program h fits each = (tt, (refl, refl))
runs_on p n form number contents v (f ∷ frames) program h fits each =
    let t = turn_if p n contents f (f.reason == 0) in
    let next = contents_left contents t in
    let (exits, reports, left) = runs_one p n form number contents v f
    (f.reason == 0) program h fits (All-head (IsPacketFrame v) f frames each) in
    let (all, rest) = runs_on p n form (number + 1) next v frames program h left
    (All-tail (IsPacketFrame v) f frames each) in (
      (next, exits, all),
      (
        turn_pieces (with_limit n form) number f t,
        turns_pieces (with_limit n form) (checked_rule p n)
            (number + 1) next frames,
        next,
        reports,
        refl,
        rest,
      ),
    )

-- where every run of the program exits within n steps, from contents that fit its rows on the checked
-- report with that limit is the report, and every frame's run exits within n steps
pub IsReportFrom-checked : (p : Program) (n : ℕ) (contents : List KeyValues) (found : Stream)
    → IsProgram p → StartsEnd p n → FitRows p.maps contents → AreFrames found
    → IsReportFrom p contents found (checked_report_from p n contents found)
    × AllExit p n contents found.frames
IsReportFrom-checked p n contents found program h fits each =
    let form = report_form_of p found in
    let (exits, reports) =
    runs_on p n form 0 contents found.version found.frames program h fits each in
    let rule = checked_rule p n in (
      record {
        turns = turns_pieces (with_limit n form) rule 0 contents found.frames;
        last = contents_after rule contents found.frames;
        frames = reports;
        whole = refl;
      },
      exits,
    )

ReportsFrame-same : (form : ReportForm) (p : Program) (number : ℕ) (contents : List KeyValues)
    (f : PacketFrame) (runs : Bool) (pieces others : List OutputPiece) (next after : List KeyValues)
    → ReportsFrame form p number contents f runs pieces next
    → ReportsFrame form p number contents f runs others after → (pieces ≡ others) × (next ≡ after)
ReportsFrame-same form p number contents f false pieces others next after h k =
    (h.0 ∙ sym k.0, h.1 ∙ sym k.1)
ReportsFrame-same form p number contents f true pieces others next after h k =
    let (o, found, is, leaves) = h in
    let (q, also, was, was_left) = k in
    let one : o ≡ q =
    HasOutcome-same p f.head f.body contents (λ k. f.head.time) o q found also in (
      is ∙ ap (λ (x : Outcome). frame_pieces form number f (turn_by x)) one ∙ sym was,
      leaves ∙ ap (λ (x : Outcome). x.contents) one ∙ sym was_left,
    )

ReportsFrames-same : (form : ReportForm) (p : Program) (number : ℕ) (contents : List KeyValues)
    (frames : List PacketFrame) (pieces others : List OutputPiece) (last end : List KeyValues)
    → ReportsFrames form p number contents frames pieces last
    → ReportsFrames form p number contents frames others end → (pieces ≡ others) × (last ≡ end)
ReportsFrames-same form p number contents [] pieces others last end h k =
    (h.0 ∙ sym k.0, h.1 ∙ sym k.1)
ReportsFrames-same form p number contents (f ∷ frames) pieces others last end h k =
    let (front, rest, next, one, split, more) = h in
    let (begin, back, after, also, cut, others_more) = k in
    let same =
    ReportsFrame-same form p number contents f (f.reason == 0) front begin next after one also in
    let behind = subst
    (λ (c : List KeyValues). ReportsFrames form p (number + 1) c frames rest last) same.1
    more in
    let (equal, ends) =
    ReportsFrames-same form p (number + 1) after frames rest back last end behind others_more in (
      split ∙ ap (λ (l : List OutputPiece). l ++ rest) same.0 ∙ ap
          (λ (l : List OutputPiece). begin ++ l) equal ∙ sym cut,
      ends,
    )

-- a program has at most one report of the same stream, from the same contents on
pub IsReportFrom-same : (p : Program) (contents : List KeyValues) (found : Stream)
    (pieces others : List OutputPiece)
    → IsReportFrom p contents found pieces → IsReportFrom p contents found others
    → pieces ≡ others
IsReportFrom-same p contents found pieces others h k =
    let (turns, last) = ReportsFrames-same (report_form_of p found) p 0
    contents found.frames h.turns k.turns h.last k.last h.frames k.frames in
    let last_pieces = ToReport (last_line (length found.frames) found.finish) ∷ [] in
    h.whole
    ∙ ap (λ (l : List OutputPiece). (ToFrames (stream_magic found.version) ∷ l)
    ++ (maps_pieces 0 p.maps h.last ++ last_pieces)) turns
    ∙ ap (λ (c : List KeyValues). (ToFrames (stream_magic found.version) ∷ k.turns)
    ++ (maps_pieces 0 p.maps c ++ last_pieces)) last
    ∙ sym k.whole
