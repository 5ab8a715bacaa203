-- The report of a stream begins with the pieces of the stream's first packet frames, whatever
-- follows them.
use Rattle.host.proofs.Common.{◌≡◌, ℕ, ◌+◌, ◌==◌, if◌then◌else◌, Bool, true, false, List, [], ◌∷◌, ◌++◌, length, Option, Some, None, refl, sym, ap, ◌∙◌, subst, append_assoc, Finish, Version, Program, stream_magic, KeyValues, Outcome, Turn, PacketFrame, stream_with, OutputPiece, ToReport, ToFrames, ReportForm, frame_line, frame_pieces, skip_pieces, turn_on, turn_pieces, contents_left, turns_pieces, maps_pieces, last_line, checked_rule, turn_by, contents_after, ReportsFrame, ReportsFrames, report_form_of, IsReportFrom, ExitsOn, AllExit, front_in}
use Rattle.isa_model.proofs.RunLaws.{turn-outcome, HasOutcome-same}

module _ (p : Program) (n : ℕ) where
  -- the form of the checked report with this limit
  abbrev limited : ReportForm → ReportForm
  limited form = record form { limit = n }

  abbrev turn_if : List KeyValues → PacketFrame → Bool → Option Turn
  turn_if contents f runs = if runs then Some (checked_rule p n f.head f.body contents) else None

  module _ (form : ReportForm) (number : ℕ) (contents : List KeyValues) (f : PacketFrame) where
    exit_pieces : (o : Outcome)
        → frame_pieces form number f (turn_by o) ≡ frame_pieces (limited form) number f (turn_by o)
    unfolding frame_pieces frame_line
    exit_pieces o = refl

    skipped_pieces : skip_pieces form number f ≡ skip_pieces (limited form) number f
    unfolding skip_pieces
    skipped_pieces = refl

    -- one frame's pieces, and what it leaves
    one_frame : (runs : Bool) (pieces : List OutputPiece) (next after : List KeyValues)
        → ExitsOn p n contents f runs next → ReportsFrame form p number contents f runs pieces after
        → (pieces ≡ turn_pieces (limited form) number f (turn_if contents f runs))
        × (after ≡ contents_left contents (turn_if contents f runs))
        × (next ≡ contents_left contents (turn_if contents f runs))
    one_frame false pieces next after on h = (h.0 ∙ skipped_pieces, h.1, on)
    one_frame true pieces next after on h =
        let (o, found, few, leaves) = on in
        let (q, also, was, left) = h in
        let one : q ≡ o = HasOutcome-same p f.head f.body contents
        (λ k. f.head.time) q o also found in
        let same : checked_rule p n f.head f.body contents ≡ turn_by o =
        turn-outcome p f.head f.body contents (λ k. f.head.time) o n found few in (
          was ∙ ap (λ (x : Outcome). frame_pieces form number f (turn_by x)) one ∙ exit_pieces o
              ∙ ap (λ (t : Turn). frame_pieces (limited form) number f t) (sym same),
          left ∙ ap (λ (x : Outcome). x.contents) one ∙ ap (λ (t : Turn). t.contents) (sym same),
          leaves ∙ ap (λ (t : Turn). t.contents) (sym same),
        )

  -- the pieces of frames whose runs exit, from any number on
  first_frames : (form : ReportForm) (number : ℕ) (contents : List KeyValues)
      (fs gs : List PacketFrame) (pieces : List OutputPiece) (last : List KeyValues)
      → AllExit p n contents fs
      → ReportsFrames form p number contents (fs ++ gs) pieces last
      → (rest : List OutputPiece)
      × (pieces ≡ turns_pieces (limited form) (checked_rule p n) number contents fs ++ rest)
  first_frames form number contents [] gs pieces last exits h = (pieces, refl)
  first_frames form number contents (f ∷ fs) gs pieces last exits h =
      let (next, on, all) = exits in
      let (front, behind, after, one, split, more) = h in
      let rule = checked_rule p n in
      let t = turn_on rule contents f in
      let (is, leaves, exits_to) =
      one_frame form number contents f (f.reason == 0) front next after on one in
      let all_left = subst (λ (c : List KeyValues). AllExit p n c fs) exits_to all in
      let more_left = subst
      (λ (c : List KeyValues). ReportsFrames form p (number + 1) c (fs ++ gs) behind last)
      leaves more in
      let (rest, same) = first_frames form (number + 1)
      (contents_left contents t) fs gs behind last all_left more_left in
      let here = turn_pieces (limited form) number f t in
      let later = turns_pieces (limited form) rule (number + 1) (contents_left contents t) fs in (
        rest,
        split ∙ ap (λ (l : List OutputPiece). l ++ behind) is
            ∙ ap (λ (l : List OutputPiece). here ++ l) same ∙ sym (append_assoc here later rest),
      )

  -- the contents that frames leave whose runs exit
  pub last_contents : (form : ReportForm) (number : ℕ) (contents : List KeyValues)
      (fs : List PacketFrame) (pieces : List OutputPiece) (last : List KeyValues)
      → AllExit p n contents fs → ReportsFrames form p number contents fs pieces last
      → last ≡ contents_after (checked_rule p n) contents fs
  last_contents form number contents [] pieces last exits h = h.1
  last_contents form number contents (f ∷ fs) pieces last exits h =
      let (next, on, all) = exits in
      let (front, behind, after, one, split, more) = h in
      let t = turn_on (checked_rule p n) contents f in
      let (is, leaves, exits_to) =
      one_frame form number contents f (f.reason == 0) front next after on one in
      let all_left = subst (λ (c : List KeyValues). AllExit p n c fs) exits_to all in
      let more_left = subst
      (λ (c : List KeyValues). ReportsFrames form p (number + 1) c fs behind last) leaves more in
      last_contents form (number + 1) (contents_left contents t) fs behind last all_left more_left

  -- a report begins with the magic and the first frames' pieces
  pub first_pieces : (v : Version) (contents : List KeyValues) (frames more : List PacketFrame)
      (finish : Finish) (pieces : List OutputPiece) → AllExit p n contents frames
      → IsReportFrom p contents (stream_with v (frames ++ more, finish)) pieces
      → (rest : List OutputPiece)
      × (pieces ≡ front_in (record { limit = n; program = p.version; stream = v })
      (checked_rule p n) contents frames ++ rest)
  first_pieces v contents frames more finish pieces exits h =
      let found = stream_with v (frames ++ more, finish) in
      let form = report_form_of p found in
      let (rest, same) = first_frames form 0 contents frames more h.turns h.last exits h.frames in
      let front = turns_pieces (limited form) (checked_rule p n) 0 contents frames in
      let closing = maps_pieces 0 p.maps h.last
      ++ ToReport (last_line (length (frames ++ more)) finish) ∷ [] in (
        rest ++ closing,
        h.whole ∙ ap (λ (l : List OutputPiece). (ToFrames (stream_magic v) ∷ l) ++ closing) same
            ∙ append_assoc (ToFrames (stream_magic v) ∷ front) rest closing,
      )
