-- The end of a report: the lines of maps, as a text that is written in one go, and the last line.
use Rattle.host.proofs.Common.{◌≡◌, ℕ, zero, suc, ◌+◌, ◌-◌, ◌<◌, ◌≤◌, List, [], ◌∷◌, ◌++◌, map, length, take, Option, refl, sym, ap, ◌∙◌, subst, arith, append_assoc, length-append, zero-add, ◌⊎◌, inl, inr, Appends, Appends-nil, cases_lt, take-append-le, AppendsBeginning, MapDef, KeyValues, OutputPiece, ToReport, ToFrames, report_bytes, frames_out, map_line, map_pieces, maps_pieces, in_report_order, Wrote, WroteBefore}
use Rattle.map_texts.specs.Listings.{text_of}
use Rattle.host.specs.declared.errors.HostError.TheVariants as failure
use Rattle.host.proofs.Pieces.{Wrote-append, WroteBefore-append, WroteBefore-more, wrote_report, report_failed}

-- pieces that are all for the report
abbrev pub AreLines : List OutputPiece → Type 0
AreLines [] = Unit {0}
AreLines (ToReport bytes ∷ pieces) = AreLines pieces
AreLines (ToFrames bytes ∷ pieces) = ⊥

AreLines-append : (ps qs : List OutputPiece) → AreLines ps → AreLines qs → AreLines (ps ++ qs)
AreLines-append [] qs p q = q
AreLines-append (ToReport bytes ∷ ps) qs p q = AreLines-append ps qs p q
AreLines-append (ToFrames bytes ∷ ps) qs p q = absurd p

AreLines-map : (index : ℕ) (es : KeyValues) → AreLines (map (λ e. ToReport (map_line index e)) es)
AreLines-map index [] = tt
AreLines-map index (e ∷ es) = AreLines-map index es

AreLines-maps : (index : ℕ) (rows : List MapDef) (contents : List KeyValues)
    → AreLines (maps_pieces index rows contents)
AreLines-maps index [] contents = tt
AreLines-maps index (row ∷ rows) [] = tt
AreLines-maps index (row ∷ rows) (es ∷ contents) =
    AreLines-append (map_pieces index row es) (maps_pieces (index + 1) rows contents)
    (AreLines-map index (in_report_order row.kind row.entries es))
    (AreLines-maps (index + 1) rows contents)

-- nothing of them is for the frames out
frames_out-lines : (ps : List OutputPiece) → AreLines ps → frames_out ps ≡ []
frames_out-lines [] p = refl
frames_out-lines (ToReport bytes ∷ ps) p = frames_out-lines ps p
frames_out-lines (ToFrames bytes ∷ ps) p = absurd p

take-past : (b r : List ℕ) (m : ℕ) → take (length b + m) (b ++ r) ≡ b ++ take m r
take-past [] r m = ap (λ k. take k r) (zero-add m)
take-past (x ∷ b) r m =
    let same : suc (length b) + m ≡ suc (length b + m) = omega arith in
    ap (λ k. take k (x ∷ (b ++ r))) same ∙ ap (λ l. x ∷ l) (take-past b r m)

-- a place in the bytes of lines is in one of them
record LineAt (ps : List OutputPiece) (n : ℕ) : Type 0 where
  pub before : List OutputPiece
  pub bytes : List ℕ
  pub rest : List OutputPiece
  pub count : ℕ
  pub split : ps ≡ before ++ ToReport bytes ∷ rest
  pub short : count < length bytes
  pub front : take n (report_bytes ps) ≡ report_bytes before ++ take count bytes
  pub lines : AreLines before

line_at : (ps : List OutputPiece) → AreLines ps → (n : ℕ) → n < length (report_bytes ps)
    → LineAt ps n
line_at [] p n h = absurd (omega (arith, h))
line_at (ToFrames b ∷ ps) p n h = absurd p
line_at (ToReport b ∷ ps) p n h = go (line_at ps p) (cases_lt n (length b))
  where
    go : ((m : ℕ) → m < length (report_bytes ps) → LineAt ps m)
        → (n < length b) ⊎ (length b ≤ n) → LineAt (ToReport b ∷ ps) n
    go later (inl early) = record {
      before = [];
      bytes = b;
      rest = ps;
      count = n;
      split = refl;
      short = early;
      front = take-append-le n b (report_bytes ps) (omega (arith, early));
      lines = tt;
    }
    go later (inr late) =
        let m = n - length b in
        let at : n ≡ length b + m = omega (arith, late) in
        let inside : m < length (report_bytes ps) =
        omega (arith, h, late, length-append b (report_bytes ps)) in
        let r = later m inside in
        record {
          before = ToReport b ∷ r.before;
          bytes = r.bytes;
          rest = r.rest;
          count = r.count;
          split = ap (λ (l : List OutputPiece). ToReport b ∷ l) r.split;
          short = r.short;
          front = ap (λ k. take k (b ++ report_bytes ps)) at ∙ take-past b (report_bytes ps) m
              ∙ ap (λ l. b ++ l) r.front
              ∙ sym (append_assoc b (report_bytes r.before) (take r.count r.bytes));
          lines = r.lines;
        }

-- ---- written to a report

abbrev WroteReport : Option (List ℕ) → Option (List ℕ) → List OutputPiece → Type 0
WroteReport old new pieces = (sent : Option (List ℕ))
    → Wrote (record { report = old; sent = sent })
    (record { report = new; sent = sent }) pieces

abbrev FailedReport : Option (List ℕ) → Option (List ℕ) → List OutputPiece → Type 0
FailedReport old new pieces =
    (sent : Option (List ℕ))
    → WroteBefore (record { report = old; sent = sent })
    (record { report = new; sent = sent }) pieces failure.Report

-- lines as one text
lines_written : (r s : Option (List ℕ)) (ps : List OutputPiece) → AreLines ps
    → Appends r s (report_bytes ps) → WroteReport r s ps
lines_written r s ps lines p sent = record {
  report = p;
  sent = subst (Appends sent sent) (sym (frames_out-lines ps lines)) (Appends-nil sent);
}

-- the text failed in one of the lines
pub lines_failed : (r s : Option (List ℕ)) (ps : List OutputPiece) → AreLines ps
    → AppendsBeginning r s (report_bytes ps) → FailedReport r s ps
lines_failed r s ps lines (n, h, p) sent =
    let at = line_at ps lines n h in
    record {
      before = at.before;
      failed = ToReport at.bytes;
      rest = at.rest;
      count = at.count;
      split = at.split;
      error_is = refl;
      short = at.short;
      report = subst (Appends r s) at.front p;
      sent =
          subst (Appends sent sent)
          (ap (λ l. l ++ take at.count []) (sym (frames_out-lines at.before at.lines))
          ∙ refl) (none sent at.count);
    }
  where
    none : (sent : Option (List ℕ)) (k : ℕ) → Appends sent sent ([] ++ take k [])
    none sent zero = Appends-nil sent
    none sent (suc k) = Appends-nil sent

-- ---- the lines of maps, and then the last line

module _ (rows : List MapDef) (contents : List KeyValues) (r s : Option (List ℕ)) (line : List ℕ)
  where
    abbrev pieces : List OutputPiece
    pieces = maps_pieces 0 rows contents

    abbrev lines : AreLines pieces
    lines = AreLines-maps 0 rows contents

    pub maps_failed : AppendsBeginning r s (text_of rows contents)
        → FailedReport r s (pieces ++ ToReport line ∷ [])
    maps_failed p sent =
        WroteBefore-more _ _ pieces (ToReport line ∷ []) failure.Report
        (lines_failed r s pieces lines p sent)

    module _ (t : Option (List ℕ)) (w : Appends r s (text_of rows contents)) where
      pub last_failed : AppendsBeginning s t line → FailedReport r t (pieces ++ ToReport line ∷ [])
      last_failed p sent =
          WroteBefore-append _ _ _ pieces (ToReport line ∷ []) failure.Report
          (lines_written r s pieces lines w sent) (report_failed s t sent line [] p)

      pub last_written : Appends s t line → WroteReport r t (pieces ++ ToReport line ∷ [])
      last_written p sent =
          Wrote-append _ _ _ pieces (ToReport line ∷ [])
          (lines_written r s pieces lines w sent) (wrote_report s t sent line p)
