-- Pieces that were written one after another; one of them may have failed.
use Rattle.host.proofs.Common.{◌≡◌, ℕ, zero, suc, true, false, List, [], ◌∷◌, ◌++◌, length, take, Option, refl, sym, ap, ◌∙◌, subst, append-nil, append_assoc, Appends, Appends-nil, Appends-trans, AppendsBeginning, PacketFrame, record_bytes, Turn, OutputPiece, ToReport, ToFrames, ReportForm, frame_line, frame_pieces, record_pieces, is_sent, end_reason, skip_line, skip_pieces, HostError, Outputs, Wrote, WroteBefore}
use Rattle.std.specs.List.{flat_map}
use Rattle.isa_model.specs.declared.ends.End.{End}
use Rattle.host.specs.declared.errors.HostError.TheVariants as failure

-- a list that is made of two lists, one after the other
flat_map-append : {X A : Type 0} (f : X → List A) (xs ys : List X)
    → flat_map f (xs ++ ys) ≡ flat_map f xs ++ flat_map f ys
flat_map-append f [] ys = refl
flat_map-append f (x ∷ xs) ys = ap (λ l. f x ++ l) (flat_map-append f xs ys)
    ∙ sym (append_assoc (f x) (flat_map f xs) (flat_map f ys))

take-nil : (n : ℕ) → take {A = ℕ} n [] ≡ []
take-nil zero = refl
take-nil (suc n) = refl

-- pieces after others
pub Wrote-append : (a b c : Outputs) (p q : List OutputPiece) → Wrote a b p → Wrote b c q
    → Wrote a c (p ++ q)
Wrote-append a b c p q first second = record {
  report =
      rw (flat_map-append _ p q)
      (Appends-trans a.report b.report c.report _ _ first.report second.report);
  sent =
      rw (flat_map-append _ p q)
      (Appends-trans a.sent b.sent c.sent _ _ first.sent second.sent);
}

-- pieces after others, where a later one failed
pub WroteBefore-append : (a b c : Outputs) (p q : List OutputPiece) (e : HostError) → Wrote a b p
    → WroteBefore b c q e → WroteBefore a c (p ++ q) e
WroteBefore-append a b c p q e first second = record {
  before = p ++ second.before;
  failed = second.failed;
  rest = second.rest;
  count = second.count;
  split = ap (λ l. p ++ l) second.split
      ∙ sym (append_assoc p second.before (second.failed ∷ second.rest));
  error_is = second.error_is;
  short = second.short;
  report =
      rw (flat_map-append _ p second.before, append_assoc)
      (Appends-trans a.report b.report c.report _ _ first.report second.report);
  sent =
      rw (flat_map-append _ p second.before, append_assoc)
      (Appends-trans a.sent b.sent c.sent _ _ first.sent second.sent);
}

-- after a failure no later piece is written
pub WroteBefore-more : (a b : Outputs) (p q : List OutputPiece) (e : HostError)
    → WroteBefore a b p e
    → WroteBefore a b (p ++ q) e
WroteBefore-more a b p q e w = record {
  before = w.before;
  failed = w.failed;
  rest = w.rest ++ q;
  count = w.count;
  split = ap (λ l. l ++ q) w.split ∙ append_assoc w.before (w.failed ∷ w.rest) q;
  error_is = w.error_is;
  short = w.short;
  report = w.report;
  sent = w.sent;
}

-- ---- one piece

pub wrote_report : (r s f : Option (List ℕ)) (bytes : List ℕ) → Appends r s bytes
    → Wrote (record { report = r; sent = f }) (record { report = s; sent = f })
    (ToReport bytes ∷ [])
wrote_report r s f bytes p =
    record { report = subst (Appends r s) (sym (append-nil bytes)) p; sent = Appends-nil f }

pub wrote_frames : (r f g : Option (List ℕ)) (bytes : List ℕ) → Appends f g bytes
    → Wrote (record { report = r; sent = f }) (record { report = r; sent = g })
    (ToFrames bytes ∷ [])
wrote_frames r f g bytes p =
    record { report = Appends-nil r; sent = subst (Appends f g) (sym (append-nil bytes)) p }

pub report_failed : (r s f : Option (List ℕ)) (bytes : List ℕ) (rest : List OutputPiece)
    → AppendsBeginning r s bytes
    → WroteBefore (record { report = r; sent = f }) (record { report = s; sent = f })
    (ToReport bytes ∷ rest) failure.Report
report_failed r s f bytes rest p = record {
  before = [];
  failed = ToReport bytes;
  rest = rest;
  count = p.0;
  split = refl;
  error_is = refl;
  short = p.1;
  report = p.2;
  sent = subst (Appends f f) (sym (take-nil p.0)) (Appends-nil f);
}

pub frames_failed : (r f g : Option (List ℕ)) (bytes : List ℕ) (rest : List OutputPiece)
    → AppendsBeginning f g bytes
    → WroteBefore (record { report = r; sent = f }) (record { report = r; sent = g })
    (ToFrames bytes ∷ rest) failure.Frames
frames_failed r f g bytes rest p = record {
  before = [];
  failed = ToFrames bytes;
  rest = rest;
  count = p.0;
  split = refl;
  error_is = refl;
  short = p.1;
  report = subst (Appends r r) (sym (take-nil p.0)) (Appends-nil r);
  sent = p.2;
}

-- ---- a packet frame's pieces, where its run ended by e and left these bytes

module _ (form : ReportForm) (number : ℕ) (frame : PacketFrame) (t : Turn) (e : End)
    (ended : e ≡ t.ends) where
  module _ (line : List ℕ) (is : line ≡ frame_line form number e (length frame.body)) where
    -- the line as it was made is the turn's
    line_is : line ≡ frame_line form number t.ends (length frame.body)
    line_is = is ∙ ap (λ (x : End). frame_line form number x (length frame.body)) ended

    -- the line failed
    pub line_failed : (r s f : Option (List ℕ)) → AppendsBeginning r s line
        → WroteBefore (record { report = r; sent = f }) (record { report = s; sent = f })
        (frame_pieces form number frame t) failure.Report
    unfolding frame_pieces
    line_failed r s f p =
        report_failed r s f _ (record_pieces form frame.head t)
        (subst (AppendsBeginning r s) line_is p)

    -- the frame is not written out
    pub frame_kept : (r s f : Option (List ℕ)) → is_sent form.stream e ≡ false → Appends r s line
        → Wrote (record { report = r; sent = f }) (record { report = s; sent = f })
        (frame_pieces form number frame t)
    unfolding frame_pieces
    frame_kept r s f stays p =
        let kept : is_sent form.stream t.ends ≡ false =
        ap (is_sent form.stream) (sym ended) ∙ stays in
        rw kept (wrote_report r s f _ (subst (Appends r s) line_is p))

    module _ (bytes : List ℕ) (left : bytes ≡ t.packet) (reason : ℕ)
        (told : reason ≡ end_reason form.program e) (goes : is_sent form.stream e ≡ true) where
      -- the record as it was made is the turn's
      record_is : record_bytes form.stream
          (record { head = frame.head; body = bytes; reason = reason })
          ≡ record_bytes form.stream
          (record { head = frame.head; body = t.packet; reason = end_reason form.program t.ends })
      record_is =
          ap (λ l. record_bytes form.stream
          (record { head = frame.head; body = l; reason = reason })) left
          ∙ ap (λ n. record_bytes form.stream
          (record { head = frame.head; body = t.packet; reason = n }))
          (told ∙ ap (λ (x : End). end_reason form.program x) ended)

      goes_out : is_sent form.stream t.ends ≡ true
      goes_out = ap (is_sent form.stream) (sym ended) ∙ goes

      -- the frame is written out after its line
      pub frame_sent : (r s f g : Option (List ℕ)) → Appends r s line
          → Appends f g
          (record_bytes form.stream (record { head = frame.head; body = bytes; reason = reason }))
          → Wrote (record { report = r; sent = f }) (record { report = s; sent = g })
          (frame_pieces form number frame t)
      unfolding frame_pieces
      frame_sent r s f g p q =
          let out : is_sent form.stream t.ends ≡ true = goes_out in
          rw out (Wrote-append _ _ _ (ToReport _ ∷ []) (ToFrames _ ∷ [])
          (wrote_report r s f _ (subst (Appends r s) line_is p))
          (wrote_frames s f g _ (subst (Appends f g) record_is q)))

      -- the record failed after the line
      pub record_failed : (r s f g : Option (List ℕ)) → Appends r s line
          → AppendsBeginning f g
          (record_bytes form.stream (record { head = frame.head; body = bytes; reason = reason }))
          → WroteBefore (record { report = r; sent = f }) (record { report = s; sent = g })
          (frame_pieces form number frame t) failure.Frames
      unfolding frame_pieces
      record_failed r s f g p q =
          let out : is_sent form.stream t.ends ≡ true = goes_out in
          rw out (WroteBefore-append _ _ _ (ToReport _ ∷ []) (ToFrames _ ∷ []) _
          (wrote_report r s f _ (subst (Appends r s) line_is p))
          (frames_failed s f g _ [] (subst (AppendsBeginning f g) record_is q)))

-- ---- the pieces of a frame that is not run

module _ (form : ReportForm) (number : ℕ) (frame : PacketFrame) (line : List ℕ)
    (is : line ≡ skip_line number (length frame.body) frame.reason) (r s f : Option (List ℕ)) where
  -- the line failed
  pub skip_line_failed : AppendsBeginning r s line
      → WroteBefore (record { report = r; sent = f }) (record { report = s; sent = f })
      (skip_pieces form number frame) failure.Report
  unfolding skip_pieces
  skip_line_failed p =
      report_failed r s f _ (ToFrames (record_bytes form.stream frame) ∷ [])
      (subst (AppendsBeginning r s) is p)

  -- the record failed after the line
  pub skip_record_failed : (g : Option (List ℕ)) → Appends r s line
      → AppendsBeginning f g (record_bytes form.stream frame)
      → WroteBefore (record { report = r; sent = f }) (record { report = s; sent = g })
      (skip_pieces form number frame) failure.Frames
  unfolding skip_pieces
  skip_record_failed g p q =
      WroteBefore-append _ _ _ (ToReport _ ∷ []) (ToFrames _ ∷ []) _
      (wrote_report r s f _ (subst (Appends r s) is p)) (frames_failed s f g _ [] q)

  pub skip_written : (g : Option (List ℕ)) → Appends r s line
      → Appends f g (record_bytes form.stream frame)
      → Wrote (record { report = r; sent = f }) (record { report = s; sent = g })
      (skip_pieces form number frame)
  unfolding skip_pieces
  skip_written g p q =
      Wrote-append _ _ _ (ToReport _ ∷ []) (ToFrames _ ∷ [])
      (wrote_report r s f _ (subst (Appends r s) is p)) (wrote_frames s f g _ q)
