-- One more turn of the loop over a stream, and how the loop ends.
use Rattle.host.proofs.Common.{◌≡◌, ℕ, suc, ◌+◌, ◌<◌, ◌≤◌, List, [], ◌∷◌, ◌++◌, length, Option, Result, refl, sym, ap, ◌∙◌, subst, append_assoc, append-nil, length-append, add-zero, zero-add, arith, inl, inr, Appends, Keeps, Appends-kept, AppendsBeginning, Finish, Version, stream_magic, KeyValues, PacketFrame, max_frames, stream_with, OutputPiece, Rule, ReportForm, ToFrames, turns_pieces, contents_after, turn_on, turn_pieces, contents_left, Bounded, Origin, HasBegun, HasBegun-opens, HasBegun-open, HasBegun-found, HasBegun-stopped, HasFound-begins, StreamEnded, HostError, Noting, noted_after, Outputs, Wrote, WroteBefore, rule_of, form_on, front_in, RunnerState, HasTaken, TakesWhole, TakesFront}
use Rattle.isa_model.specs.declared.streams.Fault.{Fault}
use Rattle.isa_model.specs.declared.streams.Finish.TheVariants as finish
use Rattle.isa_model.specs.declared.versions.Version.TheVariants.{One}
use Rattle.isa_model.specs.Code.Limits.{max_body}
use Rattle.isa_model.proofs.StreamLaws.{AreOpen-nil}
use Rattle.frames.specs.Readers.{Position, Fresh}
use Rattle.frames.specs.Reading.{OpensStream, begun_at, Found, Stopped, Finds}
use Rattle.frames.specs.Inputs.{IsBegunVersion}
use Rattle.host.specs.declared.errors.HostError.TheVariants as failure
use Rattle.host.proofs.Pieces.{Wrote-append, WroteBefore-append, wrote_frames, frames_failed}
use Rattle.host.proofs.WrittenSoFar.{WrittenSoFar}

-- a reader that was made and then read the magic has begun
pub begin_opens : (v : Version) (source : Origin) (old new : Option (List ℕ)) (p after : Position)
    (begun : Result ℕ (Fault × ℕ)) → p ≡ Fresh → old ≡ source.bytes
    → OpensStream source.may_fail p old new after
    → begun ≡ begun_at after → IsBegunVersion begun v → HasBegun v [] source new after
begin_opens v source old new p after begun fresh same opens begins is =
    HasBegun-opens v source new after
    (subst (λ (k : Option (List ℕ)). OpensStream source.may_fail Fresh k new after) same
    (subst (λ (x : Position). OpensStream source.may_fail x old new after) fresh opens))
    (subst (λ (b : Result ℕ (Fault × ℕ)). IsBegunVersion b v) begins is)

-- ---- packet frames one after another

-- the pieces of frames, and of those after them
pub turns_pieces-append : (form : ReportForm) (rule : Rule) (n : ℕ) (c : List KeyValues)
    (fs gs : List PacketFrame)
    → turns_pieces form rule n c (fs ++ gs)
    ≡ turns_pieces form rule n c fs
    ++ turns_pieces form rule (n + length fs) (contents_after rule c fs) gs
turns_pieces-append form rule n c [] gs = ap (λ m. turns_pieces form rule m c gs) (sym (add-zero n))
turns_pieces-append form rule n c (f ∷ fs) gs =
    let next = contents_left c (turn_on rule c f) in
    let front = turn_pieces form n f (turn_on rule c f) in
    let same : (n + 1) + length fs ≡ n + suc (length fs) = omega arith in
    ap (λ l. front ++ l)
    (turns_pieces-append form rule (n + 1) next fs gs
    ∙ ap (λ m. turns_pieces form rule (n + 1) next fs
    ++ turns_pieces form rule m (contents_after rule next fs) gs) same)
    ∙ sym (append_assoc front (turns_pieces form rule (n + 1) next fs)
    (turns_pieces form rule (n + suc (length fs)) (contents_after rule next fs) gs))

-- the contents after frames and those after them
contents_after-append : (rule : Rule) (c : List KeyValues) (fs gs : List PacketFrame)
    → contents_after rule c (fs ++ gs) ≡ contents_after rule (contents_after rule c fs) gs
contents_after-append rule c [] gs = refl
contents_after-append rule c (f ∷ fs) gs =
    contents_after-append rule (contents_left c (turn_on rule c f)) fs gs

-- ---- frames that are run one after another, from these contents on, over this source

module _ (form : ReportForm) (rule : Rule) (start : List KeyValues) (source : Origin)
    (before : Outputs) where
  -- the pieces so far and those of one more frame
  front_more : (frames : List PacketFrame) (f : PacketFrame) (number : ℕ)
      (contents : List KeyValues) → number ≡ length frames
      → contents ≡ contents_after rule start frames
      → front_in form rule start frames ++ turn_pieces form number f (turn_on rule contents f)
      ≡ front_in form rule start (frames ++ f ∷ [])
  front_more frames f number contents n m =
      let so_far = turns_pieces form rule 0 start frames in
      ap (λ l. ToFrames (stream_magic form.stream) ∷ l) (
      ap (λ (x : List KeyValues). so_far ++ turn_pieces form number f (turn_on rule x f)) m
      ∙ ap (λ k. so_far ++ turn_pieces form k f (turn_on rule (contents_after rule start frames) f))
      (n ∙ sym (zero-add (length frames)))
      ∙ ap (λ l. so_far ++ l) (sym (append-nil _))
      ∙ sym (turns_pieces-append form rule 0 start frames (f ∷ [])))

  -- before the first turn of the loop, once the magic is written
  pub none_taken : (known : Option (List ℕ)) (p : Position) (r f g : Option (List ℕ))
      → HasBegun form.stream [] source known p → before ≡ record { report = r; sent = f }
      → Appends f g (stream_magic form.stream)
      → WrittenSoFar form rule start source before [] known p 0 start
      (record { report = r; sent = g })
  none_taken known p r f g begun is w = record {
    begun = begun;
    numbered = refl;
    wrote =
        subst (λ (o : Outputs). Wrote o (record { report = r; sent = g })
        (front_in form rule start [])) (sym is) (wrote_frames r f g (stream_magic form.stream) w);
    carried = refl;
  }

  module _ (frames : List PacketFrame) (known new : Option (List ℕ)) (p q : Position) (number : ℕ)
      (contents : List KeyValues) (now : Outputs)
      (so : WrittenSoFar form rule start source before frames known p number contents now) where
    module _ (f : PacketFrame) (h : Finds source.may_fail p known new q (Found f)) where
      -- there is a number for the frame, and its body fits
      pub turn_fits : (number < max_frames) × (length f.body ≤ max_body form.stream)
      turn_fits =
          let (found, early, fits) =
          HasBegun-found form.stream frames source known new p q f so.begun h in
          let n = so.numbered in
          (omega arith, fits.short)

      -- one more frame was found and taken, and its pieces were written
      pub one_taken : (contents' : List KeyValues) (after : Outputs)
          → Wrote now after (turn_pieces form number f (turn_on rule contents f))
          → contents' ≡ contents_left contents (turn_on rule contents f)
          → WrittenSoFar form rule start source before (frames ++ f ∷ []) new q
          (number + 1) contents' after
      one_taken contents' after w c =
          let (found, early, fits) =
          HasBegun-found form.stream frames source known new p q f so.begun h in
          let n = so.numbered in
          record {
            begun = inl found;
            numbered = omega (arith, length-append frames (f ∷ []), n);
            wrote =
                subst (Wrote before after)
                (front_more frames f number contents so.numbered so.carried)
                (Wrote-append before now after _ _ so.wrote w);
            carried = c ∙ ap (λ (x : List KeyValues). contents_left x (turn_on rule x f)) so.carried
                ∙ sym (contents_after-append rule start frames (f ∷ []));
          }

-- the outputs were flushed
pub after_flush : (form : ReportForm) (rule : Rule) (start : List KeyValues) (source : Origin)
    (before : Outputs) (frames : List PacketFrame) (known : Option (List ℕ)) (p : Position)
    (number : ℕ) (contents : List KeyValues) (now after : Outputs)
    → WrittenSoFar form rule start source before frames known p number contents now
    → Keeps now.report after.report → Keeps now.sent after.sent
    → WrittenSoFar form rule start source before frames known p number contents after
after_flush form rule start source before frames known p number contents now after so report sent =
    record {
      begun = so.begun;
      numbered = so.numbered;
      wrote = record {
        report = Appends-kept before.report now.report after.report _ so.wrote.report report;
        sent = Appends-kept before.sent now.sent after.sent _ so.wrote.sent sent;
      };
      carried = so.carried;
    }

-- ---- how the loop ends

-- a machine took frames, of which these facts say what it noted and what its maps hold
pub has_taken : {N : Type 0} (old : RunnerState N) (frames : List PacketFrame) (bounded : Bounded)
    (contents : List KeyValues) (noted : N) (notes : Noting N) → bounded ≡ old.bounded
    → notes ≡ old.notes → contents ≡ contents_after (rule_of old.bounded) old.contents frames
    → noted ≡ noted_after old.notes (rule_of old.bounded) old.noted 0 old.contents frames
    → HasTaken old frames (record {
      bounded = bounded;
      contents = contents;
      noted = noted;
      notes = notes;
    })
has_taken old frames bounded contents noted notes b n c k =
    record { bounded = b; notes = n; contents = c; noted = k }

-- the contents that one more frame leaves
pub carried_more : (rule : Rule) (start : List KeyValues) (frames : List PacketFrame)
    (f : PacketFrame) (contents left : List KeyValues)
    → contents ≡ contents_after rule start frames
    → left ≡ contents_left contents (turn_on rule contents f)
    → left ≡ contents_after rule start (frames ++ f ∷ [])
carried_more rule start frames f contents left before c =
    c ∙ ap (λ (x : List KeyValues). contents_left x (turn_on rule x f)) before
    ∙ sym (contents_after-append rule start frames (f ∷ []))

-- the form of a report, by the limit and the version that a machine was given
abbrev pub form_by : ℕ → Version → Version → ReportForm
form_by limit program stream = record { limit = limit; program = program; stream = stream }

form_by-is : (a : Bounded) (limit : ℕ) (program stream : Version) → limit ≡ a.bound
    → program ≡ a.program.version → form_by limit program stream ≡ form_on a stream
form_by-is a limit program stream l v =
    ap (λ (n : ℕ). form_by n program stream) l
    ∙ ap (λ (w : Version). form_by a.bound w stream) v

module _ (N : Type 0) (old : RunnerState N) (source : Origin) where
  abbrev rule : Rule
  rule = rule_of old.bounded

  -- writing the magic failed
  pub magic_failed : (v : Version) (known : Option (List ℕ)) (p : Position)
      (r f g : Option (List ℕ)) → HasBegun v [] source known p
      → AppendsBeginning f g (stream_magic v)
      → TakesFront source (record { report = r; sent = f }) old (record { report = r; sent = g })
      old failure.Frames
  magic_failed v known p r f g (inl s) b = record {
    version = v;
    frames = [];
    are_open = s.are_open;
    read = inl (HasFound-begins source.may_fail v [] source.bytes known p s);
    wrote = frames_failed r f g (stream_magic v) [] b;
    taken = record { bounded = refl; notes = refl; contents = refl; noted = refl };
  }
  magic_failed v known p r f g (inr u) b = record {
    version = One;
    frames = [];
    are_open = AreOpen-nil One;
    read = inr (finish.Fault u.fault 0, u.read);
    wrote =
        frames_failed r f g (stream_magic One) []
        (subst (λ (x : Version). AppendsBeginning f g (stream_magic x)) u.first b);
    taken = record { bounded = refl; notes = refl; contents = refl; noted = refl };
  }

  module _ (limit : ℕ) (program v : Version) (l : limit ≡ old.bounded.bound)
      (pv : program ≡ old.bounded.program.version) (before : Outputs)
      (frames : List PacketFrame) (known new : Option (List ℕ)) (p q : Position) (number : ℕ)
      (contents : List KeyValues) where
    abbrev Taken : Outputs → Type 0
    Taken now =
        WrittenSoFar (form_by limit program v) rule old.contents source before frames known p number
        contents now

    -- one of the pieces of the next frame failed
    pub one_failed : (now after : Outputs) (f : PacketFrame) (error : HostError) (left : RunnerState N)
        → Taken now → Finds source.may_fail p known new q (Found f)
        → WroteBefore now after
        (turn_pieces (form_by limit program v) number f (turn_on rule contents f)) error
        → HasTaken old (frames ++ f ∷ []) left
        → TakesFront source before old after left error
    one_failed now after f error left so h w taken =
        let (found, early, fits) = HasBegun-found v frames source known new p q f so.begun h in
        record {
          version = v;
          frames = frames ++ f ∷ [];
          are_open = found.are_open;
          read =
              inl (HasFound-begins source.may_fail v (frames ++ f ∷ []) source.bytes new q found);
          wrote =
              subst (λ (x : ReportForm). WroteBefore before after
              (front_in x rule old.contents (frames ++ f ∷ [])) error)
              (form_by-is old.bounded limit program v l pv)
              (subst (λ (ps : List OutputPiece). WroteBefore before after ps error)
              (front_more (form_by limit program v) rule old.contents source before frames f number
              contents so.numbered so.carried)
              (WroteBefore-append before now after _ _ error so.wrote w));
          taken = taken;
        }

    -- the stream stopped
    pub all_taken : (now : Outputs) (finish : Finish) (ended : StreamEnded) (left : RunnerState N)
        → Taken now → Finds source.may_fail p known new q (Stopped finish)
        → ended ≡ record { frames = number; finish = finish } → HasTaken old frames left
        → TakesWhole source before old now left ended
    all_taken now finish ended left so h is taken = record {
      found = stream_with v (frames, finish);
      are_open = HasBegun-open v frames source known p so.begun;
      read = HasBegun-stopped v frames source known new p q finish so.begun h;
      wrote =
          subst (λ (x : ReportForm). Wrote before now (front_in x rule old.contents frames))
          (form_by-is old.bounded limit program v l pv) so.wrote;
      taken = taken;
      count = ap (λ (e : StreamEnded). e.frames) is ∙ so.numbered;
      finish = ap (λ (e : StreamEnded). e.finish) is;
    }
