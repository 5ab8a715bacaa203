-- Laws of what a writer of captures has written.
use Rattle.captures.proofs.Common.{◌≡◌, ◌∙◌, ℕ, ◌+◌, ◌-◌, Bool, true, false, List, [], ◌∷◌, ◌++◌, Option, Some, None, Result, Ok, Err, length, take, refl, sym, ap, subst, append_assoc, append-nil, length-append, arith, OnErr, Appends, Keeps, take-append-add, take-length, Appends-trans, Appends-kept, Appends-nil, PacketFrame, record_bytes, records_bytes, CaptureSoFar, capture_of, empty_capture, file_start, interface_blocks, is_kept, with_frame, with_frames, AppendsBeginning, no_head}
use Rattle.std.specs.declared.io.ErrorKind.{ErrorKind}
use Rattle.std.proofs.lemmas.Grind.{flat_map-append}
use Rattle.isa_model.specs.declared.versions.Version.{Version}
use Rattle.isa_model.specs.Code.Versions.{stream_magic}
use Rattle.captures.specs.declared.kinds.CaptureForm.{CaptureForm}
use Rattle.captures.specs.declared.kinds.LostCounts.{LostCounts}
use Rattle.captures.specs.declared.taking.PartTaken.{PartTaken}
use Rattle.captures.specs.declared.taking.PartTaken.TheVariants as taken
use Rattle.captures.specs.Writing.{AppendsFront, FailsAt, HasWrittenPart, IsWrittenSoFar, TakesFrame, TakesPart, handed_bytes, no_bytes}

-- ---- captures

-- one frame more
pub with_frames-push : (form : CaptureForm) (c : CaptureSoFar) (fs : List PacketFrame)
    (f : PacketFrame)
    → with_frames form c (fs ++ (f ∷ [])) ≡ with_frame form (with_frames form c fs) f
unfolding with_frames
with_frames-push form c [] f = refl
with_frames-push form c (x ∷ fs) f = with_frames-push form (with_frame form c x) fs f

-- what a frame adds does not depend on the bytes before it
added_by : (form : CaptureForm) (c : CaptureSoFar) (f : PacketFrame) (b : Bool)
    → is_kept form f.reason ≡ b
    → (with_frame form c f).bytes
    ≡ c.bytes ++ (with_frame form (no_bytes c.described c.lost) f).bytes
added_by form c f true is = rw is refl
added_by form c f false is = rw is (sym (append-nil c.bytes))

pub with_frame-bytes : (form : CaptureForm) (c : CaptureSoFar) (f : PacketFrame)
    → (with_frame form c f).bytes
    ≡ c.bytes ++ (with_frame form (no_bytes c.described c.lost) f).bytes
with_frame-bytes form c f = added_by form c f _ refl

described_by : (form : CaptureForm) (c : CaptureSoFar) (f : PacketFrame) (b : Bool)
    → is_kept form f.reason ≡ b
    → (with_frame form c f).described ≡ (with_frame form (no_bytes c.described c.lost) f).described
described_by form c f true is = rw is refl
described_by form c f false is = rw is refl

lost_by : (form : CaptureForm) (c : CaptureSoFar) (f : PacketFrame) (b : Bool)
    → is_kept form f.reason ≡ b
    → (with_frame form c f).lost ≡ (with_frame form (no_bytes c.described c.lost) f).lost
lost_by form c f true is = rw is refl
lost_by form c f false is = rw is refl

no_frames : (form : CaptureForm) → with_frames form (empty_capture form) [] ≡ empty_capture form
unfolding with_frames
no_frames form = refl

-- ---- known bytes

-- a whole, and then a beginning
pub Beginning-after : (a b c : Option (List ℕ)) (xs ys : List ℕ) → Appends a b xs
    → AppendsBeginning b c ys → AppendsBeginning a c (xs ++ ys)
Beginning-after a b c xs ys whole part = (
  length xs + part.0,
  omega (arith, part.1, length-append xs ys),
  subst (Appends a c) (sym (take-append-add xs ys part.0))
      (Appends-trans a b c xs (take part.0 ys) whole part.2),
)

-- the interfaces and the packet of a block were written
pub written-block : (a b c : Option (List ℕ)) (n m d : ℕ) (piece block : List ℕ) → n ≡ m
    → piece ≡ block → Appends a b (interface_blocks (n - d)) → Appends b c piece
    → Appends a c (interface_blocks (m - d) ++ block)
written-block a b c n m d piece block e is one two =
    subst (λ (k : ℕ). Appends a c (interface_blocks (k - d) ++ block)) e
    (Appends-trans a b c (interface_blocks (n - d)) block one (subst (Appends b c) is two))

-- the interfaces were written, and then an error came
pub failed-block : {X E : Type 0} (r : Result X E) (a b c : Option (List ℕ)) (n m d : ℕ)
    (piece block : List ℕ) → n ≡ m → piece ≡ block → Appends a b (interface_blocks (n - d))
    → AppendsBeginning b c piece
    → OnErr r (AppendsBeginning a c (interface_blocks (m - d) ++ block))
failed-block (Ok x) a b c n m d piece block e is one two = tt
failed-block (Err x) a b c n m d piece block e is one two =
    subst (λ (k : ℕ). AppendsBeginning a c (interface_blocks (k - d) ++ block)) e
    (Beginning-after a b c (interface_blocks (n - d)) block one
    (subst (AppendsBeginning b c) is two))

Front-after : (a b c : Option (List ℕ)) (xs ys : List ℕ) → Appends a b xs → AppendsFront b c ys
    → AppendsFront a c (xs ++ ys)
Front-after a b c xs ys whole part = (
  length xs + part.0,
  subst (Appends a c) (sym (take-append-add xs ys part.0))
      (Appends-trans a b c xs (take part.0 ys) whole part.1),
)

Front-all : (a b : Option (List ℕ)) (xs : List ℕ) → Appends a b xs → AppendsFront a b xs
Front-all a b xs whole = (length xs, subst (Appends a b) (sym (take-length xs)) whole)

-- ---- streams

handed-more : (version : Option Version) (frames : List PacketFrame) (part more : List ℕ)
    → handed_bytes version frames part ++ more ≡ handed_bytes version frames (part ++ more)
handed-more None frames part more = refl
handed-more (Some v) frames part more =
    append_assoc (stream_magic v) (records_bytes v frames ++ part) more
    ∙ ap (λ (l : List ℕ). stream_magic v ++ l) (append_assoc (records_bytes v frames) part more)

-- the part is the next record
handed-record : (v : Version) (frames : List PacketFrame) (f : PacketFrame)
    → handed_bytes (Some v) frames (record_bytes v f)
    ≡ handed_bytes (Some v) (frames ++ (f ∷ [])) []
handed-record v frames f =
    ap (λ (l : List ℕ). stream_magic v ++ l)
    (ap (λ (l : List ℕ). records_bytes v frames ++ l) (sym (append-nil (record_bytes v f)))
    ∙ sym (flat_map-append (record_bytes v) frames (f ∷ []))
    ∙ sym (append-nil (records_bytes v (frames ++ (f ∷ [])))))

-- ---- states

-- more was handed on
pub so_far-more : (form : CaptureForm) (failure : Option ErrorKind) (version : Option Version)
    (part more : List ℕ) (d : ℕ) (l : LostCounts)
    (origin handed handed' before reached : Option (List ℕ)) → failure ≡ None
    → Appends handed handed' more
    → IsWrittenSoFar form failure version part d l origin handed before reached
    → IsWrittenSoFar form failure version (part ++ more) d l origin handed' before reached
so_far-more form (Some kind) version part more d l origin handed handed' before reached n h w =
    absurd (cc n)
so_far-more form None version part more d l origin handed handed' before reached n h w =
    record {
      frames = w.frames;
      stream = subst (Appends origin handed') (handed-more version w.frames part more)
          (Appends-trans origin handed handed' _ more w.stream h);
      describes = w.describes;
      loses = w.loses;
      wrote = w.wrote;
    }

-- the output handed its bytes on
pub so_far-kept : (form : CaptureForm) (failure : Option ErrorKind) (version : Option Version)
    (part : List ℕ) (d : ℕ) (l : LostCounts)
    (origin handed before reached reached' : Option (List ℕ)) → Keeps reached reached'
    → IsWrittenSoFar form failure version part d l origin handed before reached
    → IsWrittenSoFar form failure version part d l origin handed before reached'
so_far-kept form None version part d l origin handed before reached reached' k w =
    record {
      frames = w.frames;
      stream = w.stream;
      describes = w.describes;
      loses = w.loses;
      wrote = Appends-kept before reached reached' _ w.wrote k;
    }
so_far-kept form (Some kind) version part d l origin handed before reached reached' k w =
    record {
      frames = w.frames;
      more = w.more;
      version = w.version;
      part = w.part;
      stream = w.stream;
      wrote = (w.wrote.0, Appends-kept before reached reached' _ w.wrote.1 k);
    }

begun_by : (form : CaptureForm) (failure : Option ErrorKind) (version : Option Version)
    (v : Version) (part : List ℕ) (d : ℕ) (l : LostCounts)
    (origin handed before reached reached' : Option (List ℕ)) → failure ≡ None
    → TakesPart form version d l part reached reached' (Ok (taken.Begun v))
    → IsWrittenSoFar form failure version part d l origin handed before reached
    → IsWrittenSoFar form failure (Some v) [] d l origin handed before reached'
begun_by form (Some kind) version v part d l origin handed before reached reached' n t w =
    absurd (cc n)
begun_by form None (Some x) v part d l origin handed before reached reached' n t w = absurd (cc t.0)
begun_by form None None v part d l origin handed before reached reached' n t w =
    let none = no_frames form in
    record {
      frames = [];
      stream = subst (Appends origin handed) (t.1 ∙ sym (append-nil (stream_magic v))) w.stream;
      describes = w.describes ∙ ap (λ (c : CaptureSoFar). c.described) (sym none);
      loses = w.loses ∙ ap (λ (c : CaptureSoFar). c.lost) (sym none);
      wrote = subst (λ (c : CaptureSoFar). Appends before reached' c.bytes) (sym none)
          (Appends-trans before reached reached' [] (file_start form.kind) w.wrote t.2);
    }

-- the magic was taken
pub so_far-begun : (form : CaptureForm) (failure : Option ErrorKind) (version : Option Version)
    (v : Version) (part : List ℕ) (d : ℕ) (l : LostCounts)
    (origin handed before reached reached' : Option (List ℕ)) → failure ≡ None
    → (r : PartTaken) → r ≡ taken.Begun v
    → TakesPart form version d l part reached reached' (Ok r)
    → IsWrittenSoFar form failure version part d l origin handed before reached
    → IsWrittenSoFar form failure (Some v) [] d l origin handed before reached'
so_far-begun form failure version v part d l origin handed before reached reached' n r is h w =
    begun_by form failure version v part d l origin handed before reached reached' n
    (subst (λ (x : PartTaken). TakesPart form version d l part reached reached' (Ok x)) is h) w

written_by : (form : CaptureForm) (failure : Option ErrorKind) (version : Option Version)
    (part : List ℕ) (d after : ℕ) (l loses : LostCounts)
    (origin handed before reached reached' : Option (List ℕ)) → failure ≡ None
    → TakesPart form version d l part reached reached' (Ok (taken.Written after loses))
    → IsWrittenSoFar form failure version part d l origin handed before reached
    → IsWrittenSoFar form failure version [] after loses origin handed before reached'
written_by form (Some kind) version part d after l loses origin handed before reached reached' n t w
    = absurd (cc n)
written_by form None None part d after l loses origin handed before reached reached' n t w =
    absurd (cc t.has_version)
written_by form None (Some v) part d after l loses origin handed before reached reached' n t w =
    let f = t.frame in
    let c = capture_of form w.frames in
    let own : (t.v ≡ v) = cc t.has_version in
    let parts : no_bytes d l ≡ no_bytes c.described c.lost =
    ap (λ (k : ℕ). no_bytes k l) w.describes ∙ ap (no_bytes c.described) w.loses in
    let pushed : capture_of form (w.frames ++ (f ∷ [])) ≡ with_frame form c f =
    with_frames-push form (empty_capture form) w.frames f in
    let bytes : c.bytes ++ (with_frame form (no_bytes d l) f).bytes
    ≡ (capture_of form (w.frames ++ (f ∷ []))).bytes =
    ap (λ (x : CaptureSoFar). c.bytes ++ (with_frame form x f).bytes) parts
    ∙ sym (with_frame-bytes form c f) ∙ ap (λ (x : CaptureSoFar). x.bytes) (sym pushed) in
    record {
      frames = w.frames ++ (f ∷ []);
      stream = subst (Appends origin handed) (handed-record v w.frames f)
          (subst (λ (p : List ℕ). Appends origin handed (handed_bytes (Some v) w.frames p))
          (t.is_record ∙ ap (λ (x : Version). record_bytes x f) own) w.stream);
      describes = t.describes ∙ ap (λ (x : CaptureSoFar). (with_frame form x f).described) parts
          ∙ sym (described_by form c f _ refl)
          ∙ ap (λ (x : CaptureSoFar). x.described) (sym pushed);
      loses = t.lost_is ∙ ap (λ (x : CaptureSoFar). (with_frame form x f).lost) parts
          ∙ sym (lost_by form c f _ refl) ∙ ap (λ (x : CaptureSoFar). x.lost) (sym pushed);
      wrote = subst (Appends before reached') bytes
          (Appends-trans before reached reached' c.bytes _ w.wrote t.wrote);
    }

-- a record was taken
pub so_far-written : (form : CaptureForm) (failure : Option ErrorKind) (version : Option Version)
    (part : List ℕ) (d after : ℕ) (l loses : LostCounts)
    (origin handed before reached reached' : Option (List ℕ)) → failure ≡ None
    → (r : PartTaken) → r ≡ taken.Written after loses
    → TakesPart form version d l part reached reached' (Ok r)
    → IsWrittenSoFar form failure version part d l origin handed before reached
    → IsWrittenSoFar form failure version [] after loses origin handed before reached'
so_far-written form failure version part d after l loses origin handed before reached reached' n r
    is h w =
    written_by form failure version part d after l loses origin handed before reached reached' n
    (subst (λ (x : PartTaken). TakesPart form version d l part reached reached' (Ok x)) is h) w

-- taking a part failed
pub so_far-failed : (form : CaptureForm) (failure : Option ErrorKind) (version : Option Version)
    (part : List ℕ) (d : ℕ) (l : LostCounts) (kind : ErrorKind)
    (origin handed before reached reached' : Option (List ℕ)) → failure ≡ None
    → TakesPart form version d l part reached reached' (Err kind)
    → IsWrittenSoFar form failure version part d l origin handed before reached
    → HasWrittenPart form origin handed before reached'
so_far-failed form (Some k) version part d l kind origin handed before reached reached' n t w =
    absurd (cc n)
so_far-failed form None None part d l kind origin handed before reached reached' n t w =
    record {
      frames = [];
      more = [];
      version = None;
      part = part;
      stream = w.stream;
      wrote = subst (λ (c : CaptureSoFar). AppendsFront before reached' c.bytes)
          (sym (no_frames form))
          (Front-after before reached reached' [] (file_start form.kind) w.wrote t);
    }
so_far-failed form None (Some v) part d l kind origin handed before reached reached' n t w =
    let f = t.0 in
    let c = capture_of form w.frames in
    let parts : no_bytes d l ≡ no_bytes c.described c.lost =
    ap (λ (k : ℕ). no_bytes k l) w.describes ∙ ap (no_bytes c.described) w.loses in
    let bytes : c.bytes ++ (with_frame form (no_bytes d l) f).bytes
    ≡ (capture_of form (w.frames ++ (f ∷ []))).bytes =
    ap (λ (x : CaptureSoFar). c.bytes ++ (with_frame form x f).bytes) parts
    ∙ sym (with_frame-bytes form c f)
    ∙ ap (λ (x : CaptureSoFar). x.bytes)
    (sym (with_frames-push form (empty_capture form) w.frames f)) in
    record {
      frames = w.frames;
      more = f ∷ [];
      version = Some v;
      part = part;
      stream = w.stream;
      wrote = subst (AppendsFront before reached') bytes
          (Front-after before reached reached' c.bytes _ w.wrote t.1);
    }

-- a flush failed
pub so_far-stopped : (form : CaptureForm) (failure : Option ErrorKind) (version : Option Version)
    (part : List ℕ) (d : ℕ) (l : LostCounts)
    (origin handed before reached reached' : Option (List ℕ)) → failure ≡ None
    → Keeps reached reached'
    → IsWrittenSoFar form failure version part d l origin handed before reached
    → HasWrittenPart form origin handed before reached'
so_far-stopped form (Some k) version part d l origin handed before reached reached' n kept w =
    absurd (cc n)
so_far-stopped form None None part d l origin handed before reached reached' n kept w =
    record {
      frames = [];
      more = [];
      version = None;
      part = part;
      stream = w.stream;
      wrote = (0, Appends-kept before reached reached' [] w.wrote kept);
    }
so_far-stopped form None (Some v) part d l origin handed before reached reached' n kept w =
    record {
      frames = w.frames;
      more = [];
      version = Some v;
      part = part;
      stream = w.stream;
      wrote =
          subst (λ (fs : List PacketFrame). AppendsFront before reached' (capture_of form fs).bytes)
          (sym (append-nil w.frames))
          (Front-all before reached' _ (Appends-kept before reached reached' _ w.wrote kept));
    }

-- ---- parts

-- a failure before anything was written
pub fails-unwritten : (form : CaptureForm) (version : Option Version) (d : ℕ) (l : LostCounts)
    (a : Option (List ℕ)) → FailsAt form version d l a a
fails-unwritten form None d l a = (0, Appends-nil a)
fails-unwritten form (Some v) d l a =
    (record { head = no_head; body = []; reason = 0 }, (0, Appends-nil a))

pub takes-record : (form : CaptureForm) (version : Option Version) (v : Version) (d : ℕ)
    (l : LostCounts) (part : List ℕ) (f : PacketFrame) (old new : Option (List ℕ))
    (r : Result PartTaken ErrorKind) → version ≡ Some v → part ≡ record_bytes v f
    → TakesFrame form d l f old new r → TakesPart form version d l part old new r
takes-record form version v d l part f old new (Ok (taken.Begun x)) is whole t = absurd t
takes-record form version v d l part f old new (Ok (taken.Longer size)) is whole t = absurd t
takes-record form version v d l part f old new (Ok (taken.Written after loses)) is whole t =
    record {
      v = v;
      frame = f;
      has_version = is;
      is_record = whole;
      describes = t.0;
      lost_is = t.1;
      wrote = t.2;
    }
takes-record form version v d l part f old new (Err kind) is whole t =
    subst (λ (x : Option Version). FailsAt form x d l old new) (sym is) (f, t)
