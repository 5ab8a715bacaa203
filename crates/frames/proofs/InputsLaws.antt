-- Laws of the definitions in specs/Inputs.
use Rattle.frames.proofs.Common.{◌≡◌, ℕ, ◌+◌, ◌<◌, length, arith, ◌++◌, ◌∷◌, List, [], Bool, true, false, Option, Some, None, Result, Ok, Err, refl, sym, ap, ◌∙◌, subst, append_assoc, append-nil, length-append, ◌⊎◌, inl, inr, Consumes, Consumes-trans, BadMagic, TruncatedHead, TooLong, TruncatedBody, ReadFailed, TooManyRecords, Finish, Version, One, stream_magic, PacketFrame, IsPacketFrame, Input, InputEnding, ByEnd, ByError, max_frames, record_bytes, records_bytes, record_size, opened, stop_at, Stream, stream_with, stream_of, AreOpen, stream_bytes, AreOpen-nil, AreOpen-push, size-record_bytes, offset_after, stream_of-stops, stream_of-unopened, ReadsMagic, MayOpen, OpensStream, position_opened, begun_at, Found, Stopped, StopsReading, FindsNext, IsOpen, CanStop, MayEnd, next_position, Finds}
use Rattle.std.proofs.lemmas.Grind.{flat_map-append}
use Rattle.isa_model.specs.declared.streams.Fault.{Fault}
use Rattle.isa_model.specs.declared.streams.Finish.TheVariants as finish
use Rattle.frames.specs.Readers.{Position, Fresh, At, Done}
use Rattle.frames.specs.Sources.{Origin, in_memory}
use Rattle.frames.specs.Inputs.{IsReadFrom, AreReadFrom, IsBegunBy, IsBegunVersion}
use Rattle.frames.proofs.Stopping.{stop_at-sound, opened-sound}

-- Packet frames of a stream of this version were found by a reader that was fresh at first. Its
-- source had the bytes `old` then, and has `known` now.
pub record HasFound (v : Version) (frames : List PacketFrame) (old known : Option (List ℕ))
    (position : Position) : Type 0 where
  pub position_is : position ≡ At v (length frames) (offset_after v frames)
  pub are_open : AreOpen v frames
  pub lost : Consumes old known (stream_bytes v frames)

-- a reader that has read only the magic has found no frame
pub HasFound-opened : (v : Version) (old known : Option (List ℕ)) → ReadsMagic old known (Ok v)
    → HasFound v [] old known (At v 0 4)
HasFound-opened v old known r =
    record { position_is = refl; are_open = AreOpen-nil v; lost = lost old known r }
  where
    lost : (old known : Option (List ℕ)) → ReadsMagic old known (Ok v)
        → Consumes old known (stream_magic v ++ [])
    lost None known r = tt
    lost (Some bytes) None r = absurd r
    lost (Some bytes) (Some rest) r =
        r ∙ ap (λ (l : List ℕ). l ++ rest) (sym (append-nil (stream_magic v)))

-- the stream with a fault instead of the magic
abbrev pub unopened : Fault → Stream
unopened fault = stream_with One ([], finish.Fault fault 0)

-- a source of which contracts know the bytes, or not, and whose reads may fail, or not
abbrev origin : Bool → Option (List ℕ) → Origin
origin may_fail bytes = record { bytes = bytes; may_fail = may_fail }

unopened_read : (may_fail : Bool) (bytes read unread : List ℕ) (e : InputEnding) (fault : Fault)
    → bytes ≡ read ++ unread → (e ≡ ByEnd → unread ≡ []) → (e ≡ ByError → fault ≡ ReadFailed)
    → opened read e ≡ Err fault → MayEnd may_fail e
    → AreReadFrom (origin may_fail (Some bytes)) (unopened fault)
unopened_read may_fail bytes read unread e fault split all error h may =
    let input : Input = record { bytes = read; ending = e } in
    let same : stream_of input ≡ unopened fault = stream_of-unopened input fault h in
    record {
      input = input;
      from_source = record {
        unread = unread;
        split = split;
        all = all;
        error =
            λ by. (0, ap (λ (t : Stream). t.finish) same ∙ ap (λ f. finish.Fault f 0) (error by));
      };
      may_end = may;
      stream = same;
    }

-- only a source whose reads may fail has this fault instead of the magic
fails_to_open : (may_fail : Bool) (bytes : List ℕ) (e : InputEnding)
    → opened bytes e ≡ Err ReadFailed → MayEnd may_fail e → may_fail ≡ true
fails_to_open may_fail bytes ByEnd h may = absurd (opened-sound bytes h)
fails_to_open may_fail bytes ByError h may = may

unopened_all : (may_fail : Bool) (bytes : List ℕ) (fault : Fault) → opened bytes ByEnd ≡ Err fault
    → AreReadFrom (origin may_fail (Some bytes)) (unopened fault)
unopened_all may_fail bytes fault h =
    unopened_read may_fail bytes bytes [] ByEnd fault (sym (append-nil bytes)) (λ _. refl)
    (λ e. cc) h tt

unopened_error : (may_fail : Bool) (bytes : List ℕ) (new : Option (List ℕ))
    → ReadsMagic (Some bytes) new (Err ReadFailed) → may_fail ≡ true
    → AreReadFrom (origin may_fail (Some bytes)) (unopened ReadFailed)
unopened_error may_fail bytes None h fails = absurd h.1
unopened_error may_fail bytes (Some rest) h fails =
    unopened_read may_fail bytes h.0 rest ByError ReadFailed h.1 (λ e. cc) (λ _. refl) h.2 fails

-- where no magic can be read, that fault was read
pub unopened_from : (may_fail : Bool) (old new : Option (List ℕ)) (fault : Fault)
    → ReadsMagic old new (Err fault)
    → MayOpen may_fail (Err fault) → AreReadFrom (origin may_fail old) (unopened fault)
unopened_from m None new fault r may =
    let input : Input = record { bytes = may.0; ending = may.1 } in
    record {
      input = input;
      from_source = tt;
      may_end = may.3;
      stream = stream_of-unopened input fault may.2;
    }
unopened_from m (Some bytes) new BadMagic r may = unopened_all m bytes BadMagic r
unopened_from m (Some bytes) new TruncatedHead r may = unopened_all m bytes TruncatedHead r
unopened_from m (Some bytes) new TooLong r may = unopened_all m bytes TooLong r
unopened_from m (Some bytes) new TruncatedBody r may = unopened_all m bytes TruncatedBody r
unopened_from m (Some bytes) new ReadFailed r may =
    unopened_error m bytes new r (fails_to_open m may.0 may.1 may.2 may.3)
unopened_from m (Some bytes) new TooManyRecords r may = unopened_all m bytes TooManyRecords r

-- a source has lost the bytes of a record that was found
Consumes-found : (v : Version) (number offset : ℕ) (old new : Option (List ℕ)) (f : PacketFrame)
    → FindsNext (At v number offset) old new (Found f) → Consumes old new (record_bytes v f)
Consumes-found v number offset None new f r = tt
Consumes-found v number offset (Some bytes) None f r = absurd r
Consumes-found v number offset (Some bytes) (Some rest) f r = r

-- the bytes of one more record
more_bytes : (v : Version) (frames : List PacketFrame) (f : PacketFrame)
    → records_bytes v (frames ++ f ∷ []) ≡ records_bytes v frames ++ record_bytes v f
more_bytes v frames f = flat_map-append (record_bytes v) frames (f ∷ [])
    ∙ ap (λ l. records_bytes v frames ++ l) (append-nil (record_bytes v f))

-- one more frame was found
pub HasFound-next : (v : Version) (frames : List PacketFrame) (old known new : Option (List ℕ))
    (p : Position) (f : PacketFrame) → HasFound v frames old known p
    → FindsNext p known new (Found f) → IsOpen p f
    → HasFound v (frames ++ f ∷ []) old new (next_position p (Found f))
HasFound-next v frames old known new p f s r ok =
    let number = length frames in
    let offset = offset_after v frames in
    let here = At v number offset in
    let may = subst (λ (x : Position). IsOpen x f) s.position_is ok in
    let lost = Consumes-found v number offset known new f
    (subst (λ (x : Position). FindsNext x known new (Found f)) s.position_is r) in
    let bytes = more_bytes v frames f in
    let counted : number + 1 ≡ length (frames ++ f ∷ []) =
    omega (arith, length-append frames (f ∷ [])) in
    let sized : offset + record_size v f ≡ offset_after v (frames ++ f ∷ []) =
    omega (
      arith,
      ap (λ (l : List ℕ). length l) bytes,
      length-append (records_bytes v frames)
          (record_bytes v f),
      size-record_bytes v f,
    ) in
    record {
      position_is = ap (λ (x : Position). next_position x (Found f)) s.position_is
          ∙ ap (λ n. At v n (offset + record_size v f)) counted
          ∙ ap (λ n. At v (length (frames ++ f ∷ [])) n) sized;
      are_open = AreOpen-push v frames f s.are_open may.0 may.1;
      lost =
          subst (Consumes old new)
          (append_assoc (stream_magic v) (records_bytes v frames) (record_bytes v f)
          ∙ ap (λ l. stream_magic v ++ l) (sym bytes))
          (Consumes-trans old known new _ _ s.lost lost);
    }

-- the bytes that a source has left
left_of : (v : Version) (frames : List PacketFrame) (bytes : List ℕ) (known : Option (List ℕ))
    → Consumes (Some bytes) known (stream_bytes v frames)
    → (rest : List ℕ) × (known ≡ Some rest) × (bytes ≡ stream_bytes v frames ++ rest)
left_of v frames bytes None h = absurd h
left_of v frames bytes (Some rest) h = (rest, refl, h)

-- what was read from the rest of a source where the stream stops
record ReadsStop (may_fail : Bool) (v : Version) (number offset : ℕ) (rest : List ℕ)
    (stop : Finish) : Type 0 where
  read : List ℕ
  unread : List ℕ
  ending : InputEnding
  split : rest ≡ read ++ unread
  all : ending ≡ ByEnd → unread ≡ []
  error : ending ≡ ByError → (at : ℕ) × (stop ≡ finish.Fault ReadFailed at)
  stops : stop_at v number offset read ending ≡ Some stop
  may_end : MayEnd may_fail ending

whole_stop : (m : Bool) (v : Version) (number offset : ℕ) (rest : List ℕ) (stop : Finish)
    → stop_at v number offset rest ByEnd ≡ Some stop → ReadsStop m v number offset rest stop
whole_stop m v number offset rest stop h =
    record {
      read = rest;
      unread = [];
      ending = ByEnd;
      split = sym (append-nil rest);
      all = λ _. refl;
      error = λ e. cc;
      stops = h;
      may_end = tt;
    }

-- only a source whose reads may fail has this fault where a record may begin
fails_to_read : (may_fail : Bool) (v : Version) (number offset : ℕ) (bytes : List ℕ)
    (e : InputEnding) (at : ℕ)
    → stop_at v number offset bytes e ≡ Some (finish.Fault ReadFailed at) → MayEnd may_fail e
    → may_fail ≡ true
fails_to_read may_fail v number offset bytes ByEnd at h may =
    absurd (stop_at-sound v number offset bytes at h)
fails_to_read may_fail v number offset bytes ByError at h may = may

read_error : (m : Bool) (v : Version) (number offset : ℕ) (rest : List ℕ) (new : Option (List ℕ))
    (at : ℕ) → StopsReading (At v number offset) rest new (finish.Fault ReadFailed at)
    → CanStop m (At v number offset) (finish.Fault ReadFailed at)
    → ReadsStop m v number offset rest (finish.Fault ReadFailed at)
read_error m v number offset rest None at h can = absurd h.1
read_error m v number offset rest (Some left) at h can =
    record {
      read = h.0;
      unread = left;
      ending = ByError;
      split = h.1;
      all = λ e. cc;
      error = λ _.
          (at, refl);
      stops = h.2;
      may_end = fails_to_read m v number offset can.bytes can.ending at can.stops can.may_end;
    }

read_stop : (m : Bool) (v : Version) (number offset : ℕ) (rest : List ℕ) (new : Option (List ℕ))
    (stop : Finish) → StopsReading (At v number offset) rest new stop
    → CanStop m (At v number offset) stop → ReadsStop m v number offset rest stop
read_stop m v number offset rest new finish.End h can =
    whole_stop m v number offset rest finish.End h
read_stop m v number offset rest new (finish.Fault BadMagic o) h can =
    whole_stop m v number offset rest (finish.Fault BadMagic o) h
read_stop m v number offset rest new (finish.Fault TruncatedHead o) h can =
    whole_stop m v number offset rest (finish.Fault TruncatedHead o) h
read_stop m v number offset rest new (finish.Fault TooLong o) h can =
    whole_stop m v number offset rest (finish.Fault TooLong o) h
read_stop m v number offset rest new (finish.Fault TruncatedBody o) h can =
    whole_stop m v number offset rest (finish.Fault TruncatedBody o) h
read_stop m v number offset rest new (finish.Fault ReadFailed o) h can =
    read_error m v number offset rest new o h can
read_stop m v number offset rest new (finish.Fault TooManyRecords o) h can =
    whole_stop m v number offset rest (finish.Fault TooManyRecords o) h

-- the input that begins with these frames
abbrev input_of : Version → List PacketFrame → List ℕ → InputEnding → Input
input_of v frames rest e =
    record { bytes = stream_magic v ++ (records_bytes v frames ++ rest); ending = e }

-- where the reader stops, the frames that it found and that end or fault were read
pub HasFound-stops : (m : Bool) (v : Version) (frames : List PacketFrame)
    (old known new : Option (List ℕ))
    (p : Position) (stop : Finish) → HasFound v frames old known p
    → FindsNext p known new (Stopped stop)
    → CanStop m p stop → AreReadFrom (origin m old) (stream_with v (frames, stop))
HasFound-stops m v frames None known new p stop s r can =
    let h : CanStop m (At v (length frames) (offset_after v frames)) stop =
    subst (λ (x : Position). CanStop m x stop) s.position_is can in
    record {
      input = input_of v frames h.bytes h.ending;
      from_source = tt;
      may_end = h.may_end;
      stream = stream_of-stops v frames h.bytes h.ending stop s.are_open h.stops;
    }
HasFound-stops m v frames (Some bytes) known new p stop s r can =
    let number = length frames in
    let offset = offset_after v frames in
    let (rest, is_known, split) = left_of v frames bytes known s.lost in
    let there = subst (λ (x : Position). FindsNext x known new (Stopped stop)) s.position_is r in
    let h = read_stop m v number offset rest new stop
    (subst (λ (k : Option (List ℕ)). FindsNext (At v number offset) k new (Stopped stop))
    is_known there) (subst (λ (x : Position). CanStop m x stop) s.position_is can) in
    let same : stream_of (input_of v frames h.read h.ending) ≡ stream_with v (frames, stop) =
    stream_of-stops v frames h.read h.ending stop s.are_open h.stops in
    record {
      input = input_of v frames h.read h.ending;
      from_source = record {
        unread = h.unread;
        split = split ∙ ap (λ l. stream_bytes v frames ++ l) h.split
            ∙ sym (append_assoc (stream_bytes v frames) h.read h.unread)
            ∙ ap (λ l. l ++ h.unread)
            (append_assoc (stream_magic v) (records_bytes v frames) h.read);
        all = h.all;
        error = λ e. ((h.error e).0, ap (λ (t : Stream). t.finish) same ∙ (h.error e).1);
      };
      may_end = h.may_end;
      stream = same;
    }

-- where nothing more is read, the source begins with the frames that were found
pub HasFound-begins : (m : Bool) (v : Version) (frames : List PacketFrame)
    (old known : Option (List ℕ))
    (p : Position) → HasFound v frames old known p → IsBegunBy (origin m old) v frames
HasFound-begins m v frames None known p s = tt
HasFound-begins m v frames (Some bytes) known p s =
    let (rest, is_known, split) = left_of v frames bytes known s.lost in (rest, split)

-- No magic could be read: the stream counts as one of version 1, it has no frames, and the reader
-- is done.
pub record IsUnopened (v : Version) (frames : List PacketFrame) (source : Origin)
    (position : Position) : Type 0 where
  pub fault : Fault
  pub first : v ≡ One
  pub none : frames ≡ []
  pub position_is : position ≡ Done One (finish.Fault fault 0)
  pub read : AreReadFrom source (unopened fault)

-- the reader has read the magic of this version and then these frames, or it found no magic
abbrev pub HasBegun : Version → List PacketFrame → Origin → Option (List ℕ) → Position → Type 0
HasBegun v frames source known position =
    HasFound v frames source.bytes known position ⊎ IsUnopened v frames source position

-- a fresh reader has begun when the magic is read
pub HasBegun-opens : (v : Version) (source : Origin) (new : Option (List ℕ)) (after : Position)
    → OpensStream source.may_fail Fresh source.bytes new after → IsBegunVersion (begun_at after) v
    → HasBegun v [] source new after
HasBegun-opens v source new after opens is = go opens.0 opens.1 opens.2 opens.3
  where
    go : (magic : Result Version Fault) → ReadsMagic source.bytes new magic
        → MayOpen source.may_fail magic
        → after ≡ position_opened magic → HasBegun v [] source new after
    go (Ok w) reads may position_is =
        let told = subst (λ (x : Position). IsBegunVersion (begun_at x) v) position_is is in
        let same : v ≡ w = told w refl in
        inl (subst (λ (x : Position). HasFound v [] source.bytes new x)
        (ap (λ (x : Version). At x 0 4) same ∙ sym position_is)
        (HasFound-opened v source.bytes new
        (subst (λ (x : Version). ReadsMagic source.bytes new (Ok x)) (sym same) reads)))
    go (Err fault) reads may position_is = inr (record {
      fault = fault;
      first = subst (λ (x : Position). IsBegunVersion (begun_at x) v) position_is is;
      none = refl;
      position_is = position_is;
      read = unopened_from source.may_fail source.bytes new fault reads may;
    })

-- these frames are allowed in the stream
pub HasBegun-open : (v : Version) (frames : List PacketFrame) (source : Origin)
    (known : Option (List ℕ)) (p : Position) → HasBegun v frames source known p → AreOpen v frames
HasBegun-open v frames source known p (inl s) = s.are_open
HasBegun-open v frames source known p (inr u) = subst (AreOpen v) (sym u.none) (AreOpen-nil v)

-- a call that finds one more frame, for which there is room
pub HasBegun-found : (v : Version) (frames : List PacketFrame) (source : Origin)
    (known new : Option (List ℕ)) (p q : Position) (f : PacketFrame)
    → HasBegun v frames source known p → Finds source.may_fail p known new q (Found f)
    → HasFound v (frames ++ f ∷ []) source.bytes new q × (length frames < max_frames)
    × IsPacketFrame v f
HasBegun-found v frames source known new p q f (inl s) h =
    let here = At v (length frames) (offset_after v frames) in
    let (begun_is, left_is) = subst
    (λ (x : Position). OpensStream source.may_fail x known h.left h.begun) s.position_is h.opens in
    let begun : h.begun ≡ p = begun_is ∙ sym s.position_is in
    let open_here = subst (λ (x : Position). IsOpen x f) begun h.room in
    let reads = subst (λ (k : Option (List ℕ)). FindsNext p k new (Found f)) left_is
    (subst (λ (x : Position). FindsNext x h.left new (Found f)) begun h.reads) in
    let may = subst (λ (x : Position). IsOpen x f) s.position_is open_here in
    let moved : q ≡ next_position p (Found f) =
    h.position_is ∙ ap (λ (x : Position). next_position x (Found f)) begun in (
      subst (HasFound v (frames ++ f ∷ []) source.bytes new) (sym moved)
          (HasFound-next v frames source.bytes known new p f s reads open_here),
      may.0,
      may.1,
    )
HasBegun-found v frames source known new p q f (inr u) h =
    let (begun_is, left_is) = subst
    (λ (x : Position). OpensStream source.may_fail x known h.left h.begun) u.position_is h.opens in
    absurd (subst (λ (x : Position). IsOpen x f) begun_is h.room)

-- what a reader that is done finds
done_stops : (m : Bool) (v : Version) (stop found : Finish) → CanStop m (Done v stop) found
    → stop ≡ found
done_stops m v stop found can = let h : Some stop ≡ Some found = can.stops in cc

-- a call that finds the end or a fault: the frames that were found and that end or fault were read
pub HasBegun-stopped : (v : Version) (frames : List PacketFrame) (source : Origin)
    (known new : Option (List ℕ)) (p q : Position) (stop : Finish)
    → HasBegun v frames source known p → Finds source.may_fail p known new q (Stopped stop)
    → AreReadFrom source (stream_with v (frames, stop))
HasBegun-stopped v frames source known new p q stop (inl s) h =
    let (begun_is, left_is) = subst
    (λ (x : Position). OpensStream source.may_fail x known h.left h.begun) s.position_is h.opens in
    let begun : h.begun ≡ p = begun_is ∙ sym s.position_is in
    let reads = subst (λ (k : Option (List ℕ)). FindsNext p k new (Stopped stop)) left_is
    (subst (λ (x : Position). FindsNext x h.left new (Stopped stop)) begun h.reads) in
    HasFound-stops source.may_fail v frames source.bytes known new p stop s reads
    (subst (λ (x : Position). CanStop source.may_fail x stop) begun h.room)
HasBegun-stopped v frames source known new p q stop (inr u) h =
    let (begun_is, left_is) = subst
    (λ (x : Position). OpensStream source.may_fail x known h.left h.begun) u.position_is h.opens in
    let same = done_stops source.may_fail One (finish.Fault u.fault 0) stop
    (subst (λ (x : Position). CanStop source.may_fail x stop) begun_is h.room) in
    let whole : unopened u.fault ≡ stream_with v (frames, stop) =
    rw (u.first, u.none, ← same) refl in
    subst (AreReadFrom source) whole u.read

-- ---- a source that never fails

-- the stream that was read from bytes in memory is the stream of all these bytes
pub AreReadFrom-in_memory : (bytes : List ℕ) (found : Stream)
    → AreReadFrom (in_memory bytes) found
    → found ≡ stream_of (record { bytes = bytes; ending = ByEnd })
AreReadFrom-in_memory bytes found read =
    sym read.stream ∙ whole read.input.bytes read.input.ending read.from_source read.may_end
  where
    whole : (given : List ℕ) (e : InputEnding)
        → IsReadFrom bytes (record { bytes = given; ending = e }) → MayEnd false e
        → stream_of (record { bytes = given; ending = e })
        ≡ stream_of (record { bytes = bytes; ending = ByEnd })
    whole given ByEnd h may =
        let same : given ≡ bytes =
        sym (h.split ∙ ap (λ (l : List ℕ). given ++ l) (h.all refl) ∙ append-nil given) in
        ap (λ (b : List ℕ). stream_of (record { bytes = b; ending = ByEnd })) same
    whole given ByError h may = absurd cc
