-- What a call finds, by the bytes that it read from its source.
use Rattle.frames.proofs.Common.{◌≡◌, ◌≢◌, ℕ, ◌<◌, ◌≤◌, ◌^◌, List, [], ◌∷◌, ◌++◌, length, take, nat_eq, Bool, true, false, Option, None, Some, Ok, Err, refl, arith, sym, ap, ◌∙◌, append-nil, append_assoc, length-append, subst, inl, inr, All, length-take-le, take_at, Consumes, IsAtEnd, Consumes-trans, BadMagic, TruncatedHead, TooLong, TruncatedBody, ReadFailed, TooManyRecords, Finish, Version, One, Two, stream_magic, head_size, IsPacketFrame, ReasonFits, max_frames, cut_by, length_field, InputEnding, ByEnd, ByError, head_bytes, stop_at, some_head, ReadsMagic, MayOpen, FindsNext, StopsReading, CanStop, Found, Stopped}
use Rattle.std.proofs.lemmas.Cmp.{nat_list_eq_equiv}
use Rattle.std.proofs.lemmas.Bool.{cases_eq}
use lib.Pointwise.{pointwise}
use Rattle.isa_model.specs.declared.frames.FrameHead.{FrameHead}
use Rattle.isa_model.specs.declared.streams.Finish.TheVariants as finish
use Rattle.isa_model.specs.Code.Limits.{max_body}
use Rattle.frames.specs.Readers.{Position, At, Done}
use Rattle.frames.proofs.Stopping.{stop_at-cut, stop_at-read, stop_at-nothing_read, stop_at-many, stop_at-long, stop_at-body, length_field-append, opened-short, opened-other}

-- ---- the magic

pub magic_failed : (old new : Option (List ℕ)) (n : ℕ) (buffer : List ℕ) → length buffer ≡ 4
    → n < length buffer → Consumes old new (take n buffer)
    → ReadsMagic old new (Err ReadFailed)
magic_failed None new n buffer size less p = tt
magic_failed (Some bytes) None n buffer size less p = absurd p
magic_failed (Some bytes) (Some rest) n buffer size less p = (
  take n buffer,
  p,
  opened-short (take n buffer) ByError
      (omega (arith, length-take-le n buffer (omega arith))),
)

pub magic_ended : (old new : Option (List ℕ)) (n : ℕ) (buffer : List ℕ) → length buffer ≡ 4
    → n < length buffer → Consumes old new (take n buffer) → IsAtEnd new
    → ReadsMagic old new (Err BadMagic)
magic_ended None new n buffer size less p q = tt
magic_ended (Some bytes) None n buffer size less p q = absurd p
magic_ended (Some bytes) (Some rest) n buffer size less p q =
    let all : bytes ≡ take n buffer =
    p ∙ ap (λ l. take n buffer ++ l) q ∙ append-nil (take n buffer) in
    rw all (opened-short (take n buffer) ByEnd
    (omega (arith, length-take-le n buffer (omega arith))))

-- where four bytes are not the magic, what begins with them does not begin with the magic
turned : (magic buffer rest : List ℕ) → length buffer ≡ 4 → pointwise nat_eq buffer magic ≡ false
    → pointwise nat_eq magic (take 4 (buffer ++ rest)) ≡ false
turned magic buffer rest size other =
    let first : take 4 (buffer ++ rest) ≡ buffer = take_at buffer rest 4 size in
    rw first (nat_list_eq_equiv.symm magic buffer ∙ other)

pub magic_wrong : (old new : Option (List ℕ)) (buffer : List ℕ) → length buffer ≡ 4
    → pointwise nat_eq buffer (stream_magic One) ≡ false
    → pointwise nat_eq buffer (stream_magic Two) ≡ false → Consumes old new buffer
    → ReadsMagic old new (Err BadMagic)
magic_wrong None new buffer size one two p = tt
magic_wrong (Some bytes) None buffer size one two p = absurd p
magic_wrong (Some bytes) (Some rest) buffer size one two p =
    rw p (opened-other (buffer ++ rest) ByEnd (omega (arith, length-append buffer rest))
    (turned (stream_magic One) buffer rest size one)
    (turned (stream_magic Two) buffer rest size two))

pub magic_read : (old new : Option (List ℕ)) (v : Version) (buffer : List ℕ)
    → buffer ≡ stream_magic v → Consumes old new buffer → ReadsMagic old new (Ok v)
magic_read None new v buffer is p = tt
magic_read (Some bytes) None v buffer is p = absurd p
magic_read (Some bytes) (Some rest) v buffer is p = p ∙ ap (λ l. l ++ rest) is

pub may_be_short : (may_fail : Bool) → MayOpen may_fail (Err BadMagic)
may_be_short may_fail = ([], ByEnd, opened-short [] ByEnd (omega arith), tt)

pub may_be_unread : (may_fail : Bool) → may_fail ≡ true → MayOpen may_fail (Err ReadFailed)
may_be_unread may_fail fails = ([], ByError, opened-short [] ByError (omega arith), fails)

-- ---- a record

-- the part of the longest head's buffer that a head fills
pub whole_head : (buffer longest : List ℕ) (n : ℕ) (v : Version)
    → length buffer ≡ length (take n longest)
    → n ≡ head_size v → n ≤ 24 → length longest ≡ 24
    → length buffer ≡ head_size v
whole_head buffer longest n v filled size few whole =
    omega (arith, length-take-le n longest (omega arith))

-- the source returned `front`, and whatever it has left, the stream stops
stopped_more : (position : Position) (old new : Option (List ℕ)) (front : List ℕ) (stop : Finish)
    → Consumes old new front
    → ((bytes rest : List ℕ) → bytes ≡ front ++ rest → StopsReading position bytes (Some rest) stop)
    → FindsNext position old new (Stopped stop)
stopped_more position None new front stop p q = tt
stopped_more position (Some bytes) None front stop p q = absurd p
stopped_more position (Some bytes) (Some rest) front stop p q = q bytes rest p

-- the source returned `front`, and had no more
stopped_all : (position : Position) (old new : Option (List ℕ)) (front : List ℕ) (stop : Finish)
    → Consumes old new front → IsAtEnd new
    → ((rest : List ℕ) → StopsReading position front (Some rest) stop)
    → FindsNext position old new (Stopped stop)
stopped_all position None new front stop p e q = tt
stopped_all position (Some bytes) None front stop p e q = absurd p
stopped_all position (Some bytes) (Some rest) front stop p e q =
    subst (λ (l : List ℕ). StopsReading position l (Some rest) stop)
    (sym (p ∙ ap (λ l. front ++ l) e ∙ append-nil front)) (q rest)

pub record_many : (v : Version) (number offset : ℕ) (old new : Option (List ℕ)) (front : List ℕ)
    → number ≡ max_frames → length front ≡ 1 → Consumes old new front
    → FindsNext (At v number offset) old new (Stopped (finish.Fault TooManyRecords offset))
record_many v number offset old new front last size p =
    stopped_more (At v number offset) old new front (finish.Fault TooManyRecords offset) p
    (λ bytes rest e. rw (e, last)
    (stop_at-many v offset (front ++ rest) ByEnd (omega (arith, length-append front rest))))

pub record_end : (v : Version) (number offset : ℕ) (old new : Option (List ℕ)) (n : ℕ)
    (buffer : List ℕ) → n ≡ 0 → Consumes old new (take n buffer) → IsAtEnd new
    → FindsNext (At v number offset) old new (Stopped finish.End)
unfolding stop_at
record_end v number offset old new n buffer none p e =
    stopped_all (At v number offset) old new [] finish.End
    (subst (λ k. Consumes old new (take k buffer)) none p) e (λ rest. refl)

pub record_cut : (v : Version) (number offset : ℕ) (old new : Option (List ℕ)) (n : ℕ)
    (buffer : List ℕ) → number ≢ max_frames → n ≢ 0 → length buffer ≡ head_size v
    → n < length buffer
    → Consumes old new (take n buffer) → IsAtEnd new
    → FindsNext (At v number offset) old new (Stopped (finish.Fault TruncatedHead offset))
record_cut v number offset old new n buffer early some size less p e =
    let long = length-take-le n buffer (omega arith) in
    stopped_all (At v number offset) old new (take n buffer) (finish.Fault TruncatedHead offset) p e
    (λ rest. stop_at-cut v number offset (take n buffer) ByEnd early (omega arith)
    (omega arith))

-- an error where less than a head was read, or nothing after the last record
pub record_failed : (v : Version) (number offset : ℕ) (old new : Option (List ℕ)) (n : ℕ)
    (buffer : List ℕ) → (number ≡ max_frames → n ≡ 0) → length buffer ≤ head_size v
    → n < length buffer
    → Consumes old new (take n buffer)
    → FindsNext (At v number offset) old new (Stopped (finish.Fault ReadFailed offset))
record_failed v number offset old new n buffer none size less p =
    let long = length-take-le n buffer (omega arith) in
    let read : stop_at v number offset (take n buffer) ByError
    ≡ Some (finish.Fault ReadFailed offset) = elim (cases_eq number max_frames) [
      | inl last ↦ rw (none last) (stop_at-nothing_read v number offset)
      | inr early ↦ stop_at-read v number offset (take n buffer) early (omega arith)
    ] in
    stopped_more (At v number offset) old new (take n buffer) (finish.Fault ReadFailed offset) p
    (λ bytes rest e. (take n buffer, e, read))

pub record_long : (v : Version) (number offset : ℕ) (old new : Option (List ℕ)) (front : List ℕ)
    → number ≢ max_frames → length front ≡ head_size v → max_body v < length_field front
    → Consumes old new front
    → FindsNext (At v number offset) old new (Stopped (finish.Fault TooLong offset))
record_long v number offset old new front early size long p =
    stopped_more (At v number offset) old new front (finish.Fault TooLong offset) p
    (λ bytes rest e. rw e
    (stop_at-long v number offset (front ++ rest) ByEnd early
    (omega (arith, length-append front rest))
    (let some = some_head v in omega (arith, length_field-append front rest (omega arith)))))

-- the bytes of a head and of a part of its body
part_of_record : (v : Version) (number offset : ℕ) (front body : List ℕ) (e : InputEnding)
    → number ≢ max_frames → length front ≡ head_size v → length_field front ≤ max_body v
    → length body < length_field front
    → stop_at v number offset (front ++ body) e
    ≡ Some (finish.Fault (cut_by e TruncatedBody) offset)
part_of_record v number offset front body e early size short less =
    let some = some_head v in
    let field = length_field-append front body (omega arith) in
    let long = length-append front body in
    stop_at-body v number offset (front ++ body) e early (omega arith) (omega arith) (omega arith)

pub body_cut : (v : Version) (number offset : ℕ) (old mid new : Option (List ℕ)) (front : List ℕ)
    (n : ℕ) (buffer : List ℕ) → number ≢ max_frames → length front ≡ head_size v
    → length_field front ≤ max_body v → length buffer ≡ length_field front → n < length buffer
    → Consumes old mid front → Consumes mid new (take n buffer) → IsAtEnd new
    → FindsNext (At v number offset) old new (Stopped (finish.Fault TruncatedBody offset))
body_cut v number offset old mid new front n buffer early size short room less p q e =
    let cut = part_of_record v number offset front (take n buffer) ByEnd early size short
    (omega (arith, length-take-le n buffer (omega arith))) in
    stopped_all (At v number offset) old new (front ++ take n buffer)
    (finish.Fault TruncatedBody offset) (Consumes-trans _ _ _ _ _ p q) e (λ rest. cut)

pub body_failed : (v : Version) (number offset : ℕ) (old mid new : Option (List ℕ)) (front : List ℕ)
    (n : ℕ) (buffer : List ℕ) → number ≢ max_frames → length front ≡ head_size v
    → length_field front ≤ max_body v → length buffer ≡ length_field front → n < length buffer
    → Consumes old mid front → Consumes mid new (take n buffer)
    → FindsNext (At v number offset) old new (Stopped (finish.Fault ReadFailed offset))
body_failed v number offset old mid new front n buffer early size short room less p q =
    let read = part_of_record v number offset front (take n buffer) ByError early size short
    (omega (arith, length-take-le n buffer (omega arith))) in
    stopped_more (At v number offset) old new (front ++ take n buffer)
    (finish.Fault ReadFailed offset) (Consumes-trans _ _ _ _ _ p q)
    (λ bytes rest e. (front ++ take n buffer, e, read))

pub record_whole : (v : Version) (number offset : ℕ) (old mid new : Option (List ℕ))
    (front body after : List ℕ) (head : FrameHead) (n reason : ℕ)
    → head_bytes v head n reason ≡ front
    → length body ≡ n → Consumes old mid front → Consumes mid new body
    → FindsNext (At v number offset) old new
    (Found (record { head = head; body = take n (body ++ after); reason = reason }))
record_whole v number offset None mid new front body after head n reason spelled size p q = tt
record_whole v number offset (Some all) None new front body after head n reason spelled size p q =
    absurd p
record_whole v number offset (Some all) (Some rest) None front body after head n reason spelled size
    p q = absurd q
record_whole v number offset (Some all) (Some rest)
    (Some left) front body after head n reason spelled size p q =
    let first : take n (body ++ after) ≡ body = take_at body after n size in
    rw first (rw (size, spelled) (p ∙ ap (λ l. front ++ l) q ∙ sym (append_assoc front body left)))

-- the position allows a record that was read whole
pub can_be_whole : (v : Version) (number : ℕ) (body after : List ℕ) (head : FrameHead)
    (n reason : ℕ) → number < max_frames → length body ≡ n → n ≤ max_body v
    → All (λ b. b < 256) body → head.time < 2 ^ 64 → head.interface < 2 ^ 32
    → head.queue < 2 ^ 32 → ReasonFits v reason
    → (number < max_frames)
    × IsPacketFrame v (record { head = head; body = take n (body ++ after); reason = reason })
can_be_whole v number body after head n reason few size short all time interface queue fits =
    let first : take n (body ++ after) ≡ body = take_at body after n size in (
      few,
      rw first record {
        short = omega arith;
        bytes = all;
        time = time;
        interface = interface;
        queue = queue;
        reason = fits;
      },
    )

-- ---- where a stream may stop

pub can_end : (may_fail : Bool) (v : Version) (number offset : ℕ)
    → CanStop may_fail (At v number offset) finish.End
unfolding stop_at
can_end may_fail v number offset =
    record { bytes = []; ending = ByEnd; stops = refl; may_end = tt }

pub can_fail : (may_fail : Bool) (v : Version) (number offset : ℕ) → may_fail ≡ true
    → CanStop may_fail (At v number offset) (finish.Fault ReadFailed offset)
can_fail may_fail v number offset fails = record {
  bytes = [];
  ending = ByError;
  stops = stop_at-nothing_read v number offset;
  may_end = fails;
}

pub can_be_many : (may_fail : Bool) (v : Version) (number offset : ℕ) → number ≡ max_frames
    → CanStop may_fail (At v number offset) (finish.Fault TooManyRecords offset)
can_be_many may_fail v number offset last =
    rw last record {
      bytes = 0
          ∷ [];
      ending = ByEnd;
      stops = stop_at-many v offset (0 ∷ []) ByEnd (omega arith);
      may_end = tt;
    }

pub can_be_cut : (may_fail : Bool) (v : Version) (number offset : ℕ) → number ≢ max_frames
    → CanStop may_fail (At v number offset) (finish.Fault TruncatedHead offset)
can_be_cut may_fail v number offset early =
    record {
      bytes = 0
          ∷ [];
      ending = ByEnd;
      stops = stop_at-cut v number offset (0 ∷ []) ByEnd early (omega arith)
          (let some = some_head v in omega arith);
      may_end = tt;
    }

pub can_be_long : (may_fail : Bool) (v : Version) (number offset : ℕ) (front : List ℕ)
    → number ≢ max_frames → length front ≡ head_size v → max_body v < length_field front
    → CanStop may_fail (At v number offset) (finish.Fault TooLong offset)
can_be_long may_fail v number offset front early size long =
    record {
      bytes = front;
      ending = ByEnd;
      stops = stop_at-long v number offset front ByEnd early
          (omega arith) long;
      may_end = tt;
    }

pub can_lack_body : (may_fail : Bool) (v : Version) (number offset : ℕ) (front : List ℕ) (n : ℕ)
    (buffer : List ℕ) → number ≢ max_frames → length front ≡ head_size v
    → length_field front ≤ max_body v → length buffer ≡ length_field front → n < length buffer
    → CanStop may_fail (At v number offset) (finish.Fault TruncatedBody offset)
can_lack_body may_fail v number offset front n buffer early size short room less = record {
  bytes = front ++ [];
  ending = ByEnd;
  stops = part_of_record v number offset front [] ByEnd early size short (omega arith);
  may_end = tt;
}

-- ---- a call

-- the stream stops again where it stopped
done_stops : (version : Version) (bytes : List ℕ) (stop : Finish)
    → StopsReading (Done version stop) bytes (Some bytes) stop
done_stops version bytes finish.End = refl
done_stops version bytes (finish.Fault BadMagic o) = refl
done_stops version bytes (finish.Fault TruncatedHead o) = refl
done_stops version bytes (finish.Fault TooLong o) = refl
done_stops version bytes (finish.Fault TruncatedBody o) = refl
done_stops version bytes (finish.Fault ReadFailed o) = ([], refl, refl)
done_stops version bytes (finish.Fault TooManyRecords o) = refl
