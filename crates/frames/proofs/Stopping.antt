-- Why some bytes are no record, and why some are no magic.
use Rattle.frames.proofs.Common.{◌≡◌, ◌≢◌, ℕ, zero, suc, ◌+◌, ◌<◌, ◌≤◌, List, [], ◌∷◌, ◌++◌, length, drop, ap, ◌∙◌, nat_eq, nat_lt, ◌==◌, Bool, true, false, if◌then◌else◌, Some, None, Option, Ok, Err, Result, refl, arith, le-ltb, get_or_append_left, BadMagic, TruncatedHead, TooLong, TruncatedBody, ReadFailed, TooManyRecords, Finish, Version, One, Two, stream_magic, head_size, PacketFrame, max_frames, cut_by, length_field, InputEnding, ByEnd, ByError, opened, stop_at, packet_frame_of, record_size, frames_from, stream_opened, stream_of, some_head}
use Rattle.std.proofs.lemmas.Bool.Decides.{nat_tests}
use Rattle.isa_model.specs.declared.streams.Fault.{Fault}
use Rattle.isa_model.specs.declared.streams.Finish.TheVariants as finish
use Rattle.std.specs.List.{starts_with}
use Rattle.isa_model.specs.Code.Limits.{max_body}

-- a part of a head
pub stop_at-cut : (v : Version) (number offset : ℕ) (bytes : List ℕ) (e : InputEnding)
    → number ≢ max_frames → 0 < length bytes → length bytes < head_size v
    → stop_at v number offset bytes e ≡ Some (finish.Fault (cut_by e TruncatedHead) offset)
unfolding stop_at
stop_at-cut v number offset [] e n p q = absurd (omega arith)
stop_at-cut v number offset (b ∷ bytes) e n p q = grind (arith, nat_tests)

-- a part of a head, or none of it, and then an error
pub stop_at-read : (v : Version) (number offset : ℕ) (bytes : List ℕ) → number ≢ max_frames
    → length bytes < head_size v
    → stop_at v number offset bytes ByError ≡ Some (finish.Fault ReadFailed offset)
unfolding stop_at
stop_at-read v number offset [] n q = refl
stop_at-read v number offset (b ∷ bytes) n q = grind (arith, nat_tests)

-- an error where a record may begin
pub stop_at-nothing_read : (v : Version) (number offset : ℕ)
    → stop_at v number offset [] ByError ≡ Some (finish.Fault ReadFailed offset)
unfolding stop_at
stop_at-nothing_read v number offset = refl

-- a byte after the last record
pub stop_at-many : (v : Version) (offset : ℕ) (bytes : List ℕ) (e : InputEnding) → 0 < length bytes
    → stop_at v max_frames offset bytes e ≡ Some (finish.Fault TooManyRecords offset)
unfolding stop_at
stop_at-many v offset [] e p = absurd (omega arith)
stop_at-many v offset (b ∷ bytes) e p = refl

-- a length that no body has
pub stop_at-long : (v : Version) (number offset : ℕ) (bytes : List ℕ) (e : InputEnding)
    → number ≢ max_frames → head_size v ≤ length bytes → max_body v < length_field bytes
    → stop_at v number offset bytes e ≡ Some (finish.Fault TooLong offset)
unfolding stop_at
stop_at-long v number offset [] e n p q = let some = some_head v in absurd (omega arith)
stop_at-long v number offset (b ∷ bytes) e n p q = grind (arith, nat_tests)

-- a head and a part of its body
pub stop_at-body : (v : Version) (number offset : ℕ) (bytes : List ℕ) (e : InputEnding)
    → number ≢ max_frames → head_size v ≤ length bytes → length_field bytes ≤ max_body v
    → length bytes < head_size v + length_field bytes
    → stop_at v number offset bytes e ≡ Some (finish.Fault (cut_by e TruncatedBody) offset)
unfolding stop_at
stop_at-body v number offset [] e n p q r = let some = some_head v in absurd (omega arith)
stop_at-body v number offset (b ∷ bytes) e n p q r = grind (arith, nat_tests)

-- the length field lies in the first 20 bytes
pub length_field-append : (xs ys : List ℕ) → 20 ≤ length xs
    → length_field (xs ++ ys) ≡ length_field xs
length_field-append xs ys h =
    let e16 = get_or_append_left xs ys 0 16 (omega arith) in
    let e17 = get_or_append_left xs ys 0 17 (omega arith) in
    let e18 = get_or_append_left xs ys 0 18 (omega arith) in
    let e19 = get_or_append_left xs ys 0 19 (omega arith) in
    omega (arith, e16, e17, e18, e19)

-- ---- the magic

-- a part of the magic
pub opened-short : (bytes : List ℕ) (e : InputEnding) → length bytes < 4
    → opened bytes e ≡ Err (cut_by e BadMagic)
unfolding opened
opened-short bytes e h = grind (arith, nat_tests)

-- another magic
pub opened-other : (bytes : List ℕ) (e : InputEnding) → 4 ≤ length bytes
    → starts_with nat_eq bytes (stream_magic One) ≡ false
    → starts_with nat_eq bytes (stream_magic Two) ≡ false → opened bytes e ≡ Err BadMagic
unfolding opened
opened-other bytes e h p q =
    let long : nat_lt (length bytes) 4 ≡ false = le-ltb _ _ h in rw (long, p, q) refl

-- ---- where the input ends without an error

no_read_error : (many short long cut : Bool) (offset at : ℕ)
    → (if many then Some (finish.Fault TooManyRecords offset)
    else if short then Some (finish.Fault TruncatedHead offset)
    else if long then Some (finish.Fault TooLong offset)
    else if cut then Some (finish.Fault TruncatedBody offset)
    else None) ≡ Some (finish.Fault ReadFailed at) → ⊥
no_read_error true short long cut offset at h = absurd cc
no_read_error false true long cut offset at h = absurd cc
no_read_error false false true cut offset at h = absurd cc
no_read_error false false false true offset at h = absurd cc
no_read_error false false false false offset at h = absurd cc

-- no read fails before the end of the bytes
pub stop_at-sound : (v : Version) (number offset : ℕ) (bytes : List ℕ) (at : ℕ)
    → stop_at v number offset bytes ByEnd ≡ Some (finish.Fault ReadFailed at) → ⊥
unfolding stop_at
stop_at-sound v number offset [] at h = absurd cc
stop_at-sound v number offset (b ∷ bytes) at h =
    let all = b ∷ bytes in
    no_read_error (number == max_frames) (nat_lt (length all) (head_size v))
    (nat_lt (max_body v) (length_field all))
    (nat_lt (length all) (head_size v + length_field all)) offset at h

no_magic_error : (short one two : Bool)
    → (if short then Err BadMagic else if one then Ok One else if two then Ok Two
    else Err BadMagic) ≡ Err ReadFailed → ⊥
no_magic_error true one two h = absurd cc
no_magic_error false true two h = absurd cc
no_magic_error false false true h = absurd cc
no_magic_error false false false h = absurd cc

pub opened-sound : (bytes : List ℕ) → opened bytes ByEnd ≡ Err ReadFailed → ⊥
unfolding opened
opened-sound bytes h =
    no_magic_error (nat_lt (length bytes) 4)
    (starts_with nat_eq bytes (stream_magic One))
    (starts_with nat_eq bytes (stream_magic Two)) h

no_read_error_from : (fuel : ℕ) (v : Version) (number offset : ℕ) (bytes : List ℕ) (at : ℕ)
    → (frames_from fuel v number offset bytes ByEnd).1 ≡ finish.Fault ReadFailed at → ⊥
unfolding frames_from
no_read_error_from zero v number offset bytes at h = absurd cc
no_read_error_from (suc fuel) v number offset bytes at h =
    let size = record_size v (packet_frame_of v bytes) in
    go (no_read_error_from fuel v (number + 1) (offset + size) (drop size bytes) at)
    (stop_at v number offset bytes ByEnd) refl h
  where
    go : ((frames_from fuel v (number + 1) (offset + record_size v (packet_frame_of v bytes))
        (drop (record_size v (packet_frame_of v bytes)) bytes) ByEnd).1
        ≡ finish.Fault ReadFailed at → ⊥)
        → (found : Option Finish) → stop_at v number offset bytes ByEnd ≡ found
        → (let f = packet_frame_of v bytes in
        let size = record_size v f in
        let more = frames_from fuel v (number + 1) (offset + size) (drop size bytes) ByEnd in
        let all : List PacketFrame × Finish = elim found [
          | Some stop ↦ ([], stop)
          | None ↦ (f ∷ more.0, more.1)
        ] in
        all.1 ≡ finish.Fault ReadFailed at) → ⊥
    go later (Some stop) is k =
        stop_at-sound v number offset bytes at (is ∙ ap (λ (s : Finish). Some s) k)
    go later None is k = later k

-- the stream of these bytes has no read that failed
pub stream_of-sound : (bytes : List ℕ) (at : ℕ)
    → (stream_of (record { bytes = bytes; ending = ByEnd })).finish ≡ finish.Fault ReadFailed at → ⊥
stream_of-sound bytes at h = go (opened bytes ByEnd) refl h
  where
    go : (magic : Result Version Fault) → opened bytes ByEnd ≡ magic
        → (stream_opened (record { bytes = bytes; ending = ByEnd }) magic).finish
        ≡ finish.Fault ReadFailed at → ⊥
    go (Ok v) is k =
        no_read_error_from (suc (length bytes)) v 0 4 (drop 4 bytes) at k
    go (Err fault) is k =
        let failed : fault ≡ ReadFailed = cc in
        opened-sound bytes (is ∙ ap (λ (f : Fault). Err f) failed)
