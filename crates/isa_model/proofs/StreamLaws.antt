-- Laws of frame streams: the parts of a record, and which frames a stream of records has.
use Rattle.std.proofs.Common.{◌≡◌, ◌≢◌, ℕ, zero, suc, ◌+◌, ◌<◌, ◌≤◌, List, [], ◌∷◌, ◌++◌, length, take, drop, Option, None, Some, Ok, Err, nat_lt, false, le-ltb, refl, sym, ap, ◌∙◌, subst, append_assoc, append-nil, length-append, length-drop, arith, add-zero, All}
use Rattle.isa_model.proofs.Common.{take_at, drop_at, drop-drop, nat_tests, All-head, All-tail, All-nil, All-push, Version, max_body}
use Rattle.byteorder.specs.Numbers.{little_number-reads_back}
use Rattle.isa_model.specs.declared.streams.Fault.{Fault}
use Rattle.isa_model.specs.declared.streams.Finish.{Finish}
use Rattle.isa_model.specs.declared.streams.Finish.TheVariants as finish
use Rattle.isa_model.specs.declared.versions.Version.TheVariants.{One, Two}
use Rattle.isa_model.specs.Code.Versions.{stream_magic, head_size}
use Rattle.isa_model.specs.Reporting.Streams.{PacketFrame, IsPacketFrame, max_frames, head_bytes, record_bytes, records_bytes, length_field, reason_field, InputEnding, ByEnd, ByError, Input, opened, stop_at, packet_frame_of, record_size, frames_from, stream_with, stream_opened, stream_of, AreOpen}

-- the length in a record's head is that of its body
pub length_field-record_bytes : (v : Version) (f : PacketFrame) (rest : List ℕ)
    → length f.body ≤ max_body v
    → length_field (record_bytes v f ++ rest) ≡ length f.body
unfolding head_bytes
length_field-record_bytes One f rest short =
    little_number-reads_back 4 (length f.body) (f.body ++ rest) (omega arith)
length_field-record_bytes Two f rest short =
    little_number-reads_back 4 (length f.body) [] (omega arith)

-- and the reason is the frame's
pub reason_field-record_bytes : (v : Version) (f : PacketFrame) (rest : List ℕ) → IsPacketFrame v f
    → reason_field v (record_bytes v f ++ rest) ≡ f.reason
unfolding head_bytes
reason_field-record_bytes One f rest ok = sym ok.reason
reason_field-record_bytes Two f rest ok = little_number-reads_back 4 f.reason [] ok.reason

-- what follows a record's head
pub drop-head_bytes : (v : Version) (f : PacketFrame) (rest : List ℕ)
    → drop (head_size v) (record_bytes v f ++ rest) ≡ f.body ++ rest
unfolding head_bytes
drop-head_bytes One f rest = refl
drop-head_bytes Two f rest = refl

-- a packet frame is read from its record
pub packet_frame_of-record_bytes : (v : Version) (f : PacketFrame) (rest : List ℕ)
    → IsPacketFrame v f → packet_frame_of v (record_bytes v f ++ rest) ≡ f
unfolding head_bytes
packet_frame_of-record_bytes v f rest ok =
    let time = little_number-reads_back 8 f.head.time [] ok.time in
    let interface = little_number-reads_back 4 f.head.interface [] ok.interface in
    let queue = little_number-reads_back 4 f.head.queue [] ok.queue in
    let reason = reason_field-record_bytes v f rest ok in
    let body : take (length_field (record_bytes v f ++ rest))
    (drop (head_size v) (record_bytes v f ++ rest)) ≡ f.body =
    rw (length_field-record_bytes v f rest ok.short, drop-head_bytes v f rest)
    (take_at f.body rest (length f.body) refl) in
    rw (time, interface, queue, body, reason) refl

-- what follows a record
pub drop-record_bytes : (v : Version) (f : PacketFrame) (rest : List ℕ)
    → drop (record_size v f) (record_bytes v f ++ rest) ≡ rest
drop-record_bytes v f rest =
    sym (drop-drop (length f.body) (head_size v) (record_bytes v f ++ rest))
    ∙ ap (λ (l : List ℕ). drop (length f.body) l) (drop-head_bytes v f rest)
    ∙ drop_at f.body rest (length f.body) refl

-- a record has a head and its body
pub length-record_bytes : (v : Version) (f : PacketFrame) (rest : List ℕ)
    → length (record_bytes v f ++ rest) ≡ record_size v f + length rest
unfolding head_bytes
length-record_bytes One f rest =
    let e = length-append f.body rest in let h : 20 + length (f.body ++ rest)
    ≡ 20 + (length f.body + length rest) = ap (λ n. 20 + n) e in
    omega (arith, h)
length-record_bytes Two f rest =
    let e = length-append f.body rest in let h : 24 + length (f.body ++ rest)
    ≡ 24 + (length f.body + length rest) = ap (λ n. 24 + n) e in
    omega (arith, h)

-- a head has bytes
pub some_head : (v : Version) → 20 ≤ head_size v
some_head One = omega arith
some_head Two = omega arith

-- a record has as many bytes as its size says
pub size-record_bytes : (v : Version) (f : PacketFrame)
    → length (record_bytes v f) ≡ record_size v f
unfolding head_bytes
size-record_bytes One f = omega arith
size-record_bytes Two f = omega arith

-- the stream does not stop where a head and all of its body are there
stop_at-none : (v : Version) (number offset : ℕ) (bytes : List ℕ) (e : InputEnding)
    → number ≢ max_frames → head_size v ≤ length bytes → length_field bytes ≤ max_body v
    → head_size v + length_field bytes ≤ length bytes → stop_at v number offset bytes e ≡ None
unfolding stop_at
stop_at-none v number offset [] e n p q r = let some = some_head v in absurd (omega arith)
stop_at-none v number offset (b ∷ bytes) e n p q r = grind (arith, nat_tests)

-- the stream does not stop where a record is there
pub stop_at-record_bytes : (v : Version) (number offset : ℕ) (f : PacketFrame) (rest : List ℕ)
    (e : InputEnding) → number < max_frames → IsPacketFrame v f
    → stop_at v number offset (record_bytes v f ++ rest) e ≡ None
stop_at-record_bytes v number offset f rest e early ok =
    let field = length_field-record_bytes v f rest ok.short in
    let total = length-record_bytes v f rest in
    let short = ok.short in
    stop_at-none v number offset (record_bytes v f ++ rest) e (omega arith) (omega arith)
    (omega arith) (omega arith)

-- a stream that stops has no more records
pub frames_from-stops : (fuel : ℕ) (v : Version) (number offset : ℕ) (bytes : List ℕ)
    (e : InputEnding) (stop : Finish) → stop_at v number offset bytes e ≡ Some stop
    → frames_from (suc fuel) v number offset bytes e ≡ ([], stop)
unfolding frames_from
frames_from-stops fuel v number offset bytes e stop h = rw (h, frames_from) refl

-- the packet frames after the one at the front
abbrev pub frames_behind : ℕ → Version → ℕ → ℕ → List ℕ → InputEnding → List PacketFrame × Finish
frames_behind fuel v number offset bytes e =
    let size = record_size v (packet_frame_of v bytes) in
    frames_from fuel v (number + 1) (offset + size) (drop size bytes) e

abbrev with_frame : PacketFrame → List PacketFrame × Finish → List PacketFrame × Finish
with_frame f t = (f ∷ t.0, t.1)

-- a stream that goes on has the record at its front, and then those after it
pub frames_from-goes_on : (fuel : ℕ) (v : Version) (number offset : ℕ) (bytes : List ℕ)
    (e : InputEnding) → stop_at v number offset bytes e ≡ None
    → frames_from (suc fuel) v number offset bytes e
    ≡ (
      packet_frame_of v bytes ∷ (frames_behind fuel v number offset bytes e).0,
      (frames_behind fuel v number offset bytes e).1,
    )
unfolding frames_from
frames_from-goes_on fuel v number offset bytes e h = rw (h, frames_from) refl

-- no bytes at all
frames_from-nil : (fuel more : ℕ) (v : Version) (number offset : ℕ) (e : InputEnding)
    → frames_from (suc fuel) v number offset [] e ≡ frames_from (suc more) v number offset [] e
unfolding frames_from stop_at
frames_from-nil fuel more v number offset ByEnd = refl
frames_from-nil fuel more v number offset ByError = refl

-- fuel beyond the number of bytes changes nothing
pub frames_from-fuel : (fuel more : ℕ) (v : Version) (number offset : ℕ) (bytes : List ℕ)
    (e : InputEnding) → length bytes < fuel → length bytes < more
    → frames_from fuel v number offset bytes e ≡ frames_from more v number offset bytes e
frames_from-fuel zero more v number offset bytes e a b = absurd (omega arith)
frames_from-fuel (suc fuel) zero v number offset bytes e a b = absurd (omega arith)
frames_from-fuel (suc fuel) (suc more) v number offset [] e a b =
    frames_from-nil fuel more v number offset e
frames_from-fuel (suc fuel) (suc more) v number offset (x ∷ xs) e a b =
    let bytes = x ∷ xs in
    let size = record_size v (packet_frame_of v bytes) in
    let some = some_head v in
    let less : length (drop size bytes) < suc (length xs) = omega (arith, length-drop size bytes) in
    let same : frames_behind fuel v number offset bytes e
    ≡ frames_behind more v number offset bytes e =
    frames_from-fuel fuel more v (number + 1) (offset + size) (drop size bytes) e (omega arith)
    (omega arith) in
    go (stop_at v number offset bytes e) refl same
  where
    go : (o : Option Finish) → stop_at v number offset (x ∷ xs) e ≡ o
        → frames_behind fuel v number offset (x ∷ xs) e
        ≡ frames_behind more v number offset (x ∷ xs) e
        → frames_from (suc fuel) v number offset (x ∷ xs) e
        ≡ frames_from (suc more) v number offset (x ∷ xs) e
    go None h same =
        frames_from-goes_on fuel v number offset (x ∷ xs) e h
        ∙ ap (with_frame (packet_frame_of v (x ∷ xs))) same
        ∙ sym (frames_from-goes_on more v number offset (x ∷ xs) e h)
    go (Some stop) h same = frames_from-stops fuel v number offset (x ∷ xs) e stop h
        ∙ sym (frames_from-stops more v number offset (x ∷ xs) e stop h)

-- a stream that begins with a record has that record, and then the records after it
pub frames_from-record_bytes : (fuel more : ℕ) (v : Version) (number offset : ℕ) (f : PacketFrame)
    (rest : List ℕ) (e : InputEnding) → number < max_frames → IsPacketFrame v f
    → length (record_bytes v f ++ rest) < fuel → length rest < more
    → frames_from fuel v number offset (record_bytes v f ++ rest) e
    ≡ with_frame f (frames_from more v (number + 1) (offset + record_size v f) rest e)
frames_from-record_bytes zero more v number offset f rest e early ok a b = absurd (omega arith)
frames_from-record_bytes (suc fuel) more v number offset f rest e early ok a b =
    let bytes = record_bytes v f ++ rest in
    let total = length-record_bytes v f rest in
    let some = some_head v in
    let here : packet_frame_of v bytes ≡ f = packet_frame_of-record_bytes v f rest ok in
    let left : drop (record_size v f) bytes ≡ rest = drop-record_bytes v f rest in
    frames_from-goes_on fuel v number offset bytes e
    (stop_at-record_bytes v number offset f rest e early ok)
    ∙ ap (λ (g : PacketFrame). with_frame g
    (frames_from fuel v (number + 1) (offset + record_size v g) (drop (record_size v g) bytes) e))
    here
    ∙ ap (λ (l : List ℕ). with_frame f
    (frames_from fuel v (number + 1) (offset + record_size v f) l e)) left
    ∙ ap (with_frame f)
    (frames_from-fuel fuel more v (number + 1) (offset + record_size v f) rest e (omega arith) b)

-- none was read yet
pub AreOpen-nil : (v : Version) → AreOpen v []
AreOpen-nil v = record { few = omega arith; fit = All-nil (IsPacketFrame v) }

-- one more packet frame is allowed there, while there are not too many
pub AreOpen-push : (v : Version) (frames : List PacketFrame) (f : PacketFrame) → AreOpen v frames
    → length frames < max_frames → IsPacketFrame v f → AreOpen v (frames ++ f ∷ [])
AreOpen-push v frames f h below ok = record {
  few = omega (arith, length-append frames (f ∷ []));
  fit = All-push (IsPacketFrame v) frames f h.fit ok;
}

abbrev with_frames : List PacketFrame → List PacketFrame × Finish → List PacketFrame × Finish
with_frames fs t = (fs ++ t.0, t.1)

-- a stream that begins with these records has them, and then those after them
pub frames_from-records : (fs : List PacketFrame) (fuel more : ℕ) (v : Version) (number offset : ℕ)
    (rest : List ℕ) (e : InputEnding)
    → number + length fs ≤ max_frames → All (IsPacketFrame v) fs
    → length (records_bytes v fs ++ rest) < fuel → length rest < more
    → frames_from fuel v number offset (records_bytes v fs ++ rest) e
    ≡ with_frames fs
    (frames_from more v (number + length fs) (offset + length (records_bytes v fs)) rest e)
frames_from-records [] fuel more v number offset rest e few ok a b =
    rw (add-zero number, add-zero offset) (frames_from-fuel fuel more v number offset rest e a b)
frames_from-records (f ∷ fs) fuel more v number offset rest e few ok a b =
    let behind = records_bytes v fs ++ rest in
    let apart : records_bytes v (f ∷ fs) ++ rest ≡ record_bytes v f ++ behind =
    append_assoc (record_bytes v f) (records_bytes v fs) rest in
    let long : length (record_bytes v f ++ behind) < fuel =
    subst (λ (l : List ℕ). length l < fuel) apart a in
    let total = size-record_bytes v f in
    let both = length-append (record_bytes v f) (records_bytes v fs) in
    let numbers : (number + 1) + length fs ≡ number + length (f ∷ fs) = omega arith in
    let offsets : (offset + record_size v f) + length (records_bytes v fs)
    ≡ offset + length (records_bytes v (f ∷ fs)) = omega arith in
    ap (λ l. frames_from fuel v number offset l e) apart
    ∙ frames_from-record_bytes fuel (suc (length behind)) v number offset f behind e (omega arith)
    (All-head (IsPacketFrame v) f fs ok) long (omega arith)
    ∙ ap (with_frame f)
    (frames_from-records fs (suc (length behind)) more v (number + 1)
    (offset + record_size v f) rest e (omega arith) (All-tail (IsPacketFrame v) f fs ok)
    (omega arith) b)
    ∙ ap (λ n. with_frames (f ∷ fs)
    (frames_from more v n ((offset + record_size v f) + length (records_bytes v fs)) rest e))
    numbers
    ∙ ap (λ n. with_frames (f ∷ fs) (frames_from more v (number + length (f ∷ fs)) n rest e))
    offsets

-- the magic opens a stream of its version
pub opened-magic : (v : Version) (rest : List ℕ) (e : InputEnding)
    → opened (stream_magic v ++ rest) e ≡ Ok v
unfolding opened
opened-magic One rest e =
    let long : nat_lt (length (stream_magic One ++ rest)) 4 ≡ false =
    le-ltb _ _ (omega (arith, length-append (stream_magic One) rest)) in
    rw long refl
opened-magic Two rest e =
    let long : nat_lt (length (stream_magic Two ++ rest)) 4 ≡ false =
    le-ltb _ _ (omega (arith, length-append (stream_magic Two) rest)) in
    rw long refl

-- what follows the magic
pub drop-magic : (v : Version) (rest : List ℕ) → drop 4 (stream_magic v ++ rest) ≡ rest
drop-magic One rest = refl
drop-magic Two rest = refl

-- the stream of an input that begins with the magic
stream_of-magic : (v : Version) (rest : List ℕ) (e : InputEnding)
    → stream_of (record { bytes = stream_magic v ++ rest; ending = e })
    ≡ stream_with v (frames_from (suc (length (stream_magic v ++ rest))) v 0 4 rest e)
stream_of-magic v rest e =
    let input : Input = record { bytes = stream_magic v ++ rest; ending = e } in
    ap (stream_opened input) (opened-magic v rest e)
    ∙ ap (λ (l : List ℕ). stream_with v
    (frames_from (suc (length (stream_magic v ++ rest))) v 0 4 l e)) (drop-magic v rest)

-- the position in a stream after these records
abbrev pub offset_after : Version → List PacketFrame → ℕ
offset_after v frames = 4 + length (records_bytes v frames)

-- the stream of an input that begins with these records has them, and then those after them
pub stream_of-records : (v : Version) (fs : List PacketFrame) (rest : List ℕ) (e : InputEnding)
    → AreOpen v fs
    → stream_of (record { bytes = stream_magic v ++ (records_bytes v fs ++ rest); ending = e })
    ≡ stream_with v
    (with_frames fs (frames_from (suc (length rest)) v (length fs) (offset_after v fs) rest e))
stream_of-records v fs rest e ok =
    let bytes = records_bytes v fs ++ rest in
    let total = length-append (stream_magic v) bytes in
    let few : 0 + length fs ≤ max_frames = let h = ok.few in omega (arith, h) in
    let same : 0 + length fs ≡ length fs = omega arith in
    let all = frames_from-records fs (suc (length (stream_magic v ++ bytes)))
    (suc (length rest)) v 0 4 rest e few ok.fit (omega arith) (omega arith) in
    stream_of-magic v bytes e
    ∙ ap (stream_with v) all
    ∙ ap (λ n. stream_with v
    (with_frames fs (frames_from (suc (length rest)) v n (offset_after v fs) rest e))) same

-- the stream of an input that stops after these records has them, and ends as it stops
pub stream_of-stops : (v : Version) (fs : List PacketFrame) (rest : List ℕ) (e : InputEnding)
    (stop : Finish) → AreOpen v fs
    → stop_at v (length fs) (offset_after v fs) rest e ≡ Some stop
    → stream_of (record { bytes = stream_magic v ++ (records_bytes v fs ++ rest); ending = e })
    ≡ stream_with v (fs, stop)
stream_of-stops v fs rest e stop ok h =
    stream_of-records v fs rest e ok
    ∙ ap (λ (t : List PacketFrame × Finish). stream_with v (with_frames fs t))
    (frames_from-stops (length rest) v (length fs) (offset_after v fs) rest e stop h)
    ∙ ap (λ (l : List PacketFrame). stream_with v (l, stop)) (append-nil fs)

-- the stream of an input whose magic cannot be read has no frames
pub stream_of-unopened : (input : Input) (fault : Fault)
    → opened input.bytes input.ending ≡ Err fault
    → stream_of input ≡ stream_with One ([], finish.Fault fault 0)
stream_of-unopened input fault h = ap (stream_opened input) h
