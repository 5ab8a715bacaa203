-- Worked examples of frame streams, computed from the definitions. docs/FORMATS.md.
use Rattle.std.specs.Prelude.{◌≡◌, ℕ, List, [], ◌∷◌, ◌++◌, length, map, take, replicate, codes, Some, None, refl}
use Rattle.std.specs.List.{range_with_len}
use Rattle.byteorder.specs.Endian.{little_bytes}
use Rattle.isa_model.specs.declared.streams.Fault.TheVariants.{BadMagic, TruncatedHead, TooLong, TruncatedBody, ReadFailed, TooManyRecords}
use Rattle.isa_model.specs.declared.streams.Finish.{Finish}
use Rattle.isa_model.specs.declared.streams.Finish.TheVariants as finish
use Rattle.isa_model.specs.Code.Versions.{stream_magic}
use Rattle.isa_model.specs.declared.versions.Version.TheVariants.{One, Two}
use Rattle.isa_model.specs.Reporting.Streams.{PacketFrame, max_frames, InputEnding, ByEnd, ByError, head_bytes, record_bytes, opened, stop_at, frames_from, stream_of}
use Rattle.isa_model.specs.Worked.Examples.{zeros}

-- the magic, and two records without a body
abbrev pub two_frame_stream : List ℕ
two_frame_stream = stream_magic One ++ zeros 40

-- how many records these bytes have, and how their stream ends
abbrev pub summary_of : List ℕ → InputEnding → ℕ × Finish
summary_of bytes ending =
    let found = stream_of (record { bytes = bytes; ending = ending }) in
    (length found.frames, found.finish)

-- that stream, cut after 0, 1, .. 44 bytes
pub cuts_by_an_end : map (λ n. summary_of (take n two_frame_stream) ByEnd) (range_with_len 0 45)
    ≡ replicate 4 (0, finish.Fault BadMagic 0)
    ++ (0, finish.End) ∷ replicate 19 (0, finish.Fault TruncatedHead 4)
    ++ (1, finish.End) ∷ replicate 19 (1, finish.Fault TruncatedHead 24) ++ (2, finish.End) ∷ []
unfolding frames_from opened stop_at
cuts_by_an_end = refl

-- and by an error of the reader
pub cuts_by_an_error : map (λ n. summary_of (take n two_frame_stream) ByError)
    (range_with_len 0 45)
    ≡ replicate 4 (0, finish.Fault ReadFailed 0) ++ replicate 20 (0, finish.Fault ReadFailed 4)
    ++ replicate 20 (1, finish.Fault ReadFailed 24) ++ (2, finish.Fault ReadFailed 44) ∷ []
unfolding frames_from opened stop_at
cuts_by_an_error = refl

-- another byte at each index of the magic, also where an error follows
pub other_magic : map (λ magic. summary_of (magic ++ zeros 20) ByEnd)
    (codes "xPF1" ∷ codes "XpF1" ∷ codes "XPf1" ∷ codes "XPF3" ∷ [])
    ≡ replicate 4 (0, finish.Fault BadMagic 0)
unfolding frames_from opened stop_at
other_magic = refl

pub other_magic_and_an_error : summary_of (codes "XPF0") ByError ≡ (0, finish.Fault BadMagic 0)
unfolding frames_from opened stop_at
other_magic_and_an_error = refl

-- ---- a record

-- a frame whose head's bytes count up from 1, with a body of two bytes
abbrev pub frame : PacketFrame
frame = record {
  head = record {
    time = 0x0807060504030201;
    interface = 0x0c0b0a09;
    queue = 0x100f0e0d;
  };
  body = 0xaa ∷ 0xbb ∷ [];
  reason = 0;
}

-- the time, the interface and the queue, then the length and the body
abbrev pub one_record : List ℕ
one_record = range_with_len 1 16 ++ 2 ∷ 0 ∷ 0 ∷ 0 ∷ 0xaa ∷ 0xbb ∷ []

pub record_written : record_bytes One frame ≡ one_record
unfolding head_bytes
record_written = refl

pub record_read : stream_of
    (record { bytes = stream_magic One ++ one_record ++ one_record; ending = ByEnd })
    ≡ record { version = One; frames = frame ∷ frame ∷ []; finish = finish.End }
unfolding frames_from opened stop_at
record_read = refl

-- ---- faults of the body

-- the head of a record whose body has n bytes, all other fields 0
abbrev pub head_of : ℕ → List ℕ
head_of n = zeros 16 ++ little_bytes 4 n

-- a length over 4,096 is a fault as soon as the head is whole, whatever follows; 4,096 is not
pub lengths : map (λ n. stop_at One 0 4 (head_of n) ByEnd) (4096 ∷ 4097 ∷ 65536 ∷ 4294967295 ∷ [])
    ≡ Some (finish.Fault TruncatedBody 4) ∷ Some (finish.Fault TooLong 4)
    ∷ Some (finish.Fault TooLong 4) ∷ Some (finish.Fault TooLong 4) ∷ []
unfolding stop_at
lengths = refl

pub length_before_an_error : stop_at One 0 4 (head_of 4097) ByError
    ∷ stop_at One 0 4 (head_of 4096) ByError ∷ []
    ≡ Some (finish.Fault TooLong 4) ∷ Some (finish.Fault ReadFailed 4) ∷ []
unfolding stop_at
length_before_an_error = refl

-- a body of three bytes, cut after 0 to 3
pub bodies_cut_by_an_end : map (λ n. stop_at One 7 24 (head_of 3 ++ zeros n) ByEnd)
    (0 ∷ 1 ∷ 2 ∷ 3 ∷ []) ≡ replicate 3 (Some (finish.Fault TruncatedBody 24)) ++ None ∷ []
unfolding stop_at
bodies_cut_by_an_end = refl

pub bodies_cut_by_an_error : map (λ n. stop_at One 7 24 (head_of 3 ++ zeros n) ByError)
    (0 ∷ 1 ∷ 2 ∷ 3 ∷ []) ≡ replicate 3 (Some (finish.Fault ReadFailed 24)) ++ None ∷ []
unfolding stop_at
bodies_cut_by_an_error = refl

-- a record is read whole before an error after it
pub error_behind_a_record : summary_of (stream_magic One ++ head_of 3 ++ zeros 3) ByError
    ≡ (1, finish.Fault ReadFailed 27)
unfolding frames_from opened stop_at
error_behind_a_record = refl

-- ---- too many records

-- after the last record that is allowed: one byte more, whatever it begins and however the bytes
-- end; and no byte more
pub one_record_too_many : stop_at One max_frames 24 (0 ∷ []) ByEnd
    ∷ stop_at One max_frames 24 (0 ∷ []) ByError ∷ stop_at One max_frames 24 (head_of 4097) ByEnd
    ∷ []
    ≡ replicate 3 (Some (finish.Fault TooManyRecords 24))
unfolding stop_at
one_record_too_many = refl

pub no_record_too_many : stop_at One max_frames 24 [] ByEnd ∷ stop_at One max_frames 24 [] ByError
    ∷ stop_at One 4294967294 24 (zeros 20) ByEnd ∷ []
    ≡ Some finish.End ∷ Some (finish.Fault ReadFailed 24) ∷ None ∷ []
unfolding stop_at
no_record_too_many = refl

-- ---- streams of version 2

-- a frame with a reason
abbrev pub dropped : PacketFrame
dropped = record { head = frame.head; body = 0xaa ∷ 0xbb ∷ []; reason = 0x08070605 }

-- the reason comes after the length
abbrev pub dropped_bytes : List ℕ
dropped_bytes = range_with_len 1 16 ++ 2 ∷ 0 ∷ 0 ∷ 0 ∷ 5 ∷ 6 ∷ 7 ∷ 8 ∷ 0xaa ∷ 0xbb ∷ []

pub dropped_written : record_bytes Two dropped ≡ dropped_bytes
unfolding head_bytes
dropped_written = refl

pub dropped_read : stream_of
    (record { bytes = stream_magic Two ++ dropped_bytes ++ dropped_bytes; ending = ByEnd })
    ≡ record { version = Two; frames = dropped ∷ dropped ∷ []; finish = finish.End }
unfolding frames_from opened stop_at
dropped_read = refl

-- a record without a body, cut after 0, 1, .. 24 bytes, by an end and by an error
pub heads_cut : map (λ n. summary_of (stream_magic Two ++ zeros n) ByEnd) (range_with_len 0 25)
    ≡ (0, finish.End) ∷ replicate 23 (0, finish.Fault TruncatedHead 4) ++ (1, finish.End) ∷ []
unfolding frames_from opened stop_at
heads_cut = refl

pub heads_cut_by_an_error : map (λ n. summary_of (stream_magic Two ++ zeros n) ByError)
    (range_with_len 0 25)
    ≡ replicate 24 (0, finish.Fault ReadFailed 4) ++ (1, finish.Fault ReadFailed 28) ∷ []
unfolding frames_from opened stop_at
heads_cut_by_an_error = refl

-- 9,216 bytes are no more than a frame may have, and 9,217 are
pub longer_lengths : map (λ n. stop_at Two 0 4 (head_of n ++ zeros 4) ByEnd)
    (4097 ∷ 9216 ∷ 9217 ∷ 4294967295 ∷ [])
    ≡ Some (finish.Fault TruncatedBody 4) ∷ Some (finish.Fault TruncatedBody 4)
    ∷ Some (finish.Fault TooLong 4) ∷ Some (finish.Fault TooLong 4) ∷ []
unfolding stop_at
longer_lengths = refl

-- a length that no body has counts only where all of the head is there, with its reason
pub length_before_the_reason : stop_at Two 0 4 (head_of 9217) ByEnd
    ∷ stop_at Two 0 4 (head_of 9217) ByError ∷ []
    ≡ Some (finish.Fault TruncatedHead 4) ∷ Some (finish.Fault ReadFailed 4) ∷ []
unfolding stop_at
length_before_the_reason = refl
