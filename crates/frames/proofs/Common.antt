-- The names that most proofs of this crate cite, passed on from one place. Declares nothing.
pub use Rattle.std.proofs.Common.{◌≡◌, ℕ, ◌+◌, ◌-◌, ◌≤◌, ◌==◌, Bool, true, false, if◌then◌else◌, List, [], ◌++◌, length, take, drop, slice_range, Option, Some, None, refl, sym, ap, ◌∙◌, subst, append_assoc, arith, ◌≢◌, ◌<◌, ◌^◌, ◌∷◌, nat_eq, Ok, Err, append-nil, length-append, inl, inr, All, Result, ◌⊎◌, OnOk, OnErr, zero, suc, nat_lt, le-ltb, min, length-drop, le_refl, rules}
pub use Rattle.std.proofs.KnownBytes.{Consumes-trans}
pub use Rattle.std.proofs.lemmas.List.{drop-take, length-take-le, take_at, take-append-drop, get_or_append_left, take-take, drop_at, take-append-le}
pub use Rattle.std.specs.Io.Buffered.{reader_buffer, reader_capacity, reader_inner, reader_remaining}
pub use Rattle.std.specs.Io.KnownBytes.{Consumes, prepend_known, IsAtEnd, Appends, ReadConsumes}
pub use Rattle.isa_model.proofs.StreamLaws.{some_head, AreOpen-nil, AreOpen-push, size-record_bytes, offset_after, stream_of-stops, stream_of-unopened}
pub use Rattle.isa_model.specs.Code.Versions.{stream_magic, head_size}
pub use Rattle.isa_model.specs.Reporting.Streams.{IsPacketFrame, ReasonFits, max_frames, cut_by, length_field, InputEnding, ByEnd, ByError, PacketFrame, Input, record_bytes, records_bytes, record_size, Stream, stream_with, stream_of, AreOpen, stream_bytes, packet_frame_of, stream_opened}
unfoldable pub use Rattle.isa_model.specs.Reporting.Streams.{head_bytes, stop_at, opened, frames_from}
pub use Rattle.isa_model.specs.declared.streams.Fault.TheVariants.{BadMagic, TruncatedHead, TooLong, TruncatedBody, ReadFailed, TooManyRecords}
pub use Rattle.isa_model.specs.declared.streams.Finish.{Finish}
pub use Rattle.isa_model.specs.declared.versions.Version.{Version}
pub use Rattle.isa_model.specs.declared.versions.Version.TheVariants.{One, Two}
pub use Rattle.frames.specs.Reading.{ReadsMagic, MayOpen, FindsNext, StopsReading, CanStop, Found, Stopped, OpensStream, position_opened, begun_at, IsOpen, MayEnd, next_position, Finds}
