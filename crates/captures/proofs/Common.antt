-- The names that most proofs of this crate cite, passed on from one place. Declares nothing.
pub use Rattle.std.proofs.Common.{◌≡◌, ℕ, zero, suc, ◌+◌, ◌<◌, ◌≤◌, List, [], ◌∷◌, ◌++◌, length, take, drop, Bool, true, false, Result, Ok, Err, refl, sym, ap, ◌∙◌, arith, le-ltb, lt-ltb, ltb-false, length-drop, inl, inr, nat_lt, if◌then◌else◌, ◌-◌, Option, Some, None, append_assoc, subst, append-nil, length-append, cond, IfSome, max, IfOk, min, slice_range, replicate, ◌*◌, get_or, ◌%◌, ◌^◌, ◌==◌, not, ◌/◌, ltb-true, eq-eqb, codes, decimal, slice_get, OnErr, map, All, le-leb, ◌&&◌, nat_le, option_map, OnOk, rules, ◌≢◌, take-append-drop}
pub use Rattle.std.proofs.KnownBytes.{Keeps-trans, Appends-kept, Appends-trans, Appends-nil}
pub use Rattle.std.proofs.Math.Logic.{∥∥₁_map}
pub use Rattle.std.proofs.Math.Seq.{take-length, take-append-add}
pub use Rattle.std.proofs.lemmas.Bool.{cases_lt, leb-true}
pub use Rattle.std.proofs.lemmas.Bool.Decides.{nat_tests}
pub use Rattle.std.proofs.lemmas.List.{take-append-le, take_at, drop_at, length-take-le, drop-append-le, drop-take, drop_min, take_min, length-replicate, take_all, take-replicate}
pub use Rattle.std.proofs.lemmas.Slice.{take-put_mid}
pub use Rattle.std.specs.Io.KnownBytes.{Consumes, Keeps, prepend_known, Appends, IsAtEnd}
pub use Rattle.std.specs.List.{count_by, flat_map, list_all}
pub use Rattle.byteorder.specs.Endian.{big_number, little_number, little_bytes, little_from}
pub use Rattle.byteorder.specs.Numbers.{big_from-append, little_from-append, little_number-reads_back}
pub use Rattle.exact_io.specs.Transfers.{AppendsBeginning}
pub use Rattle.exact_io.specs.Waiting.{held}
pub use Rattle.isa_model.specs.Code.Limits.{max_body, max_packet}
pub use Rattle.isa_model.specs.Reporting.Streams.{PacketFrame, max_frames, stream_with, IsPacketFrame, record_bytes, records_bytes}
unfoldable pub use Rattle.isa_model.specs.Reporting.Streams.{head_bytes}
pub use Rattle.isa_model.specs.declared.versions.Version.TheVariants.{One, Two}
pub use borrow.Rule.Slice.PartMut.{put_mid, post_of}
pub use Rattle.captures.specs.CaptureBytes.{pcap_head, pcap_packet, pcap_second, block_length, interface_block, named_interface, packet_block, padding, reason_comment, reason_options, section_block, CaptureSoFar, capture_of, described_after, empty_capture, file_start, is_kept, packet_spelled, with_packet, with_frame}
unfoldable pub use Rattle.captures.specs.CaptureBytes.{packet_head, block_head, interface_blocks, packet_options, with_frames}
pub use Rattle.captures.specs.Captured.{begun_by, head_size, max_record, record_size, SaidRecord, record_said, FoundRecord, found_said, found_sized, moved, first_offset, captured, captured_by, said_of_block}
unfoldable pub use Rattle.captures.specs.Captured.{begun, first_record, packets_from}
pub use Rattle.captures.specs.Collecting.{Collects, IsCollected}
pub use Rattle.captures.specs.FrameBytes.{stream_rest, no_head}
pub use Rattle.captures.specs.Links.{ethernet_frame, ethernet_head, link_of, interface_of, null_type, loop_type}
pub use Rattle.captures.specs.Pcap.{CapturedPacket, max_captured, captured_length, packet_size, field, nanoseconds, packet_bytes, packet_of, with_link, with_start}
unfoldable pub use Rattle.captures.specs.Pcap.{opened, pcap_start}
pub use Rattle.captures.specs.Pcapng.{is_section, least_size, short_field, option_value, interface_options, interface_in, scale_by, offset_by, packet_by, padded, option_values, section_order, block_order, sized_by, max_block, PcapngSection, says_nothing, said_in, said_by, max_interfaces, first_reason, option_reason, reason_in, reason_number, reason_said, units_per_second}
unfoldable pub use Rattle.captures.specs.Pcapng.{block_size, option_in, options_in, block_said}
pub use Rattle.captures.specs.ReadBack.{read_back, reason_back, kept_frames}
pub use Rattle.captures.specs.Reading.{Before, Past, CaptureFinding, FoundEnd, Unread, FindsPacket, then_packets, IsRecordPart, CaptureState, IsOpened, OpensCapture, packets_left, CapturePosition, bytes_left, FoundPacket}
pub use Rattle.captures.specs.Texts.{row_at, byte_column, shown_byte, blank_columns, byte_digits, reason_text, row_count}
unfoldable pub use Rattle.captures.specs.Texts.{head_line, rows_text, row_line}
pub use Rattle.captures.specs.declared.forms.CaptureFormat.{CaptureFormat}
pub use Rattle.captures.specs.declared.forms.CaptureRefusal.TheVariants.{TruncatedFileHead, NoCapture, UnknownLink}
pub use Rattle.captures.specs.declared.forms.LinkType.{LinkType}
pub use Rattle.captures.specs.declared.forms.NumberOrder.{NumberOrder}
pub use Rattle.captures.specs.declared.forms.NumberOrder.TheVariants.{HighFirst, LowFirst}
pub use Rattle.captures.specs.declared.forms.PcapForm.{PcapForm}
pub use Rattle.captures.specs.declared.forms.PcapngForm.{PcapngForm}
pub use Rattle.captures.specs.declared.forms.Reasons.{Reasons}
pub use Rattle.captures.specs.declared.interfaces.Interface.{Interface}
pub use Rattle.captures.specs.declared.kinds.CaptureKind.TheVariants.{Pcap, Pcapng}
pub use Rattle.captures.specs.declared.packets.PacketEnd.{PacketEnd}
pub use Rattle.captures.specs.declared.packets.PacketFault.{PacketFault}
pub use Rattle.captures.specs.declared.packets.PacketFault.TheVariants.{TruncatedRecord, TooLong, TruncatedPacket, BadBlock}
