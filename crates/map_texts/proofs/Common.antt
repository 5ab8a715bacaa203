-- The names that most proofs of this crate cite, passed on from one place. Declares nothing.
pub use Rattle.std.proofs.Common.{◌≡◌, ℕ, ◌+◌, ◌≤◌, List, [], ◌++◌, length, take, drop, Option, Some, None, Result, Err, unwrap_or, refl, sym, ap, ◌∙◌, subst, append_assoc, append-nil, IfSome, ◌<◌, ◌∷◌, true, false, arith, nat_lt, zero, suc, map, get_or, cond, add-zero, All, ◌≢◌, Bool, nat_eq, slice_set, slice_index_or, if◌then◌else◌, ◌-◌, ◌^◌, ◌⊎◌, inl, inr, is_some, T, Contains, nat_le, ◌*◌, ◌/◌, ◌%◌, length-append, not, slice_index, decimal, codes, min, slice_range, length-take, le_refl, le_of_eq, rules, max}
pub use Rattle.std.proofs.KnownBytes.{Appends-trans, Consumes-trans, Appends-nil}
pub use Rattle.std.proofs.lemmas.List.{take_at, drop_at, take-append-le, length-take-le, drop_more, get_or-map, length-map, take_more, take_all, take-append-drop, set-get_or, drop-drop, length-drop}
pub use Rattle.std.proofs.lemmas.List.Elements.{All-nil, All-cons, All-head, All-tail, All-weaker, All-get_or, All-map, All-contains, All-append, All-more, All-take}
pub use Rattle.std.specs.Io.KnownBytes.{Consumes, IsAtEnd, Appends}
pub use Rattle.std.specs.List.{slice_split, slice_get, filter_map, cons_option, range_with_len, flat_map, prefix_len}
pub use Rattle.hex.specs.Hex.{encode_lower, lower_digits, hex_digit_value, is_hex_digit}
unfoldable pub use Rattle.hex.specs.Hex.{encode_with}
pub use Rattle.isa_model.specs.Code.MapRows.{KeyFits, IsRow}
pub use Rattle.isa_model.specs.Machine.MachineStates.{IsKeyValue, FitsRow, AreBytes, KeysFit, keys_of, FitRows}
pub use Rattle.isa_model.specs.Machine.MapContents.{key_order, is_key, update_answer, after_update, at_key, has_key, with_key, update_answer_by, hash_update, array_update}
pub use Rattle.isa_model.specs.Machine.States.{KeyValues}
pub use Rattle.isa_model.specs.Reporting.Reports.{ToReport, report_part, map_pieces, maps_pieces, key_value_by_index, in_report_order, starting_key_values, starting_contents}
unfoldable pub use Rattle.isa_model.specs.Reporting.Reports.{map_line}
pub use Rattle.isa_model.specs.Reporting.Streams.{ByEnd, ByError, InputEnding}
pub use Rattle.isa_model.specs.declared.map_defs.MapDef.{MapDef}
pub use Rattle.maps.proofs.MapLaws.{FitsRow-IsMap, contents_of-at, contents_of-set, rows_of-set, FitRows-IsMap, length-rows_of}
pub use Rattle.maps.specs.Maps.{MapState, rows_of, contents_of, map_at, IsMap, content_in, ordered_in, Updated}
pub use Rattle.map_texts.specs.Fillings.{after_line, is_line_feed, filled_by, accepted, refused, after_meaning, after_cut_line, FilledMaps, updated, after_last_line, and_then}
unfoldable pub use Rattle.map_texts.specs.Fillings.{after_lines}
pub use Rattle.map_texts.specs.Lines.{is_passed, is_too_long, longest_line, map_line_meaning, Update, row_meaning, sized_meaning, is_digit, is_field_byte, field, after_field, number_from, field_number, field_bytes, line_size, longest_from, index_field, key_field, value_field, key_column, most_line_size}
unfoldable pub use Rattle.map_texts.specs.Lines.{line_meaning}
pub use Rattle.map_texts.specs.Listings.{FitListing, lines_of, ReadsBack, text_of}
pub use Rattle.map_texts.specs.Progress.{GoesOnReading, StopsFilling, IsPending, HasNoFeed, NoFeed, left_of, AreTakenTo, Keeps, KeepsBy, ArePending}
pub use Rattle.map_texts.specs.declared.errors.MapTextError.{MapTextError}
pub use Rattle.map_texts.specs.declared.errors.MapTextErrorKind.TheVariants.{ReadFailed, LongLine, NoMap, KeySize, ValueSize, NoRoom}
