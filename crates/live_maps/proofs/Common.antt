-- The names that most proofs of this crate cite, passed on from one place. Declares nothing.
pub use Rattle.std.proofs.Common.{◌≡◌, ◌≢◌, Bool, true, false, ℕ, zero, suc, ◌+◌, ◌-◌, ◌*◌, ◌<◌, ◌≤◌, List, [], ◌∷◌, ◌++◌, take, drop, length, Some, refl, sym, ap, subst, ◌∙◌, inl, inr, arith, min, slice_get, slice_set, slice_index_or, vec_capacity, map, IsSomeAnd, Option, None, cond, ◌==◌, T, ◌&&◌, nat_lt, not, All, is_some, nat_le, ◌⊎◌, append_assoc, if◌then◌else◌, IfSome, vec_len, rules, ◌^◌, ◌/◌}
pub use Rattle.std.proofs.Math.Dec.{eqb}
pub use Rattle.std.proofs.Math.ListN.{get_or-map, get_or-append}
pub use Rattle.std.proofs.lemmas.Bool.{cases_lt, eqb-true, eqb-false}
pub use Rattle.std.proofs.lemmas.Bool.Decides.{nat_tests}
pub use Rattle.std.proofs.lemmas.List.{get_or_past, length-set, get_or-set_same, get_or-set_other, set-get_or, length-map, get_or_default, take_all, get_or_append_left, get_or_push, map-set, append-nil, get_or-append_right, length-append, take-set-le, take_more, take_more_set, nil_from_length, with_items_is, get_or-replicate, length-take}
pub use Rattle.std.proofs.lemmas.List.Edits.{insert-append_left, insert-append_right, length-insert, length-remove}
pub use Rattle.std.proofs.lemmas.List.FromFn.{length-range_with_len, get_or-range_with_len}
pub use Rattle.std.proofs.lemmas.Option.{slice_get-get_or, slice_get_within, get_or_from_slice_get}
pub use Rattle.std.specs.Cmp.Lexicographic.{nat_list_cmp_total}
pub use Rattle.std.specs.FinMap.{entries, get, len-empty, len-entries, entries-insert, values, get-entries, entries_sorted}
pub use Rattle.std.specs.FinMap.Entries.{find, is_sorted, below_all, find-put, find-where_key, is_sorted-put, is_sorted-where_key, put, same_entries, where_key}
pub use Rattle.std.specs.List.{concat, insert, remove, position, position_or_len, splice, filter, range_with_len}
pub use Rattle.std.specs.Option.{option_map}
pub use Rattle.std.specs.Prelude.{unwrap_or}
pub use Rattle.std.specs.declared.alloc.Global.{Global}
pub use Rattle.std.specs.declared.cmp.Ordering.TheVariants.{Less, Equal, Greater}
pub use Rattle.std.specs.declared.vec.Vec.{Vec}
pub use Rattle.isa_model.specs.Machine.MapContents.{key_order, is_key, at_key, with_key, without_key, update_answer, delete_answer, update_answer_by, delete_answer_by}
pub use Rattle.isa_model.specs.Machine.Memory.{index_of_serial, key_value_at, put_value}
pub use Rattle.isa_model.specs.Machine.States.{Content, KeyValues, key_values_of, Stored}
pub use Rattle.isa_model.specs.declared.map_defs.MapDef.{MapDef}
pub use Rattle.isa_model.specs.declared.map_defs.MapType.TheVariants.{Hash, Array}
pub use Rattle.map_indexes.proofs.PlaceKeysLaws.{is_key-itself}
pub use Rattle.map_indexes.specs.BlockRowLaws.{length-block_row, below_or_above, block_row-written, block_row-other, length-changed_row}
pub use Rattle.map_indexes.specs.BlockRows.{block_row, with_block_row}
pub use Rattle.map_indexes.specs.PlaceKeyLaws.{is_key-equal}
pub use Rattle.map_indexes.specs.PlaceKeys.{Places, TakesPlace}
pub use Rattle.maps.proofs.ContentLaws.{same_contents, get-taken}
pub use Rattle.maps.proofs.ReportOrderLaws.{get_at, above}
pub use Rattle.maps.specs.ContentLaws.{changed, find-changed, is_sorted-changed}
pub use Rattle.maps.specs.Maps.{MapState, map_at, contents_of, rows_of, IsMap, WritesValue, Updated, Deleted, content_in}
pub use Rattle.live_maps.specs.Live.{Serials, serials_at, stored, live_content, Live, value_bytes, serial_in, place_if_new, HasSerials, AreLive, content_at, with_content, with_value, with_bytes, without, has_serial}
unfoldable pub use Rattle.live_maps.specs.Live.{live_contents}
pub use Rattle.live_maps.specs.Numbering.{AreDistinct, AreNumbered, NumbersAll, count_before, place_in}
pub use Rattle.live_maps.specs.PlaceOrders.{AreLiveMaps, AreOrdersOf, PlaceOrder, serials_in, IsOrderOf, after, given_now, is_same, kept_at, since_in, start_serial, taken_now, with_since, AllSame, AreFresh, AreGone, HaveCome, IsLater, is_given, is_same_at, serials_from, AreNoted, IsBefore, IsRising, NotBefore, looked}
unfoldable pub use Rattle.live_maps.specs.PlaceOrders.{serials_of}
pub use Rattle.live_maps.specs.Ranks.{AreChunks, Begin, IsChunk, IsIn, IsSpot, all_places, count_to, lists_of, Ranked}
pub use Rattle.live_maps.specs.declared.place_serials.Since.{Since}
pub use Rattle.live_maps.specs.declared.place_serials.Since.TheVariants.{Same, Gone, Given, New}
