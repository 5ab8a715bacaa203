-- The names that most proofs of this crate cite, passed on from one place. Declares nothing.
pub use Rattle.std.proofs.Common.{◌≡◌, ℕ, ◌<◌, List, [], ◌∷◌, length, map, Option, Some, refl, sym, ap, subst, ◌∙◌, arith, ◌≤◌, slice_index_or, slice_set, suc, ◌+◌, ◌++◌, take, ◌*◌, None, Bool, true, false, cond, is_some, not, T, zero, drop, inl, inr, ◌≢◌, ◌-◌, ◌^◌, fold, replicate, All, ◌==◌, IsSome, IfSome, nat_lt, nat_le, if◌then◌else◌, vec_capacity, option_copied, ◌/◌, vec_len}
pub use Rattle.std.proofs.Math.Seq.{map-set_same, take-suc}
pub use Rattle.std.proofs.lemmas.List.{map-set, get_or-map, get_or-set_same, length-map, length-set, map-append, drop-replicate, take-replicate, map_more, length-append, take_all, take_at}
pub use Rattle.std.proofs.lemmas.List.Elements.{All-set, All-head, All-tail, All-map, All-take, All-drop, All-from_get_or, All-push, All-more}
pub use Rattle.std.proofs.lemmas.Option.{slice_get-get_or, slice_get-map, slice_get_past}
pub use Rattle.std.specs.Cmp.Lexicographic.{nat_list_cmp_total}
pub use Rattle.std.specs.FinMap.{get, empty, entries, len-empty, entries_sorted, find, get-entries, is_sorted, values, len, len-entries}
pub use Rattle.std.specs.FinMap.Entries.{below_all, by_order, put}
pub use Rattle.std.specs.List.{slice_get, insert, range_with_len, filter_map, cons_option, refill, splice}
pub use Rattle.std.specs.Option.{option_map}
pub use Rattle.std.specs.Ordering.{is_lt, ordering_reverse, is_eq}
pub use Rattle.byteorder.specs.Endian.{little_bytes, little_number}
pub use Rattle.isa_model.specs.Code.MapRows.{IsRow, KeyFits}
pub use Rattle.isa_model.specs.Machine.MachineStates.{AreBytes, IsKeyValue, KeysFit, keys_of, FitsRow, FitRows}
pub use Rattle.isa_model.specs.Machine.MapContents.{key_order, is_key, at_key, has_key, with_key, without_key, enoent, e2big, exist, update_answer_by, delete_answer_by, update_answer, delete_answer, after_update, after_delete}
pub use Rattle.isa_model.specs.Machine.States.{KeyValues}
pub use Rattle.isa_model.specs.declared.map_defs.MapDef.{MapDef}
pub use Rattle.isa_model.specs.declared.map_defs.MapType.{MapType}
pub use Rattle.isa_model.specs.declared.map_defs.MapType.TheVariants.{Array, Hash}
pub use Rattle.map_indexes.proofs.PlaceKeysLaws.{is_key-itself, remove_absent}
pub use Rattle.map_indexes.specs.ArrayPlaces.{array_places}
pub use Rattle.map_indexes.specs.BlockRowLaws.{below-same, at_most-same, block_row-written, block_row-other, below_or_above, row_end, length-block_row, splice_in_row, changed_row, length-changed_row, length-with_block_row}
pub use Rattle.map_indexes.specs.BlockRows.{block_row, with_block_row}
pub use Rattle.map_indexes.specs.PlaceKeyLaws.{is_key-equal, got}
pub use Rattle.map_indexes.specs.PlaceKeys.{IsKey, Places, TakesPlace, PlaceKeys, key_in, places}
pub use Rattle.maps.specs.Commands.{Said, said, reply_to, content_after, replies_of, content_left}
pub use Rattle.maps.specs.Contents.{content, starting_places}
pub use Rattle.maps.specs.Either.{places_of, kind_of, room_of, either_in_range, either_apart, either_few, key_size_of}
pub use Rattle.maps.specs.Lending.{with_values, with_values-same}
pub use Rattle.maps.specs.Maps.{MapState, IsMap, map_at, with_block, ordered_in, rows_of, content_in, contents_of, starting_map, Deleted, Updated, WritesValue}
pub use Rattle.maps.specs.ReportOrder.{listed_of, with_key_of}
pub use Rattle.maps.specs.StoreStates.{state_by, IsListed, IsLeastHashRoom, HaveRoom, IsListOf}
pub use Rattle.maps.specs.declared.either.EitherIndex.{EitherIndex}
