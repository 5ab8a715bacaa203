-- The names that most proofs of this crate cite, passed on from one place. Declares nothing.
pub use Rattle.std.proofs.Common.{◌≡◌, ℕ, zero, suc, ◌+◌, ◌^◌, ◌<◌, ◌≤◌, List, [], Option, Some, None, Bool, true, false, cond, length, refl, sym, ap, ◌∙◌, arith, inl, inr, is_some, nat_lt, if◌then◌else◌, ◌∷◌, ◌++◌, map, unwrap_or, subst, All, IsPermutation, slice_index_or, nat_eq, slice_set, ◌-◌, replicate, ap₂, ◌/◌, drop, ◌||◌, IsSome, ◌*◌, take, T, IfSome, ◌⊎◌, vec_capacity, rules}
pub use Rattle.std.proofs.lemmas.Bool.{cases_lt, eqb-true, eqb-false, eq-eqb, ne_eqb}
pub use Rattle.std.proofs.lemmas.Fn.{always_returns_same}
pub use Rattle.std.proofs.lemmas.List.{take_all, length-map, get_or_default, get_or_past, get_or_append_left, length-append, length-set, length-replicate, take_at, length-drop, get_or_read, length-take, get_or-map, map-set}
pub use Rattle.std.proofs.lemmas.List.Sorted.{All-permutation, ranks_by, sorted_far, IsPermutation-sym, list_any-IsPermutation, IsPermutation-insert, IsPermutation-remove, searchable_from_sorted, length_permutation}
pub use Rattle.std.specs.Cmp.Lexicographic.{nat_list_cmp_total, pointwise, bytes_decides}
pub use Rattle.std.specs.FinMap.{get, len, get-insert, len-empty, len-insert, values, same_map, slice_cmp-IsAntisymmetric, nat_cmp-IsAntisymmetric, entries, entries_sorted, find, get-entries, is_sorted, empty, from_entries, len-remove}
pub use Rattle.std.specs.List.{range_with_len, remove, insert}
pub use Rattle.std.specs.List.Sorted.{IsSortedByKey, IsNonDecreasingBy, IsPartitionPoint, IsBinarySearchResult}
pub use Rattle.std.specs.Option.{option_map, option_or}
pub use Rattle.std.specs.Ordering.{is_lt, ordering_reverse, ordering_index}
pub use Rattle.byteorder.specs.Endian.{little_bytes, little_number}
pub use Rattle.byteorder.specs.Numbers.{little_number-reads_back, length-bytes_low_first}
pub use Rattle.isa_model.specs.Machine.MapContents.{key_order, is_key}
pub use Rattle.map_indexes.specs.ArrayLaws.{got_index}
pub use Rattle.map_indexes.specs.ArrayPlaces.{array_places}
pub use Rattle.map_indexes.specs.BlockRowLaws.{block_row-other, block_row-written, row_end, length-with_block_row}
pub use Rattle.map_indexes.specs.BlockRows.{block_row, with_block_row}
pub use Rattle.map_indexes.specs.ChainIndexes.{HasKey, IsChainIndex, free_at}
pub use Rattle.map_indexes.specs.Chains.{is_in, in_chain, IsChained, IsBehind, heads_led, next_led, link_led, height, nexts_led, chain_place, link_in, link_with, led_from}
pub use Rattle.map_indexes.specs.Hashing.{mixed, words_mixed}
unfoldable pub use Rattle.map_indexes.specs.Hashing.{chain_of, hash_of}
pub use Rattle.map_indexes.specs.KeyOrder.{key_or_none, used_places}
pub use Rattle.map_indexes.specs.LastBelow.{last_below, count_below}
pub use Rattle.map_indexes.specs.OptionalNumbers.{number_of}
pub use Rattle.map_indexes.specs.Overflow.{found_places, is_listed, listed_place, place_at, AreRising, AreUnlinked}
pub use Rattle.map_indexes.specs.PlaceKeyLaws.{is_key-equal, got}
pub use Rattle.map_indexes.specs.PlaceKeys.{PlaceKeys, key_in, places, IsDistinct, IsScan, IsKey, AreKeys, keys_by_place, KeysByPlace, Places, pairs_from, key_count, TakesPlace}
pub use Rattle.map_indexes.specs.ScanLaws.{key_inside, scan_few}
pub use Rattle.map_indexes.specs.declared.chains.Link.{Link}
