-- The names that most proofs of this crate cite, passed on from one place. Declares nothing.
pub use Rattle.std.proofs.Common.{◌≡◌, ◌≢◌, ◌+◌, Bool, true, false, List, [], ◌∷◌, ◌++◌, length, Option, Some, None, refl, ap, ◌∙◌, arith, length-append, ℕ, zero, suc, ◌-◌, ◌*◌, ◌≤◌, take, drop, Result, Ok, Err, sym, subst, drop-drop, take_all, ◌<◌, inl, inr, slice_get, ◌⊎◌, ◌==◌, nat_lt, is_none, append_assoc, append-nil, cond, eq-eqb, ◌&&◌, All, ◌^◌, take-add, ◌/◌, nat_eq, sum_by, if◌then◌else◌, get_or, drop-cons, OnErr, pos, rules, OnOk}
pub use Rattle.std.proofs.lemmas.Bool.{le-ltb, ne_eqb, and_parts, eqb-true, leb-true, le-leb, ltb-true, lt-ltb, ltb-false}
pub use Rattle.std.proofs.lemmas.List.{length-drop, length-take, take-append-drop, drop_at, take_more, take_at}
pub use Rattle.std.proofs.lemmas.Result.{err_from_is_err_and}
pub use Rattle.std.specs.Io.KnownBytes.{Appends}
pub use Rattle.std.specs.List.{flat_map, starts_with}
pub use Rattle.std.specs.Option.{option_flatten, IsSomeAnd, option_or, option_map}
pub use Rattle.byteorder.specs.Endian.{little_bytes, little_number}
pub use Rattle.exact_io.specs.Transfers.{AppendsBeginning}
pub use Rattle.isa_model.proofs.LittleEndianLaws.{EachByte-drop, little_bytes-little_from}
pub use Rattle.isa_model.specs.Code.EachByte.{EachByte}
pub use Rattle.isa_model.specs.Code.Instructions.{slots, slots_filled, Program, fetch}
pub use Rattle.isa_model.specs.Code.MapRows.{NamesRows, KeyFits, IsRow, HoldsOffset}
pub use Rattle.isa_model.specs.Code.Spelling.{InsnFits, spelling_of}
pub use Rattle.isa_model.specs.declared.instructions.Insn.{Insn}
pub use Rattle.isa_model.specs.declared.instructions.Insn.TheVariants.{LoadNumber, LoadMap, LoadMapValue, Alu}
pub use Rattle.isa_model.specs.declared.map_defs.MapDef.{MapDef}
pub use Rattle.isa_model.specs.declared.versions.Version.{Version}
pub use Rattle.image.specs.Images.{IsCode, is_wide, code_bytes, NamesMaps, IsImage, magic, row_bytes, map_type_code, head_bytes, room_of, slot_spelling}
unfoldable pub use Rattle.image.specs.Images.{image_bytes}
pub use Rattle.image.specs.Refusals.{◌>>=◌, unless, map_refusal, insn_at, at_slot, version_at, version_read, map_count, slot_count, size_of, size_refusal, room_refusal, rows_read, code_read, program_read, row_at, key_fits, row_fits, rows_refusal, is_array, holds_offset, value_refusal, maps_refusal, map_type_numbered, with_map_type, tested, count_refusal, parts_refusal}
unfoldable pub use Rattle.image.specs.Refusals.{code_from, rows_from, refusal_of}
pub use Rattle.image.specs.declared.errors.ImageError.{ImageError}
pub use Rattle.image.specs.declared.errors.ImageError.TheVariants.{MapRow, UnknownMap, ValuePointer, Magic, Short, Long, TooManyMaps, SlotCount, MapRoom, Memory}
