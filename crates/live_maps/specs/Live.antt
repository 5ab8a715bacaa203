-- Maps whose values have serials.
use Rattle.std.specs.Prelude.{◌≡◌, ℕ, ◌<◌, ◌==◌, List, [], ◌∷◌, length, map, slice_index_or, slice_set, unwrap_or, Bool, false, Option, Some, None}
use Rattle.std.specs.Option.{option_map}
use Rattle.std.specs.FinMap.{get, entries}
use Rattle.isa_model.specs.declared.map_defs.MapDef.{MapDef}
use Rattle.isa_model.specs.Machine.States.{Stored, Content}
use Rattle.isa_model.specs.Machine.Memory.{index_of_serial, key_value_at, put_value}
use Rattle.isa_model.specs.Machine.MapContents.{at_key, with_key, without_key}
use Rattle.isa_model.specs.Machine.MapHelpers.{serial_given, serial_after}
use Rattle.map_indexes.specs.BlockRows.{block_row}
use Rattle.maps.specs.Maps.{MapState, IsMap, map_at}

-- what callers see: the rows, the contents with the serials of all values, and the serial that is
-- given next
pub record Live : Type 0 where
  pub rows : List MapDef
  pub contents : List Content
  pub next_serial : ℕ

abbrev pub content_at : Live → ℕ → Content
content_at l m = slice_index_or l.contents m []

abbrev pub with_content : Live → ℕ → Content → Live
with_content l m content = record l { contents = slice_set l.contents m content }

-- the bytes of the value of a serial, if it is live
abbrev pub value_bytes : Content → ℕ → Option (List ℕ)
value_bytes content n =
    option_map (λ j. (key_value_at content j).1.bytes) (index_of_serial content n)

-- bytes written into the value of a serial
abbrev pub with_value : Live → ℕ → ℕ → ℕ → List ℕ → Live
with_value l m n i bytes =
    with_content l m (put_value (content_at l m) (index_of_serial (content_at l m) n) i bytes)

-- the value of a key has these bytes, and keeps its serial; that of a new key is given the next one
abbrev pub with_bytes : Live → ℕ → List ℕ → List ℕ → Live
with_bytes l m key bytes =
    let old = at_key key (content_at l m) in
    let new : Stored = record { serial = serial_given l.next_serial old; bytes = bytes } in
    record l {
      contents = slice_set l.contents m (with_key key new (content_at l m));
      next_serial = serial_after l.next_serial old;
    }

-- the key is gone, and with it the serial of its value
abbrev pub without : Live → ℕ → List ℕ → Live
without l m key = with_content l m (without_key key (content_at l m))

-- ---- serials by place

-- the serial of the value at each place that has a key
abbrev pub Serials : Type 0
Serials = List (Option ℕ)

abbrev pub serial_in : Serials → ℕ → Option ℕ
serial_in serials place = slice_index_or serials place None

abbrev pub serials_at : List Serials → ℕ → Serials
serials_at all m = slice_index_or all m []

-- the place of a key that had none before
abbrev pub place_if_new : Option ℕ → Option ℕ → Option ℕ
place_if_new (Some p) now = None
place_if_new None now = now

abbrev pub has_serial : ℕ → Option ℕ → Bool
has_serial n None = false
has_serial n (Some k) = k == n

-- the value at a place
abbrev pub stored : MapState → Serials → ℕ → Stored
stored m serials place =
    record {
      serial = unwrap_or (serial_in serials place) 0;
      bytes = block_row m.row.value_size m.block place;
    }

-- a map's content
abbrev pub live_content : MapState → Serials → Content
live_content m serials = map (λ e. (e.0, stored m serials e.1)) (entries m.places)

unfoldable pub live_contents : List MapState → List Serials → List Content
live_contents [] all = []
live_contents (m ∷ maps) [] = []
live_contents (m ∷ maps) (serials ∷ all) = live_content m serials ∷ live_contents maps all

-- the place of each key has a serial, other places have none; the serials were given, each to one
-- place
pub record HasSerials (next : ℕ) (m : MapState) (serials : Serials) : Type 0 where
  pub is_map : IsMap m
  pub long : length serials ≡ m.row.entries
  pub given : (key : List ℕ) (p : ℕ) → get m.places key ≡ Some p
      → (n : ℕ) × (serial_in serials p ≡ Some n)
  pub owned : (p n : ℕ) → serial_in serials p ≡ Some n
      → (n < next) × (key : List ℕ) × (get m.places key ≡ Some p)
  pub once : (p q n : ℕ) → serial_in serials p ≡ Some n → serial_in serials q ≡ Some n → p ≡ q

pub record AreLive (next : ℕ) (maps : List MapState) (all : List Serials) : Type 0 where
  pub long : length all ≡ length maps
  pub each : (m : ℕ) → m < length maps → HasSerials next (map_at maps m) (serials_at all m)
