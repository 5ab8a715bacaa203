-- How words represent a state under a layout. The layout says at which depth the call frame of each
-- serial is, and where in its map's block the map value of each serial begins; what has ended stays
-- in it.
use Rattle.std.specs.Prelude.{◌≡◌, ℕ, suc, ◌+◌, ◌-◌, ◌*◌, ◌<◌, ◌≤◌, ℤ, pos, negsuc, List, [], ◌∷◌, length, slice_index, slice_index_or}
use Rattle.std.specs.FinMap.{entries}
use Rattle.std.specs.Int.{byte_at}
use Rattle.flatmem.specs.Bytes.{bytes_at}
use Rattle.isa_model.specs.Code.Limits.{max_maps, max_call_frames, offset_limit, stack_size}
use Rattle.isa_model.specs.declared.map_defs.MapDef.{MapDef}
use Rattle.isa_model.specs.declared.values.Region.{Region}
use Rattle.isa_model.specs.declared.values.Region.TheVariants as region
use Rattle.isa_model.specs.declared.values.Value.{Value}
use Rattle.isa_model.specs.declared.values.Value.TheVariants.{Unset, Num, Ptr}
use Rattle.isa_model.specs.declared.values.Cell.{Cell}
use Rattle.isa_model.specs.declared.values.Cell.TheVariants.{Unwritten, Byte, Piece}
use Rattle.isa_model.specs.declared.values.CallFrame.{CallFrame}
use Rattle.isa_model.specs.{Program, max_packet}
use Rattle.isa_model.specs.Machine.States.{State, Stored, Content, value_at, call_frame_at}
use Rattle.map_indexes.specs.BlockRows.{block_row}
use Rattle.maps.specs.ContentLaws.{changed}
use Rattle.maps.specs.Maps.{MapState, IsMap, map_at, rows_of}
use Rattle.word_machine.specs.Addresses.{context_base, packet_base, map_base, values_base, frame_end, frames_size}
use Rattle.word_machine.specs.declared.memory.Saved.{Saved}
use Rattle.word_machine.specs.Words.{Words, saved_at}

-- `depth` is of a call frame's serial, `value_start` of a map and the serial of one of its values,
-- both for all serials; `end` is the packet's length
pub record Layout : Type 0 where
  pub depth : ℕ → ℕ
  pub value_start : ℕ → ℕ → ℕ
  pub end : ℕ

-- every region's offset 0 is far from both ends of the addresses, and no two regions overlap
pub record IsLayout (a : Layout) (count : ℕ) : Type 0 where
  pub few : count ≤ max_maps
  pub shallow : (n : ℕ) → a.depth n < max_call_frames
  pub low : (m n : ℕ) → a.value_start m n < offset_limit
  pub short : a.end ≤ max_packet

-- where a region's offset 0 is
abbrev pub region_start : Layout → Region → ℕ
region_start a region.Context = context_base
region_start a region.Packet = packet_base
region_start a region.PacketEnd = packet_base + a.end
region_start a (region.Map m) = map_base m
region_start a (region.MapValue m n) = values_base m + a.value_start m n
region_start a (region.CallFrame n) = frame_end (a.depth n)

-- an address some bytes further on, or back
abbrev pub moved : ℕ → ℤ → ℕ
moved at (pos n) = at + n
moved at (negsuc n) = at - suc n

-- the word of a pointer; a pointer to the packet end has one word, whatever its offset
abbrev pub word : Layout → Region → ℤ → ℕ
word a region.PacketEnd z = region_start a region.PacketEnd
word a r z = moved (region_start a r) z

-- the word represents the value: an unset register may hold any word
abbrev pub Represents : Layout → Value → ℕ → Type 0
Represents a Unset w = Unit {0}
Represents a (Num n) w = w ≡ n
Represents a (Ptr r z) w = w ≡ word a r z

abbrev pub RepresentsCell : Layout → Cell → ℕ → Type 0
RepresentsCell a Unwritten b = Unit {0}
RepresentsCell a (Byte n) b = b ≡ n
RepresentsCell a (Piece r z k) b = b ≡ byte_at k (word a r z)

-- bytes represent cells, one for one
abbrev pub RepresentsCells : Layout → List Cell → List ℕ → Type 0
RepresentsCells a [] [] = Unit {0}
RepresentsCells a (c ∷ cs) (b ∷ bs) = RepresentsCell a c b × RepresentsCells a cs bs
RepresentsCells a cs bs = ⊥

-- ---- registers

pub record RepresentsRegisters (a : Layout) (regs : List Value) (words : List ℕ) : Type 0 where
  pub count : length words ≡ 11
  pub shown : (k : ℕ) → Represents a (value_at regs k) (slice_index words k)

-- ---- call frames

-- the call frame at depth j has its bytes from j * stack_size on
pub record RepresentsFrame (a : Layout) (f : CallFrame) (j : ℕ) (block : List ℕ) : Type 0 where
  pub depth : a.depth f.serial ≡ j
  pub cells : RepresentsCells a f.cells (bytes_at block (j * stack_size) stack_size)

-- what is kept for the caller: the slot to return to, and r6 to r9
pub record RepresentsSaved (a : Layout) (f : CallFrame) (s : Saved) : Type 0 where
  pub back : s.back ≡ f.return_slot
  pub kept : (k : ℕ) → Represents a (value_at f.saved k) (slice_index s.kept k)

-- each call frame but the first has a caller
pub record RepresentsFrames (a : Layout) (fs : List CallFrame) (block : List ℕ)
    (callers : List Saved) : Type 0 where
  pub whole : length block ≡ frames_size
  pub depth : length fs ≡ length callers + 1
  pub frames : (j : ℕ) → j < length fs → RepresentsFrame a (call_frame_at fs j) j block
  pub saved : (j : ℕ) → j < length callers
      → RepresentsSaved a (call_frame_at fs (j + 1)) (saved_at callers j)

-- ---- maps

-- where a map value begins, and its bytes: by its serial, and by its place
abbrev pub by_serial : Layout → ℕ → Stored → (ℕ × List ℕ)
by_serial a m v = (a.value_start m v.serial, v.bytes)

abbrev pub by_place : ℕ → List ℕ → ℕ → (ℕ × List ℕ)
by_place size block place = (place * size, block_row size block place)

-- the keys are the same, in their order, and so are where each value begins and its bytes
pub record RepresentsMap (a : Layout) (m : ℕ) (content : Content) (map : MapState) : Type 0 where
  pub is : IsMap map
  pub same : changed (by_serial a m) content
      ≡ changed (by_place map.row.value_size map.block) (entries map.places)

pub record RepresentsMaps (a : Layout) (defs : List MapDef) (contents : List Content)
    (states : List MapState) : Type 0 where
  pub rows : rows_of states ≡ defs
  pub maps : (m : ℕ) → m < length defs
      → RepresentsMap a m (slice_index_or contents m []) (map_at states m)

-- ---- states

pub record Related (p : Program) (a : Layout) (s : State) (w : Words) : Type 0 where
  pub slot : w.at ≡ s.slot
  pub layout : IsLayout a (length p.maps)
  pub registers : RepresentsRegisters a s.regs w.regs
  pub frames : RepresentsFrames a s.frames w.frames w.saved
  pub packet : w.packet ≡ s.packet
  pub end : a.end ≡ length s.packet
  pub interface : w.interface ≡ s.interface
  pub queue : w.queue ≡ s.queue
  pub maps : RepresentsMaps a p.maps s.maps w.maps
  pub clock_calls : w.clock_calls ≡ s.clock_calls
