-- Places in an order, in chunks, one after another.
use Rattle.std.specs.Prelude.{◌≡◌, ℕ, ◌+◌, ◌/◌, ◌<◌, ◌≤◌, ◌^◌, List, [], length, map, min, take, slice_index_or, vec_capacity}
use Rattle.std.specs.List.{concat}
use Rattle.std.specs.declared.alloc.Global.{Global}
use Rattle.std.specs.declared.vec.Vec.{Vec}
use Rattle.live_maps.specs.declared.chunks.Chunks.{Chunks}

-- places in an order, and how many there is room for
pub record Ranked : Type 0 where
  pub places : List ℕ
  pub room : ℕ

-- how many places the first c lists have
abbrev pub count_to : List (List ℕ) → ℕ → ℕ
count_to lists c = length (concat (take c lists))

-- at which ranks the first n lists begin
abbrev pub Begin : ℕ → List (List ℕ) → List ℕ → Type 0
Begin n lists starts = (c : ℕ) → c < n → slice_index_or starts c 0 ≡ count_to lists c

-- the places of each chunk
abbrev pub lists_of : List (Vec ℕ Global) → List (List ℕ)
lists_of chunks = map (λ q. q.items) chunks

abbrev pub all_places : List (Vec ℕ Global) → List ℕ
all_places chunks = concat (lists_of chunks)

-- a chunk, where there is room for `room` places in all
pub record IsChunk (room : ℕ) (q : Vec ℕ Global) : Type 0 where
  pub most : length q.items ≤ 1024
  pub capacity : min room 1024 ≤ vec_capacity q

-- the places are no more than there is room for, and it is known where each chunk begins
pub record AreChunks (k : Chunks) : Type 0 where
  pub few : length (all_places k.chunks.items) ≤ k.room
  pub small : k.room < 2 ^ 32
  pub listed : k.room ≤ vec_capacity k.list
  pub count : length k.chunks.items ≡ k.room / 400 + 1
  pub long : length k.starts.items ≡ length k.chunks.items
  pub each : (c : ℕ) (d : Vec ℕ Global) → c < length k.chunks.items
      → IsChunk k.room (slice_index_or k.chunks.items c d)
  pub begin : Begin (length k.chunks.items) (lists_of k.chunks.items) k.starts.items

-- the place at a rank is in the c-th chunk
pub record IsIn (rank c : ℕ) (chunks : List (Vec ℕ Global)) : Type 0 where
  pub inside : c < length chunks
  pub low : count_to (lists_of chunks) c ≤ rank
  pub high : rank < count_to (lists_of chunks) (c + 1)

-- a place can be put at a rank into the c-th chunk
pub record IsSpot (rank c : ℕ) (chunks : List (Vec ℕ Global)) : Type 0 where
  pub inside : c < length chunks
  pub low : count_to (lists_of chunks) c ≤ rank
  pub high : rank ≤ count_to (lists_of chunks) (c + 1)

-- the c-th chunk has less places than it may have
abbrev pub IsShort : ℕ → List (Vec ℕ Global) → Type 0
IsShort c chunks = length (slice_index_or (lists_of chunks) c []) < 1024

-- the same places in chunks
abbrev pub SamePlaces : Chunks → Chunks → Type 0
SamePlaces old new =
    (all_places new.chunks.items ≡ all_places old.chunks.items) × (new.room ≡ old.room)
