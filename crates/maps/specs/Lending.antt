-- What the keys and values of a map are once a borrow of values ends.
use Rattle.std.proofs.Common.{◌≡◌, ℕ, ◌*◌, ◌<◌, List, ◌++◌, length, take, drop, sym, ap, ◌∙◌}
use Rattle.std.proofs.lemmas.List.{take_at, drop-drop}
use Rattle.std.proofs.Math.Nat.{ℕ_set}
use Rattle.std.specs.Coded.{Coded-set}
use Rattle.isa_model.specs.declared.map_defs.MapType.{MapType}
use Rattle.isa_model.specs.contracts.map_defs.MapType.{the_row as the_kind}
use Rattle.std.specs.Prelude.{vec_capacity}
use Rattle.std.specs.Vec.{with_items}
use Rattle.std.specs.Borrow.{MutBor, Fml, RattleType}
use Rattle.maps.specs.LentBytes.{LendsBytes}
use Rattle.map_indexes.specs.declared.index.Index.{Ghosts}
use Rattle.map_indexes.specs.BlockRows.{with_block_row}
use Rattle.map_indexes.specs.BlockRowLaws.{length-with_block_row}
use Rattle.maps.specs.declared.store.Store.{Store}
use Rattle.maps.specs.contracts.store.Store.{the_row}

kind_set : IsSet MapType
kind_set = Coded-set the_kind.coded

module _ {I : Type 0} {g : Ghosts I} (s : Store I g) where
  -- a block keeps its length, whatever is written
  pub whole_with : (bytes : List ℕ)
      → length (with_items s.values bytes).items ≡ s.row.entries * s.row.value_size
  whole_with bytes = sym (with_items s.values bytes).ok.0 ∙ (s.values.ok.0 ∙ s.whole)

  -- the keys with other values
  abbrev pub with_values : List ℕ → Store I g
  with_values bytes =
      record {
        row = s.row;
        index = s.index;
        values = with_items s.values bytes;
        kind = s.kind;
        key_size = s.key_size;
        room = s.room;
        whole = whole_with bytes;
        exact = s.exact;
      }

  -- whatever shows that they are the keys and values of a map
  pub with_values-same : (bytes : List ℕ) (kind : g.kind s.index ≡ s.row.kind)
      (key_size : g.key_size s.index ≡ s.row.key_size)
      (room : g.room s.index ≡ s.row.entries)
      (whole : length (with_items s.values bytes).items ≡ s.row.entries * s.row.value_size)
      (exact : vec_capacity (with_items s.values bytes) ≡ s.row.entries * s.row.value_size)
      → ◌≡◌ {A = Store I g} (record {
        row = s.row;
        index = s.index;
        values = with_items s.values bytes;
        kind = kind;
        key_size = key_size;
        room = room;
        whole = whole;
        exact = exact;
      }) (with_values bytes)
  with_values-same bytes kind key_size room whole exact =
      λ k. record {
        row = s.row;
        index = s.index;
        values = with_items s.values bytes;
        kind = kind_set _ _ kind s.kind k;
        key_size = ℕ_set _ _ key_size s.key_size k;
        room = ℕ_set _ _ room s.room k;
        whole = ℕ_set _ _ whole (whole_with bytes) k;
        exact = ℕ_set _ _ exact s.exact k;
      }

  -- the keys with another value at a place
  abbrev pub with_value_at : ℕ → List ℕ → Store I g
  with_value_at p v =
      let start = p * s.row.value_size in
      with_values (take start s.values.items ++ (v ++ drop (length v) (drop start s.values.items)))

  -- a value of the right size changes its row of the block
  pub with_value_at-with_block_row : (p : ℕ) (v : List ℕ) → p < s.row.entries
      → length v ≡ s.row.value_size
      → (with_value_at p v).values.items ≡ with_block_row s.row.value_size s.values.items p v
  with_value_at-with_block_row p v inside size =
      let items = s.values.items in
      let start : ℕ = p * s.row.value_size in
      let written : List ℕ = with_block_row s.row.value_size items p v in
      let same : take start items ++ (v ++ drop (length v) (drop start items)) ≡ written =
      ap (λ (l : List ℕ). take start items ++ (v ++ l)) (drop-drop (length v) start items) in
      let long =
      length-with_block_row s.row.value_size items p v s.row.entries size s.whole inside in
      let fits : length written ≡ s.values.len = long ∙ sym s.whole ∙ sym s.values.ok.0 in
      ap (λ (l : List ℕ). take s.values.len (l ++ drop (length l) items)) same
      ∙ take_at written (drop (length written) items) s.values.len fits

-- the block is lent
abbrev pub LendsBlock : (I : RattleType) (g : Ghosts I.Denot) → MutBor (Store I.Denot g)
    → MutBor (List ℕ) → Fml
LendsBlock I g s r = LendsBytes (the_row I g) s r (with_values s.now)
