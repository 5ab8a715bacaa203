use Rattle.maps.proofs.Common.{◌≡◌, ℕ, ◌<◌, ◌≤◌, All, slice_index_or, Hash, MapDef}
use Rattle.maps.proofs.all.most_keys.Given as goal

abbrev pub invariant-loop-row : goal.invariant-loop-row
invariant-loop-row l = record {
  enough : (k : ℕ) (d : MapDef) → k < l.row-index → (slice_index_or l.rows k d).kind ≡ Hash
      → (slice_index_or l.rows k d).entries ≤ l.most;
  least : (n : ℕ) → All (λ row. row.kind ≡ Hash → row.entries ≤ n) l.rows → l.most ≤ n;
}
