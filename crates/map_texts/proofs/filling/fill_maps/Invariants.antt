use Rattle.map_texts.proofs.Common.{◌≡◌, ◌+◌, ◌*◌, ◌≤◌, List, ℕ, take, Consumes, rows_of, contents_of, most_line_size, GoesOnReading, IsPending}
use Rattle.map_texts.proofs.filling.fill_maps.Given as goal

abbrev pub invariant-loop-reads : goal.invariant-loop-reads
invariant-loop-reads g l = record {
  rows : rows_of l.maps ≡ rows_of l.fn.maps;
  len : l.pending.len ≤ most_line_size;
  few : l.pending.number ≤ 1 + 16384 * l._reads;
  is_pending : IsPending (rows_of l.fn.maps) (take l.pending.len l.buffer);
  read : List ℕ;
  consumed : Consumes (g.R.Read.remaining l.fn.source) (g.R.Read.remaining l.source) read;
  goes_on : GoesOnReading (rows_of l.fn.maps) 1 (contents_of l.fn.maps) read
      l.pending.number (contents_of l.maps) (take l.pending.len l.buffer);
}
