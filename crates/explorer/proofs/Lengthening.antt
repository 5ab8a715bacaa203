-- A search that comes to keep fewer numbers.
use Rattle.explorer.proofs.Common.{Option, Program, start, IsNoFiner, Forgets-as, Search, precision_in, IsNext}
use Rattle.control_flow.specs.declared.kept_numbers.KeptNumbers.{KeptNumbers}
use Rattle.explorer.specs.declared.moves.NextMove.{NextMove}
use Rattle.explorer.specs.declared.moves.NextMove.TheVariants.{Explore, Done}
use Rattle.explorer.proofs.Paths.{Path-as}

pub IsNext-as : (p : Program) (old : Search) (kept : Option KeptNumbers) (next : NextMove)
    → IsNoFiner (precision_in kept) (precision_in old.kept) → IsNext p old next
    → IsNext p (record old { kept = kept }) next
IsNext-as p old kept (Done n) fine h = h
IsNext-as p old kept (Explore stored) fine h =
    let how = precision_in old.kept in
    let to = precision_in kept in
    record {
      at = record {
        fine = h.at.fine;
        first = h.at.first;
        begins = Forgets-as to how p start h.at.first fine h.at.begins;
        path =
            Path-as to how p old.finished old.states.states.items old.path.items h.at.first
            old.current fine h.at.path;
      };
      on_path = h.on_path;
      stored_at = h.stored_at;
      counts = h.counts;
      ready = h.ready;
    }
