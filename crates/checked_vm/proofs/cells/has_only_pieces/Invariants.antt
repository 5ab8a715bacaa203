use Rattle.checked_vm.proofs.Common.{◌≡◌, drop, is_piece}
use Rattle.std.specs.List.{list_all, enumerate_from}
use Rattle.checked_vm.proofs.cells.has_only_pieces.Given as goal

abbrev pub invariant-loop-k : goal.invariant-loop-k
invariant-loop-k l =
    list_all (λ e. is_piece l.region l.offset e.0 e.1) (enumerate_from l.k (drop l.k l.cells))
    ≡ list_all (λ e. is_piece l.region l.offset e.0 e.1) (enumerate_from 0 l.cells)
