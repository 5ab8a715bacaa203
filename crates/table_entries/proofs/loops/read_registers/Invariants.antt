use Rattle.table_entries.proofs.Common.{◌≡◌, ◌-◌, take, length, kind_in, many, kept}
use Rattle.table_entries.proofs.Many.{with_front}
use Rattle.table_entries.proofs.loops.read_registers.Given as goal

-- what was read, and what is left to read
abbrev pub invariant-loop-index : goal.invariant-loop-index
invariant-loop-index l =
    record {
      so_far : with_front (kept l.allowed (take l.index l.registers))
          (many (λ k. kind_in l.rows l.holder) (10 - l.index) l.index l.rest)
          ≡ many (λ k. kind_in l.rows l.holder) 10 0 l.bytes;
      long : length l.registers ≡ 10;
    }
