-- Representation after a register is set, and at another slot.
use Rattle.machine.proofs.Common.{◌≡◌, ℕ, List, length, refl, sym, subst, ◌∙◌, arith, inl, inr, get_or-set_same, get_or-set_other, length-set, slice_set, slice_index, cases_lt, get_or_past, Reg, Value, Unset, reg_number, Program, State, value_at, set_reg, go_to, Words, set_word, at_slot, Layout, Represents, RepresentsRegisters, Related}

-- a value instead of another, and its word instead of that one's
pub set_shown : (a : Layout) (regs : List Value) (words : List ℕ) (n : ℕ) (v : Value) (x : ℕ)
    → length regs ≡ 11 → RepresentsRegisters a regs words → Represents a v x
    → RepresentsRegisters a (slice_set regs n v) (slice_set words n x)
set_shown a regs words n v x long R h =
    record { count = length-set words n x ∙ R.count; shown = by_number }
  where
    other : (k : ℕ) → (k ≡ n → ⊥)
        → Represents a (value_at (slice_set regs n v) k) (slice_index (slice_set words n x) k)
    other k d =
        subst (λ u. Represents a u (slice_index (slice_set words n x) k))
        (sym (get_or-set_other regs n k v Unset d))
        (subst (Represents a (value_at regs k)) (sym (get_or-set_other words n k x 0 d))
        (R.shown k))

    same : Represents a (value_at (slice_set regs n v) n) (slice_index (slice_set words n x) n)
    same = elim (cases_lt n 11) [
      | inl lt ↦
          let c = R.count in
          subst (λ u. Represents a u (slice_index (slice_set words n x) n))
          (sym (get_or-set_same regs n v Unset (omega arith)))
          (subst (Represents a v) (sym (get_or-set_same words n x 0 (omega arith))) h)
      | inr ge ↦
          let c = length-set regs n v in
          subst (λ u. Represents a u (slice_index (slice_set words n x) n))
          (sym (get_or_past (slice_set regs n v) n Unset (omega arith))) tt
    ]

    by_number : (k : ℕ)
        → Represents a (value_at (slice_set regs n v) k) (slice_index (slice_set words n x) k)
    by_number k = elim (cases_lt k n) [
      | inl lt ↦ other k (λ e. omega arith)
      | inr ge ↦ elim (cases_lt n k) [
        | inl gt ↦ other k (λ e. omega arith)
        | inr le ↦
            let e : n ≡ k = omega arith in
            subst (λ k. Represents a (value_at (slice_set regs n v) k)
            (slice_index (slice_set words n x) k)) e same
      ]
    ]

pub set_related : (p : Program) (a : Layout) (s : State) (w : Words) (d : Reg) (v : Value) (x : ℕ)
    → length s.regs ≡ 11 → Related p a s w → Represents a v x
    → Related p a (set_reg s d v) (set_word w d x)
set_related p a s w d v x long R h = record {
  slot = R.slot;
  layout = R.layout;
  registers = set_shown a s.regs w.regs (reg_number d) v x long R.registers h;
  frames = R.frames;
  packet = R.packet;
  end = R.end;
  interface = R.interface;
  queue = R.queue;
  maps = R.maps;
  clock_calls = R.clock_calls;
}

pub go_related : (p : Program) (a : Layout) (s : State) (w : Words) (slot : ℕ) → Related p a s w
    → Related p a (go_to s slot) (at_slot w slot)
go_related p a s w slot R = record {
  slot = refl;
  layout = R.layout;
  registers = R.registers;
  frames = R.frames;
  packet = R.packet;
  end = R.end;
  interface = R.interface;
  queue = R.queue;
  maps = R.maps;
  clock_calls = R.clock_calls;
}
