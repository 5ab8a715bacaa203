-- That a row says what a proof table shows.
use Rattle.std.proofs.Common.{◌≡◌, ℕ, false, List, length, Some, Result, Ok, Err, IfOk, is_err, subst}
use Rattle.isa_model.specs.{Program}
use Rattle.bounds.specs.Bounds.{Bounded}
use Rattle.rechecking.specs.Refusing.{ShowsBound}
use Rattle.survey_rows.specs.declared.rows.Counts.{Counts}
use Rattle.survey_commands.specs.Tables.{HasTable}

-- a table that passes shows a bound of the program
pub has_table : {E : Type 0} (p q : Program) (bytes table : List ℕ) (shown : Result Bounded E)
    (c : Counts) → q ≡ p → bytes ≡ table → is_err shown ≡ false
    → IfOk shown (λ v. ShowsBound q bytes v.bound) → c.table_bytes ≡ Some (length table)
    → HasTable p table c
has_table p q bytes table (Ok v) c program same passed closed size = record {
  bound = v.bound;
  shows = subst (λ (b : List ℕ). ShowsBound p b v.bound) same
      (subst (λ (r : Program). ShowsBound r bytes v.bound) program closed);
  size = size;
}
has_table p q bytes table (Err e) c program same passed closed size = absurd cc
