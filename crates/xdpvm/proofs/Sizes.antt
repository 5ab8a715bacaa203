-- What was written before a proof table, and how much of the table was delivered.
use Rattle.xdpvm.proofs.Common.{◌≡◌, ◌∙◌, ◌++◌, ℕ, List, [], Option, Some, None, Result, Ok, Err, OnOk, OnErr, ap, sym, inl, inr, append-nil, Appends, Keeps, append_known, AppendsPart}
use Rattle.exact_io.specs.Transfers.{AppendsBeginning}

-- a text was written, or a beginning of it
pub part_by : {X E : Type 0} (r : Result X E) (old new : Option (List ℕ)) (text : List ℕ)
    → OnOk r (Appends old new text) → OnErr r (AppendsBeginning old new text)
    → AppendsPart old new text
part_by (Ok x) old new text whole part = inl whole
part_by (Err e) old new text whole part = inr part

-- nothing waits any more, so all was delivered
pub all_delivered : (handed got : Option (List ℕ)) (waits : List ℕ)
    → Keeps handed (append_known got waits) → waits ≡ [] → Keeps handed got
all_delivered None got waits kept none = tt
all_delivered (Some xs) None waits kept none = kept
all_delivered (Some xs) (Some ys) waits kept none =
    sym (append-nil ys) ∙ ap (λ (l : List ℕ). ys ++ l) (sym none) ∙ kept
