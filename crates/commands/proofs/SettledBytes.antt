-- What is said of the bytes of a table or a text that were read is what all of its bytes say.
use Rattle.commands.proofs.Common.{◌≡◌, ℕ, List, ◌++◌, Option, Some, None, IfSome, ap, ◌∙◌, sym, length, take, drop, append_assoc, Consumes}
use Rattle.std.proofs.lemmas.List.{take-append-drop}
use Rattle.isa_model.specs.Code.Instructions.{Program}
use Rattle.table_entries.specs.Tables.{table_read}
use Rattle.table_entries.specs.Settled.{IsTableSettled}
use Rattle.assembler.specs.Assembling.{assembled}
use Rattle.assembler.specs.Settled.{IsTextSettled}

abbrev pub SaysTheSame : Program → Option (List ℕ) → List ℕ → Type 0
SaysTheSame p source bytes = IfSome source (λ held. table_read p held ≡ table_read p bytes)

pub settled_held : (p : Program) (old new : Option (List ℕ)) (bytes : List ℕ)
    → Consumes old new bytes → IsTableSettled p bytes → SaysTheSame p old bytes
settled_held p None new bytes read settled = tt
settled_held p (Some held) None bytes read settled = absurd read
settled_held p (Some held) (Some left) bytes read settled = ap (table_read p) read ∙ settled left

-- ---- texts

-- a text whose front is settled is settled
pub settled_front : (front bytes : List ℕ) → front ≡ take (length front) bytes
    → IsTextSettled front → IsTextSettled bytes
settled_front front bytes is settled more =
    let rest = drop (length front) bytes in
    let whole : front ++ rest ≡ bytes =
    ap (λ (l : List ℕ). l ++ rest) is ∙ take-append-drop (length front) bytes in
    ap (λ (l : List ℕ). assembled (l ++ more)) (sym whole)
    ∙ ap assembled (append_assoc front rest more)
    ∙ settled (rest ++ more)
    ∙ sym (settled rest)
    ∙ ap assembled whole
