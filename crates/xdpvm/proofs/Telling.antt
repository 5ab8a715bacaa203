-- What standard error gets before the message.
use Rattle.xdpvm.proofs.Common.{◌≡◌, ℕ, List, Option, Some, refl, inl, inr, ◌⊎◌, Keeps, Program, TaskRequest, TableFiles, Trace, Run, Verify, Prove, Recheck, Assemble, Disassemble, Explain, asked, WriteTableError, TaskOutcome, Ending, Says, EndsUnwritten, SaysSize, GainsSaid, BeginsSaid, StoresTable, ProvesTold, IsStoreFailure, IsBeginningOf, Serves, ServesTold, TellsBefore}
use Rattle.table_entries.specs.Entries.{Entry}
use Rattle.proof_table.specs.Spelling.{table_bytes}
use Rattle.proof_table.specs.Writing.{GainsTableOf, IsTableSize, table_length}
use Rattle.commands.specs.declared.outcomes.TaskOutcome.TheVariants as outcome

-- ---- proof tables

-- the bytes of a table are a table of that size
pub size_of_table : (p : Program) (entries : List Entry) (old new : Option (List ℕ))
    → GainsTableOf p entries old new → IsTableSize p (table_length entries)
size_of_table p entries old new g = (
  table_bytes entries,
  record { entries = entries; read = g.read; number = g.number; gained = refl },
  refl,
)

-- a size that was said
size_before : (words : List (List ℕ)) (files : TableFiles) (p : Program) (size : ℕ)
    (old new : Option (List ℕ)) → asked words ≡ Some (Prove files) → IsTableSize p size
    → SaysSize size old new → TellsBefore words old new
size_before words files p size old new is whole (inl (large, said)) =
    inr (record {
      files = files;
      is_asked = is;
      program = p;
      size = size;
      is_size = whole;
      large = large;
      said = said;
    })
size_before words files p size old new is whole (inr (small, same)) = inl same

gained_before : (words : List (List ℕ)) (files : TableFiles) (p : Program)
    (before handed old new : Option (List ℕ)) → asked words ≡ Some (Prove files)
    → GainsSaid p before handed old new → TellsBefore words old new
gained_before words files p before handed old new is g =
    size_before words files p (table_length g.entries) old new is
    (size_of_table p g.entries before handed g.gains) g.said

begun_before : (words : List (List ℕ)) (files : TableFiles) (p : Program)
    (old new : Option (List ℕ)) → asked words ≡ Some (Prove files)
    → (new ≡ old) ⊎ ((size : ℕ) × IsTableSize p size × SaysSize size old new)
    → TellsBefore words old new
begun_before words files p old new is (inl same) = inl same
begun_before words files p old new is (inr (size, whole, says)) =
    size_before words files p size old new is whole says

stored_before : (words : List (List ℕ)) (files : TableFiles) (p : Program) (line name : List ℕ)
    (before after out_old out_new old new : Option (List ℕ)) (r : TaskOutcome)
    → asked words ≡ Some (Prove files)
    → StoresTable p line name before after out_old out_new old new r → TellsBefore words old new
stored_before words files p line name before after out_old out_new old new r is stores =
    by stores.ends
  where
    by : (GainsSaid p before stores.handed old new × Keeps stores.handed after
        × Says out_old out_new line outcome.Done r)
        ⊎ ((GainsSaid p before stores.handed old new × IsBeginningOf after stores.handed
        × IsStoreFailure name r × (out_new ≡ out_old))
        ⊎ (BeginsSaid p before stores.handed old new × IsBeginningOf after stores.handed
        × ((error : WriteTableError) × EndsUnwritten name error out_old out_new r)))
        → TellsBefore words old new
    by (inl (gains, keeps, says)) = gained_before words files p before stores.handed old new is gains
    by (inr (inl (gains, begins, fails, same))) =
        gained_before words files p before stores.handed old new is gains
    by (inr (inr (begins, part, ends))) =
        begun_before words files p old new is begins.said

prove_before : (words : List (List ℕ)) (files : TableFiles)
    (out_old out_new old new : Option (List ℕ)) (r : Ending) → asked words ≡ Some (Prove files)
    → ProvesTold files out_old out_new old new r → TellsBefore words old new
prove_before words files out_old out_new old new r is (inl (loads, same)) = inl same
prove_before words files out_old out_new old new r is (inr (p, image, (inl (refuses, same), known))) =
    inl same
prove_before words files out_old out_new old new r is
    (inr (p, image, (inr (bound, of, inl (makes, same)), known))) = inl same
prove_before words files out_old out_new old new r is
    (inr (p, image, (inr (bound, of, inr some), known))) =
    stored_before words files p _ _ _ _ out_old out_new old new r.outcome is some.stores

-- ---- all commands

pub told_before : (words : List (List ℕ)) (request : TaskRequest)
    (out_old out_new old new : Option (List ℕ)) (r : Ending) → asked words ≡ Some request
    → ServesTold (Some request) out_old out_new old new r → TellsBefore words old new
told_before words (Trace files limit) out_old out_new old new r is h = inl h.1
told_before words (Run files table) out_old out_new old new r is h = inl h.1
told_before words (Verify path) out_old out_new old new r is h = inl h.1
told_before words (Prove files) out_old out_new old new r is h =
    prove_before words files out_old out_new old new r is h
told_before words (Recheck files) out_old out_new old new r is h = inl h.1
told_before words (Assemble text image) out_old out_new old new r is h = inl h.1
told_before words (Disassemble path) out_old out_new old new r is h = inl h.1
told_before words (Explain code) out_old out_new old new r is h = inl h.1

pub served : (request : TaskRequest) (out_old out_new old new : Option (List ℕ)) (r : Ending)
    → ServesTold (Some request) out_old out_new old new r → Serves (Some request) out_old out_new r
served (Trace files limit) out_old out_new old new r h = h.0
served (Run files table) out_old out_new old new r h = h.0
served (Verify path) out_old out_new old new r h = h.0
served (Prove files) out_old out_new old new r h = (old, new, h)
served (Recheck files) out_old out_new old new r h = h.0
served (Assemble text image) out_old out_new old new r h = h.0
served (Disassemble path) out_old out_new old new r h = h.0
served (Explain code) out_old out_new old new r h = h.0
