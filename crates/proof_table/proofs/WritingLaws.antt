-- Tables and their entries that were written, whole or in part.
use Rattle.proof_table.proofs.Common.{◌≡◌, ℕ, zero, suc, ◌+◌, ◌-◌, ◌^◌, ◌<◌, ◌≤◌, min, List, [], ◌∷◌, ◌++◌, length, take, replicate, slice_get, All, Option, Some, Ok, ap, sym, ◌∙◌, subst, append-nil, length-append, arith, flat_map, All-nil, All-cons, All-append, All-push, All-replicate, All-from_recursion, Appends, Program, AppendsBeginning, IsImage, Written, frame_slots, start, first_registers, HasNumber, OfStart, Entry, entry_bytes, head_bytes, table_bytes, KindFits, StackSlotFits, EntryFits, entry_said, IsForTable, IsTableSize, GainsTable, GainsTableOf, BeginsTable, GainsEntries, BeginsEntries, SpellsEntry, IsNumberedAs, OfFirst, entry_for, entries_for, table_length}
use Rattle.std.specs.Prelude.{refl}
use Rattle.std.specs.Option.{is_some}
use Rattle.std.proofs.lemmas.List.{length-replicate, map-append, take_all}
use Rattle.std.proofs.lemmas.Option.{slice_get_within, get_or_from_slice_get}
use Rattle.std.proofs.Math.Seq.{take-suc}
use Rattle.std.proofs.lemmas.Grind.{flat_map-append}
use Rattle.std.proofs.KnownBytes.{Appends-nil, Appends-trans}
use Rattle.exact_io.proofs.TransferLaws.{AppendsBeginning-first, AppendsBeginning-second}
use Rattle.image.proofs.ImageLaws.{fetch-zero}
use Rattle.stack_state.specs.declared.states.State.{State}
use Rattle.proof_table.specs.declared.listing.ExploredInsn.{ExploredInsn}
use Rattle.isa_model.specs.declared.limits.TheConstants.{MAX_EXPLORED}
use Rattle.table_entries.specs.Tables.{table_read}
use Rattle.proof_table.proofs.FittingLaws.{entry_bytes-said}
use Rattle.proof_table.proofs.TableLaws.{table_read-table_bytes}

-- ---- an entry that a table of any program can spell

unfoldable pub first_entry : Entry
first_entry = record { number = 1; state = start; successors = [] }

EntryFits-first : (p : Program) → IsImage p → EntryFits p first_entry
unfolding first_entry start
EntryFits-first p image =
    let rows = length p.maps in
    record {
      allowed = ap is_some (fetch-zero p image).1;
      slot = omega arith;
      few = omega arith;
      callers = λ k d less. absurd (omega arith);
      innermost = record {
        return_slot = omega arith;
        ten = refl;
        registers =
            All-from_recursion (KindFits rows 0) first_registers
            (tt, (tt, (tt, (tt, (tt, (tt, (tt, (tt, (tt, (tt, tt))))))))));
        all_slots = length-replicate frame_slots (Written 0);
        slots = All-replicate (StackSlotFits rows 0) frame_slots (Written 0) (omega arith);
        allowed = refl;
      };
      named = omega arith;
      indexes = All-nil (λ i. i < 2 ^ 32);
    }

entry_bytes-some : (e : Entry) → 0 < length (entry_bytes e)
unfolding entry_bytes
entry_bytes-some e = omega arith

-- ---- entries

-- the bytes of an entry whose state was restored spell that entry
pub SpellsEntry-said : (p : Program) (n : ℕ) (a b : State) (xs ys zs before after : List ℕ) → b ≡ a
    → ys ≡ xs → zs ≡ xs
    → (let e : Entry = record { number = n; state = b; successors = ys } in EntryFits p
    (entry_said e)) → before ≡ []
    → (let e : Entry = record { number = n; state = b; successors = zs } in after
    ≡ before ++ entry_bytes e)
    → (let e : Entry = record { number = n; state = a; successors = xs } in SpellsEntry p
    (entry_said e) after)
SpellsEntry-said p n a b xs ys zs before after restored named listed fits empty spelled =
    let entry : State → List ℕ → Entry = λ s l. record { number = n; state = s; successors = l } in
    record {
      fits =
          subst (λ (s : State). EntryFits p (entry_said (entry s xs))) restored
          (subst (λ (l : List ℕ). EntryFits p (entry_said (entry b l))) named fits);
      spelled =
          spelled
          ∙ ap (λ (l : List ℕ). l ++ entry_bytes (entry b zs)) empty
          ∙ ap (λ (s : State). entry_bytes (entry s zs)) restored
          ∙ ap (λ (l : List ℕ). entry_bytes (entry a l)) listed
          ∙ sym (entry_bytes-said (entry a xs));
    }

nothing_yet : (old : Option (List ℕ)) (bytes : List ℕ) → 0 < length bytes
    → AppendsBeginning old old bytes
nothing_yet old bytes some = (0, some, Appends-nil old)

-- one more entry is that of the next instruction
IsNumberedAs-more : (insns : List ExploredInsn) (i : ℕ) (es : List Entry) (e : Entry)
    (insn : ExploredInsn) → length es ≡ i → slice_get insns i ≡ Some insn → e.number ≡ insn.number
    → IsNumberedAs insns es → IsNumberedAs insns (es ++ e ∷ [])
IsNumberedAs-more [] i es e insn size found is h =
    absurd (omega (arith, slice_get_within [] i insn found))
IsNumberedAs-more (x ∷ insns) zero [] e insn size found is h = cc (is, found)
IsNumberedAs-more (x ∷ insns) (suc i) [] e insn size found is h = absurd (omega (arith, size))
IsNumberedAs-more (x ∷ insns) i (f ∷ es) e insn size found is h = h

-- one more instruction has one more entry
entries_for-more : (insns : List ExploredInsn) (i : ℕ) (insn : ExploredInsn)
    → slice_get insns i ≡ Some insn
    → entries_for (take (i + 1) insns) ≡ entries_for (take i insns) ++ entry_for insn ∷ []
entries_for-more insns i insn found =
    let one : i + 1 ≡ suc i = omega arith in
    let next : take (i + 1) insns ≡ take i insns ++ insn ∷ [] =
    ap (λ (n : ℕ). take n insns) one
    ∙ take-suc insns i insn (slice_get_within insns i insn found)
    ∙ ap (λ (x : ExploredInsn). take i insns ++ x ∷ [])
    (get_or_from_slice_get insns i insn insn found) in
    ap entries_for next ∙ map-append entry_for (take i insns) (insn ∷ [])

-- the number of the first entry is one of which this holds for the first instruction's
OfFirst-numbered : (insns : List ExploredInsn) (es : List Entry) (fact : ℕ → Type 0)
    → 1 ≤ length es → IsNumberedAs insns es → OfStart insns fact → OfFirst es fact
OfFirst-numbered insns [] fact some is h = absurd (omega (arith, some))
OfFirst-numbered [] (e ∷ es) fact some is h = absurd is
OfFirst-numbered (x ∷ insns) (e ∷ es) fact some is h = subst fact (sym is) h

pub GainsEntries-none : (p : Program) (insns : List ExploredInsn) (old : Option (List ℕ))
    → GainsEntries p insns 0 old old
GainsEntries-none p insns old =
    record {
      entries = [];
      count_is = refl;
      exact = refl;
      numbered = tt;
      fit = All-nil (EntryFits p);
      gained = Appends-nil old;
    }

pub GainsEntries-more : (p : Program) (insns : List ExploredInsn) (i : ℕ)
    (old mid new : Option (List ℕ)) (e : Entry) (bytes : List ℕ) (insn : ExploredInsn)
    → slice_get insns i ≡ Some insn → e ≡ entry_for insn
    → GainsEntries p insns i old mid → SpellsEntry p e bytes → Appends mid new bytes
    → GainsEntries p insns (i + 1) old new
GainsEntries-more p insns i old mid new e bytes insn found is g s written =
    let all : flat_map entry_bytes (g.entries ++ e ∷ []) ≡ flat_map entry_bytes g.entries ++ bytes =
    flat_map-append entry_bytes g.entries (e ∷ [])
    ∙ ap (λ (l : List ℕ). flat_map entry_bytes g.entries ++ l)
    (append-nil (entry_bytes e) ∙ sym s.spelled) in
    record {
      entries = g.entries ++ e ∷ [];
      count_is = omega (arith, length-append g.entries (e ∷ []), g.count_is);
      exact = ap (λ (l : List Entry). l ++ e ∷ []) g.exact
          ∙ ap (λ (x : Entry). entries_for (take i insns) ++ x ∷ []) is
          ∙ sym (entries_for-more insns i insn found);
      numbered =
          IsNumberedAs-more insns i g.entries e insn g.count_is found
          (ap (λ (x : Entry). x.number) is) g.numbered;
      fit = All-push (EntryFits p) g.entries e g.fit s.fits;
      gained =
          subst (Appends old new) (sym all)
          (Appends-trans old mid new (flat_map entry_bytes g.entries) bytes g.gained written);
    }

-- after some entries a part of the next one was written
BeginsEntries-at : (p : Program) (insns : List ExploredInsn) (i count : ℕ)
    (old mid new : Option (List ℕ)) (e : Entry)
    → IsImage p → i < count → GainsEntries p insns i old mid → EntryFits p e
    → AppendsBeginning mid new (entry_bytes e) → BeginsEntries p count old new
BeginsEntries-at p insns i count old mid new e image less g fits part =
    let others = replicate (count - (i + 1)) first_entry in
    record {
      entries = g.entries ++ e ∷ others;
      count_is =
          omega (
            arith,
            length-append g.entries (e ∷ others),
            length-replicate
                (count - (i + 1)) first_entry,
            g.count_is,
          );
      fit = All-append (EntryFits p) g.entries (e ∷ others) g.fit
          (All-cons (EntryFits p) e others fits
          (All-replicate (EntryFits p) (count - (i + 1)) first_entry
          (EntryFits-first p image)));
      begun =
          subst (AppendsBeginning old new)
          (sym (flat_map-append entry_bytes g.entries (e ∷ others)))
          (AppendsBeginning-second old mid new (flat_map entry_bytes g.entries)
          (entry_bytes e ++ flat_map entry_bytes others) g.gained
          (AppendsBeginning-first mid new (entry_bytes e) (flat_map entry_bytes others) part));
    }

pub BeginsEntries-part : (p : Program) (insns : List ExploredInsn) (i count : ℕ)
    (old mid new : Option (List ℕ)) (e : Entry) (bytes : List ℕ) → IsImage p → i < count
    → GainsEntries p insns i old mid → SpellsEntry p e bytes
    → AppendsBeginning mid new bytes → BeginsEntries p count old new
BeginsEntries-part p insns i count old mid new e bytes image less g s part =
    BeginsEntries-at p insns i count old mid new e image less g s.fits
    (subst (AppendsBeginning mid new) s.spelled part)

-- some entries were written, and not all
pub BeginsEntries-some : (p : Program) (insns : List ExploredInsn) (i count : ℕ)
    (old mid : Option (List ℕ)) → IsImage p → i < count → GainsEntries p insns i old mid
    → BeginsEntries p count old mid
BeginsEntries-some p insns i count old mid image less g =
    BeginsEntries-at p insns i count old mid mid first_entry image less g (EntryFits-first p image)
    (nothing_yet mid (entry_bytes first_entry) (entry_bytes-some first_entry))

-- ---- tables

-- the entries after their count
counted : (n : ℕ) (es : List Entry) → length es ≡ n
    → table_bytes es ≡ head_bytes n ++ flat_map entry_bytes es
counted n es size = ap (λ m. head_bytes m ++ flat_map entry_bytes es) size

is_read : (p : Program) (n : ℕ) (es : List Entry) → length es ≡ n → 1 ≤ n → n ≤ MAX_EXPLORED
    → All (EntryFits p) es → table_read p (table_bytes es) ≡ Ok es
is_read p n es size some few fit = table_read-table_bytes p es (omega arith) (omega arith) fit

-- the entries of all instructions are a table
pub GainsTableOf-entries : (p : Program) (insns : List ExploredInsn) (n : ℕ)
    (old mid new : Option (List ℕ)) → n ≡ length insns → 1 ≤ n → n ≤ MAX_EXPLORED
    → OfStart insns (HasNumber p start) → Appends old mid (head_bytes n)
    → GainsEntries p insns n mid new → GainsTableOf p (entries_for insns) old new
GainsTableOf-entries p insns n old mid new all some few number head g =
    let whole : take n insns ≡ insns = take_all n insns (omega (arith, all)) in
    let is : g.entries ≡ entries_for insns = g.exact ∙ ap entries_for whole in
    let table : GainsTableOf p g.entries old new =
    record {
      read = is_read p n g.entries g.count_is some few g.fit;
      number =
          OfFirst-numbered insns g.entries (HasNumber p start)
          (omega (arith, some, g.count_is)) g.numbered number;
      gained =
          subst (Appends old new) (sym (counted n g.entries g.count_is))
          (Appends-trans old mid new (head_bytes n)
          (flat_map entry_bytes g.entries) head g.gained);
    } in
    subst (λ (es : List Entry). GainsTableOf p es old new) is table

pub GainsTable-of : (p : Program) (entries : List Entry) (old new : Option (List ℕ))
    → GainsTableOf p entries old new → GainsTable p old new
GainsTable-of p entries old new g =
    record { entries = entries; read = g.read; number = g.number; gained = g.gained }

-- the entries that were measured are a table
measured : (p : Program) (insns : List ExploredInsn) (written : List ℕ) → IsForTable p insns
    → GainsEntries p insns (length insns) (Some (head_bytes (length insns))) (Some written)
    → GainsTableOf p (entries_for insns) (Some []) (Some written)
measured p insns written h g =
    GainsTableOf-entries p insns (length insns) (Some []) (Some (head_bytes (length insns)))
    (Some written) refl h.some h.few h.number refl g

-- they have the size of a table
IsTableSize-entries : (p : Program) (insns : List ExploredInsn) (written : List ℕ) (size : ℕ)
    → IsForTable p insns
    → GainsEntries p insns (length insns) (Some (head_bytes (length insns))) (Some written)
    → size ≡ min (length written) (2 ^ 64 - 1) → IsTableSize p size
IsTableSize-entries p insns written size h g is = (
  written,
  GainsTable-of p (entries_for insns) (Some []) (Some written) (measured p insns written h g),
  is,
)

-- which is that of the table of these instructions
table_length-entries : (p : Program) (insns : List ExploredInsn) (written : List ℕ) (size : ℕ)
    → IsForTable p insns
    → GainsEntries p insns (length insns) (Some (head_bytes (length insns))) (Some written)
    → size ≡ min (length written) (2 ^ 64 - 1) → size ≡ table_length (entries_for insns)
table_length-entries p insns written size h g is =
    is ∙ ap (λ (l : List ℕ). min (length l) (2 ^ 64 - 1)) (measured p insns written h g).gained

-- both, once all entries were measured, for a program that is the image's
pub sizes-entries : (p q : Program) (insns : List ExploredInsn) (n : ℕ) (written : List ℕ)
    (size : ℕ) → q ≡ p → n ≡ length insns → IsForTable p insns
    → GainsEntries q insns n (Some (head_bytes (length insns))) (Some written)
    → size ≡ min (length written) (2 ^ 64 - 1)
    → IsTableSize p size × (size ≡ table_length (entries_for insns))
sizes-entries p q insns n written size is all h g measures =
    let head = Some (head_bytes (length insns)) in
    let whole : GainsEntries p insns (length insns) head (Some written) =
    subst (λ (r : Program). GainsEntries r insns (length insns) head (Some written)) is
    (subst (λ (m : ℕ). GainsEntries q insns m head (Some written)) all g) in (
      IsTableSize-entries p insns written size h whole measures,
      table_length-entries p insns written size h whole measures,
    )

pub BeginsTable-entries : (p : Program) (n : ℕ) (old mid new : Option (List ℕ)) → 1 ≤ n
    → n ≤ MAX_EXPLORED → Appends old mid (head_bytes n) → BeginsEntries p n mid new
    → BeginsTable p old new
BeginsTable-entries p n old mid new some few head b =
    record {
      entries = b.entries;
      read = is_read p n b.entries b.count_is some few b.fit;
      begun = subst (AppendsBeginning old new) (sym (counted n b.entries b.count_is))
          (AppendsBeginning-second old mid new (head_bytes n)
          (flat_map entry_bytes b.entries) head b.begun);
    }

pub BeginsTable-head : (p : Program) (n : ℕ) (old new : Option (List ℕ)) → IsImage p → 1 ≤ n
    → n ≤ MAX_EXPLORED → AppendsBeginning old new (head_bytes n) → BeginsTable p old new
BeginsTable-head p n old new image some few part =
    let es = replicate n first_entry in
    let size = length-replicate n first_entry in
    record {
      entries = es;
      read =
          is_read p n es size some few
          (All-replicate (EntryFits p) n first_entry (EntryFits-first p image));
      begun =
          subst (AppendsBeginning old new) (sym (counted n es size))
          (AppendsBeginning-first old new (head_bytes n) (flat_map entry_bytes es) part);
    }

-- nothing was written
pub BeginsTable-nothing : (p : Program) (old : Option (List ℕ)) → IsImage p → BeginsTable p old old
BeginsTable-nothing p old image =
    BeginsTable-head p 1 old old image (omega arith) (omega arith)
    (nothing_yet old (head_bytes 1) (omega arith))
