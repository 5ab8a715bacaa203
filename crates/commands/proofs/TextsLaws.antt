-- Laws of texts of which bytes were dropped: what they spell, and where they are refused.
use Rattle.commands.proofs.Common.{◌≡◌, ◌≢◌, ℕ, ◌+◌, ◌-◌, ◌==◌, Bool, true, false, if◌then◌else◌, List, [], ◌∷◌, ◌++◌, refl, sym, ap, ap₂, ◌∙◌, append_assoc, Option, Some, None, Result, Ok, Err, subst, inl, inr, IfSome, IfOk, OnOk, is_err, MatchResult, String, Consumes, without, gap_of, is_before, placed, in_place, all_placed, all_in_place, IsIdle, TaskOutcome, Done, WrongWords, Refused, Faulted, CannotRead, CannotWrite, CannotReplace, NoMemory, Ending, TellsText, TellsKept, ShowsKept, IsOutputFailure, RefusesText, RefusesTextFile, KeptText}
use Rattle.std.specs.declared.alloc.Global.{Global}
use Rattle.std.specs.String.{string_bytes}
use Rattle.std.proofs.KnownBytes.{Consumes-trans}
use Rattle.messages.specs.Lines.{text_line}
use Rattle.commands.specs.Saying.{Says, LacksMemory}
use Rattle.std.specs.declared.alloc.AllocError.{AllocError}
use Rattle.isa_model.specs.Code.Instructions.{Program}
use Rattle.assembler.specs.declared.errors.AsmError.{AsmError}
use Rattle.assembler.specs.declared.gaps.Gap.{Gap}
use Rattle.assembler.specs.Assembling.{assembled}
use Rattle.assembler.specs.declared.errors.AsmErrorKind.TheVariants as kind
use Rattle.messages.specs.declared.rejections.Rejection.TheVariants as rejection
use Rattle.commands.specs.Texts.{spelled_with, spelled}

-- ---- gaps

placed-pushed : (gaps : List Gap) (gap : Gap) (e : AsmError)
    → all_placed (gaps ++ gap ∷ []) e ≡ all_placed gaps (placed gap e)
placed-pushed [] gap e = refl
placed-pushed (g ∷ gaps) gap e = ap (placed g) (placed-pushed gaps gap e)

in_place-pushed : (gaps : List Gap) (gap : Gap) (r : Result Program AsmError)
    → all_in_place (gaps ++ gap ∷ []) r ≡ all_in_place gaps (in_place gap r)
in_place-pushed gaps gap (Ok p) = refl
in_place-pushed gaps gap (Err e) =
    ap (λ (x : AsmError). let r : Result Program AsmError = Err x in r) (placed-pushed gaps gap e)

placed-kind : (gap : Gap) (e : AsmError) → (placed gap e).kind ≡ e.kind
placed-kind gap e = of (is_before gap e) where
  of : (b : Bool) → (let x : AsmError = if b then e else record {
    kind = e.kind;
    line = (e.line - gap.line) + gap.old_line;
    column = if e.line == gap.line then (e.column - gap.column) + gap.old_column else e.column;
  } in x.kind) ≡ e.kind
  of true = refl
  of false = refl

-- errors keep their kind
pub all_placed-kind : (gaps : List Gap) (e : AsmError) → (all_placed gaps e).kind ≡ e.kind
all_placed-kind [] e = refl
all_placed-kind (gap ∷ gaps) e =
    placed-kind gap (all_placed gaps e) ∙ all_placed-kind gaps e

-- ---- a text that is shortened

pub shortened : (bytes : List ℕ) (gaps kept : List Gap) (left : List ℕ) (from to : ℕ)
    → IsIdle from to bytes → left ≡ without from to bytes → kept ≡ gaps ++ gap_of from to bytes ∷ []
    → (more : List ℕ)
    → all_in_place gaps (assembled (bytes ++ more)) ≡ all_in_place kept (assembled (left ++ more))
shortened bytes gaps kept left from to idle is pushed more =
    ap (all_in_place gaps) (idle more)
    ∙ sym (in_place-pushed gaps (gap_of from to bytes) (assembled (without from to bytes ++ more)))
    ∙ ap (λ (l : List ℕ). all_in_place (gaps ++ gap_of from to bytes ∷ []) (assembled (l ++ more)))
    (sym is)
    ∙ ap (λ (gs : List Gap). all_in_place gs (assembled (left ++ more))) (sym pushed)

-- ---- a text that is read

pub on-ok : {A E : Type 0} (P : Type 0) (r : Result A E) → OnOk r P → is_err r ≡ false → P
on-ok P (Ok x) h e = h
on-ok P (Err x) h e = absurd (cc)

-- some bytes of the source were read, and this is kept of them
abbrev pub IsReadAs : Option (List ℕ) → Option (List ℕ) → KeptText → Type 0
IsReadAs old new text = (bytes : List ℕ) × Consumes old new bytes
    × ((more : List ℕ) → assembled (bytes ++ more) ≡ spelled_with text more)

abbrev pub SpellsTheSame : Option (List ℕ) → KeptText → Type 0
SpellsTheSame source text = IfSome source (λ held. assembled held ≡ spelled text)

-- more bytes were read
pub read-more : (old mid new : Option (List ℕ)) (text next : KeptText) (part : List ℕ)
    → IsReadAs old mid text → Consumes mid new part → next.gaps.items ≡ text.gaps.items
    → next.bytes.items ≡ text.bytes.items ++ part → IsReadAs old new next
read-more old mid new text next part (bytes, read, same) more gaps is = (
  bytes ++ part,
  Consumes-trans old mid new bytes part read more,
  λ rest. ap assembled (append_assoc bytes part rest)
      ∙ same (part ++ rest)
      ∙ ap (λ (l : List ℕ). all_in_place text.gaps.items (assembled l))
      (sym (append_assoc text.bytes.items part rest))
      ∙ ap₂ (λ (gs : List Gap) (l : List ℕ). all_in_place gs (assembled (l ++ rest))) (sym gaps)
      (sym is),
)

-- bytes were dropped that change nothing
pub read-shortened : (old new : Option (List ℕ)) (text next : KeptText) → IsReadAs old new text
    → ((more : List ℕ) → spelled_with text more ≡ spelled_with next more) → IsReadAs old new next
read-shortened old new text next (bytes, read, same) alike =
    (bytes, read, λ more. same more ∙ alike more)

-- ---- a text that is refused

-- the lines of the message are of the error in what was kept, if the outcome is that refusal
tells : (text : KeptText) (error placed : AsmError) (o : TaskOutcome) (why : Option (String Global))
    → assembled text.bytes.items ≡ Err error → placed ≡ all_placed text.gaps.items error
    → ((e : AsmError) → o ≡ Refused (rejection.Text e) → e ≡ placed)
    → TellsKept text.bytes.items error o why → TellsText text o why
tells text error placed Done why is there same h = h
tells text error placed (WrongWords m) why is there same h = h
tells text error placed (Refused (rejection.Image e f)) why is there same h = h
tells text error placed (Refused (rejection.Program e slot insn)) why is there same h = h
tells text error placed (Refused (rejection.Table e at)) why is there same h = h
tells text error placed (Refused rejection.Explored) why is there same h = h
tells text error placed (Refused (rejection.Maps e)) why is there same h = h
tells text error placed (Refused (rejection.Text e)) None is there same h = tt
tells text error placed (Refused (rejection.Text e)) (Some s) is there same h =
    (error, is, sym there ∙ sym (same e refl), h)
tells text error placed (Faulted f form) why is there same h = h
tells text error placed (CannotRead path kind) why is there same h = h
tells text error placed (CannotWrite path cause) why is there same h = h
tells text error placed (CannotReplace path conflict) why is there same h = h
tells text error placed NoMemory why is there same h = h

refused_same : (e placed : AsmError)
    → (let o : TaskOutcome = Refused (rejection.Text e) in o) ≡ Refused (rejection.Text placed)
    → e ≡ placed
refused_same e placed h = cc

no_failure : (e : AsmError) (o : TaskOutcome) → IsOutputFailure o → o ≡ Refused (rejection.Text e)
    → ⊥
no_failure e o failed is = subst IsOutputFailure is failed

no_memory : (e : AsmError) (o : TaskOutcome) → o ≡ NoMemory → o ≡ Refused (rejection.Text e) → ⊥
no_memory e o none is = let both : NoMemory ≡ Refused (rejection.Text e) = sym none ∙ is in cc

-- what standard output and the message say of a refused text
abbrev SaysMade : Option (List ℕ) → Option (List ℕ) → AsmError → TaskOutcome
    → Result (String Global) AllocError → Type 0
SaysMade old new placed o (Ok line) =
    (string_bytes line ≡ text_line placed)
    × Says old new (string_bytes line) (Refused (rejection.Text placed)) o
SaysMade old new placed o (Err e) = LacksMemory old new o

only_it : (old new : Option (List ℕ)) (placed : AsmError) (o : TaskOutcome)
    (made : Result (String Global) AllocError) → SaysMade old new placed o made → (e : AsmError)
    → o ≡ Refused (rejection.Text e) → e ≡ placed
only_it old new placed o (Ok line) (is, inl said) e same =
    refused_same e placed (sym same ∙ said.1)
only_it old new placed o (Ok line) (is, inr failed) e same =
    absurd (no_failure e o failed.1 same)
only_it old new placed o (Err x) lacks e same = absurd (no_memory e o lacks.0 same)

refuses : (text : KeptText) (old new : Option (List ℕ)) (error placed : AsmError) (o : TaskOutcome)
    (made : Result (String Global) AllocError) → error.kind ≢ kind.Memory
    → assembled text.bytes.items ≡ Err error → placed ≡ all_placed text.gaps.items error
    → SaysMade old new placed o made → RefusesText text old new o
refuses text old new error placed o (Ok line) other is there (line_is, says) =
    let all : spelled text ≡ Err placed =
    ap (all_in_place text.gaps.items) is
    ∙ ap (λ (x : AsmError). let r : Result Program AsmError = Err x in r) (sym there) in
    let alike : placed.kind ≡ error.kind =
    ap (λ (x : AsmError). x.kind) there ∙ all_placed-kind text.gaps.items error in
    inr (
      placed,
      all,
      (λ memory. other (sym alike ∙ memory)),
      subst (λ (l : List ℕ). Says old new l (Refused (rejection.Text placed)) o) line_is says,
    )
refuses text old new error placed o (Err x) other is there lacks = inl lacks

pub refuses-file : (text : KeptText) (path : List ℕ) (old new : Option (List ℕ))
    (error placed : AsmError) (o : TaskOutcome) (made : Result (String Global) AllocError)
    (r : Ending) → error.kind ≢ kind.Memory → assembled text.bytes.items ≡ Err error
    → placed ≡ all_placed text.gaps.items error
    → IfOk made (λ line. string_bytes line ≡ text_line placed)
    → MatchResult made
    (λ line. Says old new (string_bytes line) (Refused (rejection.Text placed)) o)
    (λ _. LacksMemory old new o)
    → r.outcome ≡ o → ShowsKept text.bytes.items error r → RefusesTextFile text path old new r
refuses-file text path old new error placed o made r other is there line says same shown =
    let said : SaysMade old new placed o made = of made line says in
    inr (
      subst (RefusesText text old new) (sym same)
          (refuses text old new error placed o made other is there said),
      tells text error placed r.outcome r.why is there
          (λ e refused. only_it old new placed o made said e (sym same ∙ refused)) shown,
    ) where
      of : (made : Result (String Global) AllocError)
          → IfOk made (λ line. string_bytes line ≡ text_line placed)
          → MatchResult made
          (λ line. Says old new (string_bytes line) (Refused (rejection.Text placed)) o)
          (λ _. LacksMemory old new o)
          → SaysMade old new placed o made
      of (Ok line) is says = (is, says)
      of (Err x) is says = says
