-- That clap's parse of the command line leads to what the arguments ask for.
use Rattle.words.proofs.Common.{◌≡◌, ◌∙◌, ℕ, true, List, [], ◌∷◌, Option, Some, None, refl, ap, ap₂, sym, subst, inl, inr, option_map, Result, Err, fault_of, is_simple_and_free, is_simple, subcommand_of, HasKind, IsAmong, Kinds, App, HasMatchesOf, Row, kind_of, subcommand_name_of, subcommand_rows_of, ArgMatches, program, asm, dis, verify, run, trace, prove, recheck, explain, TaskRequest, AsksFor, TellsOf, asked, request_by, request_met, unless_wrong}
use Rattle.clap.specs.declared.error.Error.{Error}
use Rattle.clap.specs.declared.error.kind.ErrorKind.{ErrorKind}
use Rattle.clap.specs.declared.error.kind.ErrorKind.TheVariants as kind
use Rattle.words.specs.declared.tasks.Task.{Task}
use Rattle.words.specs.declared.tasks.WordsError.{WordsError}
use Rattle.words.specs.declared.tasks.WordsError.TheVariants.{Wrong, NotUnicode, Memory}

-- for this command line clap's contracts say what a parse finds, and how it fails
is_simple-program : is_simple program ≡ true
unfolding program asm dis verify run trace prove recheck explain
is_simple-program = refl

is_simple_and_free-program : is_simple_and_free program ≡ true
unfolding program asm dis verify run trace prove recheck explain
is_simple_and_free-program = refl

unless_wrong-among : (k : ErrorKind) (kinds : Kinds) (r : Option TaskRequest) → IsAmong k kinds
    → unless_wrong kinds r ≡ None
unless_wrong-among k [] r among = absurd among
unless_wrong-among k (x ∷ xs) r among = refl

-- the parse failed
pub failed-reads : (a : App) (words : List (List ℕ)) (e : Error) (w : WordsError) → a ≡ program
    → (is_simple_and_free a ≡ true → HasKind (fault_of a words) e)
    → (kind_of e ≡ kind.OutOfMemory → w ≡ Memory) → AsksFor words (Err w)
unfolding asked
failed-reads a words e Memory is h memory = tt
failed-reads a words e (Wrong text) is h memory =
    elim (h (ap is_simple_and_free is ∙ is_simple_and_free-program)) [
      | inl out ↦ let same : Wrong text ≡ Memory = memory out in cc
      | inr among ↦
          unless_wrong-among (kind_of e) (fault_of program words) _
          (subst (λ (x : App). IsAmong (kind_of e) (fault_of x words)) is among)
    ]
failed-reads a words e NotUnicode is h memory =
    elim (h (ap is_simple_and_free is ∙ is_simple_and_free-program)) [
      | inl out ↦ let same : NotUnicode ≡ Memory = memory out in cc
      | inr among ↦
          unless_wrong-among (kind_of e) (fault_of program words) _
          (subst (λ (x : App). IsAmong (kind_of e) (fault_of x words)) is among)
    ]

-- the parse succeeded
asked-parsed : (a : App) (words : List (List ℕ)) (m : ArgMatches) → a ≡ program
    → (is_simple_and_free a ≡ true → fault_of a words ≡ [])
    → HasMatchesOf a words m → asked words ≡ request_met (subcommand_rows_of m)
unfolding asked
asked-parsed a words m is h found =
    let none : fault_of program words ≡ [] =
    sym (ap (λ (x : App). fault_of x words) is)
    ∙ h (ap is_simple_and_free is ∙ is_simple_and_free-program) in
    let met : subcommand_rows_of m ≡ subcommand_of program words =
    (found (ap is_simple is ∙ is_simple-program)).1
    ∙ ap (λ (x : App). subcommand_of x words) is in
    ap₂ unless_wrong none (ap request_met (sym met))

maps : {A B C : Type 0} (g : B → C) (f : A → B) (o : Option A)
    → option_map (λ x. g (f x)) o ≡ option_map g (option_map f o)
maps g f None = refl
maps g f (Some x) = refl

-- the name of the command is kept with its arguments
name-met : (m : ArgMatches) → subcommand_name_of m ≡ option_map (λ p. p.0) (subcommand_rows_of m)
name-met m = maps (λ (p : List ℕ × List Row). p.0) _ _

met-some : (o : Option (List ℕ × List Row)) (name : List ℕ) (rows : List Row)
    → Some name ≡ option_map (λ p. p.0) o → Some rows ≡ option_map (λ p. p.1) o
    → o ≡ Some (name, rows)
met-some None name rows e f = cc
met-some (Some (n, r)) name rows e f = cc

met-none : (o : Option (List ℕ × List Row)) → None ≡ option_map (λ p. p.0) o → o ≡ None
met-none None e = refl
met-none (Some p) e = cc

-- the parse succeeded, and found a command
pub parsed-reads : (a : App) (words : List (List ℕ)) (m : ArgMatches) (name : List ℕ)
    (rows : List Row) (r : Result Task WordsError) → a ≡ program
    → (is_simple_and_free a ≡ true → fault_of a words ≡ []) → HasMatchesOf a words m
    → Some name ≡ subcommand_name_of m → Some rows ≡ option_map (λ p. p.1) (subcommand_rows_of m)
    → TellsOf (request_by name rows) r → AsksFor words r
parsed-reads a words m name rows r is h found e f tells =
    let met : subcommand_rows_of m ≡ Some (name, rows) =
    met-some (subcommand_rows_of m) name rows (e ∙ name-met m) f in
    let same : request_by name rows ≡ asked words =
    sym (asked-parsed a words m is h found ∙ ap request_met met) in
    subst (λ (o : Option TaskRequest). TellsOf o r) same tells

-- the parse succeeded, and found no command
pub parsed-none : (a : App) (words : List (List ℕ)) (m : ArgMatches) → a ≡ program
    → (is_simple_and_free a ≡ true → fault_of a words ≡ []) → HasMatchesOf a words m
    → None ≡ subcommand_name_of m → asked words ≡ None
parsed-none a words m is h found e =
    asked-parsed a words m is h found
    ∙ ap request_met (met-none (subcommand_rows_of m) (e ∙ name-met m))
