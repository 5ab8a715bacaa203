-- That clap's parse of xdpvm_filter's command line leads to what the arguments ask for.
use Rattle.words.proofs.Common.{◌≡◌, ◌∙◌, ◌⊎◌, ℕ, true, List, [], ◌∷◌, Option, None, refl, ap, sym, subst, inl, inr, Result, Ok, Err, IfErr, fault_of, is_simple_and_free, is_simple, matches_of, HasKind, IsAmong, Kinds, App, HasMatchesOf, found_of, kind_of, rows_of, ArgMatches, app_by, convert_program, filter_program, show_program, unless_wrong}
use Rattle.clap.specs.declared.error.Error.{Error}
use Rattle.clap.specs.declared.error.kind.ErrorKind.{ErrorKind}
use Rattle.clap.specs.declared.error.kind.ErrorKind.TheVariants as kind
use Rattle.words.specs.declared.filter_commands.FilterCommand.{FilterCommand}
use Rattle.words.specs.declared.filter_commands.FilterCommand.TheVariants.{Filter, Convert, Show}
use Rattle.words.specs.declared.filter_tasks.OperatorTask.{OperatorTask}
use Rattle.words.specs.declared.filter_tasks.FilterWordsError.{FilterWordsError}
use Rattle.words.specs.declared.filter_tasks.FilterWordsError.TheVariants.{Shown, Wrong, Memory}
use Rattle.words.specs.FilterCommands.{command_of, words_by}
use Rattle.words.specs.FilterRequests.{OperatorRequest}
use Rattle.words.specs.FilterAsked.{AsksForTextOn, FilterAsksFor, FilterTellsOf, IsUnshown, HasText, ShowsTextOn, asked_by, asked_on, filter_asked}

-- for these command lines clap's contracts say what a parse finds, and how it fails
is_simple-by : (c : FilterCommand) → is_simple (app_by c) ≡ true
unfolding filter_program convert_program show_program
is_simple-by Filter = refl
is_simple-by Convert = refl
is_simple-by Show = refl

is_simple_and_free-by : (c : FilterCommand) → is_simple_and_free (app_by c) ≡ true
unfolding filter_program convert_program show_program
is_simple_and_free-by Filter = refl
is_simple_and_free-by Convert = refl
is_simple_and_free-by Show = refl

unless_wrong-any : {A : Type 0} (k : ErrorKind) (kinds : Kinds) (r : Option A) → IsAmong k kinds
    → unless_wrong kinds r ≡ None
unless_wrong-any k [] r among = absurd among
unless_wrong-any k (x ∷ xs) r among = refl

asks-text : (k : ErrorKind) (c : FilterCommand) (line : List (List ℕ))
    → IsAmong k (fault_of (app_by c) line)
    → (k ≡ kind.DisplayHelp) ⊎ (k ≡ kind.DisplayVersion) → AsksForTextOn c line
asks-text k c line among (inl help) =
    inl (subst (λ (x : ErrorKind). IsAmong x (fault_of (app_by c) line)) help among)
asks-text k c line among (inr version) =
    inr (subst (λ (x : ErrorKind). IsAmong x (fault_of (app_by c) line)) version among)

-- the result of reading the command line of a command
abbrev pub AsksOn : FilterCommand → List (List ℕ) → Result OperatorTask FilterWordsError → Type 0
AsksOn c line r = FilterTellsOf (asked_on c line) r × ShowsTextOn c line r

-- it is that of reading the arguments, where the command and its line are theirs
asks-for : (c : FilterCommand) (line words : List (List ℕ))
    (r : Result OperatorTask FilterWordsError) → c ≡ command_of words → line ≡ words_by c words
    → AsksOn c line r → FilterAsksFor words r
unfolding filter_asked
asks-for c line words r is here h =
    subst (λ (x : FilterCommand). AsksOn x (words_by x words) r) is
    (subst (λ (x : List (List ℕ)). AsksOn c x r) here h)

-- the parse failed, with one of the kinds of this command line
failed-among : (c : FilterCommand) (line : List (List ℕ)) (k : ErrorKind) (w : FilterWordsError)
    → IsAmong k (fault_of (app_by c) line)
    → (HasText w → (k ≡ kind.DisplayHelp) ⊎ (k ≡ kind.DisplayVersion)) → AsksOn c line (Err w)
failed-among c line k (Shown text) among shown =
    (unless_wrong-any k (fault_of (app_by c) line) _ among, asks-text k c line among (shown tt))
failed-among c line k (Wrong text) among shown =
    (unless_wrong-any k (fault_of (app_by c) line) _ among, tt)
failed-among c line k Memory among shown = (tt, tt)

-- the parse failed
pub filter-failed : (a : App) (c : FilterCommand) (line words : List (List ℕ)) (e : Error)
    (w : FilterWordsError) → a ≡ app_by c → c ≡ command_of words → line ≡ words_by c words
    → (is_simple_and_free a ≡ true → HasKind (fault_of a line) e)
    → (kind_of e ≡ kind.OutOfMemory → w ≡ Memory)
    → (HasText w → (kind_of e ≡ kind.DisplayHelp) ⊎ (kind_of e ≡ kind.DisplayVersion))
    → FilterAsksFor words (Err w)
filter-failed a c line words e w is named here h memory shown =
    asks-for c line words (Err w) named here (
    elim (h (ap is_simple_and_free is ∙ is_simple_and_free-by c)) [
      | inl out ↦
          subst (λ (x : FilterWordsError). AsksOn c line (Err x)) (sym (memory out)) (tt, tt)
      | inr among ↦
          failed-among c line (kind_of e) w
          (subst (λ (x : App). IsAmong (kind_of e) (fault_of x line)) is among) shown
    ]
    )

unshown-shows : (c : FilterCommand) (line : List (List ℕ))
    (r : Result OperatorTask FilterWordsError) → IfErr r IsUnshown → ShowsTextOn c line r
unshown-shows c line (Ok task) h = tt
unshown-shows c line (Err (Shown text)) h = absurd h
unshown-shows c line (Err (Wrong text)) h = tt
unshown-shows c line (Err Memory) h = tt

-- the parse succeeded
pub filter-parsed : (a : App) (c : FilterCommand) (line words : List (List ℕ)) (m : ArgMatches)
    (r : Result OperatorTask FilterWordsError) → a ≡ app_by c → c ≡ command_of words
    → line ≡ words_by c words → (is_simple_and_free a ≡ true → fault_of a line ≡ [])
    → HasMatchesOf a line m → FilterTellsOf (asked_by c (rows_of (found_of m))) r
    → IfErr r IsUnshown → FilterAsksFor words r
filter-parsed a c line words m r is named here h found tells unshown =
    let none : fault_of (app_by c) line ≡ [] =
    sym (ap (λ (x : App). fault_of x line) is)
    ∙ h (ap is_simple_and_free is ∙ is_simple_and_free-by c) in
    let rows : rows_of (found_of m) ≡ matches_of (app_by c) line =
    (found (ap is_simple is ∙ is_simple-by c)).0
    ∙ ap (λ (x : App). matches_of x line) is in
    let asked : asked_on c line ≡ asked_by c (matches_of (app_by c) line) =
    ap (λ (kinds : Kinds). unless_wrong kinds (asked_by c (matches_of (app_by c) line))) none in
    let same : asked_by c (rows_of (found_of m)) ≡ asked_on c line =
    ap (asked_by c) rows ∙ sym asked in
    asks-for c line words r named here (
      subst (λ (o : Option OperatorRequest). FilterTellsOf o r) same tells,
      unshown-shows c line r unshown,
    )
