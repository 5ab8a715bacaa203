-- The hint for a text that is refused: a sentence for each case. The front has the bytes of the
-- line before the column, the back those from there on, up to some length.
use Rattle.std.specs.Prelude.{ℕ, true, false, Bool, ◌&&◌, ◌||◌, nat_le, List, [], ◌∷◌, length, map, take, bytes_eq, codes, if◌then◌else◌}
use Rattle.std.specs.Borrow.{Bor}
use Rattle.assembler.specs.declared.errors.AsmErrorKind.{AsmErrorKind}
use Rattle.assembler.specs.declared.errors.AsmErrorKind.TheVariants.{UnknownByte, NoForm, OutOfRange, DefinedTwice, NotDefined, TooFar, MapLine, NoMap, NotOneValue, PastValue, LateVersion, Memory, SlotCount}
use Rattle.assembler.specs.declared.hints.WhereSought.{WhereSought}
use Rattle.assembler.specs.declared.hints.WhereSought.TheVariants.{FrontBegins, FrontHas, BackBegins, BackHas}
use Rattle.assembler.specs.declared.hints.TheConstants.{UNKNOWN_BYTE, NO_JUMP, NO_ASSIGNMENT, REGISTERS, NO_FORM, OUT_OF_RANGE, NOT_DEFINED, WRONG_MAP}

-- bytes begin with these
abbrev pub begins : List ℕ → List ℕ → Bool
begins bs part = nat_le (length part) (length bs) && bytes_eq (take (length part) bs) part

-- these occur somewhere in the bytes
abbrev pub has : List ℕ → List ℕ → Bool
has [] part = false
has (b ∷ bs) part = begins (b ∷ bs) part || has bs part

-- a word is where it is sought
abbrev pub is_found : WhereSought → List ℕ → List ℕ → List ℕ → Bool
is_found FrontBegins word front back = begins front word
is_found FrontHas word front back = has front word
is_found BackBegins word front back = begins back word
is_found BackHas word front back = has back word

-- one of these words is where they are sought
abbrev pub has_any : WhereSought → List (List ℕ) → List ℕ → List ℕ → Bool
has_any sought [] front back = false
has_any sought (word ∷ words) front back =
    is_found sought word front back || has_any sought words front back

-- ---- the tables of hints, which are constants of the code

-- where words are sought, the words, and the hint if one of them is there
abbrev pub SoughtRow : Type 0
SoughtRow = WhereSought × List (List ℕ) × List ℕ

-- a word and a row that are lent
abbrev pub lent_word : Bor (List ℕ) → List ℕ
lent_word word = word.now

abbrev pub lent_row : WhereSought × Bor (List (Bor (List ℕ))) × Bor (List ℕ) → SoughtRow
lent_row row = (row.0, map lent_word row.1.now, row.2.now)

-- a word and a row of a constant
abbrev KeptWord : Type 0
KeptWord = record { now : List ℕ }

abbrev kept_word : KeptWord → List ℕ
kept_word word = word.now

abbrev kept_row : WhereSought × record { now : List KeptWord } × KeptWord → SoughtRow
kept_row row = (row.0, map kept_word row.1.now, row.2.now)

-- the hint of the first row of which a word is found, or else this one
unfoldable pub hint_in : List SoughtRow → List ℕ → List ℕ → List ℕ → List ℕ
hint_in [] otherwise front back = otherwise
hint_in (row ∷ rows) otherwise front back =
    if has_any row.0 row.1 front back then row.2 else hint_in rows otherwise front back

-- for a statement, by whether it begins with a register
abbrev pub by_beginning : Bool → List ℕ → List ℕ → List ℕ
by_beginning true front back = hint_in (map kept_row NO_ASSIGNMENT.now)
    (codes "it is `r1 = r2`, `r1 = 5` or `w1 ^= w2`: registers of one width, r or w") front back
by_beginning false front back = hint_in (map kept_row NO_JUMP.now)
    (codes "no statement begins so: in place of `mov r0, 2` write `r0 = 2`") front back

-- for a statement that no form fits
abbrev pub begins_register : List ℕ → List ℕ → Bool
begins_register front back = has_any BackBegins (map kept_word REGISTERS.now) front back

abbrev pub without_form : List ℕ → List ℕ → List ℕ → List ℕ
without_form otherwise front back = hint_in (map kept_row NO_FORM.now) otherwise front back

abbrev pub no_form : List ℕ → List ℕ → List ℕ
no_form front back =
    without_form (by_beginning (begins_register front back) front back) front back

-- ---- by the kind of the refusal

abbrev pub hint : AsmErrorKind → List ℕ → List ℕ → List ℕ
hint UnknownByte front back = hint_in (map kept_row UNKNOWN_BYTE.now) (codes
    "outside comments stand words, signs, and numbers with no letter behind them") front back
hint NoForm front back = no_form front back
hint OutOfRange front back = hint_in (map kept_row OUT_OF_RANGE.now) (codes
    "from -2147483648 to 2147483647; a larger number is loaded: `r2 = 3000000000 ll`") front back
hint DefinedTwice front back = codes "give one of the two another name"
hint NotDefined front back = hint_in (map kept_row NOT_DEFINED.now)
    (codes "a statement is named by `name:` before it; case counts") front back
hint TooFar front back = codes "`gotol` goes farther"
hint MapLine front back = hint_in (map kept_row WRONG_MAP.now) (codes
    "at most 16 lines before all instructions; an array's keys have 4 bytes, values to 4096")
    front back
hint NoMap front back = codes "maps are counted from 0, in the order of their lines"
hint NotOneValue front back =
    codes "a look-up finds the value: `r1 = map_by_idx(0)`, r2 at the key, `call 1`"
hint PastValue front back = codes "the map line's second number is the size of a value"
hint LateVersion front back = codes "move it to the front, before labels and map lines"
hint Memory front back = codes "give the process more memory"
hint SlotCount front back = codes "the least text is `r0 = 2` and `exit`"
