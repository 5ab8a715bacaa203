-- Code that was read from bytes is spelled by them, and is code; and code that is spelled is read.
use Rattle.image.proofs.Common.{◌≡◌, ℕ, zero, suc, ◌-◌, ◌+◌, ◌*◌, ◌≤◌, Bool, true, false, List, [], ◌∷◌, ◌++◌, take, drop, length, Option, Some, None, Result, Ok, Err, refl, sym, ap, ◌∙◌, subst, arith, drop-drop, length-append, take_all, length-drop, length-take, take-append-drop, drop_at, MapDef, Insn, LoadNumber, LoadMap, LoadMapValue, slots_filled, spelling_of, InsnFits, EachByte, EachByte-drop, ImageError, NamesRows, code_bytes, is_wide, IsCode, NamesMaps, ◌>>=◌, unless, map_refusal, insn_at, at_slot, code_from}
use Rattle.insn_codec.specs.declared.errors.CodecError.{CodecError}
use Rattle.insn_codec.specs.Decoding.{decoded}
use Rattle.image.proofs.RowLaws.{NamesRows-map_refusal, map_refusal-NamesRows}

abbrev CodeSlots : Type 0
CodeSlots = List (Option Insn)

-- the laws of the decoder
pub record Laws : Type 0 where
  pub found : (bytes : List ℕ) (i : Insn) → EachByte bytes → decoded bytes ≡ Ok i
      → take (8 * slots_filled i) bytes ≡ spelling_of i
  pub fits : (bytes : List ℕ) (i : Insn) → EachByte bytes → decoded bytes ≡ Ok i → InsnFits i
  pub again : (i : Insn) (rest : List ℕ) → InsnFits i → decoded (spelling_of i ++ rest) ≡ Ok i

pub bind_ok : {A B : Type 0} (r : Result A ImageError) (f : A → Result B ImageError) (y : B)
    → (r >>= f) ≡ Ok y → (x : A) × (r ≡ Ok x) × (f x ≡ Ok y)
bind_ok (Ok x) f y e = (x, refl, e)
bind_ok (Err d) f y e = absurd cc

abbrev slots_ok : CodeSlots → Result CodeSlots ImageError
slots_ok xs = Ok xs

pub ok_is : (xs ys : CodeSlots) → slots_ok xs ≡ slots_ok ys → xs ≡ ys
ok_is xs ys e = cc

abbrev decoded_ok : Insn → Result Insn CodecError
decoded_ok i = Ok i

at_slot_ok : (slot : ℕ) (r : Result Insn CodecError) (i : Insn) → at_slot slot r ≡ Ok i → r ≡ Ok i
at_slot_ok slot (Err e) i h = absurd cc
at_slot_ok slot (Ok j) i h = ap (λ (x : Insn). decoded_ok x) cc

unless_ok : (o : Option ImageError) (i j : Insn) → unless o i ≡ Ok j → (o ≡ None) × (i ≡ j)
unless_ok None i j e = (refl, cc)
unless_ok (Some d) i j e = absurd cc

-- an instruction that was read at a slot: it was decoded, and the map that it names is there
record IsReadAt (rows : List MapDef) (bytes : List ℕ) (i : Insn) : Type 0 where
  decoded : decoded bytes ≡ Ok i
  named : NamesRows rows i

insn_at_ok : (rows : List MapDef) (slot : ℕ) (bytes : List ℕ) (i : Insn)
    → insn_at rows slot bytes ≡ Ok i → IsReadAt rows bytes i
insn_at_ok rows slot bytes i e =
    let a = bind_ok (at_slot slot (decoded bytes)) (λ j. unless (map_refusal rows slot j) j) i e in
    let u = unless_ok (map_refusal rows slot a.0) a.0 i a.2 in
    subst (IsReadAt rows bytes) u.1 (record {
      decoded = at_slot_ok slot (decoded bytes) a.0 a.1;
      named = NamesRows-map_refusal rows slot a.0 u.0;
    })

-- the rest of a list, with its length
pub take-rest : (n : ℕ) (xs : List ℕ) → take (length xs - n) (drop n xs) ≡ drop n xs
take-rest n xs = take_all (length xs - n) (drop n xs) (omega (arith, length-drop n xs))

-- the bytes without those of a second half at their front
abbrev pub rest_of : Bool → List ℕ → List ℕ
rest_of true bytes = drop 8 bytes
rest_of false bytes = bytes

nothing : (half : Bool) (bytes : List ℕ) → length bytes ≡ 0 → [] ≡ rest_of half bytes
nothing true [] h = refl
nothing false [] h = refl
nothing half (b ∷ bytes) h = absurd (omega arith)

after : (i : Insn) (bytes : List ℕ)
    → rest_of (is_wide i) (drop 8 bytes) ≡ drop (8 * slots_filled i) bytes
after (LoadNumber d n) bytes = drop-drop 8 8 bytes
after (LoadMap d m) bytes = drop-drop 8 8 bytes
after (LoadMapValue d m o) bytes = drop-drop 8 8 bytes
after i bytes = refl

pub length-spelling_of : (i : Insn) → length (spelling_of i) ≡ 8 * slots_filled i
length-spelling_of (LoadNumber d n) = refl
length-spelling_of (LoadMap d m) = refl
length-spelling_of (LoadMapValue d m o) = refl
length-spelling_of i = refl

-- there is a slot for the second half
abbrev pub HasSecondHalf : Bool → ℕ → Type 0
HasSecondHalf true n = 1 ≤ n
HasSecondHalf false n = Unit {0}

has_half : (i : Insn) (n : ℕ) → slots_filled i ≤ suc n → HasSecondHalf (is_wide i) n
has_half (LoadNumber d m) n h = omega arith
has_half (LoadMap d m) n h = omega arith
has_half (LoadMapValue d m o) n h = omega arith
has_half i n h = tt

-- what is known of the slots that were read from bytes: the bytes spell them, there are n of them,
-- they are code, and the maps that they name are there
pub record IsParsedCode (rows : List MapDef) (n : ℕ) (half : Bool) (bytes : List ℕ)
    (xs : List (Option Insn)) : Type 0 where
  pub spelled : code_bytes xs ≡ rest_of half bytes
  pub count : length xs ≡ n
  pub code : IsCode half xs
  pub named : NamesMaps rows xs

no_half : (half : Bool) → HasSecondHalf half 0 → half ≡ false
no_half true h = absurd (omega arith)
no_half false h = refl

pub code_from-found : Laws
    → (rows : List MapDef) (n : ℕ) (half : Bool) (slot : ℕ) (bytes : List ℕ)
    (xs : List (Option Insn)) → EachByte bytes → length bytes ≡ 8 * n → HasSecondHalf half n
    → code_from rows n half slot bytes ≡ Ok xs → IsParsedCode rows n half bytes xs
unfolding code_from
code_from-found laws rows zero half slot bytes xs small len second e =
    subst (λ (ys : CodeSlots). IsParsedCode rows 0 half bytes ys) (ok_is [] xs e) (record {
      spelled = nothing half bytes (omega arith);
      count = refl;
      code = no_half half second;
      named = tt;
    })
code_from-found laws rows (suc n) true slot bytes xs small len second e =
    let b =
    bind_ok (code_from rows n false (slot + 1) (drop 8 bytes)) (λ ys. slots_ok (None ∷ ys)) xs e in
    let more = code_from-found laws rows n false (slot + 1) (drop 8 bytes) b.0
    (EachByte-drop 8 bytes small) (omega (arith, length-drop 8 bytes)) tt b.1 in
    subst (λ (ys : CodeSlots). IsParsedCode rows (suc n) true bytes ys) (ok_is (None ∷ b.0) xs b.2)
    (record {
      spelled = more.spelled;
      count = ap suc more.count;
      code = more.code;
      named = more.named;
    })
code_from-found laws rows (suc n) false slot bytes xs small len second e =
    let tail = λ (i : Insn). code_from rows n (is_wide i) (slot + 1) (drop 8 bytes) in
    let a = bind_ok (insn_at rows slot bytes) (λ i. tail i >>= λ ys. slots_ok (Some i ∷ ys)) xs e in
    let b = bind_ok (tail a.0) (λ ys. slots_ok (Some a.0 ∷ ys)) xs a.2 in
    let at = insn_at_ok rows slot bytes a.0 a.1 in
    let spelled = laws.found bytes a.0 small at.decoded in
    let long : slots_filled a.0 ≤ suc n =
    omega (
      arith,
      ap length spelled,
      length-spelling_of a.0,
      length-take (8 * slots_filled a.0) bytes,
      len,
    ) in
    let more = code_from-found laws rows n (is_wide a.0) (slot + 1) (drop 8 bytes) b.0
    (EachByte-drop 8 bytes small) (omega (arith, length-drop 8 bytes))
    (has_half a.0 n long) b.1 in
    subst (λ (ys : CodeSlots). IsParsedCode rows (suc n) false bytes ys)
    (ok_is (Some a.0 ∷ b.0) xs b.2) (record {
      spelled =
          ap (λ l. spelling_of a.0 ++ l) (more.spelled ∙ after a.0 bytes)
          ∙ ap (λ l. l ++ drop (8 * slots_filled a.0) bytes) (sym spelled)
          ∙ take-append-drop (8 * slots_filled a.0) bytes;
      count = ap suc more.count;
      code = (laws.fits bytes a.0 small at.decoded, more.code);
      named = (at.named, more.named);
    })

-- ---- and back

-- code is read from its spelling
pub code_from-code_bytes : Laws
    → (rows : List MapDef) (xs : List (Option Insn)) (half : Bool) (slot : ℕ) (bytes : List ℕ)
    → IsCode half xs → NamesMaps rows xs → rest_of half bytes ≡ code_bytes xs
    → code_from rows (length xs) half slot bytes ≡ Ok xs
unfolding code_from
code_from-code_bytes laws rows [] half slot bytes h k e = refl
code_from-code_bytes laws rows (None ∷ xs) true slot bytes h k e =
    ap (λ (r : Result CodeSlots ImageError). r >>= λ ys. slots_ok (None ∷ ys))
    (code_from-code_bytes laws rows xs false (slot + 1) (drop 8 bytes) h k e)
code_from-code_bytes laws rows (Some i ∷ xs) true slot bytes h k e = absurd h
code_from-code_bytes laws rows (None ∷ xs) false slot bytes h k e = absurd h
code_from-code_bytes laws rows (Some i ∷ xs) false slot bytes h k e =
    let first : insn_at rows slot bytes ≡ Ok i =
    ap (λ (r : Result Insn CodecError). at_slot slot r >>= λ j. unless (map_refusal rows slot j) j)
    (ap decoded e ∙ laws.again i (code_bytes xs) h.0)
    ∙ ap (λ (o : Option ImageError). unless o i) (map_refusal-NamesRows rows slot i k.0) in
    let after_is : rest_of (is_wide i) (drop 8 bytes) ≡ code_bytes xs =
    after i bytes ∙ ap (drop (8 * slots_filled i)) e
    ∙ drop_at (spelling_of i) (code_bytes xs) (8 * slots_filled i) (length-spelling_of i) in
    ap (λ (r : Result Insn ImageError). r >>= λ j. code_from rows (length xs) (is_wide j) (slot + 1)
    (drop 8 bytes) >>= λ ys. slots_ok (Some j ∷ ys)) first
    ∙ ap (λ (r : Result CodeSlots ImageError). r >>= λ ys. slots_ok (Some i ∷ ys))
    (code_from-code_bytes laws rows xs (is_wide i) (slot + 1) (drop 8 bytes) h.1 k.1 after_is)

-- how many bytes of the first slot are spelled with the instruction before it
abbrev pub spelled_before : Bool → ℕ
spelled_before true = 8
spelled_before false = 0

wide_before : (i : Insn) → 8 * slots_filled i ≡ 8 + spelled_before (is_wide i)
wide_before (LoadNumber d n) = refl
wide_before (LoadMap d m) = refl
wide_before (LoadMapValue d m o) = refl
wide_before i = refl

-- a spelling has 8 bytes a slot
pub length-code_bytes : (xs : List (Option Insn)) (half : Bool) → IsCode half xs
    → length (code_bytes xs) + spelled_before half ≡ 8 * length xs
length-code_bytes [] true h = absurd cc
length-code_bytes [] false h = refl
length-code_bytes (None ∷ xs) true h = omega (arith, length-code_bytes xs false h)
length-code_bytes (Some i ∷ xs) true h = absurd h
length-code_bytes (None ∷ xs) false h = absurd h
length-code_bytes (Some i ∷ xs) false h = omega (
  arith,
  length-code_bytes xs (is_wide i) h.1,
  length-append (spelling_of i) (code_bytes xs),
  length-spelling_of i,
  wide_before i,
)
