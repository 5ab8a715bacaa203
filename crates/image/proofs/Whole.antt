-- Laws of whole images: the tests of their sizes, what is read from bytes, and refusals.
use Rattle.image.proofs.Common.{◌≡◌, ℕ, zero, suc, ◌-◌, ◌+◌, ◌*◌, ◌/◌, ◌≤◌, Bool, true, false, cond, List, ◌++◌, take, drop, length, Option, Some, None, Result, Ok, Err, refl, sym, ap, ◌∙◌, subst, arith, inl, inr, drop-drop, ◌==◌, ◌⊎◌, nat_lt, nat_eq, sum_by, is_none, if◌then◌else◌, starts_with, flat_map, option_or, ltb-false, le-ltb, length-drop, take-append-drop, little_bytes, MapDef, Insn, Version, Program, EachByte, EachByte-drop, little_bytes-little_from, ImageError, Magic, Short, Long, TooManyMaps, SlotCount, MapRoom, Memory, magic, row_bytes, head_bytes, image_bytes, IsCode, room_of, IsImage, ◌>>=◌, unless, count_refusal, rows_refusal, maps_refusal, parts_refusal, version_at, version_read, map_count, slot_count, size_of, size_refusal, rows_from, room_refusal, code_from, rows_read, code_read, program_read, refusal_of}
use Rattle.std.specs.Prelude.{unwrap_or}
use Rattle.std.specs.Result.{result_err}
use Rattle.std.specs.Cmp.Lexicographic.{same_text}
use Rattle.std.proofs.Math.Seq.{take-add}
use Rattle.isa_model.specs.declared.versions.Version.TheVariants.{One, Two}
use Rattle.isa_model.specs.declared.limits.TheConstants.{MAX_MAPS, MAX_MAP_ROOM, MAX_SLOTS}
use Rattle.image.proofs.RowLaws.{All-rows_refusal, NamesMaps-maps_refusal, neither}
use Rattle.image.proofs.CodeSpelling.{Laws, bind_ok, take-rest, code_from-found}
use Rattle.image.proofs.RowSpelling.{rows_ok, same_rows, rows_from-fit, rows_from-found}

-- ---- the tests of the sizes

abbrev refused : ImageError → Option ImageError
refused e = Some e

abbrev tests : Bool → Bool → Bool → Bool → Bool → Bool → Bool → Option ImageError
tests a m b c d e f =
    cond a (refused Short)
    (cond m (refused Magic)
    (cond b (refused TooManyMaps)
    (cond c (refused SlotCount)
    (cond d (refused SlotCount) (cond e (refused Short) (cond f (refused Long) None))))))

pub tests-pass : (a m b c d e f : Bool) → a ≡ false → m ≡ false → b ≡ false → c ≡ false → d ≡ false
    → e ≡ false → f ≡ false → tests a m b c d e f ≡ None
tests-pass a m b c d e f h0 h1 h2 h3 h4 h5 h6 = rw (h0, h1, h2, h3, h4, h5, h6) refl

record Passed (a m b c d e f : Bool) : Type 0 where
  long : a ≡ false
  front : m ≡ false
  maps : b ≡ false
  some : c ≡ false
  few : d ≡ false
  least : e ≡ false
  most : f ≡ false

passed : (a m b c d e f : Bool) → tests a m b c d e f ≡ None → Passed a m b c d e f
passed true m b c d e f h = absurd cc
passed false true b c d e f h = absurd cc
passed false false true c d e f h = absurd cc
passed false false false true d e f h = absurd cc
passed false false false false true e f h = absurd cc
passed false false false false false true f h = absurd cc
passed false false false false false false true h = absurd cc
passed false false false false false false false h =
    record {
      long = refl;
      front = refl;
      maps = refl;
      some = refl;
      few = refl;
      least = refl;
      most = refl;
    }

-- what is known of bytes that pass the tests
pub record Sizes (bytes : List ℕ) : Type 0 where
  pub long : 8 ≤ length bytes
  pub front : take 4 bytes ≡ magic (version_read bytes)
  pub maps : map_count bytes ≤ MAX_MAPS
  pub some : 1 ≤ slot_count bytes
  pub few : slot_count bytes ≤ MAX_SLOTS
  pub whole : length bytes ≡ 8 + 12 * map_count bytes + 8 * slot_count bytes

-- the magic that was found
magic_read : (bytes : List ℕ) → is_none (version_at bytes) ≡ false
    → take 4 bytes ≡ magic (version_read bytes)
magic_read bytes h =
    which (starts_with nat_eq bytes (magic One)) (starts_with nat_eq bytes (magic Two)) refl refl h
  where
    version_by : Bool → Bool → Option Version
    version_by one two = if one then Some One else if two then Some Two else None

    which : (one two : Bool) → starts_with nat_eq bytes (magic One) ≡ one
        → starts_with nat_eq bytes (magic Two) ≡ two
        → is_none (version_by one two) ≡ false
        → take 4 bytes ≡ magic (unwrap_or (version_by one two) One)
    which true two a b h = sym (same_text (magic One) (take 4 bytes) (sym a))
    which false true a b h = sym (same_text (magic Two) (take 4 bytes) (sym b))
    which false false a b h = absurd cc

not_zero : (n : ℕ) → (n == 0) ≡ false → 1 ≤ n
not_zero zero h = absurd cc
not_zero (suc n) h = omega arith

pub sizes : (bytes : List ℕ) → size_refusal bytes ≡ None → Sizes bytes
sizes bytes h =
    let size = size_of (map_count bytes) (slot_count bytes) in
    let p = passed (nat_lt (length bytes) 8) (is_none (version_at bytes))
    (nat_lt MAX_MAPS (map_count bytes)) (slot_count bytes == 0)
    (nat_lt MAX_SLOTS (slot_count bytes)) (nat_lt (length bytes) size)
    (nat_lt size (length bytes)) h in
    let most : length bytes ≤ size_of (map_count bytes) (slot_count bytes) =
    ltb-false _ _ p.most in
    let least : size_of (map_count bytes) (slot_count bytes) ≤ length bytes =
    ltb-false _ _ p.least in
    record {
      long = ltb-false _ _ p.long;
      front = magic_read bytes p.front;
      maps = ltb-false _ _ p.maps;
      some = not_zero (slot_count bytes) p.some;
      few = ltb-false _ _ p.few;
      whole = omega (arith, most, least);
    }

-- ---- bytes to images

abbrev pub CodeSlots : Type 0
CodeSlots = List (Option Insn)

abbrev pub parts : Version → List MapDef → List (Option Insn) → Program
parts v rows xs = record { insns = xs; maps = rows; version = v }

abbrev pub program_ok : Program → Result Program ImageError
program_ok p = Ok p

pub same_program : (p q : Program) → program_ok p ≡ program_ok q → p ≡ q
same_program p q e = cc

-- the 8 bytes of the head
head_spelled : (bytes : List ℕ) (m n : ℕ) → EachByte bytes → Sizes bytes → m ≡ map_count bytes
    → n ≡ slot_count bytes
    → magic (version_read bytes) ++ (little_bytes 2 m ++ little_bytes 2 n) ≡ take 8 bytes
head_spelled bytes m n small s m_is n_is =
    let maps : little_bytes 2 m ≡ take 2 (drop 4 bytes) =
    ap (little_bytes 2) m_is
    ∙ little_bytes-little_from 2 0 (drop 4 bytes) (EachByte-drop 4 bytes small)
    (omega (arith, s.long, length-drop 4 bytes)) in
    let slots : little_bytes 2 n ≡ take 2 (drop 6 bytes) =
    ap (little_bytes 2) n_is
    ∙ little_bytes-little_from 2 0 (drop 6 bytes) (EachByte-drop 6 bytes small)
    (omega (arith, s.long, length-drop 6 bytes)) in
    let counts : take 4 (drop 4 bytes) ≡ take 2 (drop 4 bytes) ++ take 2 (drop 6 bytes) =
    take-add 2 2 (drop 4 bytes)
    ∙ ap (λ (l : List ℕ). take 2 (drop 4 bytes) ++ take 2 l) (drop-drop 2 4 bytes) in
    ap (λ (l : List ℕ). l ++ (little_bytes 2 m ++ little_bytes 2 n)) (sym s.front)
    ∙ ap (λ (l : List ℕ). take 4 bytes ++ (l ++ little_bytes 2 n)) maps
    ∙ ap (λ (l : List ℕ). take 4 bytes ++ (take 2 (drop 4 bytes) ++ l)) slots
    ∙ ap (λ (l : List ℕ). take 4 bytes ++ l) (sym counts)
    ∙ sym (take-add 4 4 bytes)

-- what was read: its rows and its code
record Read (bytes : List ℕ) (p : Program) : Type 0 where
  rows : rows_from (map_count bytes) 0 (drop 8 bytes) ≡ Ok p.maps
  room : room_refusal p.maps ≡ None
  code : code_read bytes p.maps ≡ Ok p.insns
  version : version_read bytes ≡ p.version

unless_ok : (o : Option ImageError) (x y : List MapDef) → unless o x ≡ Ok y → (o ≡ None) × (x ≡ y)
unless_ok None x y e = (refl, same_rows x y e)
unless_ok (Some d) x y e = absurd cc

read : (bytes : List ℕ) (p : Program) → program_read bytes ≡ Ok p → Read bytes p
read bytes p e =
    let a = bind_ok (rows_read bytes)
    (λ rows. code_read bytes rows >>= λ xs. program_ok (parts (version_read bytes) rows xs)) p
    e in
    let c =
    bind_ok (code_read bytes a.0) (λ xs. program_ok (parts (version_read bytes) a.0 xs)) p a.2 in
    let r = bind_ok (rows_from (map_count bytes) 0 (drop 8 bytes))
    (λ rows. unless (room_refusal rows) rows) a.0 a.1 in
    let u = unless_ok (room_refusal r.0) r.0 a.0 r.2 in
    subst (Read bytes) (same_program (parts (version_read bytes) a.0 c.0) p c.2) (record {
      rows = r.1 ∙ ap rows_ok u.1;
      room = ap room_refusal (sym u.1) ∙ u.0;
      code = c.1;
      version = refl;
    })

room_within : (rows : List MapDef) → room_refusal rows ≡ None → sum_by room_of rows ≤ MAX_MAP_ROOM
room_within rows h = ltb-false MAX_MAP_ROOM (sum_by room_of rows)
    (passes (nat_lt MAX_MAP_ROOM (sum_by room_of rows)) h)
  where
    passes : (b : Bool) → cond b (refused MapRoom) None ≡ None → b ≡ false
    passes true e = absurd cc
    passes false e = refl

pub within_room : (rows : List MapDef) → sum_by room_of rows ≤ MAX_MAP_ROOM
    → room_refusal rows ≡ None
within_room rows h =
    ap (λ (b : Bool). cond b (refused MapRoom) None) (le-ltb MAX_MAP_ROOM (sum_by room_of rows) h)

-- what was read is an image, and the bytes are its own
pub record IsParsed (bytes : List ℕ) (p : Program) : Type 0 where
  pub spelled : bytes ≡ image_bytes p
  pub image : IsImage p

pub program_read-found : Laws → (bytes : List ℕ) (p : Program) → EachByte bytes → Sizes bytes
    → program_read bytes ≡ Ok p → IsParsed bytes p
unfolding image_bytes
program_read-found laws bytes p small s e =
    let m = map_count bytes in
    let n = slot_count bytes in
    let k = read bytes p e in
    let rows_fit = rows_from-fit m 0 (drop 8 bytes) p.maps k.rows in
    let rows_are : flat_map row_bytes p.maps ≡ take (12 * m) (drop 8 bytes) =
    rows_from-found m 0 (drop 8 bytes) p.maps (EachByte-drop 8 bytes small)
    (omega (arith, s.whole, length-drop 8 bytes)) k.rows in
    let found = code_from-found laws p.maps n false 0 (drop (8 + 12 * m) bytes) p.insns
    (EachByte-drop (8 + 12 * m) bytes small)
    (omega (arith, s.whole, length-drop (8 + 12 * m) bytes)) tt k.code in
    record {
      spelled =
          sym (take-append-drop 8 bytes)
          ∙ ap (λ (l : List ℕ). l ++ drop 8 bytes)
          (sym (head_spelled bytes (length p.maps) (length p.insns) small s rows_fit.0 found.count)
          ∙ ap (λ v. magic v ++ (little_bytes 2 (length p.maps) ++ little_bytes 2 (length p.insns)))
          k.version)
          ∙ ap (λ (l : List ℕ). head_bytes p ++ l) (sym (take-append-drop (12 * m) (drop 8 bytes))
          ∙ ap (λ (l : List ℕ). l ++ drop (12 * m) (drop 8 bytes)) (sym rows_are)
          ∙ ap (λ (l : List ℕ). flat_map row_bytes p.maps ++ l)
          (drop-drop (12 * m) 8 bytes ∙ sym found.spelled));
      image = record {
        few_maps = omega (arith, rows_fit.0, s.maps);
        rows = rows_fit.1;
        room = room_within p.maps k.room;
        some_slots = omega (arith, found.count, s.some);
        few_slots = omega (arith, found.count, s.few);
        code = found.code;
        named = found.named;
      };
    }

-- ---- the parts, as they are read

pub rows_from-slice : (bytes : List ℕ) (count : ℕ) → count ≡ map_count bytes
    → rows_from count 0 (take (length bytes - 8) (drop 8 bytes))
    ≡ rows_from (map_count bytes) 0 (drop 8 bytes)
rows_from-slice bytes count e =
    ap (λ (l : List ℕ). rows_from count 0 l) (take-rest 8 bytes)
    ∙ ap (λ (k : ℕ). rows_from k 0 (drop 8 bytes)) e

pub code_read-slice : (bytes : List ℕ) (count : ℕ) (rows : List MapDef) → Sizes bytes
    → count ≡ map_count bytes
    → code_from rows
    (length (take (length bytes - (8 + 12 * count)) (drop (8 + 12 * count) bytes)) / 8) false 0
    (take (length bytes - (8 + 12 * count)) (drop (8 + 12 * count) bytes)) ≡ code_read bytes rows
code_read-slice bytes count rows s e =
    let slots : length (drop (8 + 12 * map_count bytes) bytes) / 8 ≡ slot_count bytes =
    omega (arith, s.whole, length-drop (8 + 12 * map_count bytes) bytes) in
    ap (λ (l : List ℕ). code_from rows (length l / 8) false 0 l) (take-rest (8 + 12 * count) bytes)
    ∙ ap (λ (k : ℕ). code_from rows (length (drop (8 + 12 * k) bytes) / 8) false 0
    (drop (8 + 12 * k) bytes)) e
    ∙ ap (λ (n : ℕ). code_from rows n false 0 (drop (8 + 12 * map_count bytes) bytes)) slots

-- once the rows are read, only the code is left to be read
pub program_read-code : (bytes : List ℕ) (rows : List MapDef) (r : Result CodeSlots ImageError)
    → rows_from (map_count bytes) 0 (drop 8 bytes) ≡ Ok rows → room_refusal rows ≡ None
    → code_read bytes rows ≡ r
    → program_read bytes ≡ (r >>= λ xs. program_ok (parts (version_read bytes) rows xs))
program_read-code bytes rows r h room e =
    ap (λ (x : Result (List MapDef) ImageError).
    (x >>= λ l. unless (room_refusal l) l) >>= λ l. code_read bytes l
    >>= λ xs. program_ok (parts (version_read bytes) l xs)) h
    ∙ ap (λ (o : Option ImageError). unless o rows >>= λ l. code_read bytes l
    >>= λ xs. program_ok (parts (version_read bytes) l xs)) room
    ∙ ap (λ (x : Result CodeSlots ImageError). x
    >>= λ xs. program_ok (parts (version_read bytes) rows xs)) e

pub code_fails : (bytes : List ℕ) (rows : List MapDef) (e : ImageError)
    → rows_from (map_count bytes) 0 (drop 8 bytes) ≡ Ok rows → room_refusal rows ≡ None
    → (e ≡ Memory) ⊎ (code_read bytes rows ≡ Err e) → (e ≡ Memory) ⊎ (program_read bytes ≡ Err e)
code_fails bytes rows e h room (inl m) = inl m
code_fails bytes rows e h room (inr r) = inr (program_read-code bytes rows (Err e) h room r)

-- ---- parts that are given

gate : (b : Bool) (e : ImageError) (o : Option ImageError) → cond b (refused e) o ≡ None
    → (b ≡ false) × (o ≡ None)
gate true e o h = absurd cc
gate false e o h = (refl, h)

pub IsImage-parts : (v : Version) (rows : List MapDef) (xs : List (Option Insn))
    → parts_refusal rows xs ≡ None → IsCode false xs → IsImage (parts v rows xs)
IsImage-parts v rows xs h code =
    let n = length xs in
    let few = gate (nat_lt MAX_MAPS (length rows)) TooManyMaps _ h in
    let counts = neither (count_refusal n) _ few.1 in
    let some = gate (n == 0) SlotCount _ counts.0 in
    let most = gate (nat_lt MAX_SLOTS n) SlotCount None some.1 in
    let limits = neither (rows_refusal 0 rows) _ counts.1 in
    let rest = neither (room_refusal rows) (maps_refusal rows 0 xs) limits.1 in
    record {
      few_maps = ltb-false _ _ few.0;
      rows = All-rows_refusal 0 rows limits.0;
      room = room_within rows rest.0;
      some_slots = not_zero n some.0;
      few_slots = ltb-false _ _ most.0;
      code = code;
      named = NamesMaps-maps_refusal rows 0 xs rest.1;
    }

-- ---- refusals

pub refusal_of-sizes : (bytes : List ℕ) (e : ImageError) → size_refusal bytes ≡ Some e
    → refusal_of bytes ≡ Some e
unfolding refusal_of
refusal_of-sizes bytes e h =
    ap (λ (o : Option ImageError). option_or o (result_err (program_read bytes))) h

-- where the sizes are right, the refusal is one of the rows or of the code
pub refusal_of-program : (bytes : List ℕ) (r : Result Program ImageError)
    → size_refusal bytes ≡ None → program_read bytes ≡ r → refusal_of bytes ≡ result_err r
unfolding refusal_of
refusal_of-program bytes r h e = ap
    (λ (o : Option ImageError). option_or o (result_err (program_read bytes))) h ∙ ap result_err e

pub not_both : (bytes : List ℕ) (e : ImageError) → size_refusal bytes ≡ Some e
    → size_refusal bytes ≡ None → ⊥
not_both bytes e h k = cc

pub not_err : (bytes : List ℕ) (e : ImageError) (p : Program) → program_read bytes ≡ Err e
    → program_read bytes ≡ Ok p → ⊥
not_err bytes e p h k = cc
