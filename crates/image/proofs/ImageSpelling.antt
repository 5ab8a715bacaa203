-- An image is spelled by its bytes, and these are read as that image.
use Rattle.image.proofs.Common.{◌≡◌, ℕ, ◌+◌, ◌*◌, ◌≤◌, false, List, ◌++◌, drop, length, Option, Some, None, Result, Ok, refl, sym, ap, ◌∙◌, arith, drop-drop, length-append, ◌==◌, nat_lt, is_none, flat_map, le-ltb, ne_eqb, drop_at, little_bytes, MapDef, Version, Program, ImageError, magic, row_bytes, code_bytes, image_bytes, IsImage, ◌>>=◌, unless, version_at, version_read, map_count, slot_count, size_of, size_refusal, rows_from, room_refusal, code_from, rows_read, code_read, program_read}
use Rattle.std.specs.Prelude.{unwrap_or}
use Rattle.byteorder.specs.Numbers.{little_number-reads_back}
use Rattle.isa_model.specs.declared.versions.Version.TheVariants.{One, Two}
use Rattle.isa_model.specs.declared.limits.TheConstants.{MAX_MAPS, MAX_SLOTS}
use Rattle.image.proofs.CodeSpelling.{Laws, code_from-code_bytes, length-code_bytes}
use Rattle.image.proofs.RowSpelling.{rows_from-row_bytes, length-rows}
use Rattle.image.proofs.Whole.{CodeSlots, within_room, tests-pass, parts, program_ok}

-- ---- images to bytes

abbrev whole_bytes : Version → ℕ → ℕ → List ℕ → List ℕ
whole_bytes v m n rest = (magic v ++ (little_bytes 2 m ++ little_bytes 2 n)) ++ rest

map_count-whole_bytes : (v : Version) (m n : ℕ) (rest : List ℕ) → m ≤ MAX_MAPS
    → map_count (whole_bytes v m n rest) ≡ m
map_count-whole_bytes One m n rest h =
    little_number-reads_back 2 m (little_bytes 2 n ++ rest) (omega arith)
map_count-whole_bytes Two m n rest h =
    little_number-reads_back 2 m (little_bytes 2 n ++ rest) (omega arith)

slot_count-whole_bytes : (v : Version) (m n : ℕ) (rest : List ℕ) → n ≤ MAX_SLOTS
    → slot_count (whole_bytes v m n rest) ≡ n
slot_count-whole_bytes One m n rest h = little_number-reads_back 2 n rest (omega arith)
slot_count-whole_bytes Two m n rest h = little_number-reads_back 2 n rest (omega arith)

-- the version that is written is read
version_at-whole_bytes : (v : Version) (m n : ℕ) (rest : List ℕ)
    → version_at (whole_bytes v m n rest) ≡ Some v
version_at-whole_bytes One m n rest = refl
version_at-whole_bytes Two m n rest = refl

length-whole_bytes : (v : Version) (m n : ℕ) (rest : List ℕ)
    → length (whole_bytes v m n rest) ≡ 8 + length rest
length-whole_bytes One m n rest = omega arith
length-whole_bytes Two m n rest = omega arith

some_not_zero : (n : ℕ) → 1 ≤ n → (n == 0) ≡ false
some_not_zero n h = ne_eqb n 0 (λ (e : n ≡ 0). omega arith)

size_refusal-whole_bytes : (v : Version) (m n : ℕ) (rest : List ℕ) → m ≤ MAX_MAPS → 1 ≤ n
    → n ≤ MAX_SLOTS → length rest ≡ 12 * m + 8 * n → size_refusal (whole_bytes v m n rest) ≡ None
size_refusal-whole_bytes v m n rest maps some few len =
    let bytes = whole_bytes v m n rest in
    let long : length bytes ≡ 8 + length rest = length-whole_bytes v m n rest in
    let size = size_of (map_count bytes) (slot_count bytes) in
    let m_is : map_count bytes ≡ m = map_count-whole_bytes v m n rest maps in
    let n_is : slot_count bytes ≡ n = slot_count-whole_bytes v m n rest few in
    tests-pass (nat_lt (length bytes) 8) (is_none (version_at bytes))
    (nat_lt MAX_MAPS (map_count bytes)) (slot_count bytes == 0)
    (nat_lt MAX_SLOTS (slot_count bytes)) (nat_lt (length bytes) size)
    (nat_lt size (length bytes))
    (le-ltb _ _ (omega (arith, long))) (ap is_none (version_at-whole_bytes v m n rest))
    (le-ltb _ _ (omega (arith, m_is)))
    (ap (λ (k : ℕ). k == 0) n_is ∙ some_not_zero n some)
    (le-ltb _ _ (omega (arith, n_is)))
    (le-ltb _ _ (omega (arith, n_is, m_is, len, long)))
    (le-ltb _ _ (omega (arith, n_is, m_is, len, long)))

drop-whole_bytes : (v : Version) (m n : ℕ) (rest : List ℕ) → drop 8 (whole_bytes v m n rest) ≡ rest
drop-whole_bytes One m n rest = refl
drop-whole_bytes Two m n rest = refl

-- an image is read
pub record IsRead (bytes : List ℕ) (p : Program) : Type 0 where
  pub sizes : size_refusal bytes ≡ None
  pub program : program_read bytes ≡ Ok p

-- the head, the rows and the code that are written
pub image_bytes-written : (p q : Program) (head : List ℕ) (m n : ℕ) → p ≡ q
    → head ≡ magic p.version ++ (little_bytes 2 m ++ little_bytes 2 n) → m ≡ length p.maps
    → n ≡ length p.insns → head ++ (flat_map row_bytes p.maps ++ code_bytes p.insns) ≡ image_bytes q
unfolding image_bytes
image_bytes-written p q head m n same e maps slots =
    ap (λ (l : List ℕ). l ++ (flat_map row_bytes p.maps ++ code_bytes p.insns))
    (e ∙ ap (λ (k : ℕ). magic p.version ++ (little_bytes 2 k ++ little_bytes 2 n)) maps
    ∙ ap (λ (k : ℕ). magic p.version ++ (little_bytes 2 (length p.maps) ++ little_bytes 2 k))
    slots)
    ∙ ap image_bytes same

pub image_bytes-read : Laws → (bytes : List ℕ) (p : Program) → IsImage p → bytes ≡ image_bytes p
    → IsRead bytes p
unfolding image_bytes
image_bytes-read laws bytes p h e =
    let m = length p.maps in
    let n = length p.insns in
    let rows = flat_map row_bytes p.maps in
    let code = code_bytes p.insns in
    let v = p.version in
    let plain : bytes ≡ whole_bytes v m n (rows ++ code) = e in
    let version : version_read bytes ≡ v =
    ap version_read plain
    ∙ ap (λ o. unwrap_or o One) (version_at-whole_bytes v m n (rows ++ code)) in
    let rows_long : length rows ≡ 12 * m = length-rows p.maps in
    let code_long : length code ≡ 8 * n = omega (arith, length-code_bytes p.insns false h.code) in
    let maps : map_count bytes ≡ m =
    ap map_count plain ∙ map_count-whole_bytes v m n (rows ++ code) h.few_maps in
    let slots : slot_count bytes ≡ n =
    ap slot_count plain ∙ slot_count-whole_bytes v m n (rows ++ code) h.few_slots in
    let behind : drop 8 bytes ≡ rows ++ code =
    ap (drop 8) plain ∙ drop-whole_bytes v m n (rows ++ code) in
    let last : drop (8 + 12 * map_count bytes) bytes ≡ code =
    ap (λ (k : ℕ). drop (8 + 12 * k) bytes) maps ∙ sym (drop-drop (12 * m) 8 bytes)
    ∙ ap (drop (12 * m)) behind ∙ drop_at rows code (12 * m) rows_long in
    let rows_are : rows_read bytes ≡ Ok p.maps =
    ap (λ (r : Result (List MapDef) ImageError). r >>= λ l. unless (room_refusal l) l)
    (ap (λ (k : ℕ). rows_from k 0 (drop 8 bytes)) maps
    ∙ rows_from-row_bytes p.maps 0 (drop 8 bytes) code h.rows behind)
    ∙ ap (λ (o : Option ImageError). unless o p.maps) (within_room p.maps h.room) in
    let code_is : code_read bytes p.maps ≡ Ok p.insns =
    ap (λ (k : ℕ). code_from p.maps k false 0 (drop (8 + 12 * map_count bytes) bytes)) slots
    ∙ code_from-code_bytes laws p.maps p.insns false 0
    (drop (8 + 12 * map_count bytes) bytes) h.code h.named last in
    record {
      sizes = ap size_refusal plain
          ∙ size_refusal-whole_bytes v m n (rows ++ code) h.few_maps h.some_slots h.few_slots
          (omega (arith, length-append rows code, rows_long, code_long));
      program =
          ap (λ (r : Result (List MapDef) ImageError). r >>= λ l. code_read bytes l >>= λ xs.
          program_ok (parts (version_read bytes) l xs)) rows_are
          ∙ ap (λ (r : Result CodeSlots ImageError). r
          >>= λ xs. program_ok (parts (version_read bytes) p.maps xs)) code_is
          ∙ ap (λ (w : Version). program_ok (parts w p.maps p.insns)) version;
    }
