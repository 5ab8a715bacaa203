-- What is read depends on the bytes that are read only: anything may come after them.
use Rattle.table_entries.proofs.Common.{◌≡◌, ℕ, zero, suc, ◌+◌, ◌-◌, ◌*◌, ◌≤◌, nat_lt, ◌==◌, ◌&&◌, not, if◌then◌else◌, Bool, true, false, ℤ, List, [], ◌∷◌, ◌++◌, length, take, drop, Option, Some, None, Ok, Err, ap, sym, ◌∙◌, subst, append_assoc, arith, refl, option_map, le-ltb, length-append, length-drop, length-take-le, take-append-drop, get_or_append_left, drop-append-le, drop_at, take_at, little_from, little_number, Kind, Unset, Number, Context, Stack, PacketEnd, Map, MapValueOrNull, StackSlot, AbstractFrame, frame_slots, Short, Meaningless, Read, sized, then_read, joined, many, bits_of, wide_of, low_of, range_of, scalar_of, bits_in, wide_in, low_in, scalar_in, limits_of, limits_in, has_no_part, lacks_identity, packet_of, packet_in, stack_in, map_in, value_of, value_in, null_in, fields_in, kind_in, marks_in, spilled, stack_slot_in, allowed_frame, frame_in, SpellsFrame, SpellsSlots}
use Rattle.std.specs.Int.{w32, w64, cast_signed}

-- ---- a function of several arguments that are the same

pub same2 : {A B Z : Type 0} (f : A → B → Z) {a b : A} {c d : B} → a ≡ b → c ≡ d → f a c ≡ f b d
same2 f p q = rw (p, q) refl

pub same4 : {A B C D Z : Type 0} (f : A → B → C → D → Z) {a b : A} {c d : B} {e g : C} {h i : D}
    → a ≡ b → c ≡ d → e ≡ g → h ≡ i → f a c e h ≡ f b d g i
same4 f p q u v = rw (p, q, u, v) refl

-- ---- fields, which are in the first n bytes

abbrev pub IsOfFront : {X : Type 0} → ℕ → (List ℕ → X) → Type 0
IsOfFront n fields =
    (front r s : List ℕ) → n ≤ length front → fields (front ++ r) ≡ fields (front ++ s)

little_from-front : (n i : ℕ) (front r s : List ℕ) → i + n ≤ length front
    → little_from i n (front ++ r) ≡ little_from i n (front ++ s)
little_from-front zero i front r s le = refl
little_from-front (suc n) i front r s le =
    same2 (λ (x y : ℕ). x + 256 * y)
    (get_or_append_left front r 0 i (omega arith)
    ∙ sym (get_or_append_left front s 0 i (omega arith)))
    (little_from-front n (suc i) front r s (omega arith))

-- a number of w bytes after d others
pub number-front : (w d : ℕ) (front r s : List ℕ) → d + w ≤ length front
    → little_number w (drop d (front ++ r)) ≡ little_number w (drop d (front ++ s))
number-front w d front r s le =
    let size = length-drop d front in
    ap (little_number w) (drop-append-le d front r (omega arith))
    ∙ little_from-front w 0 (drop d front) r s (omega arith)
    ∙ ap (little_number w) (sym (drop-append-le d front s (omega arith)))

-- fields after d bytes
later-front : {X : Type 0} (n d : ℕ) (fields : List ℕ → X) → IsOfFront n fields
    → IsOfFront (d + n) (λ b. fields (drop d b))
later-front n d fields h front r s le =
    let size = length-drop d front in
    ap fields (drop-append-le d front r (omega arith))
    ∙ h (drop d front) r s (omega arith)
    ∙ ap fields (sym (drop-append-le d front s (omega arith)))

bits-front : IsOfFront 16 bits_in
bits-front front r s le =
    same2 bits_of (number-front 8 0 front r s (omega arith))
    (number-front 8 8 front r s (omega arith))

wide-front : IsOfFront 32 wide_in
wide-front front r s le =
    same4 wide_of (number-front 8 0 front r s (omega arith))
    (number-front 8 8 front r s (omega arith))
    (ap (cast_signed w64) (number-front 8 16 front r s (omega arith)))
    (ap (cast_signed w64) (number-front 8 24 front r s (omega arith)))

low-front : IsOfFront 16 low_in
low-front front r s le =
    same4 low_of (number-front 4 0 front r s (omega arith))
    (number-front 4 4 front r s (omega arith))
    (ap (cast_signed w32) (number-front 4 8 front r s (omega arith)))
    (ap (cast_signed w32) (number-front 4 12 front r s (omega arith)))

scalar-front : IsOfFront 64 scalar_in
unfolding scalar_in
scalar-front front r s le =
    same2 scalar_of (bits-front front r s (omega arith))
    (same2 range_of (later-front 32 16 wide_in wide-front front r s (omega arith))
    (later-front 16 48 low_in low-front front r s (omega arith)))

limits-front : IsOfFront 8 limits_in
limits-front front r s le =
    same2 limits_of (ap (cast_signed w32) (number-front 4 0 front r s (omega arith)))
    (ap (cast_signed w32) (number-front 4 4 front r s (omega arith)))

no_part-front : IsOfFront 8 has_no_part
no_part-front front r s le =
    same2 (λ (x y : ℕ). x == 0 && y == 0) (number-front 4 0 front r s (omega arith))
    (number-front 4 4 front r s (omega arith))

lacks-front : IsOfFront 16 lacks_identity
lacks-front front r s le =
    same2 (λ (x : ℕ) (y : Bool). x == 0 && not y) (number-front 4 4 front r s (omega arith))
    (later-front 8 8 has_no_part no_part-front front r s (omega arith))

packet-front : IsOfFront 20 packet_in
unfolding packet_in
packet-front front r s le =
    same2 (λ (b : Bool) (k : Option Kind). if b then None else k)
    (lacks-front front r s (omega arith))
    (same4 packet_of (ap (cast_signed w32) (number-front 4 0 front r s (omega arith)))
    (number-front 4 4 front r s (omega arith))
    (later-front 8 8 limits_in limits-front front r s (omega arith))
    (number-front 4 16 front r s (omega arith)))

stack-front : (holder : ℕ) → IsOfFront 5 (stack_in holder)
unfolding stack_in
stack-front holder front r s le =
    same2 (λ (f : ℕ) (z : ℤ). if nat_lt holder f then None else Some (Stack f z))
    (number-front 1 0 front r s (omega arith))
    (ap (cast_signed w32) (number-front 4 1 front r s (omega arith)))

map-front : (rows : ℕ) → IsOfFront 1 (map_in rows)
unfolding map_in
map-front rows front r s le =
    ap (λ (m : ℕ). if nat_lt m rows then Some (Map m) else None)
    (number-front 1 0 front r s (omega arith))

value-front : (rows : ℕ) → IsOfFront 9 (value_in rows)
unfolding value_in
value-front rows front r s le =
    same2 (λ (m : ℕ) (l : Option (ℤ × ℤ)). if nat_lt m rows then value_of m l else None)
    (number-front 1 0 front r s (omega arith))
    (later-front 8 1 limits_in limits-front front r s (omega arith))

null-front : (rows : ℕ) → IsOfFront 5 (null_in rows)
unfolding null_in
null-front rows front r s le =
    same2 (λ (m i : ℕ). if nat_lt m rows then Some (MapValueOrNull m i) else None)
    (number-front 1 0 front r s (omega arith))
    (number-front 4 1 front r s (omega arith))

-- ---- readings

-- the bytes that were read are read in the same way, whatever comes after them; so are those up to
-- a byte without a meaning
abbrev pub ReadsFront : {X : Type 0} → (List ℕ → Read X) → List ℕ → Read X → Type 0
ReadsFront one bytes (Ok x) =
    (front : List ℕ) × (bytes ≡ front ++ x.1)
    × ((rest : List ℕ) → one (front ++ rest) ≡ Ok (x.0, rest))
ReadsFront one bytes (Err Short) = Unit {0}
ReadsFront one bytes (Err Meaningless) = (more : List ℕ) → one (bytes ++ more) ≡ Err Meaningless

sized-again : {X : Type 0} (n : ℕ) (fields : List ℕ → Option X) → IsOfFront n fields
    → (bytes rest : List ℕ) → n ≤ length bytes
    → sized n fields (take n bytes ++ rest) ≡ Ok (fields bytes, rest)
sized-again n fields h bytes rest long =
    let size : length (take n bytes) ≡ n = length-take-le n bytes long in
    let more = length-append (take n bytes) rest in
    let same : fields (take n bytes ++ rest) ≡ fields bytes =
    h (take n bytes) rest (drop n bytes) (omega arith) ∙ ap fields (take-append-drop n bytes) in
    rw (le-ltb (length (take n bytes ++ rest)) n (omega arith))
    (same2 (λ (x : Option _) (r : List ℕ). Ok (x, r)) same (drop_at (take n bytes) rest n size))

pub ReadsFront-sized : {X : Type 0} (n : ℕ) (fields : List ℕ → Option X) → IsOfFront n fields
    → (bytes : List ℕ) → ReadsFront (sized n fields) bytes (sized n fields bytes)
ReadsFront-sized n fields h bytes = of (nat_lt (length bytes) n) refl where
  of : (b : Bool) → nat_lt (length bytes) n ≡ b
      → ReadsFront (sized n fields) bytes (if b then Err Short else Ok (fields bytes, drop n bytes))
  of true e = tt
  of false e =
      let long : n ≤ length bytes = grind arith in (
        take n bytes,
        sym (take-append-drop n bytes),
        λ rest. sized-again n fields h bytes rest long,
      )

then_more : {X Y : Type 0} (one : List ℕ → Read X) (next : Option X → List ℕ → Read Y)
    (bytes front : List ℕ) (x : Option X) (others : List ℕ) (r : Read Y)
    → bytes ≡ front ++ others → ((rest : List ℕ) → one (front ++ rest) ≡ Ok (x, rest))
    → ReadsFront (next x) others r → ReadsFront (λ b. then_read (one b) next) bytes r
then_more one next bytes front x others (Ok y) whole each (more, follows, again) = (
  front ++ more,
  whole ∙ ap (λ b. front ++ b) follows ∙ sym (append_assoc front more y.1),
  λ rest. ap (λ b. then_read (one b) next) (append_assoc front more rest)
      ∙ ap (λ r. then_read r next) (each (more ++ rest)) ∙ again rest,
)
then_more one next bytes front x others (Err Short) whole each h = tt
then_more one next bytes front x others (Err Meaningless) whole each h =
    λ more. ap (λ b. then_read (one (b ++ more)) next) whole
    ∙ ap (λ b. then_read (one b) next) (append_assoc front others more)
    ∙ ap (λ r. then_read r next) (each (others ++ more)) ∙ h more

pub ReadsFront-then : {X Y : Type 0} (one : List ℕ → Read X) (next : Option X → List ℕ → Read Y)
    (bytes : List ℕ) (r : Read X) → ReadsFront one bytes r
    → ((x : Option X) (rest : List ℕ) → ReadsFront (next x) rest (next x rest))
    → ReadsFront (λ b. then_read (one b) next) bytes (then_read r next)
ReadsFront-then one next bytes (Ok x) (front, whole, each) second =
    then_more one next bytes front x.0 x.1 (next x.0 x.1) whole each (second x.0 x.1)
ReadsFront-then one next bytes (Err Short) first second = tt
ReadsFront-then one next bytes (Err Meaningless) first second =
    λ more. ap (λ r. then_read r next) (first more)

pub ReadsFront-if : {X : Type 0} (b : Bool) (one two : List ℕ → Read X) (bytes : List ℕ)
    → ReadsFront one bytes (one bytes) → ReadsFront two bytes (two bytes)
    → ReadsFront (λ c. if b then one c else two c) bytes (if b then one bytes else two bytes)
ReadsFront-if true one two bytes first second = first
ReadsFront-if false one two bytes first second = second

-- nothing is read
pub ReadsFront-nothing : {X : Type 0} (x : Option X) (bytes : List ℕ)
    → ReadsFront (λ b. Ok (x, b)) bytes (Ok (x, bytes))
ReadsFront-nothing x bytes = ([], refl, λ rest. refl)

pub ReadsFront-many : {X : Type 0} (one : ℕ → List ℕ → Read X)
    → ((k : ℕ) (bytes : List ℕ) → ReadsFront (one k) bytes (one k bytes))
    → (n k : ℕ) (bytes : List ℕ) → ReadsFront (many one n k) bytes (many one n k bytes)
unfolding many
ReadsFront-many one each zero k bytes = ([], refl, λ rest. refl)
ReadsFront-many one each (suc n) k bytes =
    ReadsFront-then (one k)
    (λ first rest. then_read (many one n (k + 1) rest)
    (λ others after. Ok (joined first others, after))) bytes (one k bytes) (each k bytes)
    (λ first rest. ReadsFront-then (many one n (k + 1))
    (λ others after. Ok (joined first others, after)) rest (many one n (k + 1) rest)
    (ReadsFront-many one each n (k + 1) rest)
    (λ others after. ReadsFront-nothing (joined first others) after))

-- ---- kinds and stack slots

ReadsFront-fields : (rows holder kind : ℕ) (bytes : List ℕ)
    → ReadsFront (fields_in rows holder kind) bytes (fields_in rows holder kind bytes)
unfolding fields_in
ReadsFront-fields rows holder kind bytes =
    let none : List ℕ → Read Kind = λ c. Err Meaningless in
    let from_8 : List ℕ → Read Kind =
    λ c. if kind == 8 then sized 5 (null_in rows) c else none c in
    let from_7 : List ℕ → Read Kind =
    λ c. if kind == 7 then sized 9 (value_in rows) c else from_8 c in
    let from_6 : List ℕ → Read Kind =
    λ c. if kind == 6 then sized 1 (map_in rows) c else from_7 c in
    let from_5 : List ℕ → Read Kind =
    λ c. if kind == 5 then Ok (Some PacketEnd, c) else from_6 c in
    let from_4 : List ℕ → Read Kind =
    λ c. if kind == 4 then sized 20 packet_in c else from_5 c in
    let from_3 : List ℕ → Read Kind =
    λ c. if kind == 3 then sized 5 (stack_in holder) c else from_4 c in
    let from_2 : List ℕ → Read Kind =
    λ c. if kind == 2 then Ok (Some Context, c) else from_3 c in
    let from_1 : List ℕ → Read Kind =
    λ c. if kind == 1 then sized 64 (λ b. option_map Number (scalar_in b)) c else from_2 c in
    ReadsFront-if (kind == 0) (λ b. Ok (Some Unset, b)) from_1 bytes
    (ReadsFront-nothing (Some Unset) bytes)
    (ReadsFront-if (kind == 1) (sized 64 (λ b. option_map Number (scalar_in b))) from_2 bytes
    (ReadsFront-sized 64 (λ b. option_map Number (scalar_in b))
    (λ front r s le. ap (option_map Number) (scalar-front front r s le)) bytes)
    (ReadsFront-if (kind == 2) (λ b. Ok (Some Context, b)) from_3 bytes
    (ReadsFront-nothing (Some Context) bytes)
    (ReadsFront-if (kind == 3) (sized 5 (stack_in holder)) from_4 bytes
    (ReadsFront-sized 5 (stack_in holder) (stack-front holder) bytes)
    (ReadsFront-if (kind == 4) (sized 20 packet_in) from_5 bytes
    (ReadsFront-sized 20 packet_in packet-front bytes)
    (ReadsFront-if (kind == 5) (λ b. Ok (Some PacketEnd, b)) from_6 bytes
    (ReadsFront-nothing (Some PacketEnd) bytes)
    (ReadsFront-if (kind == 6) (sized 1 (map_in rows)) from_7 bytes
    (ReadsFront-sized 1 (map_in rows) (map-front rows) bytes)
    (ReadsFront-if (kind == 7) (sized 9 (value_in rows)) from_8 bytes
    (ReadsFront-sized 9 (value_in rows) (value-front rows) bytes)
    (ReadsFront-if (kind == 8) (sized 5 (null_in rows)) none bytes
    (ReadsFront-sized 5 (null_in rows) (null-front rows) bytes)
    (λ more. refl)))))))))

-- after a byte
pub ReadsFront-byte : {X : Type 0} (one all : List ℕ → Read X) (x : ℕ) (bytes : List ℕ) (r : Read X)
    → ((c : List ℕ) → all (x ∷ c) ≡ one c) → ReadsFront one bytes r
    → ReadsFront all (x ∷ bytes) r
ReadsFront-byte one all x bytes (Ok y) same (front, whole, each) =
    (x ∷ front, ap (λ c. x ∷ c) whole, λ rest. same (front ++ rest) ∙ each rest)
ReadsFront-byte one all x bytes (Err Short) same h = tt
ReadsFront-byte one all x bytes (Err Meaningless) same h =
    λ more. same (bytes ++ more) ∙ h more

ReadsFront-kind : (rows holder : ℕ) (bytes : List ℕ)
    → ReadsFront (kind_in rows holder) bytes (kind_in rows holder bytes)
unfolding kind_in
ReadsFront-kind rows holder [] = tt
ReadsFront-kind rows holder (kind ∷ bytes) =
    ReadsFront-byte (fields_in rows holder kind) (kind_in rows holder) kind bytes
    (fields_in rows holder kind bytes) (λ c. refl) (ReadsFront-fields rows holder kind bytes)

ReadsFront-marks : (bytes : List ℕ) → ReadsFront marks_in bytes (marks_in bytes)
ReadsFront-marks [] = tt
ReadsFront-marks (marks ∷ bytes) = (marks ∷ [], refl, λ rest. refl)

ReadsFront-slot : (rows holder : ℕ) (bytes : List ℕ)
    → ReadsFront (stack_slot_in rows holder) bytes (stack_slot_in rows holder bytes)
unfolding stack_slot_in
ReadsFront-slot rows holder [] = tt
ReadsFront-slot rows holder (tag ∷ bytes) =
    ReadsFront-byte _ (stack_slot_in rows holder) tag bytes _ (λ c. refl)
    (ReadsFront-if (tag == 0) marks_in
    (λ c. if tag == 1 then then_read (kind_in rows holder c) (λ k rest. Ok (spilled k, rest))
    else Err Meaningless) bytes (ReadsFront-marks bytes)
    (ReadsFront-if (tag == 1)
    (λ c. then_read (kind_in rows holder c) (λ k rest. Ok (spilled k, rest)))
    (λ c. Err Meaningless) bytes
    (ReadsFront-then (kind_in rows holder) (λ k rest. Ok (spilled k, rest)) bytes
    (kind_in rows holder bytes) (ReadsFront-kind rows holder bytes)
    (λ k rest. ReadsFront-nothing (spilled k) rest)) (λ more. refl)))

-- ---- call frames

-- a call frame after its return slot
abbrev frame_parts : ℕ → ℕ → Bool → ℕ → List ℕ → Read AbstractFrame
frame_parts rows holder outer slot bytes =
    then_read (many (λ k. kind_in rows holder) 10 0 bytes) (λ kinds rest.
    then_read (many (λ k. stack_slot_in rows holder) frame_slots 0 rest) (λ slots after.
    Ok (allowed_frame holder outer slot kinds slots, after)))

ReadsFront-parts : (rows holder : ℕ) (outer : Bool) (slot : ℕ) (bytes : List ℕ)
    → ReadsFront (frame_parts rows holder outer slot) bytes
    (frame_parts rows holder outer slot bytes)
ReadsFront-parts rows holder outer slot bytes =
    ReadsFront-then (many (λ k. kind_in rows holder) 10 0)
    (λ kinds rest. then_read (many (λ k. stack_slot_in rows holder) frame_slots 0 rest)
    (λ slots after. Ok (allowed_frame holder outer slot kinds slots, after))) bytes
    (many (λ k. kind_in rows holder) 10 0 bytes)
    (ReadsFront-many (λ k. kind_in rows holder) (λ k b. ReadsFront-kind rows holder b) 10 0 bytes)
    (λ kinds rest. ReadsFront-then (many (λ k. stack_slot_in rows holder) frame_slots 0)
    (λ slots after. Ok (allowed_frame holder outer slot kinds slots, after)) rest
    (many (λ k. stack_slot_in rows holder) frame_slots 0 rest)
    (ReadsFront-many (λ k. stack_slot_in rows holder) (λ k b. ReadsFront-slot rows holder b)
    frame_slots 0 rest)
    (λ slots after. ReadsFront-nothing (allowed_frame holder outer slot kinds slots) after))

frame-parts : (rows holder : ℕ) (outer : Bool) (a b : ℕ) (bytes : List ℕ)
    → frame_in rows holder outer (a ∷ (b ∷ bytes))
    ≡ frame_parts rows holder outer (little_number 2 (a ∷ (b ∷ []))) bytes
unfolding frame_in
frame-parts rows holder outer a b bytes =
    rw (le-ltb (length (a ∷ (b ∷ bytes))) 2 (omega arith)) refl

pub ReadsFront-frame : (rows holder : ℕ) (outer : Bool) (bytes : List ℕ)
    → ReadsFront (frame_in rows holder outer) bytes (frame_in rows holder outer bytes)
unfolding frame_in
ReadsFront-frame rows holder outer [] = tt
ReadsFront-frame rows holder outer (a ∷ []) = tt
ReadsFront-frame rows holder outer (a ∷ (b ∷ bytes)) =
    let slot = little_number 2 (a ∷ (b ∷ [])) in
    subst (ReadsFront (frame_in rows holder outer) (a ∷ (b ∷ bytes)))
    (sym (frame-parts rows holder outer a b bytes))
    (ReadsFront-byte (λ c. frame_in rows holder outer (a ∷ c)) (frame_in rows holder outer) a
    (b ∷ bytes) (frame_parts rows holder outer slot bytes) (λ c. refl)
    (ReadsFront-byte (frame_parts rows holder outer slot)
    (λ c. frame_in rows holder outer (a ∷ c)) b bytes
    (frame_parts rows holder outer slot bytes) (λ c. frame-parts rows holder outer a b c)
    (ReadsFront-parts rows holder outer slot bytes)))

-- ---- the bytes that were read

-- they come before those that are left
front_read : {X : Type 0} (one : List ℕ → Read X) (bytes : List ℕ) (x : Option X) (rest : List ℕ)
    → ReadsFront one bytes (Ok (x, rest))
    → (length rest ≤ length bytes)
    × ((more : List ℕ)
    → one (take (length bytes - length rest) bytes ++ more) ≡ Ok (x, more))
front_read one bytes x rest (front, whole, each) =
    let size : length bytes ≡ length front + length rest =
    ap length whole ∙ length-append front rest in
    let count : length bytes - length rest ≡ length front = omega arith in
    let same : take (length bytes - length rest) bytes ≡ front =
    ap (λ (n : ℕ). take n bytes) count ∙ ap (take (length front)) whole
    ∙ take_at front rest (length front) refl in (
      omega arith,
      λ more. ap (λ (xs : List ℕ). one (xs ++ more)) same ∙ each more,
    )

-- those of an outer frame spell it
pub SpellsFrame-before : (rows holder : ℕ) (bytes : List ℕ) (f : AbstractFrame) (rest : List ℕ)
    → frame_in rows holder true bytes ≡ Ok (Some f, rest)
    → (length rest ≤ length bytes)
    × SpellsFrame rows holder (take (length bytes - length rest) bytes) f
SpellsFrame-before rows holder bytes f rest h =
    front_read (frame_in rows holder true) bytes (Some f) rest
    (subst (ReadsFront (frame_in rows holder true) bytes) h
    (ReadsFront-frame rows holder true bytes))

-- those of the stack slots spell them
pub SpellsSlots-before : (rows holder : ℕ) (bytes : List ℕ) (slots : List StackSlot)
    (rest : List ℕ)
    → many (λ k. stack_slot_in rows holder) frame_slots 0 bytes ≡ Ok (Some slots, rest)
    → (length rest ≤ length bytes)
    × SpellsSlots rows holder (take (length bytes - length rest) bytes) slots
SpellsSlots-before rows holder bytes slots rest h =
    front_read (many (λ k. stack_slot_in rows holder) frame_slots 0) bytes (Some slots) rest
    (subst (ReadsFront (many (λ k. stack_slot_in rows holder) frame_slots 0) bytes) h
    (ReadsFront-many (λ k. stack_slot_in rows holder) (λ k b. ReadsFront-slot rows holder b)
    frame_slots 0 bytes))
