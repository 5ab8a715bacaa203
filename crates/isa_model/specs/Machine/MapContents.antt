-- Map contents under look-ups, updates and deletes. bpf(2); the order of the tests, and the error
-- of each, are this project's own.
-- A content is a finite map: the list of its keys with what they have, by rising key bytes, each
-- key once. What a key has, X here, is its value's bytes, and in the machine's state a serial too.
use Rattle.std.specs.Prelude.{ℕ, ◌-◌, ◌^◌, ◌==◌, Bool, not, ◌&&◌, nat_lt, nat_le, if◌then◌else◌, List, length, Option, is_some}
use Rattle.std.specs.Ordering.{nat_cmp, eq_by_cmp}
use Rattle.std.specs.declared.cmp.Ordering.{Ordering}
use Rattle.std.specs.Cmp.Lexicographic.{slice_cmp}
use Rattle.std.specs.FinMap.Entries.{find, put, where_key}
use Rattle.isa_model.specs.declared.map_defs.MapType.{MapType}
use Rattle.isa_model.specs.declared.map_defs.MapType.TheVariants.{Hash, Array}
use Rattle.isa_model.specs.declared.map_defs.MapDef.{MapDef}

-- keys are compared byte by byte
abbrev pub key_order : List ℕ → List ℕ → Ordering
key_order = slice_cmp nat_cmp

abbrev pub is_key : List ℕ → List ℕ → Bool
is_key = eq_by_cmp key_order

-- ---- contents as finite maps

-- what the key has
abbrev pub at_key : {X : Type 0} → List ℕ → List (List ℕ × X) → Option X
at_key key content = find key_order key content

abbrev pub has_key : {X : Type 0} → List ℕ → List (List ℕ × X) → Bool
has_key key content = is_some (at_key key content)

-- the key has x, and every other key what it had
abbrev pub with_key : {X : Type 0} → List ℕ → X → List (List ℕ × X) → List (List ℕ × X)
with_key key x content = put key_order key x content

-- the key has nothing, and every other key what it had
abbrev pub without_key : {X : Type 0} → List ℕ → List (List ℕ × X) → List (List ℕ × X)
without_key key content = where_key key_order (λ k. not (is_key key k)) content

-- ---- answers

-- the negative errors, in 64 bits
abbrev pub enoent : ℕ
enoent = 2 ^ 64 - 2

abbrev pub e2big : ℕ
e2big = 2 ^ 64 - 7

abbrev pub eexist : ℕ
eexist = 2 ^ 64 - 17

abbrev pub einval : ℕ
einval = 2 ^ 64 - 22

-- the flags of an update; ANY is 0
abbrev pub noexist : ℕ
noexist = 1

abbrev pub exist : ℕ
exist = 2

-- the answer to an update of a hash map: `full` where it has no room for one key more
abbrev pub hash_update : (has full : Bool) → (flags : ℕ) → ℕ
hash_update has full flags =
    if nat_lt exist flags then einval
    else if has && (flags == noexist) then eexist
    else if not has && (flags == exist) then enoent
    else if not has && full then e2big
    else 0

-- an array has all keys below its end: one that it does not have is past it
abbrev pub array_update : (has : Bool) → (flags : ℕ) → ℕ
array_update has flags =
    if nat_lt exist flags then einval
    else if not has then e2big
    else if flags == noexist then eexist
    else 0

abbrev pub update_answer_by : MapType → (has full : Bool) → (flags : ℕ) → ℕ
update_answer_by Hash has full flags = hash_update has full flags
update_answer_by Array has full flags = array_update has flags

-- nothing is deleted from an array
abbrev pub delete_answer_by : MapType → (has : Bool) → ℕ
delete_answer_by Hash has = if has then 0 else enoent
delete_answer_by Array has = einval

-- 0, or the error of the first test that fails
abbrev pub update_answer : {X : Type 0} → MapDef → List (List ℕ × X) → List ℕ → ℕ → ℕ
update_answer row content key flags =
    update_answer_by row.kind (has_key key content) (nat_le row.entries (length content)) flags

abbrev pub delete_answer : {X : Type 0} → MapDef → List (List ℕ × X) → List ℕ → ℕ
delete_answer row content key = delete_answer_by row.kind (has_key key content)

-- ---- what they leave: the change is made where the answer is 0

abbrev pub after_update : {X : Type 0} → MapDef → List (List ℕ × X) → List ℕ → X → ℕ
    → List (List ℕ × X)
after_update row content key x flags =
    if update_answer row content key flags == 0 then with_key key x content else content

abbrev pub after_delete : {X : Type 0} → MapDef → List (List ℕ × X) → List ℕ → List (List ℕ × X)
after_delete row content key =
    if delete_answer row content key == 0 then without_key key content else content
