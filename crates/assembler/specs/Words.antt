-- The words of program text, by their bytes.
use Rattle.std.specs.Prelude.{ℕ, ◌==◌, if◌then◌else◌, List, [], ◌∷◌, codes, Option, Some, None}
use Rattle.std.specs.Str.{bytes_eq}
use Rattle.isa_model.specs.declared.registers.Reg.{Reg}
use Rattle.isa_model.specs.declared.registers.Reg.TheVariants.{R0, R1, R2, R3, R4, R5, R6, R7, R8, R9, R10}
use Rattle.isa_model.specs.declared.sizes.Width.{Width}
use Rattle.isa_model.specs.declared.sizes.Width.TheVariants.{Low32, Full64}
use Rattle.isa_model.specs.declared.sizes.Size.TheVariants.{U8, U16, U32, U64}
use Rattle.isa_model.specs.declared.sizes.SignedSize.TheVariants.{S8, S16, S32}
use Rattle.isa_model.specs.declared.sizes.SwapWidth.TheVariants.{B16, B32, B64}
use Rattle.isa_model.specs.declared.sizes.ByteOrder.TheVariants.{Little, Big, Swap}
use Rattle.isa_model.specs.declared.instructions.AtomicOp.TheVariants as atomic
use Rattle.isa_model.specs.declared.map_defs.MapType.TheVariants.{Hash, Array}
use Rattle.assembler.specs.declared.tokens.Word.{Word}
use Rattle.assembler.specs.declared.tokens.Word.TheVariants as word

-- a register's digits, without leading zeros
abbrev pub reg_of : List ℕ → Option Reg
reg_of [] = None
reg_of (c ∷ []) =
    if c == 48 then Some R0 else if c == 49 then Some R1 else if c == 50 then Some R2
    else if c == 51 then Some R3
    else if c == 52 then Some R4 else if c == 53 then Some R5 else if c == 54 then Some R6
    else if c == 55 then Some R7
    else if c == 56 then Some R8 else if c == 57 then Some R9 else None
reg_of (c ∷ d ∷ []) = if c == 49 then (if d == 48 then Some R10 else None) else None
reg_of (c ∷ d ∷ e ∷ cs) = None

abbrev pub register_word : Width → Option Reg → Word
register_word w (Some r) = word.Register w r
register_word w None = word.Other

abbrev pub map_word : List ℕ → Word
map_word cs =
    if bytes_eq cs (codes "map") then word.Map
    else if bytes_eq cs (codes "hash") then word.MapType Hash
    else if bytes_eq cs (codes "array") then word.MapType Array
    else if bytes_eq cs (codes "map_by_idx") then word.MapByIndex
    else if bytes_eq cs (codes "map_val") then word.MapValue
    else if bytes_eq cs (codes "version") then word.Version
    else word.Other

abbrev pub atomic_word : List ℕ → Word
atomic_word cs =
    if bytes_eq cs (codes "atomic_fetch_add_32") then word.Fetch atomic.Add Low32
    else if bytes_eq cs (codes "atomic_fetch_add_64") then word.Fetch atomic.Add Full64
    else if bytes_eq cs (codes "atomic_fetch_or_32") then word.Fetch atomic.Or Low32
    else if bytes_eq cs (codes "atomic_fetch_or_64") then word.Fetch atomic.Or Full64
    else if bytes_eq cs (codes "atomic_fetch_and_32") then word.Fetch atomic.And Low32
    else if bytes_eq cs (codes "atomic_fetch_and_64") then word.Fetch atomic.And Full64
    else if bytes_eq cs (codes "atomic_fetch_xor_32") then word.Fetch atomic.Xor Low32
    else if bytes_eq cs (codes "atomic_fetch_xor_64") then word.Fetch atomic.Xor Full64
    else if bytes_eq cs (codes "xchg_32") then word.Exchange Low32
    else if bytes_eq cs (codes "xchg_64") then word.Exchange Full64
    else if bytes_eq cs (codes "cmpxchg_32") then word.CompareExchange Low32
    else if bytes_eq cs (codes "cmpxchg_64") then word.CompareExchange Full64
    else map_word cs

abbrev pub swap_word : List ℕ → Word
swap_word cs =
    if bytes_eq cs (codes "le16") then word.Swapped Little B16
    else if bytes_eq cs (codes "le32") then word.Swapped Little B32
    else if bytes_eq cs (codes "le64") then word.Swapped Little B64
    else if bytes_eq cs (codes "be16") then word.Swapped Big B16
    else if bytes_eq cs (codes "be32") then word.Swapped Big B32
    else if bytes_eq cs (codes "be64") then word.Swapped Big B64
    else if bytes_eq cs (codes "bswap16") then word.Swapped Swap B16
    else if bytes_eq cs (codes "bswap32") then word.Swapped Swap B32
    else if bytes_eq cs (codes "bswap64") then word.Swapped Swap B64
    else atomic_word cs

abbrev pub size_word : List ℕ → Word
size_word cs =
    if bytes_eq cs (codes "u8") then word.Unsigned U8
    else if bytes_eq cs (codes "u16") then word.Unsigned U16
    else if bytes_eq cs (codes "u32") then word.Unsigned U32
    else if bytes_eq cs (codes "u64") then word.Unsigned U64
    else if bytes_eq cs (codes "s8") then word.SignExtended S8
    else if bytes_eq cs (codes "s16") then word.SignExtended S16
    else if bytes_eq cs (codes "s32") then word.SignExtended S32
    else swap_word cs

abbrev pub keyword : List ℕ → Word
keyword cs =
    if bytes_eq cs (codes "if") then word.If
    else if bytes_eq cs (codes "goto") then word.Goto
    else if bytes_eq cs (codes "gotol") then word.GotoLong
    else if bytes_eq cs (codes "call") then word.Call
    else if bytes_eq cs (codes "pc") then word.Pc
    else if bytes_eq cs (codes "exit") then word.Exit
    else if bytes_eq cs (codes "lock") then word.Lock
    else if bytes_eq cs (codes "ll") then word.Wide
    else size_word cs

abbrev pub word_of : List ℕ → Word
word_of [] = keyword []
word_of (c ∷ cs) =
    if c == 114 then register_word Full64 (reg_of cs)
    else if c == 119 then register_word Low32 (reg_of cs)
    else keyword (c ∷ cs)
