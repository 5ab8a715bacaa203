-- The blocks of a capture in the pcapng format, and what each of them says.
-- draft-ietf-opsawg-pcapng.
-- A block is: u32 type, u32 total length, a body, u32 total length again. A section begins with a
-- block whose body has u32 byte-order magic, u16 major version, u16 minor version, u64 section
-- length and options. An interface is described by: u16 link type, u16 reserved, u32 snap length
-- and options. A packet is one of:
--   enhanced  u32 interface, u64 time, u32 captured and u32 original packet length, its bytes
--   old       u16 interface, u16 drops, and then the same
--   simple    u32 original packet length, its bytes
-- The time has its high 32 bits first. An option is: u16 code, u16 length, a value that is padded
-- to 32 bits.
use Rattle.std.specs.Prelude.{ℕ, zero, suc, ◌+◌, ◌*◌, ◌^◌, ◌-◌, ◌/◌, ◌%◌, ◌==◌, Bool, not, ◌&&◌, List, [], ◌∷◌, ◌++◌, length, take, drop, min, nat_eq, nat_le, nat_lt, slice_get, codes, unwrap_or, if◌then◌else◌, Option, Some, None, Result, Ok, Err}
use Rattle.std.specs.List.{list_all, starts_with}
use Rattle.std.specs.Char.{is_ascii_digit}
use Rattle.std.specs.Str.Parse.{digits_value}
use Rattle.byteorder.specs.Endian.{big_number, little_number}
use Rattle.captures.specs.declared.forms.NumberOrder.{NumberOrder}
use Rattle.captures.specs.declared.forms.NumberOrder.TheVariants.{HighFirst, LowFirst}
use Rattle.captures.specs.declared.forms.LinkType.{LinkType}
use Rattle.captures.specs.declared.forms.PcapngForm.{PcapngForm}
use Rattle.captures.specs.declared.forms.Reasons.{Reasons}
use Rattle.captures.specs.declared.forms.Reasons.TheVariants.{Ignored, Read}
use Rattle.captures.specs.declared.interfaces.TimeScale.{TimeScale}
use Rattle.captures.specs.declared.interfaces.TimeScale.TheVariants.{PowerOf10, PowerOf2}
use Rattle.captures.specs.declared.interfaces.Interface.{Interface}
use Rattle.captures.specs.declared.packets.PacketFault.{PacketFault}
use Rattle.captures.specs.declared.packets.PacketFault.TheVariants.{TooLong, BadBlock, UnknownInterface, UnknownInterfaceLink, TooManyInterfaces}
use Rattle.captures.specs.Links.{link_of, ethernet_frame, interface_of}
use Rattle.captures.specs.Pcap.{field, CapturedPacket}

-- ---- numbers

-- the number in the two bytes at an offset
abbrev pub short_field : NumberOrder → ℕ → List ℕ → ℕ
short_field HighFirst at bytes = big_number 2 (drop at bytes)
short_field LowFirst at bytes = little_number 2 (drop at bytes)

-- the number in the eight bytes at an offset
abbrev pub long_field : NumberOrder → ℕ → List ℕ → ℕ
long_field HighFirst at bytes = big_number 8 (drop at bytes)
long_field LowFirst at bytes = little_number 8 (drop at bytes)

-- ---- options

-- how many bytes a value has with its padding
abbrev pub padded : ℕ → ℕ
padded size = (size + 3) / 4 * 4

-- the value of the first option with this code, before the end of options; `fuel` is more than the
-- number of bytes
unfoldable pub option_in : ℕ → NumberOrder → ℕ → List ℕ → Option (List ℕ)
option_in zero order code bytes = None
option_in (suc fuel) order code bytes =
    if nat_lt (length bytes) 4 then None
    else if short_field order 0 bytes == 0 then None
    else if short_field order 0 bytes == code
    then Some (take (short_field order 2 bytes) (drop 4 bytes))
    else option_in fuel order code (drop (4 + padded (short_field order 2 bytes)) bytes)

abbrev pub option_value : NumberOrder → ℕ → List ℕ → Option (List ℕ)
option_value order code bytes = option_in (suc (length bytes)) order code bytes

-- the values of all options with this code, before the end of options; `fuel` is more than the
-- number of bytes
unfoldable pub options_in : ℕ → NumberOrder → ℕ → List ℕ → List (List ℕ)
options_in zero order code bytes = []
options_in (suc fuel) order code bytes =
    let later = options_in fuel order code (drop (4 + padded (short_field order 2 bytes)) bytes) in
    if nat_lt (length bytes) 4 then []
    else if short_field order 0 bytes == 0 then []
    else if short_field order 0 bytes == code
    then take (short_field order 2 bytes) (drop 4 bytes) ∷ later
    else later

abbrev pub option_values : NumberOrder → ℕ → List ℕ → List (List ℕ)
option_values order code bytes = options_in (suc (length bytes)) order code bytes

-- ---- reasons

-- one to ten decimal digits of a number of 32 bits
abbrev pub is_reason_number : List ℕ → Bool
is_reason_number digits =
    nat_lt 0 (length digits)
    && (nat_le (length digits) 10
    && (list_all is_ascii_digit digits && nat_lt (digits_value 10 digits) (2 ^ 32)))

abbrev pub reason_number : List ℕ → Option ℕ
reason_number digits =
    if is_reason_number digits then Some (digits_value 10 digits) else None

-- the reason that a comment says, as `reason 7`, if it says one
abbrev pub reason_said : List ℕ → Option ℕ
reason_said comment =
    if starts_with nat_eq comment (codes "reason ") then reason_number (drop 7 comment) else None

-- the reason that an option of this code says, if it is opt_comment
abbrev pub option_reason : ℕ → List ℕ → Option ℕ
option_reason code value = if code == 1 then reason_said value else None

-- the first reason that these comments say, or 0
abbrev pub first_reason : List (List ℕ) → ℕ
first_reason [] = 0
first_reason (comment ∷ later) = unwrap_or (reason_said comment) (first_reason later)

-- the reason by options: by the first opt_comment that says one
abbrev pub reason_in : NumberOrder → List ℕ → ℕ
reason_in order options = first_reason (option_values order 1 options)

-- the options of an enhanced or an old block with a packet of this length
abbrev pub packet_options : ℕ → List ℕ → List ℕ
packet_options captured block = drop (28 + padded captured) (take (length block - 4) block)

abbrev pub packet_reason : NumberOrder → ℕ → List ℕ → ℕ
packet_reason order captured block = reason_in order (packet_options captured block)

-- if reasons are read
abbrev pub reason_by : Reasons → NumberOrder → ℕ → List ℕ → ℕ
reason_by Ignored order captured block = 0
reason_by Read order captured block = packet_reason order captured block

-- ---- interfaces

-- how many units of its times a second has
abbrev pub units_per_second : TimeScale → ℕ
units_per_second (PowerOf10 n) = 10 ^ n
units_per_second (PowerOf2 n) = 2 ^ n

-- the scale that a byte says: a power of 10, or with the high bit set of 2
abbrev pub scale_of : ℕ → TimeScale
scale_of byte = if nat_lt byte 128 then PowerOf10 byte else PowerOf2 (byte - 128)

-- the scale by the option if_tsresol: microseconds where there is none of one byte
abbrev pub scale_by : Option (List ℕ) → TimeScale
scale_by (Some (byte ∷ [])) = scale_of byte
scale_by value = PowerOf10 6

-- how many seconds are added to times, as two's complement, by the option if_tsoffset
abbrev pub offset_by : NumberOrder → Option (List ℕ) → ℕ
offset_by order None = 0
offset_by order (Some value) = if length value == 8 then long_field order 0 value else 0

-- the options of a block that describes an interface
abbrev pub interface_options : List ℕ → List ℕ
interface_options block = drop 16 (take (length block - 4) block)

-- the interface that a block describes
abbrev pub interface_in : NumberOrder → List ℕ → Interface
interface_in order block = record {
  link = short_field order 8 block;
  scale = scale_by (option_value order 9 (interface_options block));
  offset = offset_by order (option_value order 14 (interface_options block));
  snap = field order 12 block;
}

-- a number of units, and the interface's offset, in nanoseconds, modulo 2^64
abbrev pub time_at : Interface → ℕ → ℕ
time_at interface units =
    (units * 10 ^ 9 / units_per_second interface.scale + interface.offset * 10 ^ 9) % 2 ^ 64

-- ---- blocks

-- the block begins a section; its type is the same in both orders
abbrev pub is_section : List ℕ → Bool
is_section bytes = big_number 4 bytes == 0x0a0d0d0a

-- the order that the byte-order magic of a section says
abbrev pub section_order : List ℕ → Option NumberOrder
section_order bytes =
    if big_number 4 (drop 8 bytes) == 0x1a2b3c4d then Some HighFirst
    else if little_number 4 (drop 8 bytes) == 0x1a2b3c4d then Some LowFirst
    else None

-- the order of the numbers of a block in a section of this order
abbrev pub block_order : NumberOrder → List ℕ → Option NumberOrder
block_order order bytes = if is_section bytes then section_order bytes else Some order

-- the fewest bytes that a block of this type has
abbrev pub least_size : ℕ → ℕ
least_size kind =
    if kind == 0x0a0d0d0a then 28
    else if kind == 1 then 20
    else if kind == 2 then 32
    else if kind == 3 then 16
    else if kind == 6 then 32
    else 12

-- the most bytes of a block
abbrev pub max_block : ℕ
max_block = 4194304

abbrev pub sized_by : List ℕ → Option NumberOrder → Result ℕ PacketFault
sized_by bytes None = Err BadBlock
sized_by bytes (Some order) =
    if nat_lt (field order 4 bytes) (least_size (field order 0 bytes)) then Err BadBlock
    else if not (field order 4 bytes % 4 == 0) then Err BadBlock
    else if nat_lt max_block (field order 4 bytes) then Err TooLong
    else Ok (field order 4 bytes)

-- how many bytes a block has whose first 12 these are, or why it is none
unfoldable pub block_size : NumberOrder → List ℕ → Result ℕ PacketFault
block_size order bytes = sized_by bytes (block_order order bytes)

-- ---- packets

-- a packet whose bytes begin at a place of the block, or why it is none
abbrev pub packet_by : Interface → (number time start captured original reason : ℕ) → List ℕ
    → Option LinkType → Result CapturedPacket PacketFault
packet_by interface number time start captured original reason block None =
    Err UnknownInterfaceLink
packet_by interface number time start captured original reason block (Some link) =
    if nat_lt (length block) (start + captured + 4) then Err BadBlock
    else Ok (record {
      head =
          record {
            time = time;
            interface = interface_of link number (take captured (drop start block));
            queue = 0;
          };
      body = ethernet_frame link (take captured (drop start block));
      captured = captured;
      original = original;
      reason = reason;
    })

-- the packet of an enhanced or an old block, which came in by the interface of this number
abbrev pub timed_packet : PcapngForm → ℕ → Option Interface → List ℕ
    → Result CapturedPacket PacketFault
timed_packet form number None block = Err UnknownInterface
timed_packet form number (Some interface) block =
    packet_by interface number
    (time_at interface (field form.order 12 block * 2 ^ 32 + field form.order 16 block)) 28
    (field form.order 20 block) (field form.order 24 block)
    (reason_by form.reasons form.order (field form.order 20 block) block) block
    (link_of interface.link)

-- how many bytes of a packet a simple block has, by the original packet length
abbrev pub simple_length : Interface → ℕ → List ℕ → ℕ
simple_length interface original block =
    if interface.snap == 0 then min original (length block - 16)
    else min original (min interface.snap (length block - 16))

-- the packet of a simple block, which came in by the first interface; it says no time and no reason
abbrev pub simple_packet : NumberOrder → Option Interface → List ℕ
    → Result CapturedPacket PacketFault
simple_packet order None block = Err UnknownInterface
simple_packet order (Some interface) block =
    packet_by interface 0 0 12 (simple_length interface (field order 8 block) block)
    (field order 8 block) 0 block (link_of interface.link)

-- ---- what a block says

-- the most interfaces of a section
abbrev pub max_interfaces : ℕ
max_interfaces = 4096

-- a section: how its blocks are read, and the interfaces that are described so far
pub record PcapngSection : Type 0 where
  pub form : PcapngForm
  pub interfaces : List Interface

-- the section after a block, and the packets of it: none or one
pub record SaidBlock : Type 0 where
  pub section : PcapngSection
  pub packets : List CapturedPacket

abbrev pub says_packet : PcapngSection → Result CapturedPacket PacketFault
    → Result SaidBlock PacketFault
says_packet section (Ok packet) = Ok (record { section = section; packets = packet ∷ [] })
says_packet section (Err fault) = Err fault

abbrev pub says_interface : PcapngSection → Interface → Result SaidBlock PacketFault
says_interface section interface =
    if nat_lt (length section.interfaces) max_interfaces then Ok (record {
      section = record section { interfaces = section.interfaces ++ (interface ∷ []) };
      packets = [];
    })
    else Err TooManyInterfaces

abbrev pub says_nothing : PcapngSection → Result SaidBlock PacketFault
says_nothing section = Ok (record { section = section; packets = [] })

-- what a block that begins no section says in one, by its type
abbrev pub said_in : PcapngSection → List ℕ → ℕ → Result SaidBlock PacketFault
said_in section block kind =
    let order = section.form.order in
    if kind == 1 then says_interface section (interface_in order block)
    else if kind == 2
    then says_packet section (timed_packet section.form (short_field order 8 block)
    (slice_get section.interfaces (short_field order 8 block)) block)
    else if kind == 3
    then says_packet section (simple_packet order (slice_get section.interfaces 0) block)
    else if kind == 6
    then says_packet section (timed_packet section.form (field order 8 block)
    (slice_get section.interfaces (field order 8 block)) block)
    else says_nothing section

abbrev pub said_by : PcapngSection → List ℕ → Option NumberOrder → Result SaidBlock PacketFault
said_by section block None = Err BadBlock
said_by section block (Some order) =
    if not (field order (length block - 4) block == length block) then Err BadBlock
    else if is_section block
    then says_nothing (record {
      form = record { order = order; reasons = section.form.reasons };
      interfaces = [];
    })
    else said_in section block (field order 0 block)

-- what a whole block says in a section, or why it is none
unfoldable pub block_said : PcapngSection → List ℕ → Result SaidBlock PacketFault
block_said section block = said_by section block (block_order section.form.order block)
