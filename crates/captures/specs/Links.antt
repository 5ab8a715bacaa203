-- The link types that are read, and the Ethernet frame that the bytes of a packet become.
-- https://www.tcpdump.org/linktypes.html.
use Rattle.std.specs.Prelude.{ℕ, ◌/◌, ◌==◌, List, [], ◌∷◌, ◌++◌, length, take, drop, replicate, nat_lt, if◌then◌else◌, Option, Some, None}
use Rattle.byteorder.specs.Endian.{big_bytes, big_number, little_number}
use Rattle.captures.specs.declared.forms.LinkType.{LinkType}
use Rattle.captures.specs.declared.forms.LinkType.TheVariants.{Ethernet, Cooked, Cooked2, Raw, Null, Loop}

-- the link type of a number: LINKTYPE_ETHERNET, LINKTYPE_LINUX_SLL, LINKTYPE_LINUX_SLL2,
-- LINKTYPE_RAW and DLT_RAW, LINKTYPE_IPV4, LINKTYPE_IPV6, LINKTYPE_NULL, LINKTYPE_LOOP
abbrev pub link_of : ℕ → Option LinkType
link_of number =
    if number == 1 then Some Ethernet
    else if number == 113 then Some Cooked
    else if number == 276 then Some Cooked2
    else if number == 101 then Some Raw
    else if number == 12 then Some Raw
    else if number == 228 then Some Raw
    else if number == 229 then Some Raw
    else if number == 0 then Some Null
    else if number == 108 then Some Loop
    else None

-- ---- packets without an Ethernet head

-- both addresses zero, and the EtherType
abbrev pub ethernet_head : ℕ → List ℕ
ethernet_head kind = replicate 12 0 ++ big_bytes 2 kind

-- the EtherType of an IP packet, by the version in its first four bits; 0 where it has another one
-- or no byte
abbrev pub version_type : List ℕ → ℕ
version_type [] = 0
version_type (byte ∷ rest) =
    if byte / 16 == 4 then 0x0800 else if byte / 16 == 6 then 0x86dd else 0

-- The EtherType of an address family; 0 of another one. AF_INET is 2, AF_INET6 is 24, 28 or 30 on
-- BSDs and macOS, and 10 on Linux.
abbrev pub family_type : ℕ → ℕ
family_type family =
    if family == 2 then 0x0800
    else if family == 24 then 0x86dd
    else if family == 28 then 0x86dd
    else if family == 30 then 0x86dd
    else if family == 10 then 0x86dd
    else 0

-- the family in the byte order of the machine that captured: the one in which it is below 65,536
abbrev pub machine_family : List ℕ → ℕ
machine_family bytes =
    if nat_lt (big_number 4 bytes) 65536 then big_number 4 bytes else little_number 4 bytes

-- 0 where a packet is too short for a family
abbrev pub null_type : List ℕ → ℕ
null_type bytes = if nat_lt (length bytes) 4 then 0 else family_type (machine_family bytes)

abbrev pub loop_type : List ℕ → ℕ
loop_type bytes = if nat_lt (length bytes) 4 then 0 else family_type (big_number 4 bytes)

-- ---- frames

-- the Ethernet frame that the bytes of a packet become. Of Linux's `any` interface the destination
-- is not known: it is zero.
abbrev pub ethernet_frame : LinkType → List ℕ → List ℕ
ethernet_frame Ethernet bytes = bytes
ethernet_frame Cooked bytes =
    if nat_lt (length bytes) 16 then bytes
    else replicate 6 0 ++ (take 6 (drop 6 bytes) ++ drop 14 bytes)
ethernet_frame Cooked2 bytes =
    if nat_lt (length bytes) 20 then bytes
    else replicate 6 0 ++ (take 6 (drop 12 bytes) ++ (take 2 bytes ++ drop 20 bytes))
ethernet_frame Raw bytes = ethernet_head (version_type bytes) ++ bytes
ethernet_frame Null bytes = ethernet_head (null_type bytes) ++ drop 4 bytes
ethernet_frame Loop bytes = ethernet_head (loop_type bytes) ++ drop 4 bytes

-- the interface that a packet came in by, another one where its link type does not say it
abbrev pub interface_of : LinkType → ℕ → List ℕ → ℕ
interface_of Cooked2 other bytes =
    if nat_lt (length bytes) 20 then other else big_number 4 (drop 4 bytes)
interface_of link other bytes = other
