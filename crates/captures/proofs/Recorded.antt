-- How records that stand one after the other are read.
use Rattle.captures.proofs.Common.{◌≡◌, ◌∙◌, ℕ, zero, suc, ◌+◌, ◌<◌, List, [], ◌++◌, Ok, length, take, drop, refl, ap, arith, length-append, take_at, drop_at, CaptureFormat, Interface, PacketEnd, CapturedPacket, FoundRecord, SaidRecord, first_record, found_said, moved, packets_from, record_said, record_size}
use Rattle.captures.specs.declared.packets.PacketEnd.TheVariants as ending
use Rattle.captures.proofs.CapturedLaws.{first_record-end, first_record-whole, packets_from-goes_on, packets_from-stops, with_packets}

-- packets, and how they end
abbrev pub Read : Type 0
Read = List CapturedPacket × PacketEnd

-- the packets of these bytes, wherever they are in a capture
abbrev pub Reads : CaptureFormat → List Interface → List ℕ → Read → Type 0
Reads format interfaces bytes read =
    (fuel offset : ℕ) → length bytes < fuel
    → packets_from fuel format interfaces offset bytes ≡ read

pub reads-end : (format : CaptureFormat) (interfaces : List Interface)
    → Reads format interfaces [] ([], ending.End)
reads-end format interfaces zero offset less = absurd (omega (arith, less))
reads-end format interfaces (suc fuel) offset less =
    packets_from-stops fuel format interfaces offset [] ending.End
    (first_record-end format interfaces offset)

-- a record is read, and then what follows it
pub reads-record : (format : CaptureFormat) (interfaces : List Interface) (bytes rest : List ℕ)
    (said : SaidRecord) (read : Read) → 0 < length bytes
    → record_size format (bytes ++ rest) ≡ Ok (length bytes)
    → record_said format interfaces bytes ≡ Ok said
    → Reads said.format said.interfaces rest read
    → Reads format interfaces (bytes ++ rest) (said.packets ++ read.0, read.1)
reads-record format interfaces bytes rest said read some sized says later zero offset less =
    absurd (omega (arith, less))
reads-record format interfaces bytes rest said read some sized says later (suc fuel) offset less =
    let all = bytes ++ rest in
    let size = length bytes in
    let long : length all ≡ size + length rest = length-append bytes rest in
    let front : take size all ≡ bytes = take_at bytes rest size refl in
    let behind : drop size all ≡ rest = drop_at bytes rest size refl in
    let found : FoundRecord = record { size = size; said = said } in
    let is : first_record format interfaces offset all ≡ Ok found =
    first_record-whole format interfaces offset all size sized (omega (arith, long))
    ∙ ap (λ (b : List ℕ). found_said offset size (record_said format interfaces b)) front
    ∙ ap (found_said offset size) says in
    packets_from-goes_on fuel format interfaces offset all found is
    ∙ ap (λ (b : List ℕ). with_packets found
    (packets_from fuel said.format said.interfaces (moved offset size) b)) behind
    ∙ ap (with_packets found)
    (later fuel (moved offset size) (omega (arith, less, long, some)))
