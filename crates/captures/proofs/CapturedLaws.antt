-- Laws of the definitions in specs/Captured.
use Rattle.captures.proofs.Common.{◌≡◌, ℕ, zero, suc, ◌+◌, ◌<◌, ◌≤◌, List, [], ◌∷◌, ◌++◌, length, take, drop, Bool, true, false, Result, Ok, Err, refl, sym, ap, ◌∙◌, arith, le-ltb, lt-ltb, ltb-false, length-drop, inl, inr, nat_lt, if◌then◌else◌, cases_lt, nat_tests, PcapForm, Reasons, HighFirst, TruncatedFileHead, CaptureFormat, Interface, PacketFault, TruncatedRecord, TooLong, TruncatedPacket, PacketEnd, is_section, CapturedPacket, opened, max_captured, captured_length, packet_size, begun, begun_by, head_size, max_record, record_size, SaidRecord, record_said, FoundRecord, found_said, found_sized, first_record, moved, packets_from}
use Rattle.captures.specs.declared.forms.CaptureFormat.TheVariants as formats
use Rattle.captures.specs.declared.packets.PacketEnd.TheVariants as ending
use Rattle.captures.proofs.PcapLaws.{field-append}
use Rattle.captures.proofs.PcapngLaws.{block_size-append, block_size-least, block_size-most}

-- ---- how a capture begins

pub begun-short : (reasons : Reasons) (bytes : List ℕ) → length bytes < 24
    → begun reasons bytes ≡ Err TruncatedFileHead
unfolding begun
begun-short reasons bytes h = let less = lt-ltb _ _ h in rw less refl

pub begun-section : (reasons : Reasons) (bytes : List ℕ) → 24 ≤ length bytes
    → is_section bytes ≡ true
    → begun reasons bytes
    ≡ Ok (formats.Pcapng (record { order = HighFirst; reasons = reasons }))
unfolding begun
begun-section reasons bytes h is = let whole = le-ltb _ _ h in rw (whole, is) refl

pub begun-other : (reasons : Reasons) (bytes : List ℕ) → 24 ≤ length bytes
    → is_section bytes ≡ false → begun reasons bytes ≡ begun_by (opened bytes)
unfolding begun
begun-other reasons bytes h is = let whole = le-ltb _ _ h in rw (whole, is) refl

-- ---- how long a record is

pub head_size-some : (format : CaptureFormat) → 0 < head_size format
head_size-some (formats.Pcap form) = omega arith
head_size-some (formats.Pcapng form) = omega arith

-- it depends on no byte after the head
pub record_size-append : (format : CaptureFormat) (xs ys : List ℕ) → head_size format ≤ length xs
    → record_size format (xs ++ ys) ≡ record_size format xs
record_size-append (formats.Pcap form) xs ys h =
    let same : captured_length form (xs ++ ys) ≡ captured_length form xs =
    field-append form.order 8 xs ys (omega arith) in
    rw same refl
record_size-append (formats.Pcapng form) xs ys h = block_size-append form.order xs ys h

pcap_sized : (form : PcapForm) (bytes : List ℕ) (size : ℕ)
    → record_size (formats.Pcap form) bytes ≡ Ok size
    → (size ≡ 16 + captured_length form bytes) × (captured_length form bytes ≤ max_captured)
pcap_sized form bytes size h =
    go (nat_lt max_captured (captured_length form bytes)) refl h
  where
    go : (b : Bool) → nat_lt max_captured (captured_length form bytes) ≡ b
        → (if b then Err TooLong else Ok (packet_size form bytes)) ≡ Ok size
        → (size ≡ 16 + captured_length form bytes) × (captured_length form bytes ≤ max_captured)
    go true is h = absurd cc
    go false is h = (cc, omega (arith, ltb-false _ _ is))

pub max_record-head : (format : CaptureFormat) → 24 ≤ max_record format
max_record-head (formats.Pcap form) = omega arith
max_record-head (formats.Pcapng form) = omega arith

pub record_size-least : (format : CaptureFormat) (bytes : List ℕ) (size : ℕ)
    → record_size format bytes ≡ Ok size → head_size format ≤ size
record_size-least (formats.Pcap form) bytes size h =
    let is = pcap_sized form bytes size h in omega arith
record_size-least (formats.Pcapng form) bytes size h = block_size-least form.order bytes size h

pub record_size-most : (format : CaptureFormat) (bytes : List ℕ) (size : ℕ)
    → record_size format bytes ≡ Ok size → size ≤ max_record format
record_size-most (formats.Pcap form) bytes size h =
    let is = pcap_sized form bytes size h in omega arith
record_size-most (formats.Pcapng form) bytes size h = block_size-most form.order bytes size h

-- ---- the record at the front

module _ (format : CaptureFormat) (interfaces : List Interface) (offset : ℕ) where
  pub first_record-end : first_record format interfaces offset [] ≡ Err ending.End
  unfolding first_record
  first_record-end = refl

  pub first_record-part : (bytes : List ℕ) → 0 < length bytes → length bytes < head_size format
      → first_record format interfaces offset bytes ≡ Err (ending.Fault TruncatedRecord offset)
  unfolding first_record
  first_record-part bytes some short = grind (arith, nat_tests)

  first_record-headed : (bytes : List ℕ) → head_size format ≤ length bytes
      → first_record format interfaces offset bytes
      ≡ found_sized format interfaces offset bytes (record_size format bytes)
  unfolding first_record
  first_record-headed bytes whole =
      let some = head_size-some format in grind (arith, nat_tests)

  pub first_record-none : (bytes : List ℕ) (fault : PacketFault)
      → head_size format ≤ length bytes → record_size format bytes ≡ Err fault
      → first_record format interfaces offset bytes ≡ Err (ending.Fault fault offset)
  first_record-none bytes fault whole is =
      first_record-headed bytes whole
      ∙ ap (found_sized format interfaces offset bytes) is

  pub first_record-short : (bytes : List ℕ) (size : ℕ)
      → head_size format ≤ length bytes → record_size format bytes ≡ Ok size
      → length bytes < size
      → first_record format interfaces offset bytes ≡ Err (ending.Fault TruncatedPacket offset)
  first_record-short bytes size whole is short =
      let less = lt-ltb _ _ short in
      first_record-headed bytes whole
      ∙ ap (found_sized format interfaces offset bytes) is ∙ rw less refl

  pub first_record-whole : (bytes : List ℕ) (size : ℕ)
      → record_size format bytes ≡ Ok size → size ≤ length bytes
      → first_record format interfaces offset bytes
      ≡ found_said offset size (record_said format interfaces (take size bytes))
  first_record-whole bytes size is whole =
      let least = record_size-least format bytes size is in
      let more = le-ltb _ _ whole in
      first_record-headed bytes (omega arith)
      ∙ ap (found_sized format interfaces offset bytes) is ∙ rw more refl

  said_size : (size : ℕ) (said : Result SaidRecord PacketFault) (found : FoundRecord)
      → found_said offset size said ≡ Ok found → found.size ≡ size
  said_size size (Err fault) found h = absurd cc
  said_size size (Ok said) found h = cc

  sized_some : (bytes : List ℕ) (result : Result ℕ PacketFault) (found : FoundRecord)
      → record_size format bytes ≡ result
      → found_sized format interfaces offset bytes result ≡ Ok found → 0 < found.size
  sized_some bytes (Err fault) found is h = absurd cc
  sized_some bytes (Ok size) found is h = go (nat_lt (length bytes) size) h
    where
      go : (b : Bool) → (if b then Err (ending.Fault TruncatedPacket offset)
          else found_said offset size (record_said format interfaces (take size bytes)))
          ≡ Ok found → 0 < found.size
      go true h = absurd cc
      go false h =
          let same =
          said_size size (record_said format interfaces (take size bytes)) found h in
          let least = record_size-least format bytes size is in
          omega (arith, head_size-some format)

  -- where a record is found there are bytes, and it has some
  pub first_record-some : (bytes : List ℕ) (found : FoundRecord)
      → first_record format interfaces offset bytes ≡ Ok found
      → (0 < length bytes) × (0 < found.size)
  first_record-some [] found h = let end = first_record-end in absurd cc
  first_record-some (b ∷ bytes) found h =
      elim (cases_lt (length (b ∷ bytes)) (head_size format)) [
        | inl less ↦ let end = first_record-part (b ∷ bytes) (omega arith) less in absurd cc
        | inr more ↦ (
          omega arith,
          sized_some (b ∷ bytes) (record_size format (b ∷ bytes)) found refl
              (sym (first_record-headed (b ∷ bytes) more) ∙ h),
        )
      ]

-- ---- the packets of some bytes

pub packets_from-stops : (fuel : ℕ) (format : CaptureFormat) (interfaces : List Interface)
    (offset : ℕ) (bytes : List ℕ) (stop : PacketEnd)
    → first_record format interfaces offset bytes ≡ Err stop
    → packets_from (suc fuel) format interfaces offset bytes ≡ ([], stop)
unfolding packets_from
packets_from-stops fuel format interfaces offset bytes stop h = rw (h, packets_from) refl

-- the packets after a record at the front
abbrev pub packets_behind : ℕ → FoundRecord → ℕ → List ℕ → List CapturedPacket × PacketEnd
packets_behind fuel found offset bytes =
    packets_from fuel found.said.format found.said.interfaces (moved offset found.size)
    (drop found.size bytes)

-- the packets of a record, and then these
abbrev pub with_packets : FoundRecord → List CapturedPacket × PacketEnd
    → List CapturedPacket × PacketEnd
with_packets found more = (found.said.packets ++ more.0, more.1)

pub packets_from-goes_on : (fuel : ℕ) (format : CaptureFormat) (interfaces : List Interface)
    (offset : ℕ) (bytes : List ℕ) (found : FoundRecord)
    → first_record format interfaces offset bytes ≡ Ok found
    → packets_from (suc fuel) format interfaces offset bytes
    ≡ with_packets found (packets_behind fuel found offset bytes)
unfolding packets_from
packets_from-goes_on fuel format interfaces offset bytes found h = rw (h, packets_from) refl

-- fuel beyond the number of bytes changes nothing
pub packets_from-fuel : (fuel more : ℕ) (format : CaptureFormat) (interfaces : List Interface)
    (offset : ℕ) (bytes : List ℕ) → length bytes < fuel → length bytes < more
    → packets_from fuel format interfaces offset bytes
    ≡ packets_from more format interfaces offset bytes
packets_from-fuel zero more format interfaces offset bytes a b = absurd (omega arith)
packets_from-fuel (suc fuel) zero format interfaces offset bytes a b = absurd (omega arith)
packets_from-fuel (suc fuel) (suc more) format interfaces offset bytes a b =
    go (λ found some size. packets_from-fuel fuel more found.said.format found.said.interfaces
    (moved offset found.size) (drop found.size bytes)
    (omega (arith, length-drop found.size bytes)) (omega (arith, length-drop found.size bytes)))
    (first_record format interfaces offset bytes) refl
  where
    go : ((found : FoundRecord) → 0 < length bytes → 0 < found.size
        → packets_behind fuel found offset bytes ≡ packets_behind more found offset bytes)
        → (result : Result FoundRecord PacketEnd)
        → first_record format interfaces offset bytes ≡ result
        → packets_from (suc fuel) format interfaces offset bytes
        ≡ packets_from (suc more) format interfaces offset bytes
    go later (Err stop) is =
        packets_from-stops fuel format interfaces offset bytes stop is
        ∙ sym (packets_from-stops more format interfaces offset bytes stop is)
    go later (Ok found) is =
        let some = first_record-some format interfaces offset bytes found is in
        packets_from-goes_on fuel format interfaces offset bytes found is
        ∙ ap (with_packets found) (later found some.0 some.1)
        ∙ sym (packets_from-goes_on more format interfaces offset bytes found is)
