-- What a step finds, by the bytes that were taken to the front of the block.
use Rattle.captures.proofs.Common.{◌≡◌, ℕ, suc, List, [], ◌++◌, length, Option, Some, None, Ok, Err, IfSome, sym, ap, ◌∙◌, subst, arith, length-append, drop_at, take_at, Keeps, prepend_known, CaptureFormat, Interface, PacketFault, PacketEnd, Collects, CapturedPacket, record_size, SaidRecord, record_said, found_said, first_record, moved, packets_from, Before, Past, CaptureFinding, FoundEnd, Unread, FindsPacket, then_packets, IsRecordPart}
use Rattle.captures.specs.declared.packets.PacketEnd.TheVariants as ending
use Rattle.captures.specs.declared.gathering.Gathered.{Gathered}
use Rattle.captures.specs.declared.gathering.Gathered.TheVariants as gathered
use Rattle.captures.specs.Steps.{IsGathered}
use Rattle.captures.proofs.CapturedLaws.{head_size-some, record_size-append, record_size-least, first_record-whole, packets_from-stops, packets_from-goes_on, packets_behind, with_packets, packets_from-fuel}

module _ (format : CaptureFormat) (interfaces : List Interface) (offset : ℕ)
    (old new : Option (List ℕ)) (held front : List ℕ) (moves : Collects old new held front) where
  -- nothing is found yet
  pub finds_none :
      FindsPacket (Before format interfaces offset) (prepend_known held old)
      (Before format interfaces offset) (prepend_known front new) Unread
  finds_none = go old new moves.kept
    where
      go : (old new : Option (List ℕ))
          → Keeps (prepend_known held old) (prepend_known front new)
          → FindsPacket (Before format interfaces offset) (prepend_known held old)
          (Before format interfaces offset) (prepend_known front new) Unread
      go None new h = tt
      go (Some bytes) None h = absurd h
      go (Some bytes) (Some rest) h =
          ap (λ l. packets_from (suc (length l)) format interfaces offset l) (sym h)

  -- the packets end there
  pub finds_end : (later : List ℕ) (stop : PacketEnd)
      → IfSome new (λ bytes. first_record format interfaces offset (front ++ bytes) ≡ Err stop)
      → FindsPacket (Before format interfaces offset) (prepend_known held old) (Past stop)
      (prepend_known later new) (FoundEnd stop)
  finds_end later stop ends = go old new moves.kept ends
    where
      go : (old new : Option (List ℕ))
          → Keeps (prepend_known held old) (prepend_known front new)
          → IfSome new
          (λ bytes. first_record format interfaces offset (front ++ bytes) ≡ Err stop)
          → FindsPacket (Before format interfaces offset) (prepend_known held old) (Past stop)
          (prepend_known later new) (FoundEnd stop)
      go None new h ends = tt
      go (Some bytes) None h ends = absurd h
      go (Some bytes) (Some rest) h ends =
          ap (λ l. packets_from (suc (length l)) format interfaces offset l) (sym h)
          ∙ packets_from-stops (length (front ++ rest)) format interfaces offset (front ++ rest)
          stop ends

  -- a whole record is at the front, whatever the rest of the source's bytes is
  record_there : (size : ℕ) (bytes : List ℕ) → record_size format front ≡ Ok size
      → length front ≡ size
      → first_record format interfaces offset (front ++ bytes)
      ≡ found_said offset size (record_said format interfaces front)
  record_there size bytes is long =
      let least = record_size-least format front size is in
      first_record-whole format interfaces offset (front ++ bytes) size
      (record_size-append format front bytes (omega arith) ∙ is)
      (omega (arith, length-append front bytes))
      ∙ ap (λ l. found_said offset size (record_said format interfaces l))
      (take_at front bytes size long)

  -- a record that is none
  pub finds_fault : (later : List ℕ) (size : ℕ) (fault : PacketFault)
      → record_size format front ≡ Ok size → length front ≡ size
      → record_said format interfaces front ≡ Err fault
      → FindsPacket (Before format interfaces offset) (prepend_known held old)
      (Past (ending.Fault fault offset)) (prepend_known later new)
      (FoundEnd (ending.Fault fault offset))
  finds_fault later size fault is long says =
      finds_end later (ending.Fault fault offset) (always new)
    where
      always : (rest : Option (List ℕ)) → IfSome rest (λ bytes.
          first_record format interfaces offset (front ++ bytes)
          ≡ Err (ending.Fault fault offset))
      always None = tt
      always (Some bytes) =
          record_there size bytes is long ∙ ap (found_said offset size) says

  -- the record at the front of the block is the next one
  pub finds_said : (size : ℕ) (said : SaidRecord) (finding : CaptureFinding)
      → record_size format front ≡ Ok size → length front ≡ size
      → record_said format interfaces front ≡ Ok said
      → ((later : List CapturedPacket × PacketEnd)
      → (said.packets ++ later.0, later.1) ≡ then_packets finding later)
      → FindsPacket (Before format interfaces offset) (prepend_known held old)
      (Before said.format said.interfaces (moved offset size)) (prepend_known [] new) finding
  finds_said size said finding is long says agree = go old new moves.kept
    where
      behind : (rest : List ℕ)
          → packets_behind (length (front ++ rest)) (record { size = size; said = said }) offset
          (front ++ rest)
          ≡ packets_from (suc (length rest)) said.format said.interfaces (moved offset size) rest
      behind rest =
          let all = front ++ rest in
          let least = record_size-least format front size is in
          ap (packets_from (length all) said.format said.interfaces (moved offset size))
          (drop_at front rest size long)
          ∙ packets_from-fuel (length all) (suc (length rest)) said.format said.interfaces
          (moved offset size) rest
          (omega (arith, length-append front rest, head_size-some format)) (omega arith)

      go : (old new : Option (List ℕ))
          → Keeps (prepend_known held old) (prepend_known front new)
          → FindsPacket (Before format interfaces offset) (prepend_known held old)
          (Before said.format said.interfaces (moved offset size)) (prepend_known [] new)
          finding
      go None new h = tt
      go (Some bytes) None h = absurd h
      go (Some bytes) (Some rest) h =
          let all = front ++ rest in
          ap (λ l. packets_from (suc (length l)) format interfaces offset l) (sym h)
          ∙ packets_from-goes_on (length all) format interfaces offset all
          (record { size = size; said = said })
          (record_there size rest is long ∙ ap (found_said offset size) says)
          ∙ ap (with_packets (record { size = size; said = said })) (behind rest)
          ∙ agree (packets_from (suc (length rest)) said.format said.interfaces
          (moved offset size) rest)

-- ---- what was gathered

module _ (format : CaptureFormat) (interfaces : List Interface) (offset : ℕ)
    (rest : Option (List ℕ)) (front : List ℕ) (how : Gathered)
    (h : IsGathered format interfaces offset rest front how) where
  pub was_record : (size : ℕ) → how ≡ gathered.Record size
      → (record_size format front ≡ Ok size) × (length front ≡ size)
  was_record size is = subst (IsGathered format interfaces offset rest front) is h

  pub was_stopped : (stop : PacketEnd) → how ≡ gathered.Stopped stop
      → IfSome rest (λ bytes. first_record format interfaces offset (front ++ bytes) ≡ Err stop)
  was_stopped stop is = subst (IsGathered format interfaces offset rest front) is h

  pub was_unread : how ≡ gathered.Failed → IsRecordPart format front
  was_unread is = subst (IsGathered format interfaces offset rest front) is h
