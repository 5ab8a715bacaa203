-- Laws of a record that is taken to the front of a block.
use Rattle.captures.proofs.Common.{◌≡◌, ℕ, ◌≤◌, ◌<◌, List, ◌++◌, length, take, drop, max, Option, Some, None, Result, Ok, Err, IfSome, IfOk, sym, ap, ◌∙◌, subst, arith, length-append, append-nil, inl, inr, cases_lt, IsAtEnd, CaptureFormat, Interface, PacketEnd, PacketFault, TruncatedRecord, TruncatedPacket, Collects, IsCollected, head_size, record_size, first_record, IsRecordPart}
use Rattle.std.proofs.lemmas.List.{length-take-le, take-append-drop}
use Rattle.captures.specs.declared.collecting.Collected.{Collected}
use Rattle.captures.specs.declared.collecting.Collected.TheVariants.{Whole, Ended, Failed}
use Rattle.captures.specs.declared.packets.PacketEnd.TheVariants as ending
use Rattle.captures.proofs.CapturedLaws.{record_size-append, record_size-least, first_record-end, first_record-part, first_record-none, first_record-short}

-- how collecting ended
pub was_whole : (rest : Option (List ℕ)) (count wanted after : ℕ) (how : Collected)
    → IsCollected rest count wanted how after → how ≡ Whole → after ≡ max count wanted
was_whole rest count wanted after how h is =
    subst (λ (x : Collected). IsCollected rest count wanted x after) is h

pub was_ended : (rest : Option (List ℕ)) (count wanted after : ℕ) (how : Collected)
    → IsCollected rest count wanted how after → how ≡ Ended
    → (count ≤ after) × (after < wanted) × IsAtEnd rest
was_ended rest count wanted after how h is =
    subst (λ (x : Collected). IsCollected rest count wanted x after) is h

pub was_failed : (rest : Option (List ℕ)) (count wanted after : ℕ) (how : Collected)
    → IsCollected rest count wanted how after → how ≡ Failed → (count ≤ after) × (after < wanted)
was_failed rest count wanted after how h is =
    subst (λ (x : Collected). IsCollected rest count wanted x after) is h

-- what a head says, it says of all that it is the front of
pub sized-front : (format : CaptureFormat) (n : ℕ) (block : List ℕ) → head_size format ≤ n
    → n ≤ length block → record_size format (take n block) ≡ record_size format block
sized-front format n block head room =
    let long = length-take-le n block room in
    sym (record_size-append format (take n block) (drop n block) (omega arith))
    ∙ ap (record_size format) (take-append-drop n block)

module _ (format : CaptureFormat) (interfaces : List Interface) (offset : ℕ) where
  -- the packets end there, whatever the rest of the source's bytes is
  abbrev EndsThere : Option (List ℕ) → List ℕ → PacketEnd → Type 0
  EndsThere rest front stop =
      IfSome rest (λ bytes. first_record format interfaces offset (front ++ bytes) ≡ Err stop)

  ends_at_end : (rest : Option (List ℕ)) (front : List ℕ) (stop : PacketEnd) → IsAtEnd rest
      → first_record format interfaces offset front ≡ Err stop → EndsThere rest front stop
  ends_at_end None front stop end h = tt
  ends_at_end (Some bytes) front stop end h =
      ap (λ l. first_record format interfaces offset (front ++ l)) end
      ∙ ap (first_record format interfaces offset) (append-nil front) ∙ h

  ends_always : (rest : Option (List ℕ)) (front : List ℕ) (stop : PacketEnd)
      → ((bytes : List ℕ) → first_record format interfaces offset (front ++ bytes) ≡ Err stop)
      → EndsThere rest front stop
  ends_always None front stop h = tt
  ends_always (Some bytes) front stop h = h bytes

  -- ---- the head

  pub gathered_none : (rest : Option (List ℕ)) (after : ℕ) (block : List ℕ) → after ≡ 0
      → IsAtEnd rest → EndsThere rest (take after block) ending.End
  gathered_none rest after block none end =
      ends_at_end rest (take after block) ending.End end
      (ap (λ n. first_record format interfaces offset (take n block)) none
      ∙ first_record-end format interfaces offset)

  pub gathered_some : (rest : Option (List ℕ)) (after : ℕ) (block : List ℕ) → 0 < after
      → after < head_size format → after ≤ length block → IsAtEnd rest
      → EndsThere rest (take after block) (ending.Fault TruncatedRecord offset)
  gathered_some rest after block some short room end =
      let long = length-take-le after block room in
      ends_at_end rest (take after block) (ending.Fault TruncatedRecord offset) end
      (first_record-part format interfaces offset (take after block) (omega arith) (omega arith))

  pub gathered_bad : (rest : Option (List ℕ)) (after : ℕ) (block : List ℕ) (fault : PacketFault)
      → head_size format ≤ after → after ≤ length block
      → record_size format block ≡ Err fault
      → EndsThere rest (take after block) (ending.Fault fault offset)
  gathered_bad rest after block fault head room is =
      let front = take after block in
      let long = length-take-le after block room in
      let held : head_size format ≤ length front = omega arith in
      ends_always rest front (ending.Fault fault offset)
      (λ bytes. first_record-none format interfaces offset (front ++ bytes) fault
      (omega (arith, held, length-append front bytes))
      (record_size-append format front bytes held ∙ sized-front format after block head room
      ∙ is))

  -- ---- the record

  pub gathered_part : (rest : Option (List ℕ)) (after size : ℕ) (block : List ℕ)
      → head_size format ≤ after → after ≤ length block
      → record_size format (take after block) ≡ Ok size → after < size → IsAtEnd rest
      → EndsThere rest (take after block) (ending.Fault TruncatedPacket offset)
  gathered_part rest after size block head room is less end =
      let long = length-take-le after block room in
      ends_at_end rest (take after block) (ending.Fault TruncatedPacket offset) end
      (first_record-short format interfaces offset (take after block) size (omega arith) is
      (omega arith))

-- a record's head is at the front, and it says this size, of which the front is a part
pub record HasHead (format : CaptureFormat) (front : List ℕ) (size : ℕ) : Type 0 where
  pub whole : head_size format ≤ length front
  pub says : record_size format front ≡ Ok size
  pub part : length front ≤ size

part_is : (format : CaptureFormat) (front : List ℕ) (size : ℕ) → IsRecordPart format front
    → record_size format front ≡ Ok size → length front ≤ max (head_size format) size
part_is format front size h is =
    subst (λ (r : Result ℕ PacketFault).
    IfOk r (λ n. length front ≤ max (head_size format) n)) is h

pub head_read : (format : CaptureFormat) (old new : Option (List ℕ)) (count after size : ℕ)
    (before block : List ℕ) → Collects old new (take count before) (take after block)
    → count ≤ length before → after ≤ length block → after ≡ max count (head_size format)
    → IsRecordPart format (take count before) → record_size format block ≡ Ok size
    → HasHead format (take after block) size
head_read format old new count after size before block moved inside room is part says =
    let held = take count before in
    let front = take after block in
    let was : length held ≡ count = length-take-le count before inside in
    let long : length front ≡ after = length-take-le after block room in
    let told : record_size format front ≡ Ok size =
    sized-front format after block (omega arith) room ∙ says in
    let least = record_size-least format front size told in
    record {
      whole = omega arith;
      says = told;
      part =
          elim (cases_lt count (head_size format)) [
            | inl less ↦ omega arith
            | inr more ↦
                let same : record_size format held ≡ Ok size =
                sym (record_size-append format held moved.more (omega arith))
                ∙ ap (record_size format) (sym moved.grows) ∙ told in
                let few = part_is format held size part same in
                omega arith
          ];
    }

-- the head still says the size when more is at the front
pub still_says : (format : CaptureFormat) (old new : Option (List ℕ)) (front later : List ℕ)
    (size : ℕ) → HasHead format front size → Collects old new front later
    → record_size format later ≡ Ok size
still_says format old new front later size head moved =
    ap (record_size format) moved.grows
    ∙ record_size-append format front moved.more head.whole ∙ head.says

pub gathered_whole : (format : CaptureFormat) (old new : Option (List ℕ)) (front : List ℕ)
    (count after size : ℕ) (block : List ℕ) → HasHead format front size
    → Collects old new front (take after block) → length front ≡ count → after ≤ length block
    → after ≡ max count size
    → (record_size format (take after block) ≡ Ok size) × (length (take after block) ≡ size)
gathered_whole format old new front count after size block head moved counted room is =
    let long = length-take-le after block room in
    let part = head.part in
    (still_says format old new front (take after block) size head moved, omega arith)

pub gathered_unread : (format : CaptureFormat) (old new : Option (List ℕ)) (front : List ℕ)
    (after size : ℕ) (block : List ℕ) → HasHead format front size
    → Collects old new front (take after block) → after ≤ length block → after < size
    → IsRecordPart format (take after block)
gathered_unread format old new front after size block head moved room less =
    let says = still_says format old new front (take after block) size head moved in
    let long = length-take-le after block room in
    let few : length (take after block) ≤ max (head_size format) size = omega arith in
    subst (λ (r : Result ℕ PacketFault).
    IfOk r (λ n. length (take after block) ≤ max (head_size format) n)) (sym says) few

-- a part of a head is a part of its record
pub headless_part : (format : CaptureFormat) (after : ℕ) (block : List ℕ) → after ≤ length block
    → after < head_size format → IsRecordPart format (take after block)
headless_part format after block room less =
    let long = length-take-le after block room in
    go (record_size format (take after block)) (omega arith)
  where
    go : (r : Result ℕ PacketFault) → length (take after block) ≤ head_size format
        → IfOk r (λ n. length (take after block) ≤ max (head_size format) n)
    go (Err fault) few = tt
    go (Ok n) few = omega arith
