-- Laws of the head of a capture that was read.
use Rattle.captures.proofs.Common.{◌≡◌, ℕ, suc, ◌+◌, ◌*◌, ◌<◌, ◌≤◌, List, [], ◌++◌, length, take, drop, max, get_or, Bool, true, false, Option, Some, None, Result, Ok, Err, IfOk, refl, sym, ap, subst, ◌∙◌, arith, le-ltb, length-append, append-nil, length-drop, nat_lt, nat_tests, drop-append-le, length-take-le, Consumes, IsAtEnd, prepend_known, NumberOrder, HighFirst, LowFirst, PcapForm, PcapngForm, Reasons, CaptureFormat, TruncatedFileHead, PacketEnd, PacketFault, CapturedPacket, field, opened, is_section, block_size, least_size, begun, begun_by, first_offset, captured, captured_by, packets_from, Before, CaptureState, IsOpened, OpensCapture, IsRecordPart, packets_left}
use Rattle.captures.specs.declared.forms.CaptureFormat.TheVariants as formats
use Rattle.captures.specs.declared.forms.CaptureRefusal.{CaptureRefusal}
use Rattle.captures.specs.declared.reader.OpenFailure.TheVariants as failure
use Rattle.captures.specs.Steps.{BeginsAfter}
use Rattle.captures.proofs.PcapLaws.{opened-append}
use Rattle.captures.proofs.PcapngLaws.{is_section-append, block_size-is}
use Rattle.captures.proofs.CapturedLaws.{begun-short, packets_from-fuel}

-- the format of a capture depends on no byte after its head
pub begun-append : (reasons : Reasons) (xs ys : List ℕ) → 24 ≤ length xs
    → begun reasons (xs ++ ys) ≡ begun reasons xs
unfolding begun
begun-append reasons xs ys h =
    let long : nat_lt (length xs) 24 ≡ false = le-ltb _ _ h in
    let longer : nat_lt (length (xs ++ ys)) 24 ≡ false =
    le-ltb _ _ (omega (arith, length-append xs ys)) in
    let section = is_section-append xs ys (omega arith) in
    let form = opened-append xs ys h in
    rw (long, longer, section, form) refl

-- a head that says why the capture is not read
pub opens_refused : {R : Type 0} (reasons : Reasons) (remaining : R → Option (List ℕ))
    (old new : Option (List ℕ)) (head : List ℕ) (refusal : CaptureRefusal) → length head ≡ 24
    → Consumes old new head → begun reasons head ≡ Err refusal
    → OpensCapture reasons remaining old (Err (failure.Refused refusal))
opens_refused reasons remaining None new head refusal size h is = tt
opens_refused reasons remaining (Some bytes) None head refusal size h is = absurd h
opens_refused reasons remaining (Some bytes) (Some rest) head refusal size h is =
    ap (captured reasons) h
    ∙ ap (captured_by (head ++ rest)) (begun-append reasons head rest (omega arith) ∙ is)

-- fewer bytes than a head has
pub opens_short : {R : Type 0} (reasons : Reasons) (remaining : R → Option (List ℕ))
    (old new : Option (List ℕ)) (n : ℕ) (head : List ℕ) → length head ≡ 24 → n < length head
    → Consumes old new (take n head) → IsAtEnd new
    → OpensCapture reasons remaining old (Err (failure.Refused TruncatedFileHead))
opens_short reasons remaining None new n head size less h end = tt
opens_short reasons remaining (Some bytes) None n head size less h end = absurd h
opens_short reasons remaining (Some bytes) (Some rest) n head size less h end =
    let all : bytes ≡ take n head =
    h ∙ ap (λ l. take n head ++ l) end ∙ append-nil (take n head) in
    let long = length-take-le n head (omega arith) in
    ap (captured reasons) all
    ∙ ap (captured_by (take n head)) (begun-short reasons (take n head) (omega arith))

first_offset-few : (format : CaptureFormat) → first_offset format ≤ 24
first_offset-few (formats.Pcap form) = omega arith
first_offset-few (formats.Pcapng form) = omega arith

-- a head that says the format
opened_at : (reasons : Reasons) (bytes head rest : List ℕ) (format : CaptureFormat)
    → length head ≡ 24 → bytes ≡ head ++ rest → begun reasons head ≡ Ok format
    → captured reasons bytes ≡ Ok (packets_left (Before format [] (first_offset format))
    (drop (first_offset format) head ++ rest))
opened_at reasons bytes head rest format size h is =
    let all = head ++ rest in
    let at = first_offset format in
    let few = first_offset-few format in
    let left : drop at all ≡ drop at head ++ rest = drop-append-le at head rest (omega arith) in
    let less = length-drop at all in
    ap (captured reasons) h
    ∙ ap (captured_by all) (begun-append reasons head rest (omega arith) ∙ is)
    ∙ ap (λ (t : List CapturedPacket × PacketEnd). Ok t)
    (packets_from-fuel (suc (length all)) (suc (length (drop at all))) format [] at (drop at all)
    (omega arith) (omega arith)
    ∙ ap (λ l. packets_from (suc (length l)) format [] at l) left)

pub opens_read : {R : Type 0} (reasons : Reasons) (remaining : R → Option (List ℕ))
    (old : Option (List ℕ)) (head : List ℕ) (source : R) (format : CaptureFormat)
    (reader : CaptureState R) → length head ≡ 24 → Consumes old (remaining source) head
    → begun reasons head ≡ Ok format → BeginsAfter head format source reader
    → OpensCapture reasons remaining old (Ok reader)
opens_read reasons remaining None head source format reader size h is begins = tt
opens_read reasons remaining (Some bytes) head source format reader size h is begins =
    rw (begins.is_before, begins.is_front, begins.is_source) (go (remaining source) h)
  where
    go : (new : Option (List ℕ)) → Consumes (Some bytes) new head
        → IsOpened reasons bytes (Before format [] (first_offset format))
        (prepend_known (drop (first_offset format) head) new)
    go None h = absurd h
    go (Some rest) h = opened_at reasons bytes head rest format size h is

-- ---- the head of a section

section_kind : (own : NumberOrder) (head : List ℕ) → ((i : ℕ) → get_or head i 0 < 256)
    → is_section head ≡ true → field own 0 head ≡ 0x0a0d0d0a
section_kind HighFirst head fits h = grind (arith, nat_tests)
section_kind LowFirst head fits h =
    let a = fits 0 in
    let b = fits 1 in
    let c = fits 2 in
    let d = fits 3 in
    let says : get_or head 0 0 * 16777216 + (get_or head 1 0 * 65536 + (get_or head 2 0 * 256
    + get_or head 3 0)) ≡ 0x0a0d0d0a = grind (arith, nat_tests) in
    omega arith

begun_section : (reasons : Reasons) (head : List ℕ) (form : PcapngForm) → 24 ≤ length head
    → begun reasons head ≡ Ok (formats.Pcapng form) → is_section head ≡ true
unfolding begun
begun_section reasons head form long h = go (is_section head) refl
  where
    not_pcapng : (r : Result PcapForm CaptureRefusal)
        → begun_by r ≡ Ok (formats.Pcapng form) → ⊥
    not_pcapng (Ok other) h = absurd cc
    not_pcapng (Err refusal) h = absurd cc

    go : (b : Bool) → is_section head ≡ b → is_section head ≡ true
    go true is = is
    go false is =
        let whole : nat_lt (length head) 24 ≡ false = le-ltb _ _ long in
        absurd (not_pcapng (opened head)
        (sym (rw (whole, is) refl) ∙ h))

-- the 24 bytes that were read are a part of the first block
pub begun_part : (reasons : Reasons) (head : List ℕ) (form : PcapngForm) → length head ≡ 24
    → ((i : ℕ) → get_or head i 0 < 256) → begun reasons head ≡ Ok (formats.Pcapng form)
    → IsRecordPart (formats.Pcapng form) head
begun_part reasons head form size fits h = go (block_size form.order head) refl
  where
    go : (r : Result ℕ PacketFault) → block_size form.order head ≡ r
        → IfOk r (λ n. length head ≤ max 12 n)
    go (Err fault) is = tt
    go (Ok n) is =
        let sized = block_size-is form.order head n is in
        let least = sized.2.least in
        let kind =
        section_kind sized.0 head fits (begun_section reasons head form (omega arith) h) in
        let many : 28 ≤ n =
        subst (λ k. least_size k ≤ n) kind least in
        omega arith
