-- How the records of a pcap that was written are read.
use Rattle.captures.proofs.Common.{◌≡◌, ◌∙◌, ℕ, ◌+◌, ◌*◌, ◌%◌, ◌^◌, ◌≤◌, List, [], ◌∷◌, ◌++◌, Ok, length, refl, sym, ap, arith, length-append, le-ltb, nat_lt, false, take-length, little_number-reads_back, max_packet, PacketFrame, CaptureFormat, LowFirst, PcapForm, Reasons, CapturedPacket, captured_length, max_captured, opened, packet_of, pcap_start, SaidRecord, begun, record_said, record_size, Pcap, packet_head, pcap_head, pcap_packet, pcap_second, read_back}
use Rattle.captures.specs.declared.forms.CaptureFormat.TheVariants as formats
use Rattle.captures.specs.declared.forms.TimeUnit.TheVariants.{Nanoseconds}
use Rattle.captures.specs.declared.forms.LinkType.TheVariants.{Ethernet}
use Rattle.captures.proofs.OpeningLaws.{begun-append}
use Rattle.captures.proofs.Recorded.{Read, Reads, reads-record}

-- the form of each pcap that is written
abbrev pub own_form : PcapForm
own_form = record { order = LowFirst; unit = Nanoseconds; link = Ethernet }

abbrev pub own_pcap : CaptureFormat
own_pcap = formats.Pcap own_form

length-packet_head : (time size : ℕ) → length (packet_head time size) ≡ 16
unfolding packet_head
length-packet_head time size = refl

module _ (f : PacketFrame) (short : length f.body ≤ max_packet) where
  said_length : (rest : List ℕ) → captured_length own_form (pcap_packet f ++ rest) ≡ length f.body
  unfolding packet_head
  said_length rest = little_number-reads_back 4 (length f.body) [] (omega (arith, short))

  length-packet : length (pcap_packet f) ≡ 16 + length f.body
  length-packet =
      length-append (packet_head f.head.time (length f.body)) f.body
      ∙ ap (λ (n : ℕ). n + length f.body) (length-packet_head f.head.time (length f.body))

  packet-sized : (rest : List ℕ)
      → record_size own_pcap (pcap_packet f ++ rest) ≡ Ok (length (pcap_packet f))
  packet-sized rest =
      let most : length f.body ≤ max_captured = omega (arith, short) in
      let fits : nat_lt max_captured (length f.body) ≡ false = le-ltb _ _ most in
      rw (said_length rest, fits) (ap Ok (sym length-packet))

  packet-read : (reasons : Reasons)
      → packet_of own_form (pcap_packet f) ≡ read_back reasons Pcap f
  unfolding packet_head
  packet-read reasons =
      let second = little_number-reads_back 4 (pcap_second f.head.time) [] (omega arith) in
      let nano = little_number-reads_back 4 (f.head.time % 10 ^ 9) [] (omega arith) in
      let size = little_number-reads_back 4 (length f.body) [] (omega (arith, short)) in
      let whole = take-length f.body in
      let one : f.head.time % 10 ^ 9 * 1 ≡ f.head.time % 10 ^ 9 = omega arith in
      rw (second, nano, size, whole, one) refl

  pub pcap-packet : (reasons : Reasons) (rest : List ℕ) (read : Read)
      → Reads own_pcap [] rest read
      → Reads own_pcap [] (pcap_packet f ++ rest) (read_back reasons Pcap f ∷ read.0, read.1)
  pcap-packet reasons rest read later =
      let said : SaidRecord =
      record { format = own_pcap; interfaces = []; packets = read_back reasons Pcap f ∷ [] } in
      let says : record_said own_pcap [] (pcap_packet f) ≡ Ok said =
      ap (λ (p : CapturedPacket). Ok (record {
        format = own_pcap;
        interfaces = [];
        packets = p ∷ [];
      })) (packet-read reasons) in
      reads-record own_pcap [] (pcap_packet f) rest said read (omega (arith, length-packet))
      (packet-sized rest) says later

-- ---- the file head

head-begun : (reasons : Reasons) → begun reasons pcap_head ≡ Ok own_pcap
unfolding begun opened pcap_start
head-begun reasons = refl

-- it says the form
pub pcap-begun : (reasons : Reasons) (rest : List ℕ)
    → begun reasons (pcap_head ++ rest) ≡ Ok own_pcap
pcap-begun reasons rest =
    begun-append reasons pcap_head rest (omega arith) ∙ head-begun reasons
