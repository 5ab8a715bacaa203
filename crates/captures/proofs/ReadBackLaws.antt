-- A capture that was written is read as exactly the frames that were written, and then its end.
use Rattle.captures.proofs.Common.{◌≡◌, ◌∙◌, ℕ, suc, ◌+◌, ◌-◌, ◌≤◌, Bool, true, false, List, [], ◌∷◌, ◌++◌, Ok, length, map, sym, ap, subst, arith, append_assoc, append-nil, All, if◌then◌else◌, Two, IsPacketFrame, PacketFrame, Reasons, max_interfaces, captured, captured_by, Pcap, Pcapng, CaptureSoFar, capture_of, described_after, empty_capture, file_start, interface_block, interface_blocks, is_kept, packet_block, packet_spelled, pcap_head, section_block, with_frames, with_packet, kept_frames, read_back}
use Rattle.std.proofs.lemmas.List.Elements.{All-cons, All-head, All-tail}
use Rattle.captures.specs.declared.packets.PacketEnd.TheVariants as ending
use Rattle.captures.specs.declared.kinds.CaptureKind.{CaptureKind}
use Rattle.captures.specs.declared.kinds.CaptureForm.{CaptureForm}
use Rattle.captures.proofs.PieceLaws.{interface_blocks-one}
use Rattle.captures.proofs.Recorded.{Read, Reads, reads-end}
use Rattle.captures.proofs.PcapRecorded.{own_pcap, pcap-begun, pcap-packet}
use Rattle.captures.proofs.PcapngRecorded.{named-few, own_interfaces, own_pcapng, pcapng-begun, pcapng-block, pcapng-interfaces, pcapng-section}

-- ---- what is written

-- what these frames add, after some interfaces were described
abbrev spelled_from : CaptureKind → ℕ → List PacketFrame → List ℕ
spelled_from kind described [] = []
spelled_from kind described (f ∷ fs) =
    packet_spelled kind described f ++ spelled_from kind (described_after kind described f) fs

spelled : (form : CaptureForm) (c : CaptureSoFar) (frames : List PacketFrame)
    → (with_frames form c frames).bytes
    ≡ c.bytes ++ spelled_from form.kind c.described (kept_frames form frames)
unfolding with_frames
spelled form c [] = sym (append-nil c.bytes)
spelled form c (f ∷ fs) =
    go (spelled form (with_packet form.kind c f) fs) (spelled form c fs) (is_kept form f.reason)
  where
    go : (with_frames form (with_packet form.kind c f) fs).bytes
        ≡ (with_packet form.kind c f).bytes
        ++ spelled_from form.kind (with_packet form.kind c f).described (kept_frames form fs)
        → (with_frames form c fs).bytes
        ≡ c.bytes ++ spelled_from form.kind c.described (kept_frames form fs)
        → (b : Bool)
        → (with_frames form (if b then with_packet form.kind c f else c) fs).bytes
        ≡ c.bytes ++ spelled_from form.kind c.described
        (if b then f ∷ kept_frames form fs else kept_frames form fs)
    go kept passed true =
        kept ∙ append_assoc c.bytes (packet_spelled form.kind c.described f)
        (spelled_from form.kind (described_after form.kind c.described f) (kept_frames form fs))
    go kept passed false = passed

-- the frames that are written can be spelled, too
kept-fit : (form : CaptureForm) (frames : List PacketFrame) → All (IsPacketFrame Two) frames
    → All (IsPacketFrame Two) (kept_frames form frames)
kept-fit form [] fit = fit
kept-fit form (f ∷ fs) fit =
    go (kept-fit form fs (All-tail (IsPacketFrame Two) f fs fit)) (is_kept form f.reason)
  where
    go : All (IsPacketFrame Two) (kept_frames form fs) → (b : Bool)
        → All (IsPacketFrame Two) (if b then f ∷ kept_frames form fs else kept_frames form fs)
    go more true =
        All-cons (IsPacketFrame Two) f (kept_frames form fs)
        (All-head (IsPacketFrame Two) f fs fit) more
    go more false = more

-- ---- what is read

-- what is read where these frames were written
abbrev read_of : Reasons → CaptureKind → List PacketFrame → Read
read_of reasons kind frames = (map (read_back reasons kind) frames, ending.End)

pcap-reads : (reasons : Reasons) (described : ℕ) (frames : List PacketFrame)
    → All (IsPacketFrame Two) frames
    → Reads own_pcap [] (spelled_from Pcap described frames) (read_of reasons Pcap frames)
pcap-reads reasons described [] fit = reads-end own_pcap []
pcap-reads reasons described (f ∷ fs) fit =
    let own = All-head (IsPacketFrame Two) f fs fit in
    pcap-packet f own.short reasons (spelled_from Pcap described fs) (read_of reasons Pcap fs)
    (pcap-reads reasons described fs (All-tail (IsPacketFrame Two) f fs fit))

pcapng-reads : (reasons : Reasons) (described : ℕ) (frames : List PacketFrame)
    → All (IsPacketFrame Two) frames → described ≤ max_interfaces
    → Reads (own_pcapng reasons) (own_interfaces described) (spelled_from Pcapng described frames)
    (read_of reasons Pcapng frames)
pcapng-reads reasons described [] fit few =
    reads-end (own_pcapng reasons) (own_interfaces described)
pcapng-reads reasons described (f ∷ fs) fit few =
    let format = own_pcapng reasons in
    let all = read_of reasons Pcapng (f ∷ fs) in
    let own = All-head (IsPacketFrame Two) f fs fit in
    let named = named-few f.head.interface in
    let after = described_after Pcapng described f in
    let later = pcapng-reads reasons after fs (All-tail (IsPacketFrame Two) f fs fit)
    (omega (arith, few, named)) in
    let block = pcapng-block f own.short own.reason own.time reasons after
    (spelled_from Pcapng after fs) (read_of reasons Pcapng fs) (omega arith) later in
    let sum : described + (after - described) ≡ after = omega arith in
    subst (λ (l : List ℕ). Reads format (own_interfaces described) l all)
    (sym (append_assoc (interface_blocks (after - described)) (packet_block f)
    (spelled_from Pcapng after fs)))
    (pcapng-interfaces reasons (after - described) described
    (packet_block f ++ spelled_from Pcapng after fs) all (omega (arith, few, named))
    (subst (λ (k : ℕ). Reads format (own_interfaces k)
    (packet_block f ++ spelled_from Pcapng after fs) all) (sym sum) block))

-- ---- captures

-- the capture of these frames by its bytes
captured-by : (reasons : Reasons) (kind : CaptureKind) (frames : List PacketFrame)
    → All (IsPacketFrame Two) frames
    → captured reasons (file_start kind ++ spelled_from kind 1 frames)
    ≡ Ok (map (read_back reasons kind) frames, ending.End)
captured-by reasons Pcap frames fit =
    let rest = spelled_from Pcap 1 frames in
    ap (captured_by (pcap_head ++ rest)) (pcap-begun reasons rest)
    ∙ ap (λ (r : Read). Ok r)
    (pcap-reads reasons 1 frames fit (suc (length (pcap_head ++ rest))) 24 (omega arith))
captured-by reasons Pcapng frames fit =
    let rest = spelled_from Pcapng 1 frames in
    let all : section_block ++ interface_block ++ rest
    ≡ section_block ++ (interface_block ++ rest) =
    append_assoc section_block interface_block rest in
    let read = read_of reasons Pcapng frames in
    let one : Reads (own_pcapng reasons) [] (interface_block ++ rest) read =
    subst (λ (l : List ℕ). Reads (own_pcapng reasons) [] (l ++ rest) read) interface_blocks-one
    (pcapng-interfaces reasons 1 0 rest read (omega arith)
    (pcapng-reads reasons 1 frames fit (omega arith))) in
    ap (captured reasons) all
    ∙ ap (captured_by (section_block ++ (interface_block ++ rest)))
    (pcapng-begun reasons (interface_block ++ rest))
    ∙ ap (λ (r : Read). Ok r)
    (pcapng-section reasons (interface_block ++ rest) read one
    (suc (length (section_block ++ (interface_block ++ rest)))) 0 (omega arith))

-- A capture of frames that a stream may have is read as exactly those that are written, each with
-- what its format keeps (`read_back`), and then its end; of a pcapng each with its reason, if
-- reasons are read.
pub captured-capture_of : (reasons : Reasons) (form : CaptureForm) (frames : List PacketFrame)
    → All (IsPacketFrame Two) frames
    → captured reasons (capture_of form frames).bytes
    ≡ Ok (map (read_back reasons form.kind) (kept_frames form frames), ending.End)
captured-capture_of reasons form frames fit =
    ap (captured reasons) (spelled form (empty_capture form) frames)
    ∙ captured-by reasons form.kind (kept_frames form frames) (kept-fit form frames fit)
