-- Laws of a packet whose Ethernet frame is made in a block.
use Rattle.captures.proofs.Common.{◌≡◌, ℕ, ◌+◌, ◌-◌, ◌*◌, ◌<◌, ◌≤◌, List, length, take, drop, slice_range, Some, Ok, Err, sym, ap, ◌∙◌, refl, arith, le-ltb, lt-ltb, drop-take, NumberOrder, LinkType, PcapForm, Interface, BadBlock, link_of, interface_of, ethernet_frame, field, nanoseconds, captured_length, packet_size, packet_bytes, packet_of, short_field, option_value, interface_options, interface_in, scale_by, offset_by, packet_by}
use Rattle.captures.specs.declared.interfaces.TimeScale.{TimeScale}
use Rattle.captures.specs.Packets.{packet_with}

-- ---- pcap

-- the bytes of the packet are those after the record's head
pub packet_bytes-whole : (form : PcapForm) (bytes : List ℕ)
    → length bytes ≡ packet_size form bytes
    → packet_bytes form bytes ≡ slice_range bytes 16 (length bytes)
packet_bytes-whole form bytes is =
    let less : captured_length form bytes ≡ length bytes - 16 = omega arith in
    ap (λ n. take n (drop 16 bytes)) less

-- a packet has its parts
pub packet_of-parts : (form : PcapForm) (bytes frame : List ℕ)
    (seconds fraction scale interface captured original : ℕ)
    → seconds ≡ field form.order 0 bytes → fraction ≡ field form.order 4 bytes
    → scale ≡ nanoseconds form.unit
    → interface ≡ interface_of form.link 0 (packet_bytes form bytes)
    → captured ≡ captured_length form bytes → original ≡ field form.order 12 bytes
    → frame ≡ ethernet_frame form.link (packet_bytes form bytes)
    → packet_with (record {
      head =
          record {
            time = seconds * 1000000000 + fraction * scale;
            interface = interface;
            queue = 0;
          };
      captured = captured;
      original = original;
      reason = 0;
    }) frame ≡ packet_of form bytes
packet_of-parts form bytes frame seconds fraction scale interface captured original a b c d e f g =
    rw (a, b, c, d, e, f, g) refl

-- ---- pcapng

-- what is between the head and the last length of a block
pub interface_options-is : (block : List ℕ) → 20 ≤ length block
    → slice_range block 16 (length block - 4) ≡ interface_options block
interface_options-is block h =
    let whole : length block - 4 ≡ 16 + (length block - 4 - 16) = omega arith in
    sym (ap (λ n. drop 16 (take n block)) whole ∙ drop-take 16 (length block - 4 - 16) block)

-- an interface has its parts
pub interface_in-parts : (order : NumberOrder) (block : List ℕ) (link : ℕ) (scale : TimeScale)
    (offset snap : ℕ) → link ≡ short_field order 8 block
    → scale ≡ scale_by (option_value order 9 (interface_options block))
    → offset ≡ offset_by order (option_value order 14 (interface_options block))
    → snap ≡ field order 12 block
    → ◌≡◌ {A = Interface} (record { link = link; scale = scale; offset = offset; snap = snap })
    (interface_in order block)
interface_in-parts order block link scale offset snap a b c d = rw (a, b, c, d) refl

module _ (interface : Interface) (number time start captured original reason : ℕ)
    (block : List ℕ) (link : LinkType) (is : link_of interface.link ≡ Some link) where
  pub packet_by-short : length block < start + captured + 4
      → packet_by interface number time start captured original reason block
      (link_of interface.link)
      ≡ Err BadBlock
  packet_by-short h = let short = lt-ltb _ _ h in rw (is, short) refl

  -- a packet has its parts
  pub packet_by-parts : (frame : List ℕ) (at : ℕ) → start + captured + 4 ≤ length block
      → at ≡ interface_of link number (take captured (drop start block))
      → frame ≡ ethernet_frame link (take captured (drop start block))
      → Ok (packet_with (record {
        head = record { time = time; interface = at; queue = 0 };
        captured = captured;
        original = original;
        reason = reason;
      }) frame)
      ≡ packet_by interface number time start captured original reason block
      (link_of interface.link)
  packet_by-parts frame at h b c =
      let whole = le-ltb _ _ h in rw (is, whole, b, c) refl
