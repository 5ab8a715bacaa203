-- How the blocks of a pcapng that was written are read.
use Rattle.captures.proofs.Common.{◌≡◌, ◌∙◌, ℕ, zero, suc, ◌+◌, ◌*◌, ◌-◌, ◌/◌, ◌%◌, ◌^◌, ◌<◌, ◌≤◌, Bool, true, false, List, [], ◌∷◌, ◌++◌, Some, Ok, length, take, drop, refl, sym, ap, subst, arith, append_assoc, length-append, lt-ltb, le-ltb, ltb-true, eq-eqb, ◌==◌, codes, decimal, if◌then◌else◌, nat_lt, replicate, slice_get, length-replicate, take_at, drop_at, little_bytes, little_number, little_number-reads_back, max_packet, PacketFrame, CaptureFormat, HighFirst, LowFirst, PcapngForm, Reasons, Interface, CapturedPacket, field, begun, said_of_block, nat_tests, Pcapng, block_head, block_length, interface_block, interface_blocks, named_interface, packet_block, packet_options, padding, reason_comment, reason_options, section_block, read_back, reason_back}
use Rattle.std.proofs.lemmas.Fmt.{length-decimal-le}
use Rattle.captures.specs.declared.forms.CaptureFormat.TheVariants as formats
use Rattle.captures.specs.declared.forms.Reasons.TheVariants.{Ignored, Read as Taken}
use Rattle.captures.specs.declared.interfaces.TimeScale.TheVariants.{PowerOf10}
use Rattle.captures.specs.Pcapng.{block_order, block_said, block_size, interface_in, is_section, max_block, max_interfaces, option_in, option_reason, packet_options as packet_options_of, padded, reason_by, reason_in, short_field, time_at, timed_packet}
use Rattle.captures.proofs.OpeningLaws.{begun-append}
use Rattle.captures.proofs.PcapngLaws.{block_size-append}
use Rattle.captures.proofs.ReasonLaws.{reason_in-found, reason_in-none, reason_number-decimal}
use Rattle.captures.proofs.Recorded.{Read, Reads, reads-record}

-- the format of each pcapng that is written, and the interface that its blocks describe
abbrev pub own_form : Reasons → PcapngForm
own_form reasons = record { order = LowFirst; reasons = reasons }

abbrev pub own_pcapng : Reasons → CaptureFormat
own_pcapng reasons = formats.Pcapng (own_form reasons)

-- that of a capture before its section was read
abbrev pub first_form : Reasons → PcapngForm
first_form reasons = record { order = HighFirst; reasons = reasons }

abbrev pub own_interface : Interface
own_interface = record { link = 1; scale = PowerOf10 9; offset = 0; snap = 0 }

-- n of them
abbrev pub own_interfaces : ℕ → List Interface
own_interfaces n = replicate n own_interface

-- ---- the section

section-sized : block_size HighFirst section_block ≡ Ok 28
unfolding block_size
section-sized = refl

section-says : (reasons : Reasons)
    → block_said (record { form = first_form reasons; interfaces = [] }) section_block
    ≡ Ok (record {
      section = record { form = own_form reasons; interfaces = [] };
      packets = [];
    })
unfolding block_said
section-says reasons = refl

section-begun : (reasons : Reasons)
    → begun reasons section_block ≡ Ok (formats.Pcapng (first_form reasons))
unfolding begun
section-begun reasons = refl

-- a capture begins with its section
pub pcapng-begun : (reasons : Reasons) (rest : List ℕ)
    → begun reasons (section_block ++ rest) ≡ Ok (formats.Pcapng (first_form reasons))
pcapng-begun reasons rest =
    begun-append reasons section_block rest (omega arith) ∙ section-begun reasons

pub pcapng-section : (reasons : Reasons) (rest : List ℕ) (read : Read)
    → Reads (own_pcapng reasons) [] rest read
    → Reads (formats.Pcapng (first_form reasons)) [] (section_block ++ rest) read
pcapng-section reasons rest read later =
    reads-record (formats.Pcapng (first_form reasons)) [] section_block rest
    (record { format = own_pcapng reasons; interfaces = []; packets = [] }) read (omega arith)
    (block_size-append HighFirst section_block rest (omega arith) ∙ section-sized)
    (ap said_of_block (section-says reasons)) later

-- ---- interfaces

interface-sized : block_size LowFirst interface_block ≡ Ok 32
unfolding block_size
interface-sized = refl

interface-is : interface_in LowFirst interface_block ≡ own_interface
unfolding option_in
interface-is = refl

interface-says : (reasons : Reasons) (interfaces : List Interface)
    → length interfaces < max_interfaces
    → block_said (record { form = own_form reasons; interfaces = interfaces }) interface_block
    ≡ Ok (record {
      section = record {
        form = own_form reasons;
        interfaces = interfaces ++ (own_interface ∷ []);
      };
      packets = [];
    })
unfolding block_said
interface-says reasons interfaces few =
    let less : nat_lt (length interfaces) max_interfaces ≡ true = lt-ltb _ _ few in
    rw (less, interface-is) refl

replicate-push : (n : ℕ) (a : Interface) → replicate n a ++ (a ∷ []) ≡ replicate (n + 1) a
replicate-push zero a = refl
replicate-push (suc n) a =
    let e : suc (n + 1) ≡ suc n + 1 = omega arith in
    ap (λ (l : List Interface). a ∷ l) (replicate-push n a)
    ∙ ap (λ (k : ℕ). replicate k a) e

-- each of them is the one
slice_get-replicate : (n k : ℕ) (a : Interface) → k < n → slice_get (replicate n a) k ≡ Some a
slice_get-replicate zero k a less = absurd (omega (arith, less))
slice_get-replicate (suc n) zero a less = refl
slice_get-replicate (suc n) (suc k) a less = slice_get-replicate n k a (omega (arith, less))

-- one more interface
pcapng-interface : (reasons : Reasons) (n : ℕ) (rest : List ℕ) (read : Read)
    → n < max_interfaces → Reads (own_pcapng reasons) (own_interfaces (n + 1)) rest read
    → Reads (own_pcapng reasons) (own_interfaces n) (interface_block ++ rest) read
pcapng-interface reasons n rest read few later =
    let long : length (own_interfaces n) < max_interfaces =
    omega (arith, few, length-replicate n own_interface) in
    let says = interface-says reasons (own_interfaces n) long in
    reads-record (own_pcapng reasons) (own_interfaces n) interface_block rest
    (record {
      format = own_pcapng reasons;
      interfaces = own_interfaces (n + 1);
      packets = [];
    }) read
    (omega arith)
    (block_size-append LowFirst interface_block rest (omega arith) ∙ interface-sized)
    (ap said_of_block says
    ∙ ap (λ (l : List Interface). Ok (record {
      format = own_pcapng reasons;
      interfaces = l;
      packets = [];
    })) (replicate-push n own_interface)) later

-- m more interfaces
pub pcapng-interfaces : (reasons : Reasons) (m n : ℕ) (rest : List ℕ) (read : Read)
    → n + m ≤ max_interfaces → Reads (own_pcapng reasons) (own_interfaces (n + m)) rest read
    → Reads (own_pcapng reasons) (own_interfaces n) (interface_blocks m ++ rest) read
unfolding interface_blocks
pcapng-interfaces reasons zero n rest read few later =
    let e : n + 0 ≡ n = omega arith in
    subst (λ (k : ℕ). Reads (own_pcapng reasons) (own_interfaces k) rest read) e later
pcapng-interfaces reasons (suc m) n rest read few later =
    let e : n + suc m ≡ (n + 1) + m = omega arith in
    subst (λ (l : List ℕ). Reads (own_pcapng reasons) (own_interfaces n) l read)
    (sym (append_assoc interface_block (interface_blocks m) rest))
    (pcapng-interface reasons n (interface_blocks m ++ rest) read (omega (arith, few))
    (pcapng-interfaces reasons m (n + 1) rest read (omega (arith, few))
    (subst (λ (k : ℕ). Reads (own_pcapng reasons) (own_interfaces k) rest read) e later)))

-- ---- lengths

padded-range : (n : ℕ) → (n ≤ padded n) × (padded n ≤ n + 3) × (padded n % 4 ≡ 0)
padded-range n = (omega arith, omega arith, omega arith)

length-padding : (n : ℕ) → length (padding n) ≡ padded n - n
length-padding n = length-replicate (padded n - n) 0

length-reason_options : (reason : ℕ)
    → length (reason_options reason) ≡ 8 + padded (length (reason_comment reason))
length-reason_options reason =
    let comment = reason_comment reason in
    let n = length comment in
    let range = padded-range n in
    let pads : length (padding n) ≡ padded n - n = length-padding n in
    let inner : length (padding n ++ replicate 4 0) ≡ length (padding n) + 4 =
    length-append (padding n) (replicate 4 0) in
    let outer : length (comment ++ (padding n ++ replicate 4 0))
    ≡ n + length (padding n ++ replicate 4 0) =
    length-append comment (padding n ++ replicate 4 0) in
    omega (arith, range.0, range.1, pads, inner, outer)

length-comment : (reason : ℕ) → reason < 2 ^ 32 → length (reason_comment reason) ≤ 17
length-comment reason small =
    let digits : length (decimal reason) ≤ 10 =
    length-decimal-le 10 reason (omega arith) (omega (arith, small)) (omega (arith, small)) in
    let both : length (reason_comment reason) ≡ length (codes "reason ") + length (decimal reason) =
    length-append (codes "reason ") (decimal reason) in
    omega (arith, digits, both)

-- the options of a packet have a multiple of four bytes, and only a few
options-range : (reason : ℕ) → reason < 2 ^ 32
    → (length (packet_options reason) % 4 ≡ 0) × (length (packet_options reason) ≤ 32)
unfolding packet_options
options-range reason small = go (reason == 0)
  where
    go : (b : Bool)
        → (length (if b then [] else reason_options reason) % 4 ≡ 0)
        × (length (if b then [] else reason_options reason) ≤ 32)
    go true = (refl, omega arith)
    go false =
        let long = length-reason_options reason in
        let range = padded-range (length (reason_comment reason)) in
        (omega (arith, long, range.2), omega (arith, long, range.1, length-comment reason small))

-- ---- the reason that options say

comment-said : (reason : ℕ) → reason < 2 ^ 32
    → option_reason 1 (reason_comment reason) ≡ Some reason
comment-said reason small = reason_number-decimal reason small

options-said : (reason : ℕ) → reason < 2 ^ 32
    → reason_in LowFirst (reason_options reason) ≡ reason
options-said reason small =
    let comment = reason_comment reason in
    let n = length comment in
    let rest = padding n ++ replicate 4 0 in
    let options = reason_options reason in
    let few : n ≤ 17 = length-comment reason small in
    let size : short_field LowFirst 2 options ≡ n =
    little_number-reads_back 2 n [] (omega (arith, few)) in
    let value : take (short_field LowFirst 2 options) (drop 4 options) ≡ comment =
    ap (λ (k : ℕ). take k (comment ++ rest)) size ∙ take_at comment rest n refl in
    let long = length-reason_options reason in
    reason_in-found LowFirst options (4 + padded (short_field LowFirst 2 options))
    (omega (arith, long)) refl refl (omega arith) reason
    (ap (option_reason 1) value ∙ comment-said reason small)

options-reason : (reason : ℕ) → reason < 2 ^ 32
    → reason_in LowFirst (packet_options reason) ≡ reason
unfolding packet_options
options-reason reason small = go (reason == 0) refl
  where
    go : (b : Bool) → (reason == 0) ≡ b
        → reason_in LowFirst (if b then [] else reason_options reason) ≡ reason
    go true is =
        let none : reason ≡ 0 = grind (arith, nat_tests) in
        reason_in-none LowFirst [] (omega arith) ∙ sym none
    go false is = options-said reason small

-- ---- a packet's block, by its fields

sized-by_fields : (bytes : List ℕ) (size : ℕ) → block_order LowFirst bytes ≡ Some LowFirst
    → field LowFirst 4 bytes ≡ size → field LowFirst 0 bytes ≡ 6 → 32 ≤ size → size % 4 ≡ 0
    → size ≤ max_block → block_size LowFirst bytes ≡ Ok size
unfolding block_size
sized-by_fields bytes size ordered says kind least four most =
    let few : nat_lt size 32 ≡ false = le-ltb _ _ least in
    let whole : (size % 4 == 0) ≡ true = eq-eqb (size % 4) 0 four in
    let many : nat_lt max_block size ≡ false = le-ltb _ _ most in
    rw (ordered, says, kind, few, whole, many) refl

said-by_fields : (reasons : Reasons) (interfaces : List Interface) (bytes : List ℕ) (number : ℕ)
    (interface : Interface) (packet : CapturedPacket) → block_order LowFirst bytes ≡ Some LowFirst
    → field LowFirst (length bytes - 4) bytes ≡ length bytes → is_section bytes ≡ false
    → field LowFirst 0 bytes ≡ 6 → field LowFirst 8 bytes ≡ number
    → slice_get interfaces number ≡ Some interface
    → timed_packet (own_form reasons) number (Some interface) bytes ≡ Ok packet
    → block_said (record { form = own_form reasons; interfaces = interfaces }) bytes
    ≡ Ok (record {
      section = record { form = own_form reasons; interfaces = interfaces };
      packets = packet ∷ [];
    })
unfolding block_said
said-by_fields reasons interfaces bytes number interface packet ordered ends section kind names
    found timed =
    let same : (field LowFirst (length bytes - 4) bytes == length bytes) ≡ true =
    eq-eqb _ _ ends in
    rw (ordered, same, section, kind, names, found, timed) refl

whole-time : (t : ℕ) → t < 2 ^ 64
    → time_at own_interface (t / 2 ^ 32 * 2 ^ 32 + t % 2 ^ 32) ≡ t
whole-time t fits =
    let units : t / 2 ^ 32 * 2 ^ 32 + t % 2 ^ 32 ≡ t = omega arith in
    ap (time_at own_interface) units ∙ omega (arith, fits)

timed-by_fields : (reasons : Reasons) (f : PacketFrame) (bytes : List ℕ) (number : ℕ)
    → f.head.time < 2 ^ 64
    → field LowFirst 12 bytes ≡ f.head.time / 2 ^ 32
    → field LowFirst 16 bytes ≡ f.head.time % 2 ^ 32 → field LowFirst 20 bytes ≡ length f.body
    → field LowFirst 24 bytes ≡ length f.body → 28 + length f.body + 4 ≤ length bytes
    → take (length f.body) (drop 28 bytes) ≡ f.body
    → reason_by reasons LowFirst (length f.body) bytes ≡ reason_back reasons f.reason
    → timed_packet (own_form reasons) number (Some own_interface) bytes
    ≡ Ok (record {
      head = record { time = f.head.time; interface = number; queue = 0 };
      body = f.body;
      captured = length f.body;
      original = length f.body;
      reason = reason_back reasons f.reason;
    })
timed-by_fields reasons f bytes number fits high low captured original room body reason =
    let inside : nat_lt (length bytes) (28 + length f.body + 4) ≡ false = le-ltb _ _ room in
    let time = whole-time f.head.time fits in
    rw (high, low, captured, original, inside, body, time, reason) refl

-- ---- a packet's block

pub named-few : (n : ℕ) → named_interface n < max_interfaces
named-few n = go (nat_lt n max_interfaces) refl
  where
    go : (b : Bool) → nat_lt n max_interfaces ≡ b → (if b then n else 0) < max_interfaces
    go true is = ltb-true n max_interfaces is
    go false is = omega arith

module _ (f : PacketFrame) (short : length f.body ≤ max_packet) (small : f.reason < 2 ^ 32)
    (fits : f.head.time < 2 ^ 64) where
  abbrev size : ℕ
  size = length f.body

  abbrev tail : List ℕ
  tail = padding size ++ (packet_options f.reason ++ little_bytes 4 (block_length f))

  abbrev first : List ℕ
  first = block_head (block_length f) f.head.time (named_interface f.head.interface) size

  total-range : (32 + size ≤ block_length f) × (block_length f % 4 ≡ 0)
      × (block_length f ≤ max_block)
  total-range =
      let pads = padded-range size in
      let options = options-range f.reason small in (
        omega (arith, pads.0),
        omega (arith, pads.2, options.0),
        omega (arith, pads.1, options.1, short),
      )

  length-first : length first ≡ 28
  unfolding block_head
  length-first = refl

  length-block : length (packet_block f) ≡ block_length f
  length-block =
      let a = length-append first (f.body ++ tail) in
      let b = length-append f.body tail in
      let c =
      length-append (padding size) (packet_options f.reason ++ little_bytes 4 (block_length f)) in
      let d : length (packet_options f.reason ++ little_bytes 4 (block_length f))
      ≡ length (packet_options f.reason) + 4 =
      length-append (packet_options f.reason) (little_bytes 4 (block_length f)) in
      let pads = length-padding size in
      let range = padded-range size in
      omega (arith, a, b, c, d, pads, range.0, length-first)

  block-ordered : block_order LowFirst (packet_block f) ≡ Some LowFirst
  unfolding block_head
  block-ordered = refl

  block-section : is_section (packet_block f) ≡ false
  unfolding block_head
  block-section = refl

  block-kind : field LowFirst 0 (packet_block f) ≡ 6
  unfolding block_head
  block-kind = refl

  block-says : field LowFirst 4 (packet_block f) ≡ block_length f
  unfolding block_head
  block-says =
      let most = total-range.2 in
      little_number-reads_back 4 (block_length f) [] (omega (arith, most))

  block-names : field LowFirst 8 (packet_block f) ≡ named_interface f.head.interface
  unfolding block_head
  block-names =
      let few = named-few f.head.interface in
      little_number-reads_back 4 (named_interface f.head.interface) [] (omega (arith, few))

  block-high : field LowFirst 12 (packet_block f) ≡ f.head.time / 2 ^ 32
  unfolding block_head
  block-high = little_number-reads_back 4 (f.head.time / 2 ^ 32) [] (omega (arith, fits))

  block-low : field LowFirst 16 (packet_block f) ≡ f.head.time % 2 ^ 32
  unfolding block_head
  block-low = little_number-reads_back 4 (f.head.time % 2 ^ 32) [] (omega arith)

  block-captured : field LowFirst 20 (packet_block f) ≡ size
  unfolding block_head
  block-captured = little_number-reads_back 4 size [] (omega (arith, short))

  block-original : field LowFirst 24 (packet_block f) ≡ size
  unfolding block_head
  block-original = little_number-reads_back 4 size [] (omega (arith, short))

  block-body : take size (drop 28 (packet_block f)) ≡ f.body
  block-body =
      let behind : drop 28 (packet_block f) ≡ f.body ++ tail =
      drop_at first (f.body ++ tail) 28 length-first in
      ap (take size) behind ∙ take_at f.body tail size refl

  -- all but the last four bytes
  abbrev before_last : List ℕ
  before_last = first ++ (f.body ++ (padding size ++ packet_options f.reason))

  block-parts : packet_block f ≡ before_last ++ little_bytes 4 (block_length f)
  block-parts =
      let last = little_bytes 4 (block_length f) in
      let options = packet_options f.reason in
      sym (append_assoc first (f.body ++ (padding size ++ options)) last
      ∙ ap (λ (l : List ℕ). first ++ l)
      (append_assoc f.body (padding size ++ options) last
      ∙ ap (λ (l : List ℕ). f.body ++ l) (append_assoc (padding size) options last)))

  block-ends : field LowFirst (length (packet_block f) - 4) (packet_block f)
      ≡ length (packet_block f)
  block-ends =
      let last = little_bytes 4 (block_length f) in
      let long : length (packet_block f) ≡ length before_last + 4 =
      ap length block-parts ∙ length-append before_last last in
      let at : length (packet_block f) - 4 ≡ length before_last = omega (arith, long) in
      let behind : drop (length (packet_block f) - 4) (packet_block f) ≡ last =
      ap (λ (n : ℕ). drop n (packet_block f)) at
      ∙ ap (drop (length before_last)) block-parts
      ∙ drop_at before_last last (length before_last) refl in
      ap (λ (l : List ℕ). little_number 4 l) behind
      ∙ little_number-reads_back 4 (block_length f) [] (omega (arith, total-range.2))
      ∙ sym length-block

  -- the options of the packet are between its padding and the last four bytes
  block-options : packet_options_of size (packet_block f) ≡ packet_options f.reason
  block-options =
      let last = little_bytes 4 (block_length f) in
      let options = packet_options f.reason in
      let front : List ℕ = first ++ (f.body ++ padding size) in
      let long : length (packet_block f) ≡ length before_last + 4 =
      ap length block-parts ∙ length-append before_last last in
      let at : length (packet_block f) - 4 ≡ length before_last = omega (arith, long) in
      let taken : take (length (packet_block f) - 4) (packet_block f) ≡ before_last =
      ap (λ (n : ℕ). take n (packet_block f)) at
      ∙ ap (take (length before_last)) block-parts
      ∙ take_at before_last last (length before_last) refl in
      let parts : before_last ≡ front ++ options =
      ap (λ (l : List ℕ). first ++ l) (sym (append_assoc f.body (padding size) options))
      ∙ sym (append_assoc first (f.body ++ padding size) options) in
      let a = length-append first (f.body ++ padding size) in
      let b = length-append f.body (padding size) in
      let pads = length-padding size in
      let range = padded-range size in
      let there : length front ≡ 28 + padded size =
      omega (arith, a, b, pads, range.0, length-first) in
      ap (drop (28 + padded size)) (taken ∙ parts) ∙ drop_at front options (28 + padded size) there

  block-reason : (reasons : Reasons)
      → reason_by reasons LowFirst size (packet_block f) ≡ reason_back reasons f.reason
  block-reason Ignored = refl
  block-reason Taken = ap (reason_in LowFirst) block-options ∙ options-reason f.reason small

  -- after n interfaces were described, one of which it names
  pub pcapng-block : (reasons : Reasons) (n : ℕ) (rest : List ℕ) (read : Read)
      → named_interface f.head.interface < n
      → Reads (own_pcapng reasons) (own_interfaces n) rest read
      → Reads (own_pcapng reasons) (own_interfaces n) (packet_block f ++ rest)
      (read_back reasons Pcapng f ∷ read.0, read.1)
  pcapng-block reasons n rest read named later =
      let range = total-range in
      let number = named_interface f.head.interface in
      let sized : block_size LowFirst (packet_block f ++ rest) ≡ Ok (length (packet_block f)) =
      block_size-append LowFirst (packet_block f) rest (omega (arith, length-block, range.0))
      ∙ sized-by_fields (packet_block f) (block_length f) block-ordered block-says block-kind
      (omega (arith, range.0)) range.1 range.2 ∙ ap Ok (sym length-block) in
      let timed = timed-by_fields reasons f (packet_block f) number fits block-high block-low
      block-captured block-original (omega (arith, length-block, range.0)) block-body
      (block-reason reasons) in
      let says = said-by_fields reasons (own_interfaces n) (packet_block f) number own_interface
      (read_back reasons Pcapng f) block-ordered block-ends block-section block-kind block-names
      (slice_get-replicate n number own_interface named) timed in
      reads-record (own_pcapng reasons) (own_interfaces n) (packet_block f) rest
      (record {
        format = own_pcapng reasons;
        interfaces = own_interfaces n;
        packets = read_back reasons Pcapng f ∷ [];
      }) read (omega (arith, length-block, range.0)) sized (ap said_of_block says) later
