-- Laws of the Ethernet frame that is made in the place of a packet.
use Rattle.captures.proofs.Common.{◌≡◌, ℕ, ◌+◌, ◌-◌, ◌≤◌, List, ◌++◌, length, take, drop, min, slice_range, replicate, sym, ap, ◌∙◌, refl, arith, length-append, length-drop, false, nat_lt, le-ltb, inl, inr, cases_lt, put_mid, post_of, ethernet_frame, ethernet_head}
use Rattle.std.proofs.lemmas.List.{drop_at, take_at, drop_all, length-take-le, drop-drop, drop-append-le, drop-take, append_assoc}
use lib.Seq.{paste}
use Rattle.captures.specs.declared.forms.LinkType.TheVariants.{Cooked, Cooked2}

-- what stands from the place on where bytes were written
drop-put_mid_at : (a k : ℕ) (xs ys : List ℕ) → a ≤ length xs
    → drop a (put_mid a k xs ys) ≡ ys ++ drop (a + k) xs
drop-put_mid_at a k xs ys within =
    drop_at (take a xs) (ys ++ post_of a k xs) a (length-take-le a xs within)
    ∙ ap (λ l. ys ++ l) (drop-drop k a xs)

-- what stands from a place before
drop-put_mid_before : (n a k : ℕ) (xs ys : List ℕ) → n ≤ a → a ≤ length xs
    → drop n (put_mid a k xs ys) ≡ take (a - n) (drop n xs) ++ (ys ++ drop (a + k) xs)
drop-put_mid_before n a k xs ys before within =
    let long = length-take-le a xs within in
    let split : a ≡ n + (a - n) = omega arith in
    drop-append-le n (take a xs) (ys ++ post_of a k xs) (omega arith)
    ∙ ap (λ l. l ++ (ys ++ post_of a k xs))
    (ap (λ m. drop n (take m xs)) split ∙ drop-take n (a - n) xs)
    ∙ ap (λ l. take (a - n) (drop n xs) ++ (ys ++ l)) (drop-drop k a xs)

-- the bytes before that place are still there
length-put_mid : (a k : ℕ) (xs ys : List ℕ) → a ≤ length xs → a ≤ length (put_mid a k xs ys)
length-put_mid a k xs ys within =
    let long = length-take-le a xs within in
    omega (arith, length-append (take a xs) (ys ++ post_of a k xs))

-- the frame of a packet of Linux's `any` interface
pub cooked_settled : (packet address zeros : List ℕ) → 16 ≤ length packet
    → address ≡ take 6 (drop 6 packet) → zeros ≡ replicate 6 0
    → drop 2 (put_mid 2 6 (put_mid 8 6 packet address) zeros) ≡ ethernet_frame Cooked packet
cooked_settled packet address zeros long is none =
    let room : 2 ≤ length (put_mid 8 6 packet address) =
    omega (arith, length-put_mid 8 6 packet address (omega arith)) in
    let whole : nat_lt (length packet) 16 ≡ false = le-ltb _ _ long in
    drop-put_mid_at 2 6 (put_mid 8 6 packet address) zeros room
    ∙ ap (λ l. zeros ++ l) (drop-put_mid_at 8 6 packet address (omega arith))
    ∙ ap (λ l. l ++ (address ++ drop 14 packet)) none
    ∙ ap (λ l. replicate 6 0 ++ (l ++ drop 14 packet)) is
    ∙ rw whole refl

-- and of one in its second form
pub cooked2_settled : (packet protocol zeros : List ℕ) → 20 ≤ length packet
    → protocol ≡ take 2 packet → zeros ≡ replicate 6 0
    → drop 6 (put_mid 6 6 (put_mid 18 2 packet protocol) zeros) ≡ ethernet_frame Cooked2 packet
cooked2_settled packet protocol zeros long is none =
    let room : 6 ≤ length (put_mid 18 2 packet protocol) =
    omega (arith, length-put_mid 18 2 packet protocol (omega arith)) in
    let whole : nat_lt (length packet) 20 ≡ false = le-ltb _ _ long in
    drop-put_mid_at 6 6 (put_mid 18 2 packet protocol) zeros room
    ∙ ap (λ l. zeros ++ l)
    (drop-put_mid_before 12 18 2 packet protocol (omega arith) (omega arith))
    ∙ ap (λ l. l ++ (take 6 (drop 12 packet) ++ (protocol ++ drop 20 packet))) none
    ∙ ap (λ l. replicate 6 0 ++ (take 6 (drop 12 packet) ++ (l ++ drop 20 packet))) is
    ∙ rw whole refl

-- ---- where a packet is in a block

pub length-range : (start end : ℕ) (block : List ℕ) → start ≤ end → end ≤ length block
    → length (slice_range block start end) ≡ end - start
length-range start end block head room =
    length-take-le (end - start) (drop start block) (omega (arith, length-drop start block))

-- the frame, after the packet's bytes in a block were written over
pub frame_settled : (start end from : ℕ) (block packet : List ℕ) → start ≤ end
    → end ≤ length block → length packet ≡ end - start → from ≤ length packet
    → slice_range (put_mid start (end - start) block packet) (start + from) end
    ≡ drop from packet
frame_settled start end from block packet head room whole inside =
    let after = put_mid start (end - start) block packet in
    let rest = post_of start (end - start) block in
    let long = length-take-le start block (omega arith) in
    ap (take (end - (start + from)))
    (sym (drop-drop from start after)
    ∙ ap (drop from) (drop_at (take start block) (packet ++ rest) start long)
    ∙ drop-append-le from packet rest inside)
    ∙ take_at (drop from packet) rest (end - (start + from))
    (omega (arith, length-drop from packet))

-- the frame, where the packet had to be moved for its head
pub headed_moved : (start end kind : ℕ) (block after : List ℕ) → start ≤ end → end ≤ length block
    → 14 + (end - start) ≤ length block
    → after ≡ ethernet_head kind ++ drop 14 (paste block 14 (drop start block) (end - start))
    → slice_range after 0 (14 + (end - start)) ≡ ethernet_head kind ++ slice_range block start end
headed_moved start end kind block after ordered inside room is =
    let part = slice_range block start end in
    let rest = drop (14 + (end - start)) block in
    let long = length-range start end block ordered inside in
    let behind : drop 14 (paste block 14 (drop start block) (end - start)) ≡ part ++ rest =
    ap (drop 14) (append_assoc (take 14 block) part rest)
    ∙ drop_at (take 14 block) (part ++ rest) 14 (length-take-le 14 block (omega arith)) in
    let size : 14 + (end - start) - 0 ≡ 14 + (end - start) = omega arith in
    ap (λ n. take n after) size
    ∙ ap (take (14 + (end - start)))
    (is ∙ ap (λ (l : List ℕ). ethernet_head kind ++ l) behind
    ∙ sym (append_assoc (ethernet_head kind) part rest))
    ∙ take_at (ethernet_head kind ++ part) rest (14 + (end - start))
    (omega (arith, long, length-append (ethernet_head kind) part))

-- the bytes of a packet behind its address family, if it has one
pub behind_family : (start end : ℕ) (block : List ℕ) → start ≤ end → end ≤ length block
    → slice_range block (min end (start + 4)) end ≡ drop 4 (slice_range block start end)
behind_family start end block ordered inside =
    elim (cases_lt end (start + 4)) [
      | inl less ↦
          let few : min end (start + 4) ≡ end = omega arith in
          let none : end - end ≡ 0 = omega arith in
          let long = length-range start end block ordered inside in
          ap (λ n. slice_range block n end) few ∙ ap (λ n. take n (drop end block)) none
          ∙ sym (drop_all 4 (slice_range block start end) (omega (arith, long)))
      | inr more ↦
          let many : min end (start + 4) ≡ start + 4 = omega arith in
          let size : end - start ≡ 4 + (end - (start + 4)) = omega arith in
          ap (λ n. slice_range block n end) many
          ∙ ap (take (end - (start + 4))) (sym (drop-drop 4 start block))
          ∙ sym (ap (λ n. drop 4 (take n (drop start block))) size
          ∙ drop-take 4 (end - (start + 4)) (drop start block))
    ]
