-- Common members, inclusion, and the order of members: the least and the greatest.
use Rattle.known_bits.proofs.Common.{◌≡◌, ℕ, ◌+◌, ◌-◌, ◌%◌, ◌^◌, ◌<◌, ◌≤◌, min, max, w64, sym, ap, ◌∙◌, arith, bit_and, bit_or, bit_xor, bit_at, bit_not, and_le_l, and_le_r, or_lt, xor_lt, mod_below, pow_pos, bit_at_and, bit_at_or, bit_at_xor, bit_at-lt, bit_at-zero, same_from_bits_below, same_from_bits, IsMember}
use Rattle.known_bits.proofs.Members.{Apart, bits_between, bits_apart, apart_from_bits, member_from_bits, member_and_most}
use Rattle.known_bits.proofs.Logic.{without, without_bit}
use Rattle.known_bits.proofs.Parts.{low_apart}
use Rattle.known_bits.proofs.Sharp.{least_member, most_member}

-- where the two differ in a bit that is known in both
abbrev pub clash_of : ℕ → ℕ → ℕ → ℕ → ℕ
clash_of av am bv bm = without (bit_xor av bv) (bit_or am bm)

clash_bit : {av am bv bm : ℕ} → Apart av am → Apart bv bm → (i : ℕ) → i < 64
    → bit_at (clash_of av am bv bm) i
    ≡ min ((bit_at av i + bit_at bv i) % 2) (1 - max (bit_at am i) (bit_at bm i))
clash_bit {av} {am} {bv} {bm} ka kb i i_in =
    without_bit (bit_xor av bv) (bit_or am bm) (or_lt 64 am bm ka.mask_in kb.mask_in) i i_in
    ∙ (let e = bit_at_xor av bv i in let f = bit_at_or am bm i in omega arith)

-- a common member leaves no clash
pub common_no_clash : {av am bv bm : ℕ} → Apart av am → Apart bv bm → (x : ℕ) → IsMember av am x
    → IsMember bv bm x → clash_of av am bv bm ≡ 0
common_no_clash {av} {am} {bv} {bm} ka kb x hx hy =
    let a_in = or_lt 64 am bm ka.mask_in kb.mask_in in
    let x_in = xor_lt 64 av bv ka.value_in kb.value_in in
    same_from_bits_below 64 _ _
    (let le = and_le_l (bit_xor av bv) (bit_not w64 (bit_or am bm)) in omega arith)
    (omega arith)
    (λ i i_in. clash_bit ka kb i i_in
    ∙ (let b = bits_between ka hx i i_in in
    let c = bits_between kb hy i i_in in let z = bit_at-zero i in omega arith))

clash_zero : {av am bv bm : ℕ} → Apart av am → Apart bv bm → clash_of av am bv bm ≡ 0 → (i : ℕ)
    → i < 64 → min ((bit_at av i + bit_at bv i) % 2) (1 - max (bit_at am i) (bit_at bm i)) ≡ 0
clash_zero ka kb h i i_in = sym (clash_bit ka kb i i_in) ∙ ap (λ n. bit_at n i) h ∙ bit_at-zero i

pub meet_apart : {av am bv bm : ℕ} → Apart av am → Apart bv bm
    → Apart (bit_or av bv) (bit_and am bm)
meet_apart {av} {am} {bv} {bm} ka kb =
    apart_from_bits (or_lt 64 av bv ka.value_in kb.value_in)
    (let h = ka.mask_in in let le = and_le_l am bm in omega arith)
    (λ i i_in. let e = bit_at_or av bv i in
    let f = bit_at_and am bm i in
    let a = bits_apart ka i in let b = bits_apart kb i in omega arith)

pub meet_contains : {av am bv bm : ℕ} → Apart av am → Apart bv bm → (x : ℕ) → IsMember av am x
    → IsMember bv bm x → IsMember (bit_or av bv) (bit_and am bm) x
meet_contains {av} {am} {bv} {bm} ka kb x hx hy =
    let k = meet_apart ka kb in
    member_from_bits k.value_in k.mask_in hx.below
    (λ i i_in. let e = bit_at_or av bv i in
    let f = bit_at_and am bm i in
    let a = bits_between ka hx i i_in in let b = bits_between kb hy i i_in in
    let t = bit_at-lt x i in
    record { apart = omega arith; least = omega arith; most = omega arith })

pub meet_left : {av am bv bm : ℕ} → Apart av am → Apart bv bm → clash_of av am bv bm ≡ 0 → (x : ℕ)
    → IsMember (bit_or av bv) (bit_and am bm) x → IsMember av am x
meet_left {av} {am} {bv} {bm} ka kb h x hx =
    let k = meet_apart ka kb in
    member_from_bits ka.value_in ka.mask_in hx.below
    (λ i i_in. let e = bit_at_or av bv i in
    let f = bit_at_and am bm i in let b = bits_between k hx i i_in in
    let z = clash_zero ka kb h i i_in in
    let p = bits_apart ka i in let q = bits_apart kb i in let t = bit_at-lt x i in
    record { apart = omega arith; least = omega arith; most = omega arith })

pub meet_right : {av am bv bm : ℕ} → Apart av am → Apart bv bm → clash_of av am bv bm ≡ 0 → (x : ℕ)
    → IsMember (bit_or av bv) (bit_and am bm) x → IsMember bv bm x
meet_right {av} {am} {bv} {bm} ka kb h x hx =
    let k = meet_apart ka kb in
    member_from_bits kb.value_in kb.mask_in hx.below
    (λ i i_in. let e = bit_at_or av bv i in
    let f = bit_at_and am bm i in let b = bits_between k hx i i_in in
    let z = clash_zero ka kb h i i_in in
    let p = bits_apart ka i in let q = bits_apart kb i in let t = bit_at-lt x i in
    record { apart = omega arith; least = omega arith; most = omega arith })

-- inclusion, from the two tests that `covers` makes
pub covers_contains : {av am bv bm : ℕ} → Apart av am → Apart bv bm → without bm am ≡ 0
    → without (bit_xor av bv) am ≡ 0 → (x : ℕ) → IsMember bv bm x → IsMember av am x
covers_contains {av} {am} {bv} {bm} ka kb hm hv x hx =
    member_from_bits ka.value_in ka.mask_in hx.below
    (λ i i_in.
    let m = sym (without_bit bm am ka.mask_in i i_in) ∙ ap (λ n. bit_at n i) hm ∙ bit_at-zero i in
    let v = sym (without_bit (bit_xor av bv) am ka.mask_in i i_in) ∙ ap (λ n. bit_at n i) hv
    ∙ bit_at-zero i in
    let e = bit_at_xor av bv i in
    let b = bits_between kb hx i i_in in let p = bits_apart ka i in let t = bit_at-lt x i in
    record { apart = omega arith; least = omega arith; most = omega arith })

pub without_self : (m : ℕ) → m < 2 ^ 64 → without m m ≡ 0
without_self m h =
    same_from_bits_below 64 _ _ (let le = and_le_l m (bit_not w64 m) in omega arith) (omega arith)
    (λ i i_in. without_bit m m h i i_in
    ∙ (let b = bit_at-lt m i in let z = bit_at-zero i in omega arith))

pub without_same : (v m : ℕ) → without (bit_xor v v) m ≡ 0
without_same v m =
    let e : bit_xor v v ≡ 0 =
    same_from_bits (bit_xor v v) 0
    (λ i. bit_at_xor v v i ∙ (let b = bit_at-lt v i in let z = bit_at-zero i in omega arith)) in
    let le = and_le_l (bit_xor v v) (bit_not w64 m) in omega arith

-- the least and the greatest member
pub member_least : {v m x : ℕ} → IsMember v m x → v ≤ x
member_least {v} {m} {x} h = let k = h.known in let le = and_le_l x (bit_not w64 m) in omega arith

pub member_most : {v m x : ℕ} → Apart v m → IsMember v m x → x ≤ bit_or v m
member_most {v} {m} {x} k h =
    let e = member_and_most k h in let le = and_le_r x (bit_or v m) in omega arith

-- a member of the low parts is below 2 ^ n
pub low_fits : {v m x : ℕ} → Apart v m → (n : ℕ) → IsMember (v % 2 ^ n) (m % 2 ^ n) x → x < 2 ^ n
low_fits {v} {m} {x} k n h =
    let most = member_most (low_apart k n) h in
    let p = pow_pos n in
    let top = or_lt n (v % 2 ^ n) (m % 2 ^ n) (mod_below v (2 ^ n) p) (mod_below m (2 ^ n) p) in
    omega arith

-- ---- what inclusion shows of the value and the mask

pub included_mask : {av am bv bm : ℕ} → Apart av am → Apart bv bm
    → ((x : ℕ) → IsMember bv bm x → IsMember av am x) → without bm am ≡ 0
included_mask {av} {am} {bv} {bm} ka kb within =
    same_from_bits_below 64 _ _
    (let le = and_le_l bm (bit_not w64 am) in let h = kb.mask_in in omega arith) (omega arith)
    (λ i i_in.
    let e = without_bit bm am ka.mask_in i i_in in
    let l = bits_between ka (within bv (least_member kb)) i i_in in
    let g = bits_between ka (within (bit_or bv bm) (most_member kb)) i i_in in
    let o = bit_at_or bv bm i in
    let p = bits_apart kb i in
    let z = bit_at-zero i in
    omega arith)

pub included_value : {av am bv bm : ℕ} → Apart av am → Apart bv bm
    → ((x : ℕ) → IsMember bv bm x → IsMember av am x) → without (bit_xor av bv) am ≡ 0
included_value {av} {am} {bv} {bm} ka kb within =
    same_from_bits_below 64 _ _
    (let le = and_le_l (bit_xor av bv) (bit_not w64 am) in
    let h = xor_lt 64 av bv ka.value_in kb.value_in in omega arith) (omega arith)
    (λ i i_in.
    let e = without_bit (bit_xor av bv) am ka.mask_in i i_in in
    let l = bits_between ka (within bv (least_member kb)) i i_in in
    let x = bit_at_xor av bv i in
    let z = bit_at-zero i in
    let t = bit_at-lt bv i in
    omega arith)
