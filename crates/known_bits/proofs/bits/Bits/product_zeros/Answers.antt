use Rattle.known_bits.proofs.Common.{arith, ℕ, sym, ap, ◌∙◌, ◌≡◌, ◌+◌, ◌-◌, ◌*◌, ◌%◌, ◌^◌, w64, bit_and, trailing_zeros, and_mask}
use Rattle.known_bits.proofs.Members.{is_apart}
use Rattle.known_bits.proofs.ProductZeros.{mod-pow_smaller, mod-mod_pow, mod-pow-mul, mod-trailing_zeros, trailing_zeros-multiple, member-multiple}
use Rattle.known_bits.proofs.bits.Bits.product_zeros.Goals as goal

and_ones : (n k ones : ℕ) → ones + 1 ≡ 2 ^ k → n % 2 ^ k ≡ 0 → bit_and n ones ≡ 0
and_ones n k ones e z =
    let m : ones ≡ 2 ^ k - 1 = omega arith in
    ap (bit_and n) m ∙ and_mask n k ∙ z

and_ones_back : (n k ones : ℕ) → ones + 1 ≡ 2 ^ k → bit_and n ones ≡ 0 → n % 2 ^ k ≡ 0
and_ones_back n k ones e z =
    let m : 2 ^ k - 1 ≡ ones = omega arith in
    sym (and_mask n k) ∙ ap (bit_and n) m ∙ z

pub returns-clause-contains : goal.returns-clause-contains
returns-clause-contains c = λ x y hx hy.
    let ka = is_apart c.args.self (omega arith) (omega arith) in
    let kb = is_apart c.args.other (omega arith) (omega arith) in
    let zx = member-multiple ka hx (trailing_zeros w64 c.greatest.result)
    (ap (λ n. n % 2 ^ trailing_zeros w64 c.greatest.result) (sym c.greatest.ensures.value)
    ∙ mod-trailing_zeros c.greatest.result c.greatest.type_inv) in
    let zy = member-multiple kb hy (trailing_zeros w64 c.greatest-2.result)
    (ap (λ n. n % 2 ^ trailing_zeros w64 c.greatest-2.result) (sym c.greatest-2.ensures.value)
    ∙ mod-trailing_zeros c.greatest-2.result c.greatest-2.type_inv) in
    c.outside.ensures.contains ((x * y) % 2 ^ 64) (omega arith)
    (and_ones ((x * y) % 2 ^ 64) c.min.result c.ones.result c.ones.ensures
    (mod-mod_pow (x * y) c.min.result 64
    (mod-pow_smaller (x * y) c.min.result
    (trailing_zeros w64 c.greatest.result + trailing_zeros w64 c.greatest-2.result)
    (mod-pow-mul x y (trailing_zeros w64 c.greatest.result)
    (trailing_zeros w64 c.greatest-2.result) zx zy)
    (let m = c.min.ensures in omega arith))))

pub returns-clause-zeros : goal.returns-clause-zeros
returns-clause-zeros c = λ j k z fits hj hk h.
    let a = trailing_zeros-multiple c.greatest.result j c.greatest.type_inv (omega arith)
    (rw c.greatest.ensures.value hj) in
    let b = trailing_zeros-multiple c.greatest-2.result k c.greatest-2.type_inv (omega arith)
    (rw c.greatest-2.ensures.value hk) in
    mod-pow_smaller z (j + k) c.min.result
    (and_ones_back z c.min.result c.ones.result c.ones.ensures (c.outside.ensures.only z h))
    (let m = c.min.ensures in omega arith)
