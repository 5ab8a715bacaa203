use Rattle.map_indexes.proofs.Common.{◌≡◌, ℕ, List, length, true, false, refl, sym, ap, ◌∙◌, arith, nat_eq, take_all, pointwise, bytes_decides, little_bytes, little_number}
use Rattle.isa_model.specs.Code.EachByte.{EachByte}
use Rattle.isa_model.proofs.LittleEndianLaws.{little_bytes-little_from}
use Rattle.map_indexes.proofs.keys.are_same.Goals as goal

-- the bytes of a number are what it was read from
read_back : (n : ℕ) (a : List ℕ) → length a ≡ n → EachByte a → little_bytes n (little_number n a)
    ≡ a
read_back n a long bytes = little_bytes-little_from n 0 a bytes (omega arith) ∙ take_all n a
    (omega arith)

-- lists of bytes are the same where their numbers are
same_number : (n : ℕ) (a b : List ℕ) → length a ≡ n → length b ≡ n → EachByte a → EachByte b
    → nat_eq (little_number n a) (little_number n b) ≡ pointwise nat_eq a b
same_number n a b long wide first second =
    let x = little_number n a in
    let y = little_number n b in
    elim (nat_eq x y) as (λ t. nat_eq x y ≡ t → t ≡ pointwise nat_eq a b) [
      | true ↦ λ e.
          let numbers : x ≡ y = grind arith in
          sym ((bytes_decides a b).1 (sym (read_back n a long first) ∙ ap (little_bytes n) numbers
          ∙ read_back n b wide second))
      | false ↦ λ e. elim (pointwise nat_eq a b) as (λ t. pointwise nat_eq a b ≡ t → false ≡ t) [
        | true ↦ λ f. let numbers : x ≡ y = ap (little_number n)
            ((bytes_decides a b).0 f) in absurd (grind arith)
        | false ↦ λ f. refl
      ] refl
    ] refl

pub returns-then-a-eq4 : goal.returns-then-a-eq4
returns-then-a-eq4 c =
    (λ i. nat_eq (c.read_u32.ensures i) (c.read_u32-then-a-eq4.ensures i))
    ∙ same_number 4 c.args.a.now c.args.b.now c.if-a-eq4.true (sym c.requires ∙ c.if-a-eq4.true)
    c.are_bytes.ensures c.are_bytes-2.ensures

pub returns-then-a-eq8 : goal.returns-then-a-eq8
returns-then-a-eq8 c =
    (λ i. nat_eq (c.read_u64.ensures i) (c.read_u64-then-a-eq8.ensures i))
    ∙ same_number 8 c.args.a.now c.args.b.now c.if-a-eq8.true (sym c.requires ∙ c.if-a-eq8.true)
    c.are_bytes.ensures c.are_bytes-2.ensures
