use Rattle.map_indexes.proofs.Common.{◌≡◌, ℕ, ◌∙◌, ap, sym, arith, Bool, true, false, Some, None, List, nat_lt, if◌then◌else◌, little_number}
use Rattle.map_indexes.proofs.ArrayLaws.{get-array_places}
use Rattle.map_indexes.proofs.arrays.ArrayIndexIndex.find.Goals as goal

pub returns-then-index-self : goal.returns-then-index-self
returns-then-index-self c =
    let k : List ℕ = c.args.key.now in
    let n : ℕ = c.args.self.now.entries in
    let is : c.read_u32-index.result ≡ little_number 4 k = c.read_u32-index.ensures in
    let below = c.if-index-self.true in
    let test : nat_lt (little_number 4 k) n ≡ true = grind arith in
    ap Some is ∙ sym
    (get-array_places n k (omega arith) c.requires (λ j. omega (arith, c.type_inv.key j))
    ∙ ap (λ (b : Bool). if b then Some (little_number 4 k) else None) test)

pub returns-else-index-self : goal.returns-else-index-self
returns-else-index-self c =
    let k : List ℕ = c.args.key.now in
    let n : ℕ = c.args.self.now.entries in
    let is : c.read_u32-index.result ≡ little_number 4 k = c.read_u32-index.ensures in
    let above = c.if-index-self.false in
    let test : nat_lt (little_number 4 k) n ≡ false = grind arith in
    sym (get-array_places n k (omega arith) c.requires (λ j. omega (arith, c.type_inv.key j))
    ∙ ap (λ (b : Bool). if b then Some (little_number 4 k) else None) test)
