-- Bytes that represent cells: parts of them, and what they spell.
use Rattle.machine.proofs.Common.{◌≡◌, ℕ, zero, suc, ◌+◌, List, [], ◌∷◌, ◌++◌, length, take, drop, map, refl, ap, subst, ◌∙◌, arith, add-one, Ok, Err, Result, Bool, true, false, ℤ, pos, negsuc, if◌then◌else◌, ◌==◌, ◌&&◌, nat_tests, list_any, list_all, enumerate_from, w64, byte_at, bytes_low_first, to_le_bytes, Region, Value, Unset, Num, Ptr, Cell, Unwritten, Byte, Piece, TrapReason, UnsetRead, BadAccess, number_from, is_unwritten, is_byte, byte_in, number_of, number_in, value_in, pointer_in, pieces, is_piece, are_pieces, same_region, same_int, Layout, word, RepresentsCell, RepresentsCells}
use Rattle.isa_model.specs.declared.values.Region.TheVariants as region

both_true : (b c : Bool) → (b && c) ≡ true → (b ≡ true) × (c ≡ true)
both_true true c e = (refl, e)
both_true false c e = absurd (cc)

region_same : (r q : Region) → same_region r q ≡ true → r ≡ q
region_same region.Context region.Context e = refl
region_same region.Packet region.Packet e = refl
region_same region.PacketEnd region.PacketEnd e = refl
region_same (region.Map m) (region.Map n) e = ap region.Map (grind (arith, nat_tests))
region_same (region.CallFrame m) (region.CallFrame n) e =
    ap region.CallFrame (grind (arith, nat_tests))
region_same (region.MapValue m i) (region.MapValue n j) e =
    let (f, g) = both_true (m == n) (i == j) e in
    let h : m ≡ n = grind (arith, nat_tests) in
    let k : i ≡ j = grind (arith, nat_tests) in
    rw (h, k) refl
region_same r q e = absurd (cc)

int_same : (z y : ℤ) → same_int z y ≡ true → z ≡ y
int_same (pos m) (pos n) e = ap pos (grind (arith, nat_tests))
int_same (negsuc m) (negsuc n) e = ap negsuc (grind (arith, nat_tests))
int_same z y e = absurd (cc)

module _ (a : Layout) where
  pub shows-take : (n : ℕ) (cs : List Cell) (bs : List ℕ) → RepresentsCells a cs bs
      → RepresentsCells a (take n cs) (take n bs)
  shows-take zero cs bs s = tt
  shows-take (suc n) [] [] s = tt
  shows-take (suc n) [] (b ∷ bs) s = absurd s
  shows-take (suc n) (c ∷ cs) [] s = absurd s
  shows-take (suc n) (c ∷ cs) (b ∷ bs) s = (s.0, shows-take n cs bs s.1)

  pub shows-drop : (n : ℕ) (cs : List Cell) (bs : List ℕ) → RepresentsCells a cs bs
      → RepresentsCells a (drop n cs) (drop n bs)
  shows-drop zero cs bs s = s
  shows-drop (suc n) [] [] s = tt
  shows-drop (suc n) [] (b ∷ bs) s = absurd s
  shows-drop (suc n) (c ∷ cs) [] s = absurd s
  shows-drop (suc n) (c ∷ cs) (b ∷ bs) s = shows-drop n cs bs s.1

  pub shows-append : (cs : List Cell) (bs : List ℕ) (ds : List Cell) (es : List ℕ)
      → RepresentsCells a cs bs → RepresentsCells a ds es → RepresentsCells a (cs ++ ds) (bs ++ es)
  shows-append [] [] ds es s t = t
  shows-append [] (b ∷ bs) ds es s t = absurd s
  shows-append (c ∷ cs) [] ds es s t = absurd s
  shows-append (c ∷ cs) (b ∷ bs) ds es s t = (s.0, shows-append cs bs ds es s.1 t)

  pub shows-length : (cs : List Cell) (bs : List ℕ) → RepresentsCells a cs bs
      → length cs ≡ length bs
  shows-length [] [] s = refl
  shows-length [] (b ∷ bs) s = absurd s
  shows-length (c ∷ cs) [] s = absurd s
  shows-length (c ∷ cs) (b ∷ bs) s = ap suc (shows-length cs bs s.1)

  -- bytes represent themselves
  pub shows-bytes : (bs : List ℕ) → RepresentsCells a (map Byte bs) bs
  shows-bytes [] = tt
  shows-bytes (b ∷ bs) = (refl, shows-bytes bs)

  -- bytes that represent number bytes are these
  pub bytes-shown : (cs : List Cell) (bs : List ℕ) → list_all is_byte cs ≡ true
      → RepresentsCells a cs bs → bs ≡ map byte_in cs
  bytes-shown [] [] e s = refl
  bytes-shown [] (b ∷ bs) e s = absurd s
  bytes-shown (c ∷ cs) [] e s = absurd s
  bytes-shown (Byte n ∷ cs) (b ∷ bs) e s =
      ap (λ x. x ∷ bs) s.0 ∙ ap (λ l. n ∷ l) (bytes-shown cs bs e s.1)
  bytes-shown (Unwritten ∷ cs) (b ∷ bs) e s = absurd (cc)
  bytes-shown (Piece r z k ∷ cs) (b ∷ bs) e s = absurd (cc)

  -- the pieces of a pointer are the bytes of its word
  pub shows-pieces : (r : Region) (z : ℤ)
      → RepresentsCells a (pieces r z) (to_le_bytes w64 (word a r z))
  shows-pieces r z = (refl, (refl, (refl, (refl, (refl, (refl, (refl, (refl, tt))))))))

  abbrev pub OkNumber : Result ℕ TrapReason → ℕ → Type 0
  OkNumber (Ok n) w = w ≡ n
  OkNumber (Err e) w = Unit {0}

  pub shows_number_in : (cs : List Cell) (bs : List ℕ) → RepresentsCells a cs bs
      → OkNumber (number_in cs) (number_from bs)
  shows_number_in cs bs s = by_unwritten (list_any is_unwritten cs)
    where
      by_bytes : (b : Bool) → list_all is_byte cs ≡ b
          → OkNumber (if b then Ok (number_of cs) else Err BadAccess) (number_from bs)
      by_bytes true e = ap number_from (bytes-shown cs bs e s)
      by_bytes false e = tt

      by_unwritten : (b : Bool)
          → OkNumber (if b then Err UnsetRead else if list_all is_byte cs then Ok (number_of cs)
          else Err BadAccess) (number_from bs)
      by_unwritten true = tt
      by_unwritten false = by_bytes (list_all is_byte cs) refl

  -- how bytes represent the value that is read from them
  abbrev pub Spelled : Value → List ℕ → Type 0
  Spelled Unset bs = Unit {0}
  Spelled (Num n) bs = number_from bs ≡ n
  Spelled (Ptr r z) bs = bs ≡ to_le_bytes w64 (word a r z)

  abbrev pub OkSpelled : Result Value TrapReason → List ℕ → Type 0
  OkSpelled (Ok v) bs = Spelled v bs
  OkSpelled (Err e) bs = Unit {0}

  -- the kth byte of a pointer's word represents the kth piece of the pointer
  piece_byte : (r : Region) (z : ℤ) (k : ℕ) (c : Cell) (b : ℕ) → is_piece r z k c ≡ true
      → RepresentsCell a c b → b ≡ byte_at k (word a r z)
  piece_byte r z k Unwritten b e s = absurd (cc)
  piece_byte r z k (Byte n) b e s = absurd (cc)
  piece_byte r z k (Piece q y j) b e s =
      let (first, three) = both_true (same_region r q && same_int z y) (k == j) e in
      let (one, two) = both_true (same_region r q) (same_int z y) first in
      let f : r ≡ q = region_same r q one in
      let g : z ≡ y = int_same z y two in
      let h : k ≡ j = grind (arith, nat_tests) in
      rw (f, g, h) s

  pieces_bytes : (r : Region) (z : ℤ) (k : ℕ) (cs : List Cell) (bs : List ℕ)
      → list_all (λ e. is_piece r z e.0 e.1) (enumerate_from k cs) ≡ true → RepresentsCells a cs bs
      → bs ≡ bytes_low_first k (length cs) (word a r z)
  pieces_bytes r z k [] [] e s = refl
  pieces_bytes r z k [] (b ∷ bs) e s = absurd s
  pieces_bytes r z k (c ∷ cs) [] e s = absurd s
  pieces_bytes r z k (c ∷ cs) (b ∷ bs) e s =
      let (here, rest) = both_true (is_piece r z k c)
      (list_all (λ e. is_piece r z e.0 e.1) (enumerate_from (k + 1) cs)) e in
      ap (λ x. x ∷ bs) (piece_byte r z k c b here s.0)
      ∙ ap (λ l. byte_at k (word a r z) ∷ l)
      (subst (λ m. bs ≡ bytes_low_first m (length cs) (word a r z)) (add-one k)
      (pieces_bytes r z (k + 1) cs bs rest s.1))

  -- bytes that represent the eight pieces of a pointer are its word
  shows_pointer_in : (cs : List Cell) (bs : List ℕ) → RepresentsCells a cs bs
      → OkSpelled (pointer_in cs) bs
  shows_pointer_in [] bs s = tt
  shows_pointer_in (Unwritten ∷ cs) bs s = tt
  shows_pointer_in (Byte n ∷ cs) bs s = tt
  shows_pointer_in (Piece r z k ∷ cs) bs s = by_test (are_pieces r z (Piece r z k ∷ cs)) refl
    where
      by_test : (b : Bool) → are_pieces r z (Piece r z k ∷ cs) ≡ b
          → OkSpelled (if b then Ok (Ptr r z) else Err BadAccess) bs
      by_test true e =
          let (eight, all) = both_true (length (Piece r z k ∷ cs) == 8)
          (list_all (λ e. is_piece r z e.0 e.1) (enumerate_from 0 (Piece r z k ∷ cs))) e in
          let long : length (Piece r z k ∷ cs) ≡ 8 = grind (arith, nat_tests) in
          pieces_bytes r z 0 (Piece r z k ∷ cs) bs all s
          ∙ ap (λ n. bytes_low_first 0 n (word a r z)) long
      by_test false e = tt

  pub shows_value_in : (cs : List Cell) (bs : List ℕ) → RepresentsCells a cs bs
      → OkSpelled (value_in cs) bs
  shows_value_in cs bs s = by_unwritten (list_any is_unwritten cs)
    where
      by_bytes : (b : Bool) → list_all is_byte cs ≡ b
          → OkSpelled (if b then Ok (Num (number_of cs)) else pointer_in cs) bs
      by_bytes true e = ap number_from (bytes-shown cs bs e s)
      by_bytes false e = shows_pointer_in cs bs s

      by_unwritten : (b : Bool)
          → OkSpelled (if b then Err UnsetRead
          else if list_all is_byte cs then Ok (Num (number_of cs)) else pointer_in cs) bs
      by_unwritten true = tt
      by_unwritten false = by_bytes (list_all is_byte cs) refl
