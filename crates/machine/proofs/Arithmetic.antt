-- Arithmetic and comparisons on words are those of the values that they represent.
use Rattle.machine.proofs.Common.{◌≡◌, ℕ, ◌+◌, ◌^◌, ◌<◌, ◌≤◌, refl, sym, ap, ◌∙◌, subst, arith, ℤ, pos, negsuc, ◌+ℤ◌, ◌-ℤ◌, Ok, Err, Result, Bool, true, false, if◌then◌else◌, nat_le, unsigned_abs, ◌==◌, nat_tests, Width, Low32, Full64, Add, Sub, Mov, Region, Value, Unset, Num, Ptr, TrapReason, OutOfRange, BadCompare, alu, low, signed, unsigned, holds, offset_limit, pointer_at, can_move, moved_to, pointer_and_number, number_and_pointer, combined, arithmetic, compared, compared_constant, packet_order, pointer_order, null_test, IsOffset, IsRegion, IsValue, Layout, IsLayout, region_start, moved, word, Represents, packet_base}
use Rattle.isa_model.specs.declared.instructions.AluOp.{AluOp}
use Rattle.isa_model.specs.declared.instructions.Comparison.{Comparison}
use Rattle.isa_model.specs.declared.instructions.Comparison.TheVariants.{Equal, NotEqual, Greater, GreaterEqual, Less, LessEqual}
use Rattle.isa_model.specs.declared.values.Region.TheVariants as region
use Rattle.isa_model.specs.Machine.Pointers as pointers
use Rattle.machine.proofs.Addresses.{add_moved, sub_moved, alu_add_swap, start_far, word_far}

-- what holds of a word for this result: it represents the value, if the result is one
abbrev pub OkShows : Layout → Result Value TrapReason → ℕ → Type 0
OkShows a (Ok v) x = Represents a v x
OkShows a (Err e) x = Unit {0}

module _ (a : Layout) (count next : ℕ) (good : IsLayout a count) where
  pub far : (r : Region) → IsRegion count next r
      → (4294967296 ≤ region_start a r) × (region_start a r < 1099511627776)
  far r h = start_far a count next r good h

  pub word_fits : (v : Value) (x : ℕ) → IsValue count next v → Represents a v x → (v ≡ Unset → ⊥)
      → x < 2 ^ 64
  word_fits Unset x h s n = absurd (n refl)
  word_fits (Num k) x h s n = omega arith
  word_fits (Ptr r z) x h s n =
      let f = far r h.0 in let g = word_far a r z f.0 f.1 h.1 in let g1 = g.1 in omega arith

  shows_at : (r : Region) (z : ℤ) (x : ℕ) → (IsOffset z → x ≡ word a r z)
      → OkShows a (pointer_at r z) x
  shows_at r z x h = by_test (nat_le (unsigned_abs z) offset_limit) refl
    where
      by_test : (b : Bool) → nat_le (unsigned_abs z) offset_limit ≡ b
          → OkShows a (if b then Ok (Ptr r z) else Err OutOfRange) x
      by_test true e = h (grind (arith, nat_tests))
      by_test false e = tt

  -- where f takes a region's address at offset z to the one at i, it takes the pointer's word there
  shows_to : (r : Region) (z i : ℤ) (f : ℕ → ℕ)
      → ((m : IsOffset i) → f (moved (region_start a r) z) ≡ moved (region_start a r) i)
      → OkShows a (moved_to r i) (f (word a r z))
  shows_to region.Packet z i f h = shows_at region.Packet i _ h
  shows_to (region.CallFrame n) z i f h = shows_at (region.CallFrame n) i _ h
  shows_to (region.MapValue m n) z i f h = shows_at (region.MapValue m n) i _ h
  shows_to region.Context z i f h = tt
  shows_to region.PacketEnd z i f h = tt
  shows_to (region.Map m) z i f h = tt

  shows_pointer_and_number : (op : AluOp) (w : Width) (r : Region) (z : ℤ) (n : ℕ)
      → IsRegion count next r → IsOffset z → n < 2 ^ 64
      → OkShows a (pointer_and_number op w r z n) (alu op w (word a r z) n)
  shows_pointer_and_number Add Full64 r z n h l f =
      let g = far r h in
      shows_to r z (z +ℤ signed Full64 n) (λ x. alu Add Full64 x n)
      (λ m. add_moved (region_start a r) n z g.0 g.1 f l m)
  shows_pointer_and_number Sub Full64 r z n h l f =
      let g = far r h in
      shows_to r z (z -ℤ signed Full64 n) (λ x. alu Sub Full64 x n)
      (λ m. sub_moved (region_start a r) n z g.0 g.1 f l m)
  shows_pointer_and_number Add Low32 r z n h l f = tt
  shows_pointer_and_number Sub Low32 r z n h l f = tt
  shows_pointer_and_number op w r z n h l f = tt

  shows_number_and_pointer : (op : AluOp) (w : Width) (n : ℕ) (r : Region) (z : ℤ)
      → IsRegion count next r → IsOffset z → n < 2 ^ 64
      → OkShows a (number_and_pointer op w n r z) (alu op w n (word a r z))
  shows_number_and_pointer Add Full64 n r z h l f =
      let g = far r h in
      shows_to r z (z +ℤ signed Full64 n) (λ x. alu Add Full64 n x)
      (λ m. alu_add_swap n (moved (region_start a r) z)
      ∙ add_moved (region_start a r) n z g.0 g.1 f l m)
  shows_number_and_pointer Add Low32 n r z h l f = tt
  shows_number_and_pointer op w n r z h l f = tt

  shows_moved : (w : Width) (v : Value) (x y : ℕ) → IsValue count next v → Represents a v y
      → OkShows a (pointers.moved w v) (alu Mov w x y)
  unfolding alu
  shows_moved w (Num n) x y h s = ap (low w) s
  shows_moved Full64 (Ptr r z) x y h s =
      let f = far r h.0 in let g = word_far a r z f.0 f.1 h.1 in let g1 = g.1 in omega arith
  shows_moved Low32 (Ptr r z) x y h s = tt
  shows_moved Low32 Unset x y h s = tt
  shows_moved Full64 Unset x y h s = tt

  shows_combined : (op : AluOp) (w : Width) (u v : Value) (x y : ℕ) → IsValue count next u
      → IsValue count next v → Represents a u x → Represents a v y
      → OkShows a (combined op w u v) (alu op w x y)
  shows_combined op w (Num m) (Num n) x y h k s t = ap (λ x. alu op w x y) s ∙ ap (alu op w m) t
  shows_combined op w (Ptr r z) (Num n) x y h k s t =
      subst (λ x. OkShows a (pointer_and_number op w r z n) x)
      (ap (λ x. alu op w x n) (sym s) ∙ ap (alu op w x) (sym t))
      (shows_pointer_and_number op w r z n h.0 h.1 k)
  shows_combined op w (Num n) (Ptr r z) x y h k s t =
      subst (λ x. OkShows a (number_and_pointer op w n r z) x)
      (ap (λ x. alu op w x (word a r z)) (sym s) ∙ ap (alu op w x) (sym t))
      (shows_number_and_pointer op w n r z k.0 k.1 h)
  shows_combined op w (Ptr r z) (Ptr q i) x y h k s t = tt
  shows_combined op w Unset v x y h k s t = tt
  shows_combined op w (Num m) Unset x y h k s t = tt
  shows_combined op w (Ptr r z) Unset x y h k s t = tt

  -- all arithmetic, on numbers and pointers
  pub shows_arithmetic : (op : AluOp) (w : Width) (u v : Value) (x y : ℕ) → IsValue count next u
      → IsValue count next v → Represents a u x → Represents a v y
      → OkShows a (arithmetic op w u v) (alu op w x y)
  shows_arithmetic Mov w u v x y h k s t = shows_moved w v x y k t
  shows_arithmetic op w u v x y h k s t = shows_combined op w u v x y h k s t

  abbrev pub OkHolds : Result Bool TrapReason → Bool → Type 0
  OkHolds (Ok b) c = b ≡ c
  OkHolds (Err e) c = Unit {0}

  -- a packet pointer against the packet end: the order of the words is that of the offsets
  end_left : (c : Comparison) (z : ℤ) → IsOffset z
      → OkHolds (packet_order c (pos a.end) z)
      (holds c Full64 (packet_base + a.end) (moved (packet_base) z))
  unfolding holds
  end_left Greater (pos n) h = let l = good.short in grind (arith, nat_tests)
  end_left Greater (negsuc n) h = let l = good.short in grind (arith, nat_tests)
  end_left GreaterEqual (pos n) h = let l = good.short in grind (arith, nat_tests)
  end_left GreaterEqual (negsuc n) h = let l = good.short in grind (arith, nat_tests)
  end_left Less (pos n) h = let l = good.short in grind (arith, nat_tests)
  end_left Less (negsuc n) h = let l = good.short in grind (arith, nat_tests)
  end_left LessEqual (pos n) h = let l = good.short in grind (arith, nat_tests)
  end_left LessEqual (negsuc n) h = let l = good.short in grind (arith, nat_tests)
  end_left c z h = tt

  end_right : (c : Comparison) (z : ℤ) → IsOffset z
      → OkHolds (packet_order c z (pos a.end))
      (holds c Full64 (moved (packet_base) z) (packet_base + a.end))
  unfolding holds
  end_right Greater (pos n) h = let l = good.short in grind (arith, nat_tests)
  end_right Greater (negsuc n) h = let l = good.short in grind (arith, nat_tests)
  end_right GreaterEqual (pos n) h = let l = good.short in grind (arith, nat_tests)
  end_right GreaterEqual (negsuc n) h = let l = good.short in grind (arith, nat_tests)
  end_right Less (pos n) h = let l = good.short in grind (arith, nat_tests)
  end_right Less (negsuc n) h = let l = good.short in grind (arith, nat_tests)
  end_right LessEqual (pos n) h = let l = good.short in grind (arith, nat_tests)
  end_right LessEqual (negsuc n) h = let l = good.short in grind (arith, nat_tests)
  end_right c z h = tt

  shows_order : (c : Comparison) (w : Width) (r : Region) (z : ℤ) (q : Region) (i : ℤ)
      → IsValue count next (Ptr r z) → IsValue count next (Ptr q i)
      → OkHolds (pointer_order a.end c w r z q i) (holds c w (word a r z) (word a q i))
  shows_order c Full64 region.Packet z region.PacketEnd i h k = end_right c z h.1
  shows_order c Full64 region.PacketEnd z region.Packet i h k = end_left c i k.1
  shows_order c w r z q i h k = tt

  -- all comparisons
  pub shows_compared : (c : Comparison) (w : Width) (u v : Value) (x y : ℕ) → IsValue count next u
      → IsValue count next v → Represents a u x → Represents a v y
      → OkHolds (compared a.end c w u v) (holds c w x y)
  shows_compared c w (Num m) (Num n) x y h k s t =
      ap (λ x. holds c w x n) (sym s) ∙ ap (holds c w x) (sym t)
  shows_compared c w (Num m) (Ptr q i) x y h k s t = tt
  shows_compared c w (Ptr r z) (Num n) x y h k s t = tt
  shows_compared c w Unset v x y h k s t = tt
  shows_compared c w (Num m) Unset x y h k s t = tt
  shows_compared c w (Ptr r z) Unset x y h k s t = tt
  shows_compared c w (Ptr r z) (Ptr q i) x y h k s t =
      subst (λ x. OkHolds (pointer_order a.end c w r z q i) (holds c w x y)) (sym s)
      (subst (λ y. OkHolds (pointer_order a.end c w r z q i) (holds c w (word a r z) y)) (sym t)
      (shows_order c w r z q i h k))

  null : (c : Comparison) (w : Width) (r : Region) (z : ℤ) (x : ℕ) → word a r z ≡ x
      → IsValue count next (Ptr r z) → OkHolds (null_test c w r) (holds c w x (unsigned w (pos 0)))
  unfolding holds
  null Equal Full64 (region.MapValue m n) z x e h =
      let f = far (region.MapValue m n) h.0 in
      let g = word_far a (region.MapValue m n) z f.0 f.1 h.1 in
      let g0 = g.0 in let g1 = g.1 in grind (arith, nat_tests)
  null NotEqual Full64 (region.MapValue m n) z x e h =
      let f = far (region.MapValue m n) h.0 in
      let g = word_far a (region.MapValue m n) z f.0 f.1 h.1 in
      let g0 = g.0 in let g1 = g.1 in grind (arith, nat_tests)
  null c w r z x e h = tt

  pub shows_compared_constant : (c : Comparison) (w : Width) (u : Value) (k : ℤ) (x : ℕ)
      → IsValue count next u → Represents a u x
      → OkHolds (compared_constant c w u k) (holds c w x (unsigned w k))
  shows_compared_constant c w (Num m) k x h s = ap (λ x. holds c w x (unsigned w k)) (sym s)
  shows_compared_constant c w (Ptr r z) (pos k) x h s = by_test (k == 0) refl
    where
      by_test : (b : Bool) → (k == 0) ≡ b
          → OkHolds (if b then null_test c w r else Err BadCompare)
          (holds c w x (unsigned w (pos k)))
      by_test true e =
          let zero : 0 ≡ k = grind (arith, nat_tests) in
          subst (λ k. OkHolds (null_test c w r) (holds c w x (unsigned w (pos k)))) zero
          (null c w r z x (sym s) h)
      by_test false e = tt
  shows_compared_constant c w (Ptr r z) (negsuc k) x h s = tt
  shows_compared_constant c w Unset k x h s = tt
