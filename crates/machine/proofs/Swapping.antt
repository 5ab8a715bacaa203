-- Numbers loaded and swapped: signed loads, and atomic instructions.
use Rattle.machine.proofs.Common.{◌≡◌, ℕ, ◌<◌, List, length, sym, ap, subst, arith, ℤ, pos, ◌+ℤ◌, Ok, Err, Result, Bool, true, false, IfOk, w16, FitsSigned, Reg, Width, Full64, Size, U8, U16, U32, U64, Add, Region, Value, Unset, Num, Ptr, Cell, TrapReason, BadPointer, reg_number, size_bytes, width_size, unsigned_size, size_extension, alu, unsigned, sign_extended, bytes_of, number_from, Program, State, and_then, index_at, read, number_in, load_number, load_signed, store_number, base_of, atomic_number, swaps_in, fetched_into, IsValue, IsState, reg_fits, Layout, region_start, moved, word, Represents, Related}
use Rattle.isa_model.specs.declared.sizes.SignedSize.{SignedSize}
use Rattle.isa_model.specs.declared.instructions.Place.{Place}
use Rattle.isa_model.specs.declared.values.Region.TheVariants as region
use Rattle.isa_model.proofs.AccessLaws.{store_number_keeps}
use Rattle.word_machine.specs.Words.{Words, word_at, address_of, spot_of, IsInside, get, number_at, swaps, old_number, fetched_regs, put as words_put}
use Rattle.machine.proofs.Addresses.{add_near}
use Rattle.machine.proofs.Arithmetic.{far, OkShows}
use Rattle.machine.proofs.Cells.{OkNumber, shows_number_in}
use Rattle.machine.proofs.Loading.{OkRead, shows_read}
use Rattle.machine.proofs.Storing.{OkStore, bytes_long, shows_store_number}
use Rattle.machine.proofs.Registers.{set_related}

module _ (p : Program) (a : Layout) (s : State) (w : Words) (R : Related p a s w)
    (K : IsState p s) where
  -- ---- numbers loaded

  abbrev pub OkFound : ℕ → Result ℕ TrapReason → ℕ → Type 0
  OkFound n (Ok k) x = IsInside w (spot_of x) n × (number_from (get w (spot_of x) n) ≡ k)
  OkFound n (Err e) x = Unit {0}

  found_number : (n x : ℕ) (r : Result (List Cell) TrapReason) → OkRead p a s w R K n r x
      → OkFound n (and_then r number_in) x
  found_number n x (Err e) h = tt
  found_number n x (Ok cs) h =
      with_number (number_in cs) (shows_number_in a cs (get w (spot_of x) n) h.1)
    where
      with_number : (r : Result ℕ TrapReason) → OkNumber a r (number_from (get w (spot_of x) n))
          → OkFound n r x
      with_number (Ok k) g = (h.0, g)
      with_number (Err e) g = tt

  some_size : (size : Size) → 0 < size_bytes size
  some_size U8 = omega arith
  some_size U16 = omega arith
  some_size U32 = omega arith
  some_size U64 = omega arith

  pub shows_load_number : (size : Size) (v : Value) (by : ℤ) (x : ℕ)
      → IsValue (length p.maps) s.next_serial v → FitsSigned w16 by → Represents a v x
      → OkFound (size_bytes size) (load_number s size v by) (alu Add Full64 x (unsigned Full64 by))
  shows_load_number size (Num n) by x fits small e = tt
  shows_load_number size Unset by x fits small e = tt
  shows_load_number size (Ptr r z) by x fits small e =
      let f = far a (length p.maps) s.next_serial R.layout r fits.0 in
      let at = add_near (region_start a r) z by f.0 f.1 fits.1 small in
      subst (λ x. OkFound (size_bytes size) (load_number s size (Ptr r z) by)
      (alu Add Full64 x (unsigned Full64 by))) (sym e) (by_region r at)
    where
      through : (r : Region) (x : ℕ) → pos x ≡ pos (region_start a r) +ℤ (z +ℤ by)
          → OkFound (size_bytes size) (load_number s size (Ptr r z) by) x
      through r x at =
          found_number (size_bytes size) x (read s r (index_at r (z +ℤ by)) (size_bytes size))
          (shows_read p a s w R K r (z +ℤ by) (size_bytes size) x (some_size size) at)

      by_region : (r : Region)
          → pos (alu Add Full64 (moved (region_start a r) z) (unsigned Full64 by))
          ≡ pos (region_start a r) +ℤ (z +ℤ by)
          → OkFound (size_bytes size) (load_number s size (Ptr r z) by)
          (alu Add Full64 (word a r z) (unsigned Full64 by))
      by_region region.Context at = through region.Context _ at
      by_region region.Packet at = through region.Packet _ at
      by_region (region.Map m) at = through (region.Map m) _ at
      by_region (region.CallFrame m) at = through (region.CallFrame m) _ at
      by_region (region.MapValue m k) at = through (region.MapValue m k) _ at
      by_region region.PacketEnd at = tt

  -- a load that is sign-extended
  pub shows_load_signed : (size : SignedSize) (v : Value) (by : ℤ) (x : ℕ)
      → IsValue (length p.maps) s.next_serial v → FitsSigned w16 by → Represents a v x
      → OkShows a (load_signed s size v by)
      (sign_extended (size_extension size)
      (number_at w (unsigned_size size) (alu Add Full64 x (unsigned Full64 by))))
      × IfOk (load_signed s size v by)
      (λ u. IsInside w (spot_of (alu Add Full64 x (unsigned Full64 by)))
      (size_bytes (unsigned_size size)))
  shows_load_signed size v by x fits small e =
      by_number (load_number s (unsigned_size size) v by)
      (shows_load_number (unsigned_size size) v by x fits small e)
    where
      by_number : (r : Result ℕ TrapReason)
          → OkFound (size_bytes (unsigned_size size)) r (alu Add Full64 x (unsigned Full64 by))
          → OkShows a (and_then r (λ n. Ok (Num (sign_extended (size_extension size) n))))
          (sign_extended (size_extension size)
          (number_at w (unsigned_size size) (alu Add Full64 x (unsigned Full64 by))))
          × IfOk (and_then r (λ n. Ok (Num (sign_extended (size_extension size) n))))
          (λ u. IsInside w (spot_of (alu Add Full64 x (unsigned Full64 by)))
          (size_bytes (unsigned_size size)))
      by_number (Ok n) h = (ap (sign_extended (size_extension size)) h.1, h.0)
      by_number (Err e) h = (tt, tt)

  -- ---- numbers swapped

  -- the words after a swap, with the old number put into a register or not
  abbrev pub swapped : Width → Place → (ℕ → ℕ) → Bool → Reg → Words
  swapped width place new keeps r =
      record (swaps w width place new)
      { regs = fetched_regs keeps w.regs (reg_number r) (old_number w width place) }

  kept_related : (t : State) (u : Words) (keeps : Bool) (r : Reg) (old x : ℕ) → IsState p t
      → Related p a t u → x ≡ old
      → Related p a (fetched_into keeps r old t)
      (record u { regs = fetched_regs keeps u.regs (reg_number r) x })
  kept_related t u true r old x k h e = set_related p a t u r (Num old) x k.registers h e
  kept_related t u false r old x k h e = h

  module _ (width : Width) (place : Place) (new : ℕ → ℕ) (keeps : Bool) (r : Reg)
      (small : FitsSigned w16 place.offset) where
    abbrev size : Size
    size = width_size width

    abbrev base : Value
    base = base_of s place

    abbrev x : ℕ
    x = address_of w place

    abbrev Q : State → Type 0
    Q t = IsInside w (spot_of x) (size_bytes size) × Related p a t (swapped width place new keeps r)

    after_store : (old : ℕ) → number_at w size x ≡ old → (q : Result State TrapReason)
        → OkStore p a s w R K q x (bytes_of size (new old)) → IfOk q (IsState p)
        → IfOk (and_then q (λ t. Ok (fetched_into keeps r old t))) Q
    after_store old e (Err f) h k = tt
    after_store old e (Ok t) h k = (
      subst (IsInside w (spot_of x)) (bytes_long p a s w R K size (new old)) h.0,
      subst (λ n. Related p a (fetched_into keeps r old t)
          (record (words_put w (spot_of x) (bytes_of size (new n)))
          { regs = fetched_regs keeps w.regs (reg_number r) (number_at w size x) })) (sym e)
          (kept_related t (words_put w (spot_of x) (bytes_of size (new old))) keeps r old
          (number_at w size x) k h.1 e),
    )

    after_load : (q : Result ℕ TrapReason) → OkFound (size_bytes size) q x
        → IfOk (and_then q
        (λ old. and_then (store_number s size base place.offset (new old))
        (λ t. Ok (fetched_into keeps r old t)))) Q
    after_load (Err f) h = tt
    after_load (Ok old) h =
        after_store old h.1 (store_number s size base place.offset (new old))
        (shows_store_number p a s w R K size base place.offset (new old) (word_at w place.base)
        (reg_fits p s place.base K) small (R.registers.shown (reg_number place.base)))
        (store_number_keeps p s size base place.offset (new old) K)

    pub shows_swap : IfOk (swaps_in s width place new (fetched_into keeps r)) Q
    shows_swap =
        after_load (load_number s size base place.offset)
        (shows_load_number size base place.offset (word_at w place.base)
        (reg_fits p s place.base K) small (R.registers.shown (reg_number place.base)))

  -- an operand that is a number
  pub with_number : (Q : Result State TrapReason → Type 0) → ((e : TrapReason) → Q (Err e))
      → (v : Value) (x : ℕ) → Represents a v x → (go : ℕ → Result State TrapReason)
      → Q (go x) → Q (and_then (atomic_number v) go)
  with_number Q traps Unset x shown go next = traps BadPointer
  with_number Q traps (Ptr r z) x shown go next = traps BadPointer
  with_number Q traps (Num n) x shown go next = subst (λ k. Q (go k)) shown next
