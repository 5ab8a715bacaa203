-- Which tokens were read where a part of a statement was found that spells a place, a target, the
-- index of a map, an operation, a size or a width.
use Rattle.assembler.proofs.Common.{◌≡◌, ℕ, suc, ◌+◌, ◌-◌, ◌<◌, ◌≤◌, ◌^◌, length, List, [], ◌∷◌, refl, sym, ap, ◌∙◌, subst, inl, inr, arith, ◌≢◌, Bool, Option, Some, None, Ok, Err, true, false, ◌==◌, if◌then◌else◌, slice_get, nat_lt, nat_le, ℤ, pos, Width, Low32, Full64, Size, SignedSize, Extension, Low8, Low16, Full8, Full16, Full32, AluOp, AtomicOp, Comparison, Place, Insn, width_size, Word, Sign, Token, Named, Number, Signed, Reading, Form, Range, keep, token_at, number_at, word_at, expect_at, op_of, atomic_op_of, comparison_of, width_of, extension_of, wide_within, signed_at, place_at, memory_at, argument_at, as_size, as_signed_size, is_name, target_token, target_at, field_at, is_by_index, index_at, by_index_at, plain, is_wide, wide_at, assigns, changes, compares, extends, reg, IsSigned, field, IsTarget}
use Rattle.isa_model.specs.declared.sizes.Size.TheVariants.{U32, U64}
use Rattle.isa_model.specs.declared.sizes.SignedSize.TheVariants.{S8, S16, S32}
use Rattle.isa_model.specs.declared.instructions.AluOp.TheVariants as op
use Rattle.isa_model.specs.declared.instructions.AtomicOp.TheVariants as atomic
use Rattle.isa_model.specs.declared.instructions.Comparison.TheVariants as comparison
use Rattle.assembler.specs.declared.tokens.Word.TheVariants as word
use Rattle.assembler.specs.declared.tokens.Sign.TheVariants as sign
use Rattle.assembler.proofs.SpellsTokens.{bind, kept, passed, At, token, number_at_token, word_at_token, expected, signed, based, HasTokensAt, equal, below, within}

abbrev some : Token → Option Token
some t = Some t

-- ---- places

-- *(size *)(P)
pub memory_at_tokens : (ts : List Token) (i : ℕ) (m : Word × Place) → memory_at ts i ≡ Ok m
    → (s : Sign) × (n : ℕ) × IsSigned (2 ^ 15) s n m.1.offset
    × At ts i (Signed sign.Star) × At ts (i + 1) (Signed sign.Open) × At ts (i + 2) (Named m.0)
    × At ts (i + 3) (Signed sign.Star) × At ts (i + 4) (Signed sign.Close)
    × At ts (i + 5) (Signed sign.Open)
    × At ts (i + 6) (reg Full64 m.1.base) × At ts (i + 6 + 1) (Signed s)
    × At ts (i + 6 + 1 + 1) (Number n) × At ts (i + 9) (Signed sign.Close)
memory_at_tokens ts i m h =
    let (u0, star, h1) = bind (expect_at ts i sign.Star) _ m h in
    let (u1, opens, h2) = bind (expect_at ts (i + 1) sign.Open) _ m h1 in
    let (size, sized, h3) = bind (word_at ts (i + 2)) _ m h2 in
    let (u3, starred, h4) = bind (expect_at ts (i + 3) sign.Star) _ m h3 in
    let (u4, closes, h5) = bind (expect_at ts (i + 4) sign.Close) _ m h4 in
    let (u5, reopens, h6) = bind (expect_at ts (i + 5) sign.Open) _ m h5 in
    let (p, placed, h7) = bind (place_at ts (i + 6)) _ m h6 in
    let (u7, recloses, pair) = bind (expect_at ts (i + 9) sign.Close) _ m h7 in
    let same : (let q : Word × Place = (size, p) in q) ≡ m = cc (pair) in
    let (s, n, base, signs, number, is) = based ts (i + 6) p placed in (
      s,
      n,
      subst (λ (q : Word × Place). IsSigned (2 ^ 15) s n q.1.offset) same is,
      expected ts i sign.Star u0 star,
      expected ts (i + 1) sign.Open u1 opens,
      word_at_token ts (i + 2) size sized ∙ ap (λ (q : Word × Place). some (Named q.0)) same,
      expected ts (i + 3) sign.Star u3 starred,
      expected ts (i + 4) sign.Close u4 closes,
      expected ts (i + 5) sign.Open u5 reopens,
      base ∙ ap (λ (q : Word × Place). some (reg Full64 q.1.base)) same,
      signs,
      number,
      expected ts (i + 9) sign.Close u7 recloses,
    )

-- (P, for the first argument of a form that is written like a function
pub argument_at_tokens : (ts : List Token) (i : ℕ) (p : Place) → argument_at ts i ≡ Ok p
    → (s : Sign) × (n : ℕ) × IsSigned (2 ^ 15) s n p.offset
    × At ts i (Signed sign.Open) × At ts (i + 1) (reg Full64 p.base) × At ts (i + 1 + 1) (Signed s)
    × At ts (i + 1 + 1 + 1) (Number n) × At ts (i + 4) (Signed sign.Comma)
argument_at_tokens ts i p h =
    let (u0, opens, h1) = bind (expect_at ts i sign.Open) _ p h in
    let (q, placed, h2) = bind (place_at ts (i + 1)) _ p h1 in
    let (u2, comma, pair) = bind (expect_at ts (i + 4) sign.Comma) _ p h2 in
    let same : q ≡ p = cc (pair) in
    let (s, n, base, signs, number, is) = based ts (i + 1) q placed in (
      s,
      n,
      subst (λ (z : Place). IsSigned (2 ^ 15) s n z.offset) same is,
      expected ts i sign.Open u0 opens,
      base ∙ ap (λ (z : Place). some (reg Full64 z.base)) same,
      signs,
      number,
      expected ts (i + 4) sign.Comma u2 comma,
    )

-- ---- targets

is_name_not : (x : Word) → is_name x ≡ true → x ≢ word.Pc
is_name_not x h e =
    let no : is_name word.Pc ≡ true = subst (λ (y : Word). is_name y ≡ true) e h in absurd (cc)

named_target : (limit : ℕ) (ts : List Token) (i : ℕ) (x : Word) (t : ℤ × Option ℕ) (b : Bool)
    → is_name x ≡ b
    → (if b then keep (length ts == i + 1) (let z : ℤ × Option ℕ = (pos 0, Some i) in z)
    else Err Form) ≡ Ok t → At ts i (Named x)
    → (xs : List Token) × IsTarget limit xs t.0 i t.1 × HasTokensAt ts i xs
    × (length ts ≡ i + length xs)
named_target limit ts i x t false is h here = absurd (cc)
named_target limit ts i x t true is h here =
    let (b, same) = kept (length ts == i + 1) (let z : ℤ × Option ℕ = (pos 0, Some i) in z) t h in (
      Named x ∷ [],
      inr (
        x,
        refl,
        is_name_not x is,
        ap (λ (q : ℤ × Option ℕ). q.0) (sym same),
        ap (λ (q : ℤ × Option ℕ). q.1) (sym same),
      ),
      (here, tt),
      equal (length ts) (i + 1) b,
    )

target_of : (limit : ℕ) (ts : List Token) (i : ℕ) (t : Token) (x : ℤ × Option ℕ) → At ts i t
    → target_token limit ts i t ≡ Ok x
    → (xs : List Token) × IsTarget limit xs x.0 i x.1 × HasTokensAt ts i xs
    × (length ts ≡ i + length xs)
target_of limit ts i (Signed m) x here h =
    let (by, distance, rest) = bind (signed_at limit ts i) _ x h in
    let (s, n, signs, number, is) = signed limit ts i by distance in
    let (b, same) = kept (length ts == i + 2) (let z : ℤ × Option ℕ = (by, None) in z) x rest in
    let next : i + 1 ≡ suc i = omega arith in (
      Signed s ∷ Number n ∷ [],
      inl (
        s,
        n,
        refl,
        subst (λ (q : ℤ × Option ℕ). IsSigned limit s n q.0) same is,
        ap (λ (q : ℤ × Option ℕ). q.1) (sym same),
      ),
      (signs, (subst (λ j. At ts j (Number n)) next number, tt)),
      equal (length ts) (i + 2) b,
    )
target_of limit ts i (Named y) x here h = named_target limit ts i y x (is_name y) refl h here
target_of limit ts i (Number n) x here h = absurd (cc)

pub target : (limit : ℕ) (ts : List Token) (i : ℕ) (x : ℤ × Option ℕ) → target_at limit ts i ≡ Ok x
    → (xs : List Token) × IsTarget limit xs x.0 i x.1 × HasTokensAt ts i xs
    × (length ts ≡ i + length xs)
target limit ts i x h =
    let (t, here, is) = bind (token_at ts i) (target_token limit ts i) x h in
    target_of limit ts i t x (token ts i t here) is

-- ---- maps

-- a number of a field of 32 bits
pub field_at_token : (ts : List Token) (i m : ℕ) → field_at 4294967295 ts i ≡ Ok m
    → (n : ℕ) × At ts i (Number n) × (m ≡ field n)
field_at_token ts i m h =
    let (n, number, last) = bind (number_at ts i) _ m h in
    let same : field n ≡ m = cc (last) in
    (n, number_at_token ts i n number, sym same)

-- (n)
pub index_at_tokens : (ts : List Token) (i m : ℕ) → index_at ts i ≡ Ok m
    → (n : ℕ) × (m ≡ field n) × At ts i (Signed sign.Open) × At ts (i + 1) (Number n)
    × At ts (i + 2) (Signed sign.Close)
index_at_tokens ts i m h =
    let (u0, opens, h1) = bind (expect_at ts i sign.Open) _ m h in
    let (k, there, h2) = bind (field_at 4294967295 ts (i + 1)) _ m h1 in
    let (u2, closes, last) = bind (expect_at ts (i + 2) sign.Close) _ m h2 in
    let same : k ≡ m = cc (last) in
    let (n, number, is) = field_at_token ts (i + 1) k there in (
      n,
      sym same ∙ is,
      expected ts i sign.Open u0 opens,
      number,
      expected ts (i + 2) sign.Close u2 closes,
    )

by_index_word : (x : Word) → is_by_index x ≡ true → x ≡ word.MapByIndex
by_index_word word.MapByIndex h = refl
by_index_word x h = absurd (cc)

by_index_of : (ts : List Token) (i : ℕ) (x : Word) (b : Bool) (m : ℕ) → At ts i (Named x)
    → is_by_index x ≡ b → (if b then index_at ts (i + 1) else Err Form) ≡ Ok m
    → (n : ℕ) × (m ≡ field n) × At ts i (Named word.MapByIndex) × At ts (i + 1) (Signed sign.Open)
    × At ts (i + 1 + 1) (Number n) × At ts (i + 1 + 2) (Signed sign.Close)
by_index_of ts i x false m here is h = absurd (cc)
by_index_of ts i x true m here is h =
    let (n, index, opens, number, closes) = index_at_tokens ts (i + 1) m h in
    (n, index, here ∙ ap (λ (y : Word). some (Named y)) (by_index_word x is), opens, number, closes)

-- map_by_idx(n)
pub by_index_at_tokens : (ts : List Token) (i m : ℕ) → by_index_at ts i ≡ Ok m
    → (n : ℕ) × (m ≡ field n) × At ts i (Named word.MapByIndex) × At ts (i + 1) (Signed sign.Open)
    × At ts (i + 1 + 1) (Number n) × At ts (i + 1 + 2) (Signed sign.Close)
by_index_at_tokens ts i m h =
    let (x, here, rest) = bind (word_at ts i) _ m h in
    by_index_of ts i x (is_by_index x) m (word_at_token ts i x here) refl rest

-- ---- signs, sizes and widths

pub op_in : (s : Sign) (o : AluOp) → op_of s ≡ Ok o → s ≡ assigns o
op_in sign.Assign o h = let same : op.Mov ≡ o = cc in ap assigns same
op_in sign.AddAssign o h = let same : op.Add ≡ o = cc in ap assigns same
op_in sign.SubAssign o h = let same : op.Sub ≡ o = cc in ap assigns same
op_in sign.MulAssign o h = let same : op.Mul ≡ o = cc in ap assigns same
op_in sign.DivAssign o h = let same : op.Div ≡ o = cc in ap assigns same
op_in sign.SignedDivAssign o h = let same : op.SignedDiv ≡ o = cc in ap assigns same
op_in sign.ModAssign o h = let same : op.Mod ≡ o = cc in ap assigns same
op_in sign.SignedModAssign o h = let same : op.SignedMod ≡ o = cc in ap assigns same
op_in sign.OrAssign o h = let same : op.Or ≡ o = cc in ap assigns same
op_in sign.AndAssign o h = let same : op.And ≡ o = cc in ap assigns same
op_in sign.XorAssign o h = let same : op.Xor ≡ o = cc in ap assigns same
op_in sign.LshAssign o h = let same : op.Lsh ≡ o = cc in ap assigns same
op_in sign.RshAssign o h = let same : op.Rsh ≡ o = cc in ap assigns same
op_in sign.ArshAssign o h = let same : op.Arsh ≡ o = cc in ap assigns same
op_in s o h = absurd (cc)

pub atomic_in : (s : Sign) (o : AtomicOp) → atomic_op_of s ≡ Ok o → s ≡ changes o
atomic_in sign.AddAssign o h = let same : atomic.Add ≡ o = cc in ap changes same
atomic_in sign.OrAssign o h = let same : atomic.Or ≡ o = cc in ap changes same
atomic_in sign.AndAssign o h = let same : atomic.And ≡ o = cc in ap changes same
atomic_in sign.XorAssign o h = let same : atomic.Xor ≡ o = cc in ap changes same
atomic_in s o h = absurd (cc)

pub comparison_in : (s : Sign) (c : Comparison) → comparison_of s ≡ Ok c → s ≡ compares c
comparison_in sign.Equal c h = let same : comparison.Equal ≡ c = cc in ap compares same
comparison_in sign.NotEqual c h = let same : comparison.NotEqual ≡ c = cc in ap compares same
comparison_in sign.Greater c h = let same : comparison.Greater ≡ c = cc in ap compares same
comparison_in sign.GreaterEqual c h =
    let same : comparison.GreaterEqual ≡ c = cc in ap compares same
comparison_in sign.Less c h = let same : comparison.Less ≡ c = cc in ap compares same
comparison_in sign.LessEqual c h = let same : comparison.LessEqual ≡ c = cc in ap compares same
comparison_in sign.Ampersand c h = let same : comparison.AnyBit ≡ c = cc in ap compares same
comparison_in sign.SignedGreater c h =
    let same : comparison.SignedGreater ≡ c = cc in ap compares same
comparison_in sign.SignedGreaterEqual c h =
    let same : comparison.SignedGreaterEqual ≡ c = cc in ap compares same
comparison_in sign.SignedLess c h = let same : comparison.SignedLess ≡ c = cc in ap compares same
comparison_in sign.SignedLessEqual c h =
    let same : comparison.SignedLessEqual ≡ c = cc in ap compares same
comparison_in s c h = absurd (cc)

pub width_in : (size : Size) (w : Width) → width_of size ≡ Ok w → size ≡ width_size w
width_in U32 w h = let same : Low32 ≡ w = cc in ap width_size same
width_in U64 w h = let same : Full64 ≡ w = cc in ap width_size same
width_in size w h = absurd (cc)

pub extension_in : (w : Width) (size : SignedSize) (e : Extension) → extension_of w size ≡ Ok e
    → (w ≡ (extends e).0) × (size ≡ (extends e).1)
extension_in Low32 S8 e h =
    let same : Low8 ≡ e = cc in (ap (λ x. (extends x).0) same, ap (λ x. (extends x).1) same)
extension_in Low32 S16 e h =
    let same : Low16 ≡ e = cc in (ap (λ x. (extends x).0) same, ap (λ x. (extends x).1) same)
extension_in Low32 S32 e h = absurd (cc)
extension_in Full64 S8 e h =
    let same : Full8 ≡ e = cc in (ap (λ x. (extends x).0) same, ap (λ x. (extends x).1) same)
extension_in Full64 S16 e h =
    let same : Full16 ≡ e = cc in (ap (λ x. (extends x).0) same, ap (λ x. (extends x).1) same)
extension_in Full64 S32 e h =
    let same : Full32 ≡ e = cc in (ap (λ x. (extends x).0) same, ap (λ x. (extends x).1) same)

pub size_in : (x : Word) (size : Size) → as_size x ≡ Ok size → x ≡ word.Unsigned size
size_in (word.Unsigned q) size h = let same : q ≡ size = cc in ap word.Unsigned same
size_in x size h = absurd (cc)

pub signed_size_in : (x : Word) (size : SignedSize) → as_signed_size x ≡ Ok size
    → x ≡ word.SignExtended size
signed_size_in (word.SignExtended q) size h = let same : q ≡ size = cc in ap word.SignExtended same
signed_size_in x size h = absurd (cc)

-- `ll`
wide_word : (o : Option Token) → is_wide o ≡ true → o ≡ Some (Named word.Wide)
wide_word (Some (Named word.Wide)) h = refl
wide_word (Some (Named x)) h = absurd (cc)
wide_word (Some (Number n)) h = absurd (cc)
wide_word (Some (Signed s)) h = absurd (cc)
wide_word None h = absurd (cc)

pub wide_at_token : (ts : List Token) (i : ℕ) → wide_at ts i ≡ true → At ts i (Named word.Wide)
wide_at_token ts i h = wide_word (slice_get ts i) h

pub wide_number : (at n k : ℕ) → wide_within at false n ≡ Ok k → (n < 2 ^ 64) × (k ≡ n)
wide_number at n k h =
    let (b, same) = passed (nat_lt n (2 ^ 64)) n (Range at) k h in (below n (2 ^ 64) b, sym same)

pub wide_negative : (at n k : ℕ) → wide_within at true n ≡ Ok k
    → (n ≤ 2 ^ 63) × (k ≡ (if n == 0 then 0 else 2 ^ 64 - n))
wide_negative at n k h =
    let (b, same) = passed (nat_le n (2 ^ 63)) (if n == 0 then 0 else 2 ^ 64 - n) (Range at) k h in
    (within n (2 ^ 63) b, sym same)

-- an instruction that ends before an index
pub ends_at : (ts : List Token) (i : Insn) (n : ℕ) (r : Reading) → plain i ts n ≡ Ok r
    → (length ts ≡ n) × ((let q : Reading = record { insn = i; name = None } in q) ≡ r)
ends_at ts i n r h =
    let (b, same) =
    kept (length ts == n) (let q : Reading = record { insn = i; name = None } in q) r h in
    (equal (length ts) n b, same)
