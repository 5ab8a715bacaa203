-- The limits that an operation's result must keep, from those of its operands. `keeps` says of two
-- numbers that the result is between them.
use Rattle.std.specs.Prelude.{ℕ, zero, suc, ℤ, pos, negsuc, neg_ℤ, ◌≡◌, ◌+◌, ◌-◌, ◌*◌, ◌/◌, ◌^◌, ◌<◌, ◌≤◌, ◌+ℤ◌, ◌-ℤ◌, int_div, unsigned_abs, FitsSigned, ⊤}
use Rattle.std.specs.Int.{Width as IntWidth, w8, w16, w32, w64, cast_signed, int_shr, int_min, int_max}
use Rattle.isa_model.specs.declared.sizes.Width.{Width}
use Rattle.isa_model.specs.declared.sizes.Width.TheVariants.{Low32, Full64}
use Rattle.isa_model.specs.declared.sizes.Extension.{Extension}
use Rattle.isa_model.specs.declared.sizes.Extension.TheVariants.{Low8, Low16, Full8, Full16, Full32}
use Rattle.isa_model.specs.declared.instructions.AluOp.{AluOp}
use Rattle.isa_model.specs.declared.instructions.AluOp.TheVariants.{Add, Sub, Mul, Div, SignedDiv, Mod, SignedMod, And, Lsh, Rsh, Mov, Arsh}
use Rattle.isa_model.specs.Code.Sizes.{width_bits}
use Rattle.isa_model.specs.Code.Numbers.{shift}

-- the type of the signed numbers of a width
abbrev pub signed_of : Width → IntWidth
signed_of Low32 = w32
signed_of Full64 = w64

-- the type of what a sign extension reads
abbrev pub extension_signed : Extension → IntWidth
extension_signed Low8 = w8
extension_signed Low16 = w16
extension_signed Full8 = w8
extension_signed Full16 = w16
extension_signed Full32 = w32

-- numbers of the width up to these two are without a sign bit
abbrev pub HaveNoSign : Width → ℕ → ℕ → Type 0
HaveNoSign w a b = (a + a < 2 ^ width_bits w) × (b + b < 2 ^ width_bits w)

-- the limits of unsigned quotients and remainders. Of a division by zero the quotient is zero, and
-- the remainder the dividend
abbrev pub KeepsQuotient : ℕ → ℕ → ℕ → ℕ → (ℕ → ℕ → Type 0) → Type 0
KeepsQuotient al ag bl bg keeps = keeps 0 ag × (0 < bl → keeps (al / bg) (ag / bl))

abbrev pub KeepsRemainder : ℕ → ℕ → ℕ → ℕ → (ℕ → ℕ → Type 0) → Type 0
KeepsRemainder al ag bl bg keeps = keeps 0 ag × (0 < bl → keeps 0 (bg - 1))

-- the limits of signed quotients by a known number: those of the dividend, divided, if they are
-- signed numbers of the type. Only the least number divided by -1 is not
abbrev pub KeepsSignedQuotient : IntWidth → ℤ → ℤ → ℤ → (ℤ → ℤ → Type 0) → Type 0
KeepsSignedQuotient w al ag (pos by) keeps = keeps (int_div al (pos by)) (int_div ag (pos by))
KeepsSignedQuotient w al ag (negsuc by) keeps =
    FitsSigned w (int_div al (negsuc by)) → keeps (int_div ag (negsuc by)) (int_div al (negsuc by))

-- the limits of signed remainders of such a division: nearer to 0 than the divisor, and between the
-- dividend and 0; by zero, those of the dividend
abbrev pub KeepsSignedRemainder : ℤ → ℤ → ℕ → (ℤ → ℤ → Type 0) → Type 0
KeepsSignedRemainder al ag zero keeps = keeps al ag
KeepsSignedRemainder al ag (suc most) keeps =
    keeps (neg_ℤ (pos most)) (pos most) × keeps (int_min al (pos 0)) (int_max ag (pos 0))

-- the unsigned limits, from those of numbers of the width: a's and then b's. Nothing is asked of a
-- sum, difference, product or shift to the left that may leave the width, nor of a shift to the
-- left by an unknown distance. Of a shift to the right by an unknown distance only the greatest
-- operand is a limit. Signed quotients and remainders of numbers without a sign bit are those of
-- unsigned ones
abbrev pub KeepsUnsigned : AluOp → Width → ℕ → ℕ → ℕ → ℕ → (ℕ → ℕ → Type 0) → Type 0
KeepsUnsigned Add w al ag bl bg keeps = ag + bg < 2 ^ width_bits w → keeps (al + bl) (ag + bg)
KeepsUnsigned Sub w al ag bl bg keeps = bg ≤ al → keeps (al - bg) (ag - bl)
KeepsUnsigned Mul w al ag bl bg keeps = ag * bg < 2 ^ width_bits w → keeps (al * bl) (ag * bg)
KeepsUnsigned Div w al ag bl bg keeps = KeepsQuotient al ag bl bg keeps
KeepsUnsigned Mod w al ag bl bg keeps = KeepsRemainder al ag bl bg keeps
KeepsUnsigned SignedDiv w al ag bl bg keeps = HaveNoSign w ag bg → KeepsQuotient al ag bl bg keeps
KeepsUnsigned SignedMod w al ag bl bg keeps = HaveNoSign w ag bg → KeepsRemainder al ag bl bg keeps
KeepsUnsigned And w al ag bl bg keeps = keeps 0 ag × keeps 0 bg
KeepsUnsigned Lsh w al ag bl bg keeps =
    bl ≡ bg → ag * 2 ^ shift w bl < 2 ^ width_bits w
    → keeps (al * 2 ^ shift w bl) (ag * 2 ^ shift w bl)
KeepsUnsigned Rsh w al ag bl bg keeps =
    keeps 0 ag × (bl ≡ bg → keeps (al / 2 ^ shift w bl) (ag / 2 ^ shift w bl))
KeepsUnsigned Mov w al ag bl bg keeps = keeps bl bg
KeepsUnsigned _ w al ag bl bg keeps = ⊤

-- the signed limits, from the signed ones of numbers of the width, a's and then b's, and b's
-- unsigned ones. Nothing is asked of a sum or difference that may leave the signed numbers, nor of
-- a shift or a division by a number that is not known
abbrev pub KeepsSigned : AluOp → Width → ℤ → ℤ → ℤ → ℤ → ℕ → ℕ → (ℤ → ℤ → Type 0) → Type 0
KeepsSigned Add w al ag bl bg d e keeps =
    FitsSigned (signed_of w) (al +ℤ bl) → FitsSigned (signed_of w) (ag +ℤ bg)
    → keeps (al +ℤ bl) (ag +ℤ bg)
KeepsSigned Sub w al ag bl bg d e keeps =
    FitsSigned (signed_of w) (al -ℤ bg) → FitsSigned (signed_of w) (ag -ℤ bl)
    → keeps (al -ℤ bg) (ag -ℤ bl)
KeepsSigned Arsh w al ag bl bg d e keeps =
    d ≡ e → keeps (int_shr al (shift w d)) (int_shr ag (shift w d))
KeepsSigned SignedDiv w al ag bl bg d e keeps =
    d ≡ e → KeepsSignedQuotient (signed_of w) al ag (cast_signed (signed_of w) d) keeps
KeepsSigned SignedMod w al ag bl bg d e keeps =
    d ≡ e → KeepsSignedRemainder al ag (unsigned_abs (cast_signed (signed_of w) d)) keeps
KeepsSigned Mov w al ag bl bg d e keeps = keeps bl bg
KeepsSigned _ w al ag bl bg d e keeps = ⊤
