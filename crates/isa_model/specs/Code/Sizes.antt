-- Widths and sizes in numbers. RFC 9669, sections 3.3, 4.2, 5.1 and 5.2.
use Rattle.std.specs.Prelude.{ℕ}
use Rattle.isa_model.specs.declared.sizes.Width.{Width}
use Rattle.isa_model.specs.declared.sizes.Width.TheVariants.{Low32, Full64}
use Rattle.isa_model.specs.declared.sizes.Size.{Size}
use Rattle.isa_model.specs.declared.sizes.Size.TheVariants.{U8, U16, U32, U64}
use Rattle.isa_model.specs.declared.sizes.SignedSize.{SignedSize}
use Rattle.isa_model.specs.declared.sizes.SignedSize.TheVariants.{S8, S16, S32}
use Rattle.isa_model.specs.declared.sizes.Extension.{Extension}
use Rattle.isa_model.specs.declared.sizes.Extension.TheVariants.{Low8, Low16, Full8, Full16, Full32}
use Rattle.isa_model.specs.declared.sizes.SwapWidth.{SwapWidth}
use Rattle.isa_model.specs.declared.sizes.SwapWidth.TheVariants.{B16, B32, B64}

abbrev pub width_bits : Width → ℕ
width_bits Low32 = 32
width_bits Full64 = 64

abbrev pub size_bytes : Size → ℕ
size_bytes U8 = 1
size_bytes U16 = 2
size_bytes U32 = 4
size_bytes U64 = 8

abbrev pub span_bits : SwapWidth → ℕ
span_bits B16 = 16
span_bits B32 = 32
span_bits B64 = 64

-- what an atomic instruction of the width reads and writes
abbrev pub width_size : Width → Size
width_size Low32 = U32
width_size Full64 = U64

-- what a sign-extending load reads
abbrev pub unsigned_size : SignedSize → Size
unsigned_size S8 = U8
unsigned_size S16 = U16
unsigned_size S32 = U32

-- a sign-extending load fills the whole register
abbrev pub size_extension : SignedSize → Extension
size_extension S8 = Full8
size_extension S16 = Full16
size_extension S32 = Full32

-- how many low bits are read
abbrev pub extension_bits : Extension → ℕ
extension_bits Low8 = 8
extension_bits Low16 = 16
extension_bits Full8 = 8
extension_bits Full16 = 16
extension_bits Full32 = 32

-- the width that they are extended to
abbrev pub extension_width : Extension → Width
extension_width Low8 = Low32
extension_width Low16 = Low32
extension_width Full8 = Full64
extension_width Full16 = Full64
extension_width Full32 = Full64
