-- Signs, the longest that fits.
use Rattle.std.specs.Prelude.{ℕ, ◌+◌, ◌==◌, ◌&&◌, if◌then◌else◌, Option, Some, None}
use Rattle.assembler.specs.declared.tokens.Sign.{Sign}
use Rattle.assembler.specs.declared.tokens.Sign.TheVariants as sign
use Rattle.assembler.specs.declared.tokens.Token.TheVariants.{Signed}
use Rattle.assembler.specs.declared.tokens.Lexeme.{Lexeme}
use Rattle.assembler.specs.declared.tokens.Lexeme.TheVariants.{Solid}

abbrev pub found : Sign → ℕ → Option (Lexeme × ℕ)
found s n = Some (Solid (Signed s), n)

-- a sign that ends with = or without it
abbrev pub with_equals : ℕ → ℕ → Sign → Sign → Option (Lexeme × ℕ)
with_equals b n long short = if b == 61 then found long (n + 1) else found short n

abbrev pub only_equals : ℕ → ℕ → Sign → Option (Lexeme × ℕ)
only_equals b n long = if b == 61 then found long (n + 1) else None

-- the longest sign that begins these three bytes; those that begin with s are below
abbrev pub sign_of : ℕ → ℕ → ℕ → Option (Lexeme × ℕ)
sign_of a b c =
    if a == 40 then found sign.Open 1
    else if a == 41 then found sign.Close 1
    else if a == 44 then found sign.Comma 1
    else if a == 58 then found sign.Colon 1
    else if a == 42 then with_equals b 1 sign.MulAssign sign.Star
    else if a == 43 then with_equals b 1 sign.AddAssign sign.Plus
    else if a == 45 then with_equals b 1 sign.SubAssign sign.Minus
    else if a == 38 then with_equals b 1 sign.AndAssign sign.Ampersand
    else if a == 61 then with_equals b 1 sign.Equal sign.Assign
    else if a == 47 then only_equals b 1 sign.DivAssign
    else if a == 37 then only_equals b 1 sign.ModAssign
    else if a == 124 then only_equals b 1 sign.OrAssign
    else if a == 94 then only_equals b 1 sign.XorAssign
    else if a == 33 then only_equals b 1 sign.NotEqual
    else if a == 60
    then (if (b == 60) && (c == 61) then found sign.LshAssign 3
    else with_equals b 1 sign.LessEqual sign.Less)
    else if a == 62
    then (if (b == 62) && (c == 61) then found sign.RshAssign 3
    else with_equals b 1 sign.GreaterEqual sign.Greater)
    else None

-- the longest sign that begins with s and goes on with these bytes
abbrev pub signed_sign : ℕ → ℕ → ℕ → Option (Lexeme × ℕ)
signed_sign b c d =
    if b == 62 then (if (c == 62) && (d == 61) then found sign.ArshAssign 4
    else with_equals c 2 sign.SignedGreaterEqual sign.SignedGreater)
    else if b == 60 then with_equals c 2 sign.SignedLessEqual sign.SignedLess
    else if b == 47 then only_equals c 2 sign.SignedDivAssign
    else if b == 37 then only_equals c 2 sign.SignedModAssign
    else None
