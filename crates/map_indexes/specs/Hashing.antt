-- Which chain a key is in. The multiplier spreads keys that count up, and addresses of one network
-- with ports.
use Rattle.std.specs.Prelude.{ℕ, zero, suc, ◌+◌, ◌*◌, ◌/◌, ◌%◌, ◌^◌, List, length, drop}
use Rattle.byteorder.specs.Endian.{little_number}

abbrev pub spread : ℕ
spread = 0xd6e8feb86659fd93

-- a number of 64 bits, and four bytes more
abbrev pub mixed : ℕ → ℕ → ℕ
mixed h word = (h + word) * spread % 2 ^ 64

-- and n times four bytes more, of which those that are missing are 0
abbrev pub words_mixed : ℕ → List ℕ → ℕ → ℕ
words_mixed zero bs h = h
words_mixed (suc n) bs h = words_mixed n (drop 4 bs) (mixed h (little_number 4 bs))

-- the bytes, four at a time, as a number of 64 bits, to a base that is that multiplier
unfoldable pub hash_of : List ℕ → ℕ
hash_of key = words_mixed ((length key + 3) / 4) key 0

-- the chain among a count of them: so far along as the upper half of the number is in its range
unfoldable pub chain_of : List ℕ → ℕ → ℕ
chain_of key chains = hash_of key / 2 ^ 32 * chains / 2 ^ 32
