-- The numbers of a record's head.
use Rattle.std.proofs.Common.{◌≡◌, ℕ, ◌+◌, ◌-◌, ◌≤◌, List, ◌++◌, length, take, drop, sym, ap, ◌∙◌, arith}
use Rattle.std.proofs.lemmas.List.{take-append-drop, drop-drop, take_all, length-drop}
use Rattle.byteorder.specs.Endian.{little_from, little_bytes}
use Rattle.isa_model.specs.Code.EachByte.{EachByte}
use Rattle.isa_model.proofs.LittleEndianLaws.{little_bytes-little_from, little_from-drop}

-- a number that was read from the part of a list after its first i bytes
pub little_from-behind : (n i : ℕ) (xs : List ℕ)
    → little_from 0 n (take (length xs - i) (drop i xs)) ≡ little_from (i + 0) n xs
little_from-behind n i xs =
    ap (little_from 0 n) (take_all (length xs - i) (drop i xs) (omega (arith, length-drop i xs)))
    ∙ little_from-drop n 0 i xs

-- a number, and the bytes after it
front : (xs : List ℕ) (n i : ℕ) (rest : List ℕ) → EachByte xs → i + n ≤ length xs
    → rest ≡ drop (i + n) xs → little_bytes n (little_from i n xs) ++ rest ≡ drop i xs
front xs n i rest small fits is =
    ap (λ l. l ++ rest) (little_bytes-little_from n i xs small fits)
    ∙ ap (λ l. take n (drop i xs) ++ l) (is ∙ sym (drop-drop n i xs))
    ∙ take-append-drop n (drop i xs)

-- the last number
last : (xs : List ℕ) (n i : ℕ) → EachByte xs → i + n ≡ length xs
    → little_bytes n (little_from i n xs) ≡ drop i xs
last xs n i small ends = little_bytes-little_from n i xs small (omega arith)
    ∙ take_all n (drop i xs) (omega (arith, length-drop i xs))

-- the bytes of four numbers, one after another
pub little_bytes-four : (xs : List ℕ) → EachByte xs → length xs ≡ 20
    → little_bytes 8 (little_from 0 8 xs)
    ++ (little_bytes 4 (little_from 8 4 xs)
    ++ (little_bytes 4 (little_from 12 4 xs) ++ little_bytes 4 (little_from 16 4 xs))) ≡ xs
little_bytes-four xs small size =
    front xs 8 0 _ small (omega arith)
    (front xs 4 8 _ small (omega arith)
    (front xs 4 12 _ small (omega arith) (last xs 4 16 small (omega arith))))

-- and of five
pub little_bytes-five : (xs : List ℕ) → EachByte xs → length xs ≡ 24
    → little_bytes 8 (little_from 0 8 xs)
    ++ (little_bytes 4 (little_from 8 4 xs) ++ (little_bytes 4 (little_from 12 4 xs)
    ++ (little_bytes 4 (little_from 16 4 xs) ++ little_bytes 4 (little_from 20 4 xs)))) ≡ xs
little_bytes-five xs small size =
    front xs 8 0 _ small (omega arith)
    (front xs 4 8 _ small (omega arith)
    (front xs 4 12 _ small (omega arith)
    (front xs 4 16 _ small (omega arith) (last xs 4 20 small (omega arith)))))
