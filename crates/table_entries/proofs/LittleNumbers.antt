-- What the standard library reads from 2, 4 or 8 bytes is their number, the lowest byte first.
use Rattle.table_entries.proofs.Common.{◌≡◌, ℕ, List, take, arith, lit<, get_or-take, little_number}
use Rattle.std.specs.Int.{w16, w32, w64, from_le_bytes}

pub two_bytes : (xs : List ℕ) → from_le_bytes w16 (take 2 xs) ≡ little_number 2 xs
two_bytes xs =
    let a = get_or-take 2 xs 0 0 (lit< tt) in
    let b = get_or-take 2 xs 1 0 (lit< tt) in
    omega arith

pub four_bytes : (xs : List ℕ) → from_le_bytes w32 (take 4 xs) ≡ little_number 4 xs
four_bytes xs =
    let a = get_or-take 4 xs 0 0 (lit< tt) in
    let b = get_or-take 4 xs 1 0 (lit< tt) in
    let c = get_or-take 4 xs 2 0 (lit< tt) in
    let d = get_or-take 4 xs 3 0 (lit< tt) in
    omega arith

pub eight_bytes : (xs : List ℕ) → from_le_bytes w64 (take 8 xs) ≡ little_number 8 xs
eight_bytes xs =
    let a = get_or-take 8 xs 0 0 (lit< tt) in
    let b = get_or-take 8 xs 1 0 (lit< tt) in
    let c = get_or-take 8 xs 2 0 (lit< tt) in
    let d = get_or-take 8 xs 3 0 (lit< tt) in
    let e = get_or-take 8 xs 4 0 (lit< tt) in
    let f = get_or-take 8 xs 5 0 (lit< tt) in
    let g = get_or-take 8 xs 6 0 (lit< tt) in
    let h = get_or-take 8 xs 7 0 (lit< tt) in
    omega arith
