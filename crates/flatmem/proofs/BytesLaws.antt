-- Laws of bytes that are read after some were written.
use Rattle.std.proofs.Common.{◌≡◌, ℕ, ◌+◌, ◌-◌, ◌≤◌, List, ◌++◌, length, take, drop, sym, ap, ◌∙◌, append_assoc, arith, take-add}
use Rattle.std.proofs.lemmas.List.{take_at, drop_at, drop-drop, drop-take, take-take, length-append, length-take, length-drop, take-append-le, drop-append-le}
use Rattle.flatmem.specs.Bytes.{with_bytes, bytes_at}

module _ (b : List ℕ) (i : ℕ) (v : List ℕ) (inside : i + length v ≤ length b) where
  abbrev P : List ℕ
  P = take i b

  abbrev D : List ℕ
  D = drop (i + length v) b

  abbrev X : List ℕ
  X = with_bytes b i v

  lP : length P ≡ i
  lP = let e = length-take i b in omega arith

  front : X ≡ (P ++ v) ++ D
  front = sym (append_assoc P v D)

  l_front : length (P ++ v) ≡ i + length v
  l_front = let e = length-append P v in let f = lP in omega arith

  pub length-with_bytes : length X ≡ length b
  length-with_bytes = let e = length-append P (v ++ D) in let f = length-append v D in
      let g = length-drop (i + length v) b in let h = lP in omega arith

  -- what comes after the written bytes
  drop_past : drop (i + length v) X ≡ D
  drop_past = ap (drop (i + length v)) front ∙ drop_at (P ++ v) D (i + length v) l_front

  take_past : take (i + length v) X ≡ P ++ v
  take_past = ap (take (i + length v)) front ∙ take_at (P ++ v) D (i + length v) l_front

  pub bytes_after : (j n : ℕ) → i + length v ≤ j → bytes_at X j n ≡ bytes_at b j n
  bytes_after j n h =
      let d : ℕ = j - (i + length v) in
      let e : i + length v + d ≡ j = omega arith in
      ap (take n) (ap (λ (k : ℕ). drop k X) (sym e) ∙ sym (drop-drop d (i + length v) X)
      ∙ ap (drop d) drop_past
      ∙ drop-drop d (i + length v) b ∙ ap (λ (k : ℕ). drop k b) e)

  pub bytes_before : (j n : ℕ) → j + n ≤ i → bytes_at X j n ≡ bytes_at b j n
  bytes_before j n h =
      let l = lP in
      sym (drop-take j n X) ∙ ap (drop j) (take-append-le (j + n) P (v ++ D) (omega arith)
      ∙ take-take (j + n) i b h) ∙ drop-take j n b

  pub bytes_written : bytes_at X i (length v) ≡ v
  bytes_written = sym (drop-take i (length v) X) ∙ ap (drop i) take_past ∙ drop_at P v i lP

pub length-bytes_at : (b : List ℕ) (j n : ℕ) → j + n ≤ length b → length (bytes_at b j n) ≡ n
length-bytes_at b j n h = let e = length-take n (drop j b) in let f = length-drop j b in omega arith

-- a part of a part
pub bytes_of_bytes : (b : List ℕ) (j n d m : ℕ) → d + m ≤ n
    → bytes_at (bytes_at b j n) d m ≡ bytes_at b (j + d) m
bytes_of_bytes b j n d m h =
    let k : ℕ = n - d in
    let e : d + k ≡ n = omega arith in
    ap (λ (x : ℕ). take m (drop d (take x (drop j b)))) (sym e)
    ∙ ap (take m) (drop-take d k (drop j b)
    ∙ ap (take k) (drop-drop d j b))
    ∙ take-take m k (drop (j + d) b) (omega arith)

-- a write inside a part
with_drop : (b : List ℕ) (j d : ℕ) (v : List ℕ) → j + d + length v ≤ length b
    → drop j (with_bytes b (j + d) v) ≡ with_bytes (drop j b) d v
with_drop b j d v h =
    let l = length-take (j + d) b in
    let e : j + (d + length v) ≡ j + d + length v = omega arith in
    drop-append-le j (take (j + d) b) (v ++ drop (j + d + length v) b) (omega arith)
    ∙ ap (λ (x : List ℕ). x ++ (v ++ drop (j + d + length v) b)) (drop-take j d b)
    ∙ ap (λ (x : List ℕ). take d (drop j b) ++ (v ++ x)) (sym (drop-drop (d + length v) j b
    ∙ ap (λ (k : ℕ). drop k b) e))

with_take : (c : List ℕ) (d n : ℕ) (v : List ℕ) → d + length v ≤ n → n ≤ length c
    → take n (with_bytes c d v) ≡ with_bytes (take n c) d v
with_take c d n v h g =
    let f : ℕ = d + length v in
    let k : ℕ = n - f in
    let e : f + k ≡ n = omega arith in
    let X : List ℕ = with_bytes c d v in
    let inside : d + length v ≤ length c = omega arith in
    ap (λ (x : ℕ). take x X) (sym e) ∙ take-add f k X
    ∙ ap (λ (x : List ℕ). x ++ take k (drop f X)) (take_past c d v inside)
    ∙ ap (λ (x : List ℕ). (take d c ++ v) ++ take k x) (drop_past c d v inside)
    ∙ append_assoc (take d c) v (take k (drop f c))
    ∙ ap (λ (x : List ℕ). x ++ (v ++ take k (drop f c))) (sym (take-take d n c (omega arith)))
    ∙ ap (λ (x : List ℕ). take d (take n c) ++ (v ++ x))
    (sym (ap (λ (x : ℕ). drop f (take x c)) (sym e)
    ∙ drop-take f k c))

pub bytes_with : (b : List ℕ) (j n d : ℕ) (v : List ℕ) → d + length v ≤ n → j + n ≤ length b
    → bytes_at (with_bytes b (j + d) v) j n ≡ with_bytes (bytes_at b j n) d v
bytes_with b j n d v h g =
    let l = length-drop j b in
    ap (take n) (with_drop b j d v (omega arith)) ∙ with_take (drop j b) d n v h (omega arith)
