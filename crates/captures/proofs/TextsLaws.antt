-- Laws of the lines of a frame's bytes.
use Rattle.captures.proofs.Common.{◌≡◌, ◌∙◌, ℕ, zero, suc, ◌+◌, ◌-◌, ◌<◌, List, [], ◌++◌, Option, Result, Ok, Err, length, take, drop, min, refl, sym, ap, subst, append_assoc, append-nil, length-drop, arith, OnErr, OnOk, Appends, Appends-trans, take_all, take_min, AppendsBeginning, head_line, row_at, rows_text}
use Rattle.exact_io.proofs.TransferLaws.{AppendsBeginning-first, AppendsBeginning-second}
use Rattle.isa_model.specs.declared.frames.FrameHead.{FrameHead}

-- ---- pieces of bytes

-- one piece more is at the front
pub then-piece : (old front piece new : List ℕ) → old ≡ front → new ≡ old ++ piece
    → new ≡ front ++ piece
then-piece old front piece new is more = more ∙ ap (λ (l : List ℕ). l ++ piece) is

-- nine pieces, and eight
pub nine-pieces : (a b c d e f g h i : List ℕ) → a ++ b ++ c ++ d ++ e ++ f ++ g ++ h ++ i
    ≡ a ++ (b ++ (c ++ (d ++ (e ++ (f ++ (g ++ (h ++ i)))))))
nine-pieces a b c d e f g h i = simp append_assoc

pub eight-pieces : (a b c d e f g h : List ℕ) → a ++ b ++ c ++ d ++ e ++ f ++ g ++ h
    ≡ a ++ (b ++ (c ++ (d ++ (e ++ (f ++ (g ++ h))))))
eight-pieces a b c d e f g h = simp append_assoc

-- ---- lines

pub rows_text-none : (body : List ℕ) → rows_text body 0 ≡ []
unfolding rows_text
rows_text-none body = refl

pub rows_text-next : (body : List ℕ) (k : ℕ)
    → rows_text body (k + 1) ≡ rows_text body k ++ row_at body k
unfolding rows_text
rows_text-next body k =
    let e : k + 1 ≡ suc k = omega arith in ap (rows_text body) e

-- the lines after the first ones
pub rows_text-later : (body : List ℕ) (k n : ℕ)
    → (later : List ℕ) × (rows_text body (k + n) ≡ rows_text body k ++ later)
rows_text-later body k zero =
    let e : k + 0 ≡ k = omega arith in
    ([], ap (rows_text body) e ∙ sym (append-nil (rows_text body k)))
rows_text-later body k (suc n) =
    let e : k + suc n ≡ (k + n) + 1 = omega arith in
    let rest = rows_text-later body k n in (
      rest.0 ++ row_at body (k + n),
      ap (rows_text body) e ∙ rows_text-next body (k + n)
          ∙ ap (λ (l : List ℕ). l ++ row_at body (k + n)) rest.1
          ∙ append_assoc (rows_text body k) rest.0 (row_at body (k + n)),
    )

-- one more line was written
pub rows-more : (a b c : Option (List ℕ)) (body line : List ℕ) (k : ℕ)
    → Appends a b (rows_text body k) → Appends b c line → line ≡ row_at body k
    → Appends a c (rows_text body (k + 1))
rows-more a b c body line k so_far more is =
    subst (Appends a c) (sym (rows_text-next body k))
    (Appends-trans a b c (rows_text body k) (row_at body k) so_far
    (subst (Appends b c) is more))

-- a line was written in part
pub rows-part : {X E : Type 0} (r : Result X E) (a b c : Option (List ℕ)) (body line : List ℕ)
    (k count : ℕ) → k < count → Appends a b (rows_text body k) → AppendsBeginning b c line
    → line ≡ row_at body k → OnErr r (AppendsBeginning a c (rows_text body count))
rows-part (Ok x) a b c body line k count less so_far more is = tt
rows-part (Err x) a b c body line k count less so_far more is =
    let n = count - (k + 1) in
    let same : (k + 1) + n ≡ count = omega (arith, less) in
    let rest = rows_text-later body (k + 1) n in
    let whole : rows_text body count ≡ rows_text body k ++ row_at body k ++ rest.0 =
    ap (rows_text body) (sym same) ∙ rest.1
    ∙ ap (λ (l : List ℕ). l ++ rest.0) (rows_text-next body k) in
    subst (AppendsBeginning a c) (sym whole)
    (AppendsBeginning-first a c (rows_text body k ++ row_at body k) rest.0
    (AppendsBeginning-second a b c (rows_text body k) (row_at body k) so_far
    (subst (AppendsBeginning b c) is more)))

-- the bytes of a line
pub row-piece : (body rest : List ℕ) (at m : ℕ) → rest ≡ take (length body - at) (drop at body)
    → m ≡ min (length rest) 16 → take m rest ≡ take 16 (drop at body)
row-piece body rest at m is size =
    let all : rest ≡ drop at body =
    is ∙ take_all (length body - at) (drop at body) (omega (arith, length-drop at body)) in
    let long : length rest ≡ length (drop at body) = ap length all in
    let few : m ≡ min 16 (length (drop at body)) = omega (arith, size, long) in
    ap (take m) all ∙ ap (λ (n : ℕ). take n (drop at body)) few ∙ take_min 16 (drop at body)

-- ---- the head, and the lines after it

-- the head depends on no byte
pub head_line-body : (head : FrameHead) (body : List ℕ) (reason : ℕ)
    → head_line (record { head = head; body = []; reason = reason })
    ≡ head_line (record { head = head; body = body; reason = reason })
unfolding head_line
head_line-body head body reason = refl

pub first-fails : {X E : Type 0} (r : Result X E) (a b : Option (List ℕ))
    (piece front rest : List ℕ) → piece ≡ front → AppendsBeginning a b piece
    → OnErr r (AppendsBeginning a b (front ++ rest))
first-fails (Ok x) a b piece front rest is part = tt
first-fails (Err x) a b piece front rest is part =
    AppendsBeginning-first a b front rest (subst (AppendsBeginning a b) is part)

pub second-fails : {X E : Type 0} (r : Result X E) (a b c : Option (List ℕ))
    (piece front rest : List ℕ) → piece ≡ front → Appends a b piece
    → OnErr r (AppendsBeginning b c rest) → OnErr r (AppendsBeginning a c (front ++ rest))
second-fails (Ok x) a b c piece front rest is whole part = tt
second-fails (Err x) a b c piece front rest is whole part =
    AppendsBeginning-second a b c front rest (subst (Appends a b) is whole) part

pub both-written : {X E : Type 0} (r : Result X E) (a b c : Option (List ℕ))
    (piece front rest : List ℕ) → piece ≡ front → Appends a b piece
    → OnOk r (Appends b c rest) → OnOk r (Appends a c (front ++ rest))
both-written (Ok x) a b c piece front rest is whole more =
    Appends-trans a b c front rest (subst (Appends a b) is whole) more
both-written (Err x) a b c piece front rest is whole more = tt
