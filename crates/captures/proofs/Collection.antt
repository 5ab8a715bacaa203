-- Laws of bytes that are taken to the front of a buffer.
use Rattle.captures.proofs.Common.{◌≡◌, ℕ, ◌+◌, ◌-◌, ◌≤◌, List, ◌++◌, length, take, drop, Option, Some, None, sym, ap, ◌∙◌, append_assoc, arith, take-append-le, take_at, drop_at, length-take-le, take-put_mid, Consumes, Keeps, prepend_known, put_mid, post_of, Collects, Keeps-trans}
use lib.Seq.{take-add}

-- what the source lost is at the end of the front
kept_more : (old new : Option (List ℕ)) (front more : List ℕ) → Consumes old new more
    → Keeps (prepend_known front old) (prepend_known (front ++ more) new)
kept_more None new front more h = tt
kept_more (Some bytes) None front more h = absurd h
kept_more (Some bytes) (Some rest) front more h =
    append_assoc front more rest ∙ ap (λ l. front ++ l) (sym h)

-- a part of the buffer was written, and the front has the first bytes of that part
front_more : (count room n : ℕ) (xs ys : List ℕ) → count ≤ length xs → n ≤ length ys
    → take (count + n) (put_mid count room xs ys) ≡ take count xs ++ take n ys
front_more count room n xs ys within fits =
    let front = take count xs in
    let rest = ys ++ post_of count room xs in
    let long : length front ≡ count = length-take-le count xs within in
    take-add count n (put_mid count room xs ys)
    ∙ ap (λ l. l ++ take n (drop count (put_mid count room xs ys))) (take_at front rest count long)
    ∙ ap (λ l. front ++ take n l) (drop_at front rest count long)
    ∙ ap (λ l. front ++ l) (take-append-le n ys (post_of count room xs) fits)

pub Collects-more : (old new : Option (List ℕ)) (count room n : ℕ) (xs ys : List ℕ)
    → count ≤ length xs → n ≤ length ys → Consumes old new (take n ys)
    → Collects old new (take count xs) (take (count + n) (put_mid count room xs ys))
Collects-more old new count room n xs ys within fits lost =
    let is = front_more count room n xs ys within fits in
    record {
      more = take n ys;
      grows = is;
      kept = rw is (kept_more old new (take count xs) (take n ys) lost);
    }

-- the part was filled whole
pub Collects-all : (old new : Option (List ℕ)) (count wanted : ℕ) (xs ys : List ℕ)
    → count ≤ length xs → count ≤ wanted → length ys ≡ wanted - count → Consumes old new ys
    → Collects old new (take count xs) (take wanted (put_mid count (wanted - count) xs ys))
Collects-all old new count wanted xs ys within less size lost =
    let is : take wanted (put_mid count (wanted - count) xs ys) ≡ take count xs ++ ys =
    take-put_mid count (wanted - count) xs ys wanted (omega arith) within in
    record { more = ys; grows = is; kept = rw is (kept_more old new (take count xs) ys lost) }

-- what was taken in two turns was taken in one
pub Collects-then : {old mid new : Option (List ℕ)} {held front after : List ℕ}
    → Collects old mid held front → Collects mid new front after → Collects old new held after
Collects-then {held = held} first next =
    record {
      more = first.more ++ next.more;
      grows = next.grows ∙ ap (λ l. l ++ next.more) first.grows
          ∙ append_assoc held first.more next.more;
      kept = Keeps-trans _ _ _ first.kept next.kept;
    }
