use Rattle.exact_io.proofs.Common.{◌≡◌, ℕ, ◌+◌, ◌-◌, ◌≤◌, List, ◌++◌, rules, length, take, drop, sym, ap, ◌∙◌, subst, take-take, Appends, Appends-trans, take-add}
use Rattle.exact_io.proofs.writing.write_bytes.Goals as goal

-- the next n bytes of what is left
next_bytes : (xs : List ℕ) (at n : ℕ) → n ≤ length xs - at
    → take at xs ++ take n (take (length xs - at) (drop at xs)) ≡ take (at + n) xs
next_bytes xs at n h =
    ap (λ l. take at xs ++ l) (take-take n (length xs - at) (drop at xs) h) ∙ sym (take-add at n xs)

pub loop-at-preserved : goal.loop-at-preserved
loop-at-preserved g c =
    let xs = c.args.bytes.now in
    let joined = Appends-trans _ _ _ _ _ c.loop-at.invariant.1 c.in-Ok.ensures.bytes in
    (search rules, subst (Appends _ _) (next_bytes xs c.loop-at.at c.in-Ok.n (search rules)) joined)
