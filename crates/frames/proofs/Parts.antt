-- Bytes that were written in two parts, and the heads of records of each version.
use Rattle.frames.proofs.Common.{◌≡◌, ℕ, List, ◌++◌, length, take, drop, Option, Result, Ok, Err, OnOk, OnErr, refl, sym, ap, ◌∙◌, subst, take-append-drop, Appends, Version, One, Two, head_bytes}
use Rattle.exact_io.specs.Transfers.{AppendsBeginning}
use Rattle.exact_io.proofs.TransferLaws.{AppendsBeginning-first, both_written, second_fails}
use Rattle.isa_model.specs.declared.frames.FrameHead.{FrameHead}

-- where the first part fails, a beginning of both was written
first_fails : {X E : Type 0} (r : Result X E) (old mid : Option (List ℕ)) (front rest : List ℕ)
    → AppendsBeginning old mid front → OnErr r (AppendsBeginning old mid (front ++ rest))
first_fails (Ok x) old mid front rest p = tt
first_fails (Err e) old mid front rest p = AppendsBeginning-first old mid front rest p

-- where a write took the first n bytes, and the rest fails, a beginning of all was written
pub rest_fails : {X E : Type 0} (r : Result X E) (old mid new : Option (List ℕ)) (n : ℕ)
    (bs : List ℕ) → Appends old mid (take n bs) → OnErr r (AppendsBeginning mid new (drop n bs))
    → OnErr r (AppendsBeginning old new bs)
rest_fails r old mid new n bs p q =
    subst (λ l. OnErr r (AppendsBeginning old new l)) (take-append-drop n bs)
    (second_fails r old mid new (take n bs) (drop n bs) p q)

-- what was written where a head and a body are written one after the other, and the head has the
-- bytes of front
module _ {X E : Type 0} (r : Result X E) (old mid : Option (List ℕ)) (head front body : List ℕ)
    (same : head ≡ front) where
  pub record_written : (new : Option (List ℕ)) → Appends old mid head
      → OnOk r (Appends mid new body) → OnOk r (Appends old new (front ++ body))
  record_written new p q =
      both_written r old mid new front body (subst (Appends old mid) same p) q

  pub body_fails : (new : Option (List ℕ)) → Appends old mid head
      → OnErr r (AppendsBeginning mid new body) → OnErr r (AppendsBeginning old new (front ++ body))
  body_fails new p q = second_fails r old mid new front body (subst (Appends old mid) same p) q

  pub head_fails : AppendsBeginning old mid head
      → OnErr r (AppendsBeginning old mid (front ++ body))
  head_fails p = first_fails r old mid front body (subst (AppendsBeginning old mid) same p)

-- a record of version 1 has no reason
version_1_head : (h : FrameHead) (n reason : ℕ) → head_bytes One h n 0 ≡ head_bytes One h n reason
unfolding head_bytes
version_1_head h n reason = refl

module _ (v : Version) (h : FrameHead) (n reason : ℕ) (front body : List ℕ) (one : v ≡ One)
    (is : front ≡ head_bytes One h n 0) (same : n ≡ length body) where
  version_1_record : front ++ body ≡ head_bytes v h (length body) reason ++ body
  version_1_record =
      ap (λ l. l ++ body)
      (is ∙ ap (λ m. head_bytes One h m 0) same ∙ version_1_head h (length body) reason
      ∙ ap (λ (w : Version). head_bytes w h (length body) reason) (sym one))

  pub version_1_written : {X E : Type 0} (r : Result X E) (old new : Option (List ℕ))
      → OnOk r (Appends old new (front ++ body))
      → OnOk r (Appends old new (head_bytes v h (length body) reason ++ body))
  version_1_written r old new p = subst (λ l. OnOk r (Appends old new l)) version_1_record p

  pub version_1_failed : {X E : Type 0} (r : Result X E) (old new : Option (List ℕ))
      → OnErr r (AppendsBeginning old new (front ++ body))
      → OnErr r (AppendsBeginning old new (head_bytes v h (length body) reason ++ body))
  version_1_failed r old new p =
      subst (λ l. OnErr r (AppendsBeginning old new l)) version_1_record p

module _ (v : Version) (h : FrameHead) (n reason : ℕ) (front body : List ℕ) (two : v ≡ Two)
    (is : front ≡ head_bytes Two h n reason) (same : n ≡ length body) where
  version_2_record : front ++ body ≡ head_bytes v h (length body) reason ++ body
  version_2_record =
      ap (λ l. l ++ body)
      (is ∙ ap (λ m. head_bytes Two h m reason) same
      ∙ ap (λ (w : Version). head_bytes w h (length body) reason) (sym two))

  pub version_2_written : {X E : Type 0} (r : Result X E) (old new : Option (List ℕ))
      → OnOk r (Appends old new (front ++ body))
      → OnOk r (Appends old new (head_bytes v h (length body) reason ++ body))
  version_2_written r old new p = subst (λ l. OnOk r (Appends old new l)) version_2_record p

  pub version_2_failed : {X E : Type 0} (r : Result X E) (old new : Option (List ℕ))
      → OnErr r (AppendsBeginning old new (front ++ body))
      → OnErr r (AppendsBeginning old new (head_bytes v h (length body) reason ++ body))
  version_2_failed r old new p =
      subst (λ l. OnErr r (AppendsBeginning old new l)) version_2_record p
