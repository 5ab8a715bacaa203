-- That a row says the verdict and the sizes of an image.
use Rattle.surveys.proofs.Common.{◌≡◌, ◌⊎◌, ◌∙◌, ap, ℕ, Option, None, Some, inl, inr, subst, sym, start, Counts}
use Rattle.isa_model.specs.{Program}
use Rattle.isa_model.specs.Running.Outcomes.{StartsEnd}
use Rattle.image.specs.declared.errors.ImageError.{ImageError}
use Rattle.image.specs.declared.errors.ImageError.TheVariants as error
use Rattle.walks.specs.Counts.{HasNumber}
use Rattle.survey_rows.specs.declared.rows.Judgement.{Judgement}
use Rattle.survey_rows.specs.declared.rows.Judgement.TheVariants as verdict
use Rattle.surveys.specs.Judging.{IfBound, RefusesWith, SaysVerdict, SaysMalformed}
use Rattle.surveys.specs.Tallies.{HasSizes, SaysSizes, searched}

-- if memory ran out, the row says nothing
pub says_nothing : (p : Program) (v : Judgement) (c : Counts) → v ≡ verdict.NoMemory
    → SaysVerdict p v c
says_nothing p v c e = subst (λ (w : Judgement). SaysVerdict p w c) (sym e) tt

-- an accepted program's bound is the number of the start state
pub says_bound : (p : Program) (n : ℕ) (c : Counts) → c.bound ≡ Some n → HasNumber p start n
    → StartsEnd p n → SaysVerdict p verdict.Accepted c
says_bound p n c e number ends =
    subst (λ (b : Option ℕ). IfBound p b) (sym e) (record { number = number; ends = ends })

-- what a row says of one program it says of one that is equal
pub says_at : (p q : Program) (v : Judgement) (c : Counts) → q ≡ p → SaysVerdict q v c
    → SaysVerdict p v c
says_at p q v c same says = subst (λ (r : Program). SaysVerdict r v c) same says

pub says_of : (p q : Program) (n : ℕ) (v : Judgement) (c : Counts) → q ≡ p → HasNumber p start n
    → (HasNumber q start n → SaysVerdict q v c) → SaysVerdict p v c
says_of p q n v c same number says =
    says_at p q v c same (says (subst (λ (r : Program). HasNumber r start n) (sym same) number))

-- bytes that are not an image have one refusal; if memory ran out, the row says nothing
same_refusal : (found : Option ImageError) (one other : ImageError) → found ≡ Some one
    → found ≡ Some other → one ≡ other
same_refusal found one other h g = cc

pub says_malformed : (found : Option ImageError) (e wrong : ImageError) (v : Judgement) (c : Counts)
    → (e ≡ error.Memory → v ≡ verdict.NoMemory) → SaysMalformed e v c
    → (e ≡ error.Memory) ⊎ (found ≡ Some e) → found ≡ Some wrong
    → SaysMalformed wrong v c
says_malformed found e wrong v c memory says (inl out) refused =
    subst (λ (w : Judgement). SaysMalformed wrong w c) (sym (memory out)) tt
says_malformed found e wrong v c memory says (inr is) refused =
    subst (λ (x : ImageError). SaysMalformed x v c) (same_refusal found e wrong is refused) says

-- an image is not malformed
pub never_malformed : (found : Option ImageError) (wrong : ImageError) (v : Judgement) (c : Counts)
    → found ≡ None → found ≡ Some wrong
    → SaysMalformed wrong v c
never_malformed found wrong v c none some = absurd cc

-- ---- what was counted

-- counts that agree before the verdict have the same sizes
pub sizes_kept : (p : Program) (b c d : Counts) → HasSizes p b → c.slots ≡ b.slots → c.maps ≡ b.maps
    → searched d ≡ searched c → HasSizes p d
sizes_kept p b c d h slots maps same = record {
  slots = ap (λ (k : Counts). k.slots) same ∙ slots ∙ h.slots;
  maps = ap (λ (k : Counts). k.maps) same ∙ maps ∙ h.maps;
}

-- the sizes of one program are those of one that is equal
pub says_sizes : (p q : Program) (v : Judgement) (c : Counts) → q ≡ p → HasSizes q c
    → SaysSizes p v c
says_sizes p q verdict.Accepted c same h = subst (λ (r : Program). HasSizes r c) same h
says_sizes p q (verdict.Refused code) c same h = subst (λ (r : Program). HasSizes r c) same h
says_sizes p q verdict.Unreadable c same h = subst (λ (r : Program). HasSizes r c) same h
says_sizes p q verdict.NoMemory c same h = tt

-- if memory ran out, the row says no sizes
pub says_no_sizes : (p : Program) (v : Judgement) (c : Counts) → v ≡ verdict.NoMemory
    → SaysSizes p v c
says_no_sizes p v c e = subst (λ (w : Judgement). SaysSizes p w c) (sym e) tt
