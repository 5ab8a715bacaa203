-- What is noted of the packet frames so far, and of one more.
use Rattle.host.proofs.Common.{◌≡◌, ℕ, suc, ◌+◌, List, [], ◌∷◌, ◌++◌, length, sym, ap, ◌∙◌, add-zero, zero-add, arith, KeyValues, PacketFrame, Rule, turn_on, contents_left, contents_after, Noting, noted_on, noted_after}

module _ (N : Type 0) (notes : Noting N) (rule : Rule) where
  noted_after-append : (none : N) (n : ℕ) (c : List KeyValues) (fs : List PacketFrame)
      (f : PacketFrame)
      → noted_after notes rule none n c (fs ++ f ∷ [])
      ≡ noted_on notes (noted_after notes rule none n c fs) (n + length fs)
      (contents_after rule c fs) f
  noted_after-append none n c [] f = ap (λ (m : ℕ). noted_on notes none m c f) (sym (add-zero n))
  noted_after-append none n c (g ∷ fs) f =
      let next = contents_left c (turn_on rule c g) in
      let noted = noted_on notes none n c g in
      let same : (n + 1) + length fs ≡ n + suc (length fs) = omega arith in
      noted_after-append noted (n + 1) next fs f
      ∙ ap (λ (m : ℕ). noted_on notes (noted_after notes rule noted (n + 1) next fs) m
      (contents_after rule next fs) f) same

  -- a frame was taken after others
  pub noted_more : (none : N) (start : List KeyValues) (frames : List PacketFrame)
      (f : PacketFrame) (held : Noting N) (now after : N) (number : ℕ) (contents : List KeyValues)
      → held ≡ notes → now ≡ noted_after notes rule none 0 start frames → number ≡ length frames
      → contents ≡ contents_after rule start frames
      → after ≡ noted_on held now number contents f
      → after ≡ noted_after notes rule none 0 start (frames ++ f ∷ [])
  noted_more none start frames f held now after number contents h k n m e =
      let before = noted_after notes rule none 0 start frames in
      e ∙ ap (λ (x : Noting N). noted_on x now number contents f) h
      ∙ ap (λ (x : N). noted_on notes x number contents f) k
      ∙ ap (λ (x : ℕ). noted_on notes before x contents f) (n ∙ sym (zero-add (length frames)))
      ∙ ap (λ (x : List KeyValues). noted_on notes before (0 + length frames) x f) m
      ∙ sym (noted_after-append none 0 start frames f)
