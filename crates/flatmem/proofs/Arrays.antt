-- Adjacent bytes in memory: some of them are taken out as one array, and put back.
use mathlib.Core.Path.{◌≡◌, refl, sym}
use Rattle.flatmem.proofs.Common.{ℕ, ◌+◌, Ura, ty_array, ty_int, w8, Val, vint, ent, sep, Fml, Share, ftrue, fat, feq, Logic, sem, ‵, ◌⊛◌, ◌$◌, ◌∵◌, !, qed, by, move, drop, use1, use2, split, fsplit, fjoin, feq_i, rewrite, done, row, u8, Array, array_val, array_vals, Array-Tells, uint_vals, uint_Tells, nothing, at}
use mathlib.Core.List.{List, [], ◌∷◌, ◌++◌, map}
use lib.ListN.{length}
use denote.Memory.{mem, part_at}
use denote.ArrayMemory.{Array-apart, Array-whole}
use denote.Copied.{told_out, told_in}

abbrev pub bytes_val : List ℕ → Val
bytes_val w = array_val (map (λ (x : ℕ). vint w8 x) w)

-- these bytes as one array in memory, and what such an array owns
abbrev pub array_at : Share → ℕ → List ℕ → ℕ → ℕ → Fml
array_at q n w b o = fat q (ty_array (ty_int w8) n) b o (bytes_val w)

abbrev pub has : ℕ → List ℕ → Fml
has n w = (Array u8 n).own_val w (bytes_val w ∷ [])

module _ {M : Type 1} {𝓤 : Ura M} (𝓛 : Logic 𝓤) (q : Share) where
  abbrev s : ℕ
  s = (mem u8).size

  pub row_cut : (xs ys : List ℕ) (b o : ℕ) → ent 𝓤 (sem 𝓛 (row u8 q (xs ++ ys) b o))
      (sep 𝓤 (sem 𝓛 (row u8 q xs b o)) (sem 𝓛 (row u8 q ys b (at o s (length xs)))))
  row_cut [] ys b o = qed 𝓛 (‵ (row u8 q ys b o) ∷ []) ∵ nothing ! $ done !
  row_cut (x ∷ xs) ys b o =
      qed 𝓛 (‵ (row u8 q (x ∷ (xs ++ ys)) b o) ∷ []) ∵ fsplit ! $ move ! (1 ∷ []) $
      use1 𝓛 (‵ (row u8 q xs b (o + s)) ⊛ ‵ (row u8 q ys b (at (o + s) s (length xs))))
      (row_cut xs ys b (o + s)) $
      split ! $ move ! (2 ∷ 0 ∷ []) $ fjoin ! $ done !

  pub row_join : (xs ys : List ℕ) (b o : ℕ) → ent 𝓤 (sep 𝓤 (sem 𝓛 (row u8 q xs b o))
      (sem 𝓛 (row u8 q ys b (at o s (length xs))))) (sem 𝓛 (row u8 q (xs ++ ys) b o))
  row_join [] ys b o = qed 𝓛 (‵ ftrue ∷ ‵ (row u8 q ys b o) ∷ []) ∵ drop ! $ done !
  row_join (x ∷ xs) ys b o =
      qed 𝓛 (‵ (row u8 q (x ∷ xs) b o) ∷ ‵ (row u8 q ys b (at (o + s) s (length xs))) ∷ []) ∵
      fsplit ! $
      move ! (1 ∷ 2 ∷ []) $
      use2 𝓛 (‵ (row u8 q (xs ++ ys) b (o + s))) (row_join xs ys b (o + s)) $ move ! (1 ∷ 0 ∷ []) $
      fjoin ! $ done !

  -- the array is taken out of the bytes around it, with what it owns; array_in puts it back
  pub array_out : (n : ℕ) (f w k : List ℕ) (b o p : ℕ) → length w ≡ n → at o s (length f) ≡ p
      → ent 𝓤 (sem 𝓛 (row u8 q (f ++ (w ++ k)) b o))
      (sep 𝓤 (sem 𝓛 (array_at q n w b p)) (sep 𝓤 (sem 𝓛 (has n w))
      (sep 𝓤 (sem 𝓛 (row u8 q f b o)) (sem 𝓛 (row u8 q k b (at p s (length w)))))))
  array_out n f w k b o p l e =
      qed 𝓛 (‵ (row u8 q (f ++ (w ++ k)) b o) ∷ []) ∵
      use1 𝓛 (‵ (row u8 q f b o) ⊛ ‵ (row u8 q (w ++ k) b (at o s (length f))))
      (row_cut f (w ++ k) b o) $
      split ! $ move ! (1 ∷ []) $
      rewrite ! 0 (λ (x : ℕ). ‵ (row u8 q (w ++ k) b x)) e refl $
      use1 𝓛 (‵ (row u8 q w b p) ⊛ ‵ (row u8 q k b (at p s (length w)))) (row_cut w k b p) $
      split ! $
      feq_i ! ℕ (length w) n l $ fjoin ! $
      use1 𝓛 (‵ (part_at (Array u8 n) q w b p)) (Array-whole 𝓛 u8 q n w b p) $
      use1 𝓛 (‵ (array_at q n w b p) ⊛ ‵ (has n w))
      (told_out 𝓛 (Array u8 n) (array_vals (uint_vals w8))
      (Array-Tells u8 (uint_vals w8) (uint_Tells w8) n) q w b p) $ split ! $
      move ! (0 ∷ 1 ∷ 3 ∷ []) $ done !

  pub array_in : (n : ℕ) (f w k : List ℕ) (b o p : ℕ) → length w ≡ n → at o s (length f) ≡ p
      → ent 𝓤 (sep 𝓤 (sem 𝓛 (array_at q n w b p))
      (sep 𝓤 (sem 𝓛 (has n w)) (sep 𝓤 (sem 𝓛 (row u8 q f b o))
      (sem 𝓛 (row u8 q k b (at p s (length w))))))) (sem 𝓛 (row u8 q (f ++ (w ++ k)) b o))
  array_in n f w k b o p l e =
      qed 𝓛 (‵ (array_at q n w b p) ∷ ‵ (has n w) ∷ ‵ (row u8 q f b o)
      ∷ ‵ (row u8 q k b (at p s (length w))) ∷ []) ∵
      use2 𝓛 (‵ (part_at (Array u8 n) q w b p)) (told_in 𝓛 (Array u8 n) (array_vals (uint_vals w8))
      (Array-Tells u8 (uint_vals w8) (uint_Tells w8) n) q w b p (bytes_val w ∷ [])) $
      use1 𝓛 (‵ (feq ℕ (length w) n) ⊛ ‵ (row u8 q w b p)) (Array-apart 𝓛 u8 q tt n w b p) $
      split ! $ drop ! $
      move ! (0 ∷ 2 ∷ []) $
      use2 𝓛 (‵ (row u8 q (w ++ k) b p)) (row_join w k b p) $
      rewrite ! 0 (λ (x : ℕ). ‵ (row u8 q (w ++ k) b x)) (sym e) refl $ move ! (1 ∷ 0 ∷ []) $
      by ! (row_join f (w ++ k) b o)
