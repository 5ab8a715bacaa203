-- Commands on a map, one after the other.
use Rattle.maps.proofs.Common.{◌≡◌, ℕ, suc, ◌+◌, ◌<◌, List, [], ◌∷◌, ◌++◌, length, take, map, refl, sym, ap, subst, ◌∙◌, arith, slice_index_or, map-append, take-suc, MapDef, KeyValues, Places, content, Said, said, reply_to, content_after, replies_of, content_left}
use Rattle.maps.specs.declared.commands.MapCommand.{MapCommand}
use Rattle.maps.specs.declared.commands.Reply.{Reply}

-- one command more has its reply by what the others left
pub replies_of-snoc : (row : MapDef) (content : KeyValues) (cs : List MapCommand) (c : MapCommand)
    → replies_of row content (cs ++ c ∷ [])
    ≡ replies_of row content cs ++ reply_to row (content_left row content cs) c ∷ []
replies_of-snoc row content [] c = refl
replies_of-snoc row content (d ∷ cs) c =
    ap (λ (rs : List Said). reply_to row content d ∷ rs)
    (replies_of-snoc row (content_after row content d) cs c)

pub content_left-snoc : (row : MapDef) (content : KeyValues) (cs : List MapCommand) (c : MapCommand)
    → content_left row content (cs ++ c ∷ []) ≡ content_after row (content_left row content cs) c
content_left-snoc row content [] c = refl
content_left-snoc row content (d ∷ cs) c = content_left-snoc row (content_after row content d) cs c

-- one command more of a list, on a map whose content is what the ones before left
module _ (row' row : MapDef) (same : row' ≡ row) (P : Places) (B : List ℕ) (before : KeyValues)
    (cs : List MapCommand) (i : ℕ) (low : i < length cs)
    (now : content row.value_size P B ≡ content_left row before (take i cs)) (d : MapCommand) where
  abbrev c : MapCommand
  c = slice_index_or cs i d

  one_more : take (i + 1) cs ≡ take i cs ++ c ∷ []
  one_more =
      let e : i + 1 ≡ suc i = omega arith in ap (λ (n : ℕ). take n cs) e ∙ take-suc cs i d low

  pub replies_next : (so_far : List Reply) (r : Reply)
      → map said so_far ≡ replies_of row before (take i cs)
      → said r ≡ reply_to row' (content row'.value_size P B) c
      → map said (so_far ++ r ∷ []) ≡ replies_of row before (take (i + 1) cs)
  replies_next so_far r e f =
      let g : said r ≡ reply_to row (content row.value_size P B) c =
      subst (λ (x : MapDef). said r ≡ reply_to x (content x.value_size P B) c) same f in
      let h : said r ≡ reply_to row (content_left row before (take i cs)) c =
      g ∙ ap (λ (es : KeyValues). reply_to row es c) now in
      map-append said so_far (r ∷ []) ∙ (λ k. e k ++ h k ∷ [])
      ∙ sym (replies_of-snoc row before (take i cs) c)
      ∙ ap (replies_of row before) (sym one_more)

  pub left_next : (P' : Places) (B' : List ℕ)
      → content row'.value_size P' B' ≡ content_after row' (content row'.value_size P B) c
      → content row.value_size P' B' ≡ content_left row before (take (i + 1) cs)
  left_next P' B' f =
      subst (λ (x : MapDef). content x.value_size P' B'
      ≡ content_after x (content x.value_size P B) c) same f
      ∙ ap (λ (es : KeyValues). content_after row es c) now
      ∙ sym (content_left-snoc row before (take i cs) c)
      ∙ ap (content_left row before) (sym one_more)
