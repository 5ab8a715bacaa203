-- `window` reads N bytes at an index as one array, for every N.
use mathlib.Core.Path.{◌≡◌, refl, sym, ap, ◌∙◌}
use Rattle.flatmem.proofs.Common.{ℕ, ◌+◌, ◌-◌, ◌≤◌, ◌<◌, ◌^◌, Ura, Args, Body, Fn, named, w64, w8, a_number, seq, assign, place, rv_opd, copy, return, Val, vint, SProp, ent, Lft, Share, ftrue, flft, Logic, ‵, ◌⊛◌, raw, given, at_ret, ◌$◌, ◌∵◌, !, qed, by, move, keep, use1, group, drop, split, split3, join, learn, rewrite, fsplit, fjoin, suffices, frame, done, array_copy, u8, usize, row, looks_slice, shuts_slice, uint_vals, uint_Tells, uint_copy, nothing, at, at_byte, length-take-le}
use native.Mathlib.Omega.{arith}
use mathlib.Core.List.{List, [], ◌∷◌, ◌++◌}
use lib.ListN.{length, take, drop as drop_l, take-append-drop, length-drop}
use mir.MapTy.{inst_fn}
use prog.Memory.{Memory, size}
use prog.Routine.{Routine}
use prog.Wp.{Env, Calls, Loops, WpFn, Tables}
use contract.BorrowLft.{◌⊑◌}
use contract.Lifetimes.{AllOutlive}
use contract.Monad.{Fun}
use contract.Running.{tables, tables_of}
use sound.WpLaws.{WpFn-mono}
use types.Part.{whole, sub}
use types.Run.{stop, fld, hop, from, addr, bin, load, look, of_opd, first, blocks, exec, returns, enter, well_typed}
use types.ByLocal.{alloc_all, pass_all, free_all, look_at, look_in_at, get, through, sets, sets_last, env}
use denote.Copied.{uint_Copied}
use denote.Exit.{yes}
use denote.Param.{param, number, layouts, layout, ArrayAt}
use denote.RattleType.{owns}
use denote.Ref.{Bor}
use denote.Signature.{plain, shr_slice_of}
use denote.Slice.{ShrSlice, Room, slice_val, shr_slice_vals, shr_slice_Tells}
use denote.Triple.Clauses.{Clauses, Ended, closing}
use denote.Triple.Entry.{on_entry}
use denote.Triple.Spec.{Meets, triple_of}
use denote.Triple.Table.{entered}
use denote.Triple.Walked.{says, Stays, stay_dropped, walk_of, ends_at, walked, Goes-dropped, walk_Meets}
use Rattle.flatmem.proofs.Arrays.{bytes_val, array_at, has, array_out, array_in}
use Rattle.flatmem.specs.contracts.window as F
use Rattle.flatmem.specs.contracts.window.Key.{name as #self}
use Rattle.flatmem.proofs.window.Statement as stated
use Rattle.flatmem.proofs.window.Code as code

module _ (n : ℕ) where
  abbrev args : Args
  args = layouts (a_number ∷ []) (number n, tt)

  abbrev fn' : Fn
  fn' = inst_fn args code.function

  abbrev ended : Ended
  ended = F.ended (number n)

  abbrev stayed : Stays ended.signature.params ended.kept
  stayed = (
    stay_dropped (shr_slice_of (0 ∷ []) tt (plain (λ _. u8))) yes,
    (
      stay_dropped (plain
          (λ _. usize)) yes,
      tt,
    ),
  )

abbrev rest : Body
rest = seq (assign (place 0 []) (rv_opd (copy (place 3 [])))) return

module _ (n : ℕ) {M : Type 1} {𝓤 : Ura M} (𝓛 : Logic 𝓤) (at_mem : Memory → SProp 𝓤)
    (run : Routine → Fun 𝓤) where
  open 𝓛 use {H}

  abbrev clauses : Clauses 𝓤 (ended n)
  clauses = F.clauses (number n) 𝓛 at_mem run

  module _ (C : Calls 𝓤 H) (Λ : Loops 𝓤 H) (κ κN : Lft) (q qN : Share)
      (bd : AllOutlive 2 (ended n).signature.outlives (κ, (κN, tt))) (b o : ℕ) (xs : List ℕ)
      (m : ℕ) where
    abbrev self : Bor (List ℕ)
    self = record { ref_ptr = (b, o); now = xs }

    abbrev ghosts : (walk_of 𝓛 (ended n) (stayed n) clauses).Ghost
    ghosts = (
      (
        (κ, (κN, tt)),
        (q, (qN, tt)),
        bd,
        (self, (m, tt)),
        (shr_slice_vals self, (vint w64 m ∷ [], tt)),
      ),
      tt,
    )

    abbrev Post : Val → SProp 𝓤
    Post = (walk_of 𝓛 (ended n) (stayed n) clauses).post ghosts

    meet : m < 2 ^ 64 → Room u8 (length xs) → m + n ≤ length xs
        → ent 𝓤 (on_entry 𝓛 (ended n).signature (κ, (κN, tt)) (q, (qN, tt)) (self, (m, tt))
        (shr_slice_vals self, (vint w64 m ∷ [], tt))) (WpFn 𝓤 H C Λ (fn' n) (slice_val (b, o)
        (length xs) ∷ vint w64 m ∷ []) Post)
    meet fm rm le =
        let front : List ℕ = take m xs in
        let mid : List ℕ = take n (drop_l m xs) in
        let back : List ℕ = drop_l n (drop_l m xs) in
        let cut : xs ≡ front ++ (mid ++ back) = sym (take-append-drop m xs)
        ∙ ap (λ (l : List ℕ). front ++ l) (sym (take-append-drop n (drop_l m xs))) in
        let lf : length front ≡ m = length-take-le m xs (omega arith) in
        let lb : length (drop_l m xs) ≡ length xs - m = length-drop m xs in
        let long : length mid ≡ n = length-take-le n (drop_l m xs) (omega arith) in
        let p : ℕ = m + o in
        let on : at o 1 (length front) ≡ p = at_byte o (length front) ∙ ap (λ (k : ℕ). k + o) lf in
        qed 𝓛 ((‵ (flft κ q) ⊛ ‵ (flft κN qN) ⊛ ‵ ftrue)
        ∷ ‵ (owns (ShrSlice (named 0) κ u8 ∷ usize ∷ [])
        (self, (m, tt)) (shr_slice_vals self, (vint w64 m ∷ [], tt))) ∷ []) ∵ enter ! C Λ (fn' n)
        (slice_val (b, o) (length xs) ∷ vint w64 m ∷ []) _ $
        alloc_all ! (λ l. pass_all ! refl (
          (tt, (tt, (record { fits = rm.0 }, tt))),
          ((tt, record { fits = fm }), tt),
        ) $
        let En : Env 𝓤 H = env (fn' n).locals l in
        first ! $ blocks ! $
        sets ! (addr ! (from ! (fld ! refl (hop ! (look_in_at ! 1 (sub ! 0 refl (whole !)))
        (stop !))))) refl (tt, tt) $
        sets ! (bin ! (get ! refl) (get ! refl) tt) refl (tt, tt) $
        sets ! (of_opd ! (get ! refl)) refl (tt, tt) $
        split3 ! $ move ! (3 ∷ []) $ fsplit ! $ fsplit ! $ drop ! $ move ! (0 ∷ 2 ∷ []) $
        -- [what is shared; the token of κ; ..]
        looks_slice ! tt u8 (uint_Copied 𝓛 w8) xs b o (λ s.
        rewrite ! 0 (λ (l : List ℕ). ‵ (row u8 s l b o)) cut refl $
        use1 𝓛 (‵ (array_at s n mid b p) ⊛ ‵ (has n mid) ⊛ ‵ (row u8 s front b o)
        ⊛ ‵ (row u8 s back b (at p 1
        (length mid)))) (array_out 𝓛 s n front mid back b o p long on) $
        split ! $ move ! (1 ∷ []) $ split3 ! $
        use1 𝓛 (‵ (has n mid) ⊛ ‵ (has n mid)) ((array_copy 𝓛 u8 (uint_copy 𝓛 w8) n).twice mid
        (bytes_val mid ∷ [])) $ split ! $ move ! (4 ∷ []) $
        -- [the array; what it owns, twice; the bytes before it; those after; ..]
        well_typed ! (λ ok.
        sets_last ! (of_opd ! (load ! (through ! refl (stop !)) (look ! 0 refl))) refl ok $
        exec ! C Λ En rest (at_ret En Post) $
        sets ! (of_opd ! (get ! refl)) refl ok $
        move ! (0 ∷ 1 ∷ 3 ∷ 4 ∷ []) $ group ! 4 $
        use1 𝓛 (‵ (row u8 s (front ++ (mid ++ back)) b o))
        (array_in 𝓛 s n front mid back b o p long on) $
        rewrite ! 0 (λ (l : List ℕ). ‵ (row u8 s l b o)) (sym cut) refl $ move ! (0 ∷ 2 ∷ []) $
        shuts_slice ! tt u8 s xs b o $
        returns ! (look_at ! 0 refl) $ free_all ! refl $ keep ! (1 ∷ 0 ∷ 4 ∷ []) $
        suffices ! _ (ends_at 𝓛 (ended n) (stayed n) clauses ghosts (bytes_val mid) mid
        (tt, (tt, tt))
        (tt, (tt, tt))) $ says ! refl $
        nothing ! $ move ! (3 ∷ 0 ∷ []) $ join ! $ move ! (2 ∷ 0 ∷ []) $ join ! $ frame ! $
        nothing ! $ nothing ! $ fjoin ! $ nothing ! $ fjoin ! $ frame ! $ done !)))

  meets : (𝓣 : Tables 𝓤 H)
      → Meets 𝓛 (ended n).signature (WpFn 𝓤 H 𝓣.C 𝓣.Λ (fn' n)) (closing 𝓛 (ended n) clauses)
  meets 𝓣 =
      walk_Meets 𝓛 (ended n) (stayed n) (
        Goes-dropped 𝓛 2 (shr_slice_of (0 ∷ []) tt (plain (λ _. u8))) yes
            (λ κs x f. refl),
        (Goes-dropped 𝓛 2 (plain (λ _. usize)) yes (λ κs x f. refl), tt),
      ) clauses
      (WpFn 𝓤 H 𝓣.C 𝓣.Λ (fn' n)) (WpFn-mono 𝓤 H 𝓛.laws 𝓣 (fn' n))
      (walked 𝓛 (ended n) (stayed n) clauses (WpFn 𝓤 H 𝓣.C 𝓣.Λ (fn' n))
      (λ κs. (shr_slice_vals, (uint_vals w64, tt)))
      (λ κs. (shr_slice_Tells (named 0) κs.0 u8, (uint_Tells w64, tt)))
      (λ κs qs bounds a g are.
      let On : SProp 𝓤 =
      on_entry 𝓛 (ended n).signature κs qs a (shr_slice_vals a.0, (vint w64 a.1.0 ∷ [], tt)) in
      qed 𝓛 (raw On ∷ (given (κs.1.0 ⊑ []) (‵ ftrue) ⊛ given (size (layout (ArrayAt u8 (param 0
      (number n)))) < 2 ^ 63) (‵ ftrue) ⊛ given (a.1.0 + n ≤ length a.0.now) (‵ ftrue)) ∷ []) ∵
      move ! (1 ∷ []) $ split3 ! $ drop ! $ drop ! $ learn ! (λ le. drop ! $
      by ! (meet 𝓣.C 𝓣.Λ κs.0 κs.1.0 qs.0 qs.1.0 bounds a.0.ref_ptr.0 a.0.ref_ptr.1 a.0.now a.1.0
      are.1.0.1
      are.0.0.1 le))))

pub window_spec : {M : Type 1} → stated.statement M
unfolding tables_of
window_spec 𝓤 𝓛 𝓜 𝓡 wired n fits =
    let 𝓣 : Tables 𝓤 𝓛.H = tables_of 𝓤 𝓛.H 𝓜 (tables 𝓤 𝓛.H 𝓜 𝓡 𝓡.env) in
    entered 𝓤 𝓛.H (triple_of 𝓛 (ended n).signature (F.spec (number n) 𝓛 𝓜.mem 𝓡.returns)) 𝓣.C 𝓣.Λ
    (#self (args n))
    (fn' n) (code.unfolded 𝓤 𝓛.H 𝓜 𝓡 wired (number n, tt))
    (meets n 𝓛 𝓜.mem 𝓡.returns 𝓣)
