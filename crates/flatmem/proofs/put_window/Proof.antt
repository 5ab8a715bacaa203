-- `put_window` writes N bytes at an index as one array, for every N.
use mathlib.Core.Path.{◌≡◌, refl, sym, ap, ◌∙◌, subst}
use Rattle.flatmem.proofs.Common.{ℕ, ◌+◌, ◌-◌, ◌≤◌, ◌<◌, ◌^◌, Ura, Args, Body, Fn, named, w64, w8, a_number, seq, assign, place, rv_opd, opd_unit, return, Val, vint, vunit, SProp, ent, Lft, GName, Share, ftrue, flft, Logic, ‵, ◌⊛◌, raw, given, at_ret, ◌$◌, ◌∵◌, !, qed, by, move, keep, use1, group, drop, split, split3, join, learn, rewrite, fsplit, fjoin, feq_i, suffices, frame, done, array_vals, Array-Tells, Array-Lawful, u8, usize, row, opens_slice, closes_slice, uint_vals, uint_Tells, uint_Lawful, nothing, at, at_byte, length-take-le, length_app}
use native.Mathlib.Omega.{arith}
use mathlib.Core.List.{List, [], ◌∷◌, ◌++◌}
use lib.Seq.{drop-drop}
use lib.ListN.{length, take, drop as drop_l, take-append-drop, length-drop}
use mir.MapTy.{inst_fn}
use base.Fraction.{full_share}
use prog.Memory.{Memory, size}
use prog.Routine.{Routine}
use prog.Wp.{Env, Calls, Loops, WpFn, Tables}
use contract.BorrowLft.{◌⊑◌}
use contract.Lifetimes.{AllOutlive}
use contract.Monad.{Fun}
use contract.Running.{tables, tables_of}
use sound.WpLaws.{WpFn-mono}
use types.Part.{whole, sub}
use types.Run.{stop, fld, hop, from, addr, bin, store, unit_lit, assigns_last, of_opd, first, blocks, exec, returns, enter}
use types.ByLocal.{alloc_all, pass_all, free_all, look_at, look_in_at, get, through, sets, env}
use denote.Laws.{Is}
use denote.Shadow.{pure_i}
use denote.Exit.{yes}
use denote.Param.{param, number, layouts, layout, ArrayAt}
use denote.RattleType.{RattleType, owns}
use denote.Ref.{MutBor}
use denote.Signature.{plain}
use denote.Slice.{MutSlice, Room, slice_val, mut_slice_vals, mut_slice_Tells, mut_slice_at}
use denote.Triple.Clauses.{Clauses, Ended, closing}
use denote.Triple.Entry.{on_entry}
use denote.Triple.Spec.{Meets, triple_of}
use denote.Triple.Table.{entered}
use denote.Triple.Walked.{says, Stays, stay_dropped, stay_slice, Goes-slice, walk_of, ends_at, walked, Goes-dropped, walk_Meets}
use Rattle.flatmem.proofs.Arrays.{bytes_val, array_at, has, array_out, array_in}
use Rattle.flatmem.specs.contracts.put_window as F
use Rattle.flatmem.specs.contracts.put_window.Key.{name as #self}
use Rattle.flatmem.proofs.put_window.Statement as stated
use Rattle.flatmem.proofs.put_window.Code as code

module _ (n : ℕ) where
  abbrev args : Args
  args = layouts (a_number ∷ []) (number n, tt)

  abbrev fn' : Fn
  fn' = inst_fn args code.function

  abbrev Window : RattleType
  Window = ArrayAt u8 (param 0 (number n))

  abbrev ended : Ended
  ended = F.ended (number n)

  abbrev stayed : Stays ended.signature.params ended.kept
  stayed = (
    stay_slice (0 ∷ []) tt (plain (λ _. u8)),
    (
      stay_dropped (plain (λ _. usize)) yes,
      (
        stay_dropped (plain
            (λ _. Window)) yes,
        tt,
      ),
    ),
  )

abbrev rest : Body
rest = seq (assign (place 0 []) (rv_opd opd_unit)) return

module _ (n : ℕ) {M : Type 1} {𝓤 : Ura M} (𝓛 : Logic 𝓤) (at_mem : Memory → SProp 𝓤)
    (run : Routine → Fun 𝓤) where
  open 𝓛 use {H}

  abbrev clauses : Clauses 𝓤 (ended n)
  clauses = F.clauses (number n) 𝓛 at_mem run

  module _ (C : Calls 𝓤 H) (Λ : Loops 𝓤 H) (κ κN : Lft) (q qN : Share)
      (bd : AllOutlive 2 (ended n).signature.outlives (κ, (κN, tt))) (b o : ℕ) (γ : GName)
      (xs : List ℕ) (m : ℕ)
      (w : List ℕ) where
    abbrev buf : List ℕ → MutBor (List ℕ)
    buf zs = record { ref_ptr = (b, o); ghost_name = γ; now = zs }

    abbrev passed : List Val × (List Val × (List Val × Unit {0}))
    passed = (mut_slice_vals (buf xs), (vint w64 m ∷ [], (bytes_val w ∷ [], tt)))

    abbrev ghosts : (walk_of 𝓛 (ended n) (stayed n) clauses).Ghost
    ghosts = (((κ, (κN, tt)), (q, (qN, tt)), bd, (buf xs, (m, (w, tt))), passed), tt)

    abbrev Post : Val → SProp 𝓤
    Post = (walk_of 𝓛 (ended n) (stayed n) clauses).post ghosts

    meet : m < 2 ^ 64 → Room u8 (length xs) → Is (Window n) w (bytes_val w ∷ []) → length w ≡ n
        → m + n ≤ length xs
        → ent 𝓤 (on_entry 𝓛 (ended n).signature (κ, (κN, tt)) (q, (qN, tt))
        (buf xs, (m, (w, tt))) passed)
        (WpFn 𝓤 H C Λ (fn' n) (slice_val (b, o) (length xs) ∷ vint w64 m ∷ bytes_val w ∷ []) Post)
    meet fm rm is lw le =
        let front : List ℕ = take m xs in
        let mid : List ℕ = take n (drop_l m xs) in
        let back : List ℕ = drop_l n (drop_l m xs) in
        let ys : List ℕ = front ++ (w ++ back) in
        let cut : xs ≡ front ++ (mid ++ back) = sym (take-append-drop m xs)
        ∙ ap (λ (l : List ℕ). front ++ l) (sym (take-append-drop n (drop_l m xs))) in
        let lf : length front ≡ m = length-take-le m xs (omega arith) in
        let lb : length (drop_l m xs) ≡ length xs - m = length-drop m xs in
        let lk : length back ≡ length (drop_l m xs) - n = length-drop n (drop_l m xs) in
        let long : length mid ≡ n = length-take-le n (drop_l m xs) (omega arith) in
        let same : length ys ≡ length xs = let e₁ = length_app front (w ++ back) in
        let e₂ = length_app w back in omega arith in
        let p : ℕ = m + o in
        let on : at o 1 (length front) ≡ p = at_byte o (length front) ∙ ap (λ (k : ℕ). k + o) lf in
        let ok = (Array-Lawful 𝓛 u8 (uint_Lawful 𝓛 w8) n).typed w (bytes_val w ∷ []) is in
        qed 𝓛 ((‵ (flft κ q) ⊛ ‵ (flft κN qN) ⊛ ‵ ftrue)
        ∷ ‵ (owns (MutSlice (named 0) κ u8 ∷ usize ∷ Window n ∷ [])
        (buf xs, (m, (w, tt))) passed) ∷ []) ∵ enter ! C Λ (fn' n) (slice_val (b, o)
        (length xs) ∷ vint w64 m ∷ bytes_val w ∷ []) _ $
        alloc_all ! (λ l. pass_all ! refl (
          (tt, (tt, (record { fits = rm.0 }, tt))),
          ((tt, record { fits = fm }), ok),
        ) $
        let En : Env 𝓤 H = env (fn' n).locals l in
        first ! $ blocks ! $
        sets ! (addr ! (from ! (fld ! refl (hop ! (look_in_at ! 1 (sub ! 0 refl (whole !)))
        (stop !))))) refl (tt, tt) $
        sets ! (bin ! (get ! refl) (get ! refl) tt) refl (tt, tt) $
        sets ! (of_opd ! (get ! refl)) refl (tt, tt) $
        move ! (1 ∷ []) $ fsplit ! $ fsplit ! $ drop ! $ fsplit ! $ move ! (2 ∷ []) $ fsplit ! $
        drop ! $ fsplit ! $
        move ! (1 ∷ []) $ drop ! $ move ! (3 ∷ []) $ split3 ! $ move ! (4 ∷ 5 ∷ 0 ∷ []) $
        opens_slice ! tt u8 xs b o $
        rewrite ! 0 (λ (l : List ℕ). ‵ (row u8 full_share l b o)) cut refl $
        use1 𝓛 (‵ (array_at full_share n mid b p) ⊛ ‵ (has n mid) ⊛ ‵ (row u8 full_share front b o)
        ⊛ ‵ (row u8 full_share back b (at p 1 (length mid))))
        (array_out 𝓛 full_share n front mid back b o p long on) $
        split ! $ move ! (1 ∷ []) $ split3 ! $ drop ! $ move ! (2 ∷ []) $
        -- [the array; the bytes before it; those after; the open borrow, in three parts; ..]
        assigns_last ! (of_opd ! (get ! refl)) (through ! refl (stop !)) (store ! 0 refl ok.0) $
        exec ! C Λ En rest (at_ret En Post) $
        sets ! (of_opd ! (unit_lit !)) refl (tt, tt) $
        rewrite ! 2 (λ (c : ℕ). ‵ (row u8 full_share back b (at p 1 c))) (long ∙ sym lw) refl $
        move ! (0 ∷ 8 ∷ 1 ∷ 2 ∷ []) $ group ! 4 $
        use1 𝓛 (‵ (row u8 full_share ys b o)) (array_in 𝓛 full_share n front w back b o p lw on) $
        closes_slice ! tt u8 xs ys same b o $
        returns ! (look_at ! 0 refl) $ free_all ! refl $ keep ! (0 ∷ 1 ∷ 2 ∷ 3 ∷ []) $
        suffices ! _ (ends_at 𝓛 (ended n) (stayed n) clauses ghosts vunit tt (ys, (tt, (tt, tt)))
        (same, (tt, (tt, tt)))) $
        says ! (ap (λ (l : List ℕ). front ++ (w ++ l)) (drop-drop n m xs)) $
        nothing ! $ move ! (4 ∷ 0 ∷ []) $ join ! $ move ! (3 ∷ 0 ∷ []) $ join ! $ frame ! $
        fjoin ! $
        pure_i ! (mut_slice_at u8 (buf ys) (mut_slice_vals (buf xs))) (tt, (tt, tt))
        (ap (λ (k : ℕ). slice_val (b, o) k ∷ []) (sym same), subst (Room u8) (sym same) rm) $
        fjoin ! $
        nothing ! $ nothing ! $ fjoin ! $ nothing ! $ fjoin ! $ move ! (1 ∷ 0 ∷ []) $ fjoin ! $
        feq_i ! (List Val) (vunit ∷ []) (vunit ∷ []) refl $ move ! (1 ∷ 0 ∷ []) $ done !)

  meets : (𝓣 : Tables 𝓤 H)
      → Meets 𝓛 (ended n).signature (WpFn 𝓤 H 𝓣.C 𝓣.Λ (fn' n)) (closing 𝓛 (ended n) clauses)
  meets 𝓣 =
      walk_Meets 𝓛 (ended n) (stayed n) (
        Goes-slice 𝓛 2 0 tt (plain (λ _. u8)),
        (
          Goes-dropped 𝓛 2 (plain
              (λ _. usize)) yes (λ κs x f. refl),
          (
            Goes-dropped 𝓛 2 (plain (λ _. Window n)) yes
                (λ κs x f. refl),
            tt,
          ),
        ),
      ) clauses (WpFn 𝓤 H 𝓣.C 𝓣.Λ (fn' n)) (WpFn-mono 𝓤 H 𝓛.laws 𝓣 (fn' n))
      (walked 𝓛 (ended n) (stayed n) clauses (WpFn 𝓤 H 𝓣.C 𝓣.Λ (fn' n))
      (λ κs. (mut_slice_vals, (uint_vals w64, (array_vals (uint_vals w8), tt))))
      (λ κs. (
        mut_slice_Tells (named 0) κs.0 u8,
        (
          uint_Tells w64,
          (
            Array-Tells u8 (uint_vals w8)
                (uint_Tells w8) n,
            tt,
          ),
        ),
      ))
      (λ κs qs bounds a g are.
      let On : SProp 𝓤 = on_entry 𝓛 (ended n).signature κs qs a (
        mut_slice_vals a.0,
        (
          vint w64 a.1.0 ∷ [],
          (bytes_val a.1.1.0 ∷ [], tt),
        ),
      ) in
      qed 𝓛 (raw On ∷ (given (κs.1.0 ⊑ []) (‵ ftrue) ⊛ given (size (layout (Window n)) < 2 ^ 63)
      (‵ ftrue) ⊛ given (a.1.0 + n ≤ length a.0.now) (‵ ftrue)) ∷ []) ∵
      move ! (1 ∷ []) $ split3 ! $ drop ! $ drop ! $ learn ! (λ le. drop ! $
      by ! (meet 𝓣.C 𝓣.Λ κs.0 κs.1.0 qs.0 qs.1.0 bounds a.0.ref_ptr.0 a.0.ref_ptr.1 a.0.ghost_name
      a.0.now a.1.0
      a.1.1.0 are.1.0.1 are.0.0.1 are.1.1.0 are.1.1.0.1.0.1 le))))

pub put_window_spec : {M : Type 1} → stated.statement M
unfolding tables_of
put_window_spec 𝓤 𝓛 𝓜 𝓡 wired n fits =
    let 𝓣 : Tables 𝓤 𝓛.H = tables_of 𝓤 𝓛.H 𝓜 (tables 𝓤 𝓛.H 𝓜 𝓡 𝓡.env) in
    entered 𝓤 𝓛.H (triple_of 𝓛 (ended n).signature (F.spec (number n) 𝓛 𝓜.mem 𝓡.returns)) 𝓣.C 𝓣.Λ
    (#self (args n))
    (fn' n) (code.unfolded 𝓤 𝓛.H 𝓜 𝓡 wired (number n, tt))
    (meets n 𝓛 𝓜.mem 𝓡.returns 𝓣)
