-- `into_loose` tests the pointer, and what the session owned is then the box's.
use Rattle.calls.proofs.Common.{◌≡◌, List, [], ◌∷◌, ◌++◌, refl, sym, ap, ◌∙◌, subst, lit<, None, Some, Val, vptr, vcons, vnil, SProp, ent, emp, id⊢, ftrue, WpFn, ‵, raw, ◌⊛◌, at_ret, ◌$◌, ◌∵◌, !, qed, by, move, keep, split, fsplit, fjoin, suffices, use0, use1, stop, fld, lit, of_opd, bin, no_more, and_then, first, branches, exec, returns, enter, alloc_all, pass_all, free_all, look_at, get, get_in, sets, sets_last, env, agg, sub, whole, fact, fact_i, tables, yes, RattleType, owns, types_at, type_at, plain, Ptr, block_ptr, null_ptr, ptr_val, tests_null, nothing, layout, Stays, stay_dropped, walk_of, Goes-dropped, handle_tells, Good, ghosts, proved_at, leaves}
use types.Match.{live}
use Rattle.std.proofs.alloc.Shapes.{after}
use Rattle.std.proofs.option.Made.{Some-of, none_of}
use Rattle.std.specs.contracts.alloc.Global as heap
use Rattle.std.proofs.alloc.Global.TheLaws as heap_laws
use Rattle.std.proofs.ResultValues.{and_tt}
use Rattle.machine.specs.contracts.machines.Machine as machine
use Rattle.calls.proofs.Values.{Session, Loose, al, both, one_field, loose_good, loose_in, session_out, either}
use Rattle.calls.specs.contracts.sessions.Session.into_loose.{ended, clauses}
use Rattle.calls.specs.contracts.sessions.Session.into_loose.Key.{name as #self}
use Rattle.calls.proofs.sessions.Session.into_loose.Statement.{statement}
use Rattle.calls.proofs.sessions.Session.into_loose.Code as code

pub into_loose_spec : {M : Type 1} → statement M
into_loose_spec 𝓤 𝓛 𝓜 𝓡 wired =
    let H = 𝓛.H in
    let 𝓣 = tables 𝓤 H 𝓜 𝓡 𝓡.env in let c = clauses 𝓛 𝓜.mem 𝓡.returns in let fn = code.function in
    let R : RattleType = machine.the_row in
    let Z : RattleType = heap.the_row in
    let LZ = heap_laws.the_row_laws in let Lr : RattleType = Loose R Z LZ ghosts in
    let hs : Stays ended.signature.params ended.kept =
    (stay_dropped (plain (λ _. Session)) yes, (stay_dropped (plain (λ _. Z)) yes, tt)) in
    proved_at 𝓛 ended hs c 𝓜 𝓡 (
      Goes-dropped 𝓛 0 (plain (λ _. Session)) yes (λ κs x f. refl),
      (Goes-dropped 𝓛 0 (plain (λ _. Z)) yes (λ κs x f. refl), tt),
    ) #self fn
    (code.unfolded 𝓤 H 𝓜 𝓡 wired) (λ z are.
    let κs = z.0.0 in
    let d = z.0.3.0 in
    let a = z.0.3.1.0 in let Out : RattleType = type_at ended.signature.result κs in
    let Post : Val → SProp 𝓤 = (walk_of 𝓛 ended hs c).post z in
    let Run : List Val → SProp 𝓤 = λ ws. WpFn 𝓤 H 𝓣.C 𝓣.Λ fn ws Post in
    qed 𝓛 ((‵ ftrue ⊛ ‵ (owns (types_at ended.signature.params κs) z.0.3 z.0.4))
    ∷ raw ((c κs z.0.3).requires z.1) ∷ []) ∵ split ! $ move ! (1 ∷ []) $ fsplit ! $
    session_out ! d z.0.4.0
    (λ ws. move ! (1 ∷ []) $ fsplit ! $ handle_tells (al R Z LZ ghosts) ! a z.0.4.1.0
    (λ h eh fits.
    -- [the handle; nothing; what the session owns; nothing; nothing]
    move ! (2 ∷ []) $ either ! d.held d.at a
    (λ none null. let w : Val = one_field (ptr_val null_ptr) in let v : Val = live 0 vnil in
    suffices ! (Run (w ∷ h ∷ []))
    (subst (λ (us : List Val). ent 𝓤 (Run (w ∷ h ∷ [])) (Run us))
    (sym (λ i. (ws ∙ ap (λ (p : Ptr). one_field (ptr_val p) ∷ []) null) i ++ (eh i ++ [])))
    (id⊢ 𝓤 (Run (w ∷ h ∷ [])))) $
    enter ! 𝓣.C 𝓣.Λ fn (w ∷ h ∷ []) Post $ alloc_all !
    (λ l. pass_all ! refl ((tt, (record { fits = lit< tt }, tt)), (fits, tt)) $
    sets ! (of_opd ! (get_in ! (fld ! refl (stop !)) (sub ! 0 refl (whole !)))) refl
    (tt, record { fits = lit< tt }) $
    sets ! (bin ! (get ! refl) (lit ! tt) tt) refl (tt, tt) $ first ! $ branches ! (get ! refl)
    (λ _. sets_last ! (agg ! (and_then ! (lit ! tt) (no_more !))) refl
    (tt, (record { fits = lit< tt }, tt)) $
    exec ! 𝓣.C 𝓣.Λ (env fn.locals l) (after 3 fn.body) (at_ret (env fn.locals l) Post) $ sets !
    (of_opd ! (get ! refl)) refl (tt, (record { fits = lit< tt }, tt)) $
    use0 𝓛 (‵ (Out.own_val None (v ∷ []))) (none_of 𝓛 Lr) $
    use0 𝓛 (raw (fact 𝓤 (None ≡ d.held)))
    (fact_i 𝓤 (None ≡ d.held) (emp 𝓤) (sym none)) $ nothing ! $ nothing ! $ fjoin ! $ nothing !
    $ fjoin ! $
    returns ! (look_at ! 0 refl) $ free_all ! refl $ keep ! (4 ∷ 0 ∷ 2 ∷ 1 ∷ []) $ by !
    (leaves 𝓛 ended hs c z v None (tt, (tt, tt)) (tt, (tt, tt))))
    (λ wrong. absurd wrong)))
    (λ b o x some is tested. let w : Val = one_field (vptr b o) in let made : Val = both
    (vptr b o) h in let typed = loose_good R Z LZ ghosts b o h fits in
    let v : Val = live 1 (vcons made vnil) in
    let m : Lr.Denot = record { at = block_ptr b o; alloc = a; value = x } in
    let good : Good (layout Out) v =
    (and_tt _ typed.0, (record { fits = lit< tt }, (typed.1, tt))) in
    suffices ! (Run (w ∷ h ∷ []))
    (subst (λ (us : List Val). ent 𝓤 (Run (w ∷ h ∷ [])) (Run us))
    (sym (λ i. (ws ∙ ap (λ (p : Ptr). one_field (ptr_val p) ∷ []) is) i ++ (eh i ++ [])))
    (id⊢ 𝓤 (Run (w ∷ h ∷ [])))) $
    enter ! 𝓣.C 𝓣.Λ fn (w ∷ h ∷ []) Post $ alloc_all !
    (λ l. pass_all ! refl ((tt, (tt, tt)), (fits, tt)) $
    sets ! (of_opd ! (get_in ! (fld ! refl (stop !)) (sub ! 0 refl (whole !)))) refl (tt, tt) $
    sets ! (bin ! (get ! refl) (lit ! tt) (tests_null (block_ptr b o) tested)) refl
    (tt, tt) $ first ! $ branches ! (get ! refl) (λ wrong. absurd wrong) (λ _.
    sets ! (of_opd ! (get ! refl)) refl (tt, tt) $
    sets ! (agg ! (and_then ! (get ! refl) (and_then ! (get ! refl) (no_more !)))) refl typed $
    sets_last ! (agg ! (and_then ! (lit ! tt) (and_then ! (get ! refl) (no_more !)))) refl good $
    exec ! 𝓣.C 𝓣.Λ (env fn.locals l) (after 3 fn.body) (at_ret (env fn.locals l) Post) $ sets !
    (of_opd ! (get ! refl)) refl good $
    loose_in R Z LZ ghosts ! b o h a x $ use1 𝓛 (‵ (Out.own_val (Some m) (v ∷ [])))
    (Some-of 𝓛 Lr m made) $
    use0 𝓛 (raw (fact 𝓤 (Some x ≡ d.held)))
    (fact_i 𝓤 (Some x ≡ d.held) (emp 𝓤) (sym some)) $ nothing ! $ nothing ! $ fjoin ! $ nothing
    ! $ fjoin ! $
    returns ! (look_at ! 0 refl) $ free_all ! refl $ keep ! (4 ∷ 0 ∷ 2 ∷ 1 ∷ []) $ by !
    (leaves 𝓛 ended hs c z v (Some m) (tt, (tt, tt)) (tt, (tt, tt)))))))))
