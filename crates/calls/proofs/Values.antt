-- What a `Loose` and a `Session` are in compiled code, and what they own there. Assumes `Logic`.
use Rattle.calls.proofs.Common.{◌≡◌, ℕ, List, [], ◌∷◌, ◌++◌, refl, subst, Option, None, Some, impl, tnil, dnil, Val, vptr, vstruct, vcons, vnil, of_list, has_ty, WT, never, id⊢, via, fst∗, snd∗, guard_i, Fml, fact_use, Item, Goal, Seq, Step, step, ‵, ◌$◌, move, drop, fsplit, fjoin, fpick, fpack, feq_i, feq_l, use1, given, learn, RattleType, Valss, Ptr, Testable, block_ptr, null_ptr, ptr_val, in_a_block, nothing, layout, Laws, Al, handle_tells, Good, box_owns, ghosts, Running}
use mathlib.Core.Bool.{true, ◌&&◌}
use lib.Dec.{T}
use seplogic.Ra.Ura.{Ura}
use mir.Raw.{raw as bare}
use types.Logic.{Logic, sem}
use denote.Builtin.{RawPtr}
use denote.Memory.{lone}
use denote.Struct.Struct.{within}
use denote.Struct.Owning.{shape}
use Rattle.std.specs.declared.alloc.Allocator.{Ghosts}
use Rattle.std.proofs.ResultValues.{and_tt}
use Rattle.std.specs.declared.alloc.Global.{Global}
use Rattle.std.specs.Ptr.{points_to}
use Rattle.std.proofs.GlobalToken.{dealloc_token-Testable}
use Rattle.machine.specs.contracts.machines.Machine as machine
use Rattle.calls.specs.Ownership.{session_owns}
use Rattle.calls.specs.contracts.loose.Loose as loose
use Rattle.calls.specs.contracts.sessions.Session as session

abbrev pub both : Val → Val → Val
both v w = vstruct (vcons v (vcons w vnil))

module _ (R Z : RattleType) (L : Laws Z) (g : Ghosts Z.Denot) where
  abbrev pub Loose : RattleType
  Loose = loose.the_row R Z g

  abbrev pub al : Al
  al = record { row = Z; laws = L; g = g; d = impl [] tnil dnil; drops = impl [] tnil dnil }

  pub loose_good : (b o : ℕ) (h : Val) → Good (layout Z) h
      → T (has_ty (layout Z) h && true) × WT (both (vptr b o) h)
  loose_good b o h fits = (and_tt (has_ty (layout Z) h) fits.0, (tt, (fits.1, tt)))

  module _ {M : Type 1} {𝓤 : Ura M} {𝓛 : Logic 𝓤} {K : Type 0} {Γ : List (Item 𝓤)}
      {G : Goal 𝓤 𝓛.H} where
    pub loose_out : K → (d : Loose.Denot) (vs : List Val)
        → ((b o : ℕ) (h : Val) → d.at ≡ block_ptr b o → vs ≡ both (vptr b o) h ∷ []
        → Good (layout Z) h
        → Seq K 𝓛 (‵ (box_owns (g.dealloc_token d.alloc) R (block_ptr b o) d.value)
        ∷ ‵ (Z.own_val d.alloc (h ∷ [])) ∷ Γ) G)
        → Seq K 𝓛 (‵ (Loose.own_val d vs) ∷ Γ) G
    loose_out t d vs k =
        fsplit t $ fpick t
        (λ vss. fsplit t $ feq_l t
        (λ ev. fsplit t $ feq_l t
        (λ ep. fsplit t $ handle_tells al t d.alloc vss.1.0
        (λ h ea fits. move t (1 ∷ []) $ drop t $ move t (1 ∷ []) $
        in_a_block t d.at (λ p. box_owns (g.dealloc_token d.alloc) R p d.value)
        (fst∗ 𝓤 (never 𝓤) (sem 𝓛 (g.dealloc_token d.alloc (bare (lone R.mir)) null_ptr)))
        (λ b o e. k b o h e
        (subst (λ (p : Ptr). vs ≡ vstruct (of_list (ptr_val p ∷ h ∷ [])) ∷ []) e
        (subst (λ (ws : List Val). vs ≡ vstruct (of_list (ptr_val d.at ∷ (ws ++ []))) ∷ []) ea
        (subst (λ (ps : List Val). vs ≡ vstruct (of_list (ps ++ (vss.1.0 ++ []))) ∷ []) ep ev)))
        fits)))))

    pub loose_in : K → (b o : ℕ) (h : Val) (a : Z.Denot) (x : R.Denot)
        → Step K 𝓛 (‵
        (Loose.own_val (record { at = block_ptr b o; alloc = a; value = x })
        (both (vptr b o) h ∷ [])) ∷ Γ) G
        (‵ (box_owns (g.dealloc_token a) R (block_ptr b o) x) ∷ ‵ (Z.own_val a (h ∷ [])) ∷ Γ) G
    loose_in t b o h a x = step (λ s. let v : Val = both (vptr b o) h in
        nothing t $ move t (2 ∷ 0 ∷ []) $ fjoin t $ feq_i t (List Val) (vptr b o ∷ [])
        (vptr b o ∷ []) refl $ fjoin t $ feq_i t (List Val) (v ∷ []) (v ∷ []) refl $ fjoin t $
        fpack t (Valss (RawPtr ∷ Z ∷ []))
        (within (shape (loose.the_type R Z g)) (block_ptr b o, (a, tt)) (v ∷ []))
        (vptr b o ∷ [], (h ∷ [], tt)) $ fjoin t $ s)

-- a struct of one field, by what the field holds
abbrev pub one_field : Val → Val
one_field v = vstruct (vcons v vnil)

abbrev pub Session : RattleType
Session = session.the_row

abbrev Owns : Running → Global → Ptr → Fml
Owns x a p = box_owns (ghosts.dealloc_token a) machine.the_row p x

module _ {M : Type 1} {𝓤 : Ura M} {𝓛 : Logic 𝓤} {K : Type 0} {Γ : List (Item 𝓤)}
    {G : Goal 𝓤 𝓛.H} where
  pub session_out : K → (d : Session.Denot) (vs : List Val)
      → (vs ≡ one_field (ptr_val d.at) ∷ [] → Seq K 𝓛 (‵ (session_owns d.held d.at) ∷ Γ) G)
      → Seq K 𝓛 (‵ (Session.own_val d vs) ∷ Γ) G
  session_out t d vs k =
      fsplit t $ fpick t (λ vss. fsplit t $ feq_l t (λ ev. fsplit t $ feq_l t (λ ep. drop t $ k
      (subst (λ (ps : List Val). vs ≡ vstruct (of_list (ps ++ [])) ∷ []) ep ev))))

  pub session_in : K → (d : Session.Denot)
      → Step K 𝓛 (‵ (Session.own_val d (one_field (ptr_val d.at) ∷ [])) ∷ Γ) G
      (‵ (session_owns d.held d.at) ∷ Γ) G
  session_in t d = step (λ s. let v : Val = one_field (ptr_val d.at) in
      nothing t $ feq_i t (List Val) (ptr_val d.at ∷ [])
      (ptr_val d.at ∷ []) refl $ fjoin t $ feq_i t (List Val) (v ∷ []) (v ∷ []) refl $ fjoin t $
      fpack t (Valss (RawPtr ∷ [])) (within (shape session.the_type) (d.at, tt) (v ∷ []))
      (ptr_val d.at ∷ [], tt) $ fjoin t $ s)

  -- nothing at null, or a machine in a block
  pub either : K → (held : Option Running) (p : Ptr) (a : Global)
      → (held ≡ None → p ≡ null_ptr → Seq K 𝓛 Γ G)
      → ((b o : ℕ) (x : Running) → held ≡ Some x → p ≡ block_ptr b o → Testable (block_ptr b o)
      → Seq K 𝓛 (‵ (box_owns (ghosts.dealloc_token a) machine.the_row (block_ptr b o) x) ∷ Γ) G)
      → Seq K 𝓛 (‵ (session_owns held p) ∷ Γ) G
  either t None p a none some = fpick t (λ e. drop t $ none refl e)
  either t (Some x) p a none some = fpick t (λ heap. use1 𝓛 (‵ (Owns x a p)) (id⊢ 𝓤 _) $
      in_a_block t p (λ q. Owns x a q)
      (fst∗ 𝓤 (never 𝓤)
      (sem 𝓛 (ghosts.dealloc_token a (bare (lone machine.the_row.mir)) null_ptr))) (λ b o e.
      let q : Ptr = block_ptr b o in
      use1 𝓛 (given (Testable q) (‵ (Owns x a q)))
      (fact_use 𝓤 (Testable q)
      (via 𝓤 _ (snd∗ 𝓤 (sem 𝓛 (points_to machine.the_row q x))
      (sem 𝓛 (ghosts.dealloc_token a (bare (lone machine.the_row.mir)) q)))
      (dealloc_token-Testable 𝓛 a (bare (lone machine.the_row.mir)) q))
      (guard_i 𝓤 (Testable q) (sem 𝓛 (Owns x a q)))) $ learn t
      (λ tested. some b o x refl e tested)))
