-- `closed` makes a session at null, which owns nothing.
use Rattle.calls.proofs.Common.{◌≡◌, [], ◌∷◌, refl, lit<, None, Val, SProp, emp, ftrue, ‵, raw, ◌⊛◌, ◌$◌, ◌∵◌, !, qed, by, keep, fpack, use0, lit, no_more, and_then, returns, enter, alloc_all, pass_all, free_all, look_at, sets, agg, fact, fact_i, tables, null_ptr, ptr_val, nothing, Stays, walk_of, proved_at, leaves}
use Rattle.calls.proofs.Values.{Session, one_field, session_in}
use Rattle.calls.specs.contracts.sessions.Session.closed.{ended, clauses}
use Rattle.calls.specs.contracts.sessions.Session.closed.Key.{name as #self}
use Rattle.calls.proofs.sessions.Session.closed.Statement.{statement}
use Rattle.calls.proofs.sessions.Session.closed.Code as code

pub closed_spec : {M : Type 1} → statement M
closed_spec 𝓤 𝓛 𝓜 𝓡 wired =
    let H = 𝓛.H in let 𝓣 = tables 𝓤 H 𝓜 𝓡 𝓡.env in let c = clauses 𝓛 𝓜.mem 𝓡.returns in
    let hs : Stays ended.signature.params ended.kept = tt in
    proved_at 𝓛 ended hs c 𝓜 𝓡 tt #self code.function (code.unfolded 𝓤 H 𝓜 𝓡 wired) (λ z are.
    let Post : Val → SProp 𝓤 = (walk_of 𝓛 ended hs c).post z in
    let d : Session.Denot = record { at = null_ptr; held = None } in
    let w : Val = one_field (ptr_val null_ptr) in
    qed 𝓛 ((‵ ftrue ⊛ ‵ ftrue) ∷ raw ((c z.0.0 z.0.3).requires z.1) ∷ []) ∵
    enter ! 𝓣.C 𝓣.Λ code.function [] Post $ alloc_all ! (λ l. pass_all ! refl tt $
    sets ! (agg ! (and_then ! (lit ! tt) (no_more !))) refl (tt, (record { fits = lit< tt }, tt)) $
    nothing ! $ fpack ! (null_ptr ≡ null_ptr) (λ _. ftrue) refl $ session_in ! d $
    use0 𝓛 (raw (fact 𝓤 (d.held ≡ None)))
    (fact_i 𝓤 (d.held ≡ None) (emp 𝓤) refl) $ nothing ! $ nothing ! $
    returns ! (look_at ! 0 refl) $ free_all ! refl $ keep ! (0 ∷ 1 ∷ 3 ∷ 2 ∷ []) $ by !
    (leaves 𝓛 ended hs c z w d tt tt)))
