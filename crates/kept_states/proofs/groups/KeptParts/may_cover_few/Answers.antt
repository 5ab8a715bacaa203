use Rattle.kept_states.proofs.Common.{option_to_list, sym, subst, All, IsPartOf, constant_of, others_of}
use Rattle.kept_states.proofs.GroupLaws.{All-others}
use Rattle.kept_states.proofs.groups.KeptParts.may_cover_few.Goals as goal

pub returns : goal.returns
returns c = λ parts.
    let frame = c.args.frame.now in
    let kept = c.args.self.now in
    c.may_cover_all.ensures
    (subst (All (IsPartOf frame)) (sym c.others.ensures)
    (All-others (IsPartOf frame) (option_to_list (constant_of kept)) (others_of kept) parts))
