use Rattle.image.proofs.Common.{◌≡◌, ℕ, List, ◌∙◌, ap, sym, subst, take, OnErr, take_at, spelling_of, AppendsBeginning}
use Rattle.image.proofs.CodeSpelling.{length-spelling_of}
use Rattle.image.proofs.code.write_insn.Goals as goal

pub returns-clause-err : goal.returns-clause-err
returns-clause-err g c =
    let insn = c.args.insn.now in
    let n = c.encode-length.result in
    let same : take n c.encode-length.new.out ≡ spelling_of insn =
    ap (take n) c.encode-length.ensures.bytes
    ∙ take_at (spelling_of insn) _ n
    (length-spelling_of insn ∙ sym c.encode-length.ensures.length) in
    subst (λ (l : List ℕ). OnErr c.write_bytes.result
    (AppendsBeginning (g.W.Write.contents c.args.writer.now)
    (g.W.Write.contents c.write_bytes.new.writer) l)) same c.write_bytes.ensures.err
