use Rattle.captures.proofs.Common.{◌≡◌, ◌∙◌, ℕ, ◌-◌, List, ◌++◌, length, take, drop, ap, sym, arith, length-drop, take-append-drop, take_all, head_bytes}
use Rattle.captures.proofs.WritingLaws.{fails-unwritten, takes-record}
use Rattle.captures.proofs.taking.take_record.Goals as goal

pub returns-then-length-max_body : goal.returns-then-length-max_body
returns-then-length-max_body g c =
    fails-unwritten c.args.written.form c.args.written.version c.args.written.described
    c.args.written.lost (g.W.Write.contents c.args.output.now)

pub returns : goal.returns
returns g c =
    let part = c.args.part.now in
    let start = c.head_size-start.result in
    let said = c.head_of-length.result in
    let rest = drop start part in
    let body = take (length part - start) rest in
    let all : body ≡ rest =
    take_all (length part - start) rest (omega (arith, length-drop start part)) in
    let long : length body ≡ said.1 =
    ap length all ∙ length-drop start part
    ∙ omega (arith, c.if-whole-part.false, c.if-part-whole.false) in
    let whole : part ≡ head_bytes c.args.version said.0 (length body) said.2 ++ body =
    sym (take-append-drop start part)
    ∙ ap (λ (l : List ℕ). l ++ rest) (sym c.head_of-length.ensures
    ∙ ap (λ (n : ℕ). head_bytes c.args.version said.0 n said.2) (sym long))
    ∙ ap (λ (l : List ℕ). head_bytes c.args.version said.0 (length body) said.2 ++ l) (sym all) in
    takes-record c.args.written.form c.args.written.version c.args.version
    c.args.written.described c.args.written.lost part
    (record { head = said.0; body = body; reason = said.2 })
    (g.W.Write.contents c.args.output.now) (g.W.Write.contents c.take_frame.new.output)
    c.take_frame.result c.requires.version whole c.take_frame.ensures
