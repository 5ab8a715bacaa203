use Rattle.commands.proofs.Common.{rules, ◌≡◌, ◌++◌, [], ◌∷◌, IsIdle, without, gap_of}
use Rattle.image.proofs.CodeSpelling.{take-rest}
use Rattle.commands.proofs.TextsLaws.{shortened}
use Rattle.commands.proofs.texts.KeptText.shorten.Goals as goal

pub returns : goal.returns
returns c =
    let text = c.args.self.now.bytes.items in
    let from = c.in-Some.part.from in
    let to = c.in-Some.part.to in
    let idle : IsIdle from to text = search rules in
    let left : c.extend_from_slice-2.new.self.items ≡ without from to text =
    search (rules, take-rest) in
    let gap : c.of-gap.result ≡ gap_of from to text = search rules in
    let pushed : c.push.new.self.items
    ≡ c.args.self.now.gaps.items ++ gap_of from to text ∷ [] = search rules in
    shortened text c.args.self.now.gaps.items c.push.new.self.items
    c.extend_from_slice-2.new.self.items from to idle left pushed
