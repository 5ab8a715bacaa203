use Rattle.messages.proofs.Common.{◌≡◌, ℕ, List, ◌++◌, Result, Ok, Err, String, IfOk, refl, ap, ◌∙◌, codes, decimal, string_bytes, no_action_line, others_words}
use Rattle.std.specs.declared.alloc.Global.{Global}
use Rattle.messages.specs.InvalidRuns.{answer_line, linux_line, invalid_lines}
use Rattle.std.specs.declared.alloc.AllocError.{AllocError}
use Rattle.host.specs.declared.invalid.InvalidFrame.{InvalidFrame}
use Rattle.messages.proofs.invalid.invalid_lines.Goals as goal

abbrev joined : ℕ → List ℕ → List ℕ → List ℕ → List ℕ → List ℕ
joined frame others answer hint linux =
    codes "frame " ++ (decimal frame ++ (others
    ++ (codes ": INVALID\n" ++ (answer ++ (hint ++ linux)))))

parts : (r : Result (String Global) AllocError) (first : InvalidFrame) (count : ℕ)
    (others answer hint linux : List ℕ) → others ≡ others_words count
    → answer ≡ answer_line first.answer → hint ≡ no_action_line → linux ≡ linux_line
    → IfOk r (λ text. string_bytes text ≡ joined first.frame others answer hint linux)
    → IfOk r (λ text. string_bytes text ≡ invalid_lines first count)
parts (Err e) first count others answer hint linux o a h l is = tt
parts (Ok text) first count others answer hint linux o a h l is =
    is ∙ ap (λ (x : List ℕ). joined first.frame x answer hint linux) o
    ∙ ap (λ (x : List ℕ). joined first.frame (others_words count) x hint linux) a
    ∙ ap (λ (x : List ℕ). joined first.frame (others_words count) (answer_line first.answer) x linux)
    h
    ∙ ap (λ (x : List ℕ). joined first.frame (others_words count) (answer_line first.answer)
    no_action_line x) l

pub returns : goal.returns
returns c =
    parts c.lines_of_parts.result c.args.first c.args.count _ _ _ _ c.in_ok-others.ensures
    c.in_ok-answer.ensures refl refl c.lines_of_parts.ensures
