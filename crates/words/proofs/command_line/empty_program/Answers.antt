use Rattle.words.proofs.Common.{◌≡◌, ◌∙◌, true, ap, IfOk-weaker, app_of_fields, on_top, app_of}
use Rattle.words.specs.CommandLine as line
use Rattle.words.proofs.command_line.empty_program.Goals as goal

pub returns : goal.returns
returns c =
    let versioned : app_of c.version.result ≡ line.versioned_program =
    ap app_of_fields c.version.ensures
    ∙ ap (on_top (λ s. record s { has_version = true })) c.new.ensures.app in
    let start : app_of c.subcommand_required.result ≡ line.empty_program =
    ap app_of_fields c.subcommand_required.ensures
    ∙ ap (on_top (λ s. record s { subcommand_required = true })) versioned in
    IfOk-weaker c.bin_name.result _ _
    (λ made h. ap app_of_fields h.0 ∙ (ap app_of_fields c.about.ensures ∙ start))
    c.bin_name.ensures
