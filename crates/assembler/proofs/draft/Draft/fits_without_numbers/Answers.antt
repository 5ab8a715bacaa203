use Rattle.assembler.proofs.Common.{rules, ◌≡◌, ◌≤◌, ◌<◌, ◌∙◌, ap, length, map, drop, slice_index_or, get_or, get_or_default, drop-map, Token, Named, R0, Low32, zeroed, fits_form}
use Rattle.std.proofs.lemmas.List.Edits.{map_over_more}
use Rattle.assembler.specs.declared.tokens.Word.TheVariants as word
use Rattle.assembler.proofs.ZeroedTokens.{range-end, same-items, all-zeroed, has_form-none}
use Rattle.assembler.proofs.draft.Draft.fits_without_numbers.Goals as goal

abbrev some_token : Token
some_token = Named (word.Register Low32 R0)

pub loop-token-preserved : goal.loop-token-preserved
loop-token-preserved c =
    let token : Token =
    slice_index_or c.loop-token.token-items c.loop-token.token-index some_token in
    let within : c.loop-token.token-index < length c.args.self.now.tokens.items = search rules in
    let read : token ≡ get_or c.loop-token.token-items c.loop-token.token-index token =
    get_or_default c.loop-token.token-items c.loop-token.token-index some_token token
    (search rules) in
    rw c.zeroed.ensures
    (map_over_more zeroed c.args.self.now.tokens.items c.loop-token.token-items
    c.loop-token.token-index token within c.loop-token.invariant read)

pub returns-in-Some : goal.returns-in-Some
returns-in-Some c =
    let past : length c.args.self.now.tokens.items ≤ c.loop-token.token-index = search rules in
    let long : length c.loop-token.token-items ≡ c.args.self.now.tokens.len = search rules in
    let before : length c.args.self.now.tokens.items ≡ c.args.self.now.tokens.len = search rules in
    let same : c.deref.result.now ≡ c.loop-token.token-items =
    c.deref.ensures.value
    ∙ same-items c.args.self.now.tokens.len c.loop-token.token-items
    c.args.self.now.tokens.items long before in
    let whole : c.deref.result.now ≡ map zeroed c.args.self.now.tokens.items =
    same ∙ c.loop-token.invariant
    ∙ all-zeroed c.args.self.now.tokens.items c.loop-token.token-index past in
    let behind : c.in-Some.tokens.now ≡ drop c.args.skipped c.deref.result.now =
    c.in-Some.ensures.lookup.0.2 ∙ range-end c.args.skipped c.deref.result.now in
    let rest : c.in-Some.tokens.now
    ≡ map zeroed (drop c.args.skipped c.args.self.now.tokens.items) = behind
    ∙ ap (λ ts. drop c.args.skipped ts) whole
    ∙ drop-map zeroed c.args.skipped c.args.self.now.tokens.items in
    c.fits_form.ensures ∙ ap (λ ts. fits_form ts) rest

pub returns-in-None : goal.returns-in-None
returns-in-None c =
    let past : length c.args.self.now.tokens.items ≤ c.args.skipped = search rules in
    has_form-none c.args.self.now.tokens.items c.args.skipped past
