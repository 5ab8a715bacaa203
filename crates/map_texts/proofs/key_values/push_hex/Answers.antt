use Rattle.map_texts.proofs.Common.{◌≡◌, ℕ, List, [], ◌∷◌, ◌++◌, take, slice_index, refl, ap, sym, ◌∙◌, append-nil, append_assoc, add-zero, arith, rules, take_more, encode_with, encode_lower}
use Rattle.map_texts.proofs.key_values.push_hex.Goals as goal

encode-append : (xs ys : List ℕ) → encode_lower (xs ++ ys) ≡ encode_lower xs ++ encode_lower ys
unfolding encode_with
encode-append [] ys = refl
encode-append (x ∷ xs) ys = let h = encode-append xs ys in cc

pub loop-byte-init : goal.loop-byte-init
unfolding encode_with
loop-byte-init c = (sym (append-nil _), sym (add-zero _))

pub loop-byte-preserved : goal.loop-byte-preserved
loop-byte-preserved c =
    let k = c.loop-byte.byte-index in
    let bytes = c.args.bytes.now in
    let more = ap encode_lower (take_more bytes k 0 (omega arith))
    ∙ encode-append (take k bytes) (slice_index bytes k ∷ []) in
    let pair = encode_lower (slice_index bytes k ∷ []) in
    let digits : c.encode_to_slice.new.output ≡ pair = search rules in
    let put : c.push_bytes.new.line.items ≡ c.loop-byte.line.items ++ c.encode_to_slice.new.output =
    search rules in (
      put ∙ ap (λ l. c.loop-byte.line.items ++ l) digits
          ∙ ap (λ l. l ++ pair) c.loop-byte.invariant.0
          ∙ append_assoc c.args.line.now.items (encode_lower (take k bytes)) pair
          ∙ ap (λ l. c.args.line.now.items ++ l) (sym more),
      search rules,
    )
