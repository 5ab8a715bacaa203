-- Laws of the bytes that a capture's frame stream has left.
use Rattle.captures.proofs.Common.{◌≡◌, ℕ, Bool, true, List, slice_range, Option, Some, None, refl, sym, subst, ap, ◌∙◌, option_map, IsAtEnd, prepend_known, PacketEnd, CapturePosition, FindsPacket, FoundEnd, Past, packets_left, stream_rest, CapturedPacket}
use Rattle.frames.proofs.BuffersLaws.{none_ahead}
use Rattle.captures.specs.Damage.{KeepsEnd, end_by}

-- after the end nothing is left
pub rest-ended : (held : List ℕ) (given count : ℕ) (ended : Bool) (at : CapturePosition)
    (left : Option (List ℕ)) → given ≡ count → ended ≡ true
    → IsAtEnd (prepend_known (slice_range held given count)
    (option_map (stream_rest ended at) left))
rest-ended held given count ended at left spent over =
    subst IsAtEnd (sym (none_ahead held given count (option_map (stream_rest ended at) left) spent))
    (subst (λ (b : Bool). IsAtEnd (option_map (stream_rest b at) left)) (sym over) (none_left left))
  where
    none_left : (left : Option (List ℕ)) → IsAtEnd (option_map (stream_rest true at) left)
    none_left None = tt
    none_left (Some bytes) = refl

-- the packets end as it was found
pub end-found : (old new : CapturePosition) (before after : Option (List ℕ)) (stop : PacketEnd)
    → new ≡ Past stop → FindsPacket old before new after (FoundEnd stop)
    → KeepsEnd (end_by old before) (end_by new after)
end-found old new None after stop past finds = tt
end-found old new (Some bytes) None stop past finds = absurd finds
end-found old new (Some bytes) (Some rest) stop past finds =
    ap (λ (p : CapturePosition). Some (packets_left p rest).1) past
    ∙ ap (λ (t : List CapturedPacket × PacketEnd). Some t.1) (sym finds)
