-- Outer frames that were passed over: bytes that spell one, whatever comes after them.
use Rattle.table_entries.proofs.Common.{◌≡◌, ℕ, ◌-◌, ◌≤◌, true, List, [], length, take, slice_get, Option, Some, None, Ok, inl, inr, sym, ap, ◌∙◌, subst, refl, is_some, AbstractFrame, Read, seen, frame_in, SpellsFrame, ArePassed, BeginsKnown, IsNoted}
use Rattle.table_entries.specs.declared.known_bytes.FrameBytes.{FrameBytes}
use Rattle.table_entries.proofs.Fronts.{SpellsFrame-before}
use Rattle.table_entries.proofs.Seen.{read-seen}
use Rattle.table_entries.proofs.KnownBytesLaws.{pushed_get, taken_get}

pub ArePassed-none : (rows : ℕ) (known : List FrameBytes) → known ≡ [] → ArePassed rows known
ArePassed-none rows known none =
    subst (ArePassed rows) (sym none) (λ holder s there. absurd (cc))

-- bytes that begin with known ones are passed over with these
pub seen-known : (rows holder : ℕ) (known : List FrameBytes) (bytes rest : List ℕ)
    → ArePassed rows known → BeginsKnown known holder bytes rest
    → seen (frame_in rows holder true bytes) ≡ Ok (true, rest)
seen-known rows holder known bytes rest passed (s, there, is) =
    let (f, spells) = passed holder s there in
    ap (λ (b : List ℕ). seen (frame_in rows holder true b)) is ∙ ap seen (spells rest)

some_of : (o : Option AbstractFrame) → is_some o ≡ true → (f : AbstractFrame) × (o ≡ Some f)
some_of (Some f) h = (f, refl)
some_of None h = absurd (cc)

seen_some : (r : Read AbstractFrame) (rest : List ℕ) → seen r ≡ Ok (true, rest)
    → (f : AbstractFrame) × (r ≡ Ok (Some f, rest))
seen_some r rest h =
    let found = read-seen r true rest h in
    let there = some_of found.0 found.2 in
    (there.0, found.1 ∙ ap (λ (o : Option AbstractFrame). Ok (o, rest)) there.1)

-- the bytes of a frame that was passed over
pub passed_before : (rows holder : ℕ) (bytes rest : List ℕ)
    → seen (frame_in rows holder true bytes) ≡ Ok (true, rest)
    → (f : AbstractFrame) × (length rest ≤ length bytes)
    × SpellsFrame rows holder (take (length bytes - length rest) bytes) f
passed_before rows holder bytes rest h =
    let (f, is) = seen_some (frame_in rows holder true bytes) rest h in
    let before = SpellsFrame-before rows holder bytes f rest is in
    (f, before.0, before.1)

ArePassed-take : (rows n : ℕ) (known : List FrameBytes) → ArePassed rows known
    → ArePassed rows (take n known)
ArePassed-take rows n known passed = λ holder s there.
    passed holder s (taken_get n known holder s there).1

-- they become known in place of others
pub ArePassed-noted : (rows holder : ℕ) (bytes : List ℕ) (f : AbstractFrame)
    (known old new : List FrameBytes) → ArePassed rows known → old ≡ take holder known
    → IsNoted holder bytes old new → SpellsFrame rows holder bytes f → ArePassed rows new
ArePassed-noted rows holder bytes f known old new passed is (inl same) spells =
    subst (ArePassed rows) (sym (same ∙ is)) (ArePassed-take rows holder known passed)
ArePassed-noted rows holder bytes f known old new passed is (inr (s, end, are, more)) spells =
    λ j t there.
    elim (pushed_get old s t j (ap (λ xs. slice_get xs j) (sym more) ∙ there)) [
      | inl before ↦
          subst (ArePassed rows) (sym is) (ArePassed-take rows holder known passed) j t before
      | inr last ↦
          let index : j ≡ holder = last.0 ∙ end in (
            f,
            subst (λ (i : ℕ). SpellsFrame rows i t.bytes.now f) (sym index)
                (subst (λ (u : FrameBytes). SpellsFrame rows holder u.bytes.now f) (sym last.1)
                (subst (λ (b : List ℕ). SpellsFrame rows holder b f) (sym are) spells)),
          )
    ]
