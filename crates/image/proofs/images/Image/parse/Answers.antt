use Rattle.image.proofs.Common.{◌≡◌, ℕ, List, Option, Some, None, Result, Ok, Err, inl, inr, sym, ap, ◌∙◌, arith, rules, ◌⊎◌, err_from_is_err_and, MapDef, Insn, Version, Program, ImageError, Memory, IsImage, image_bytes, size_refusal, version_read, program_read, refusal_of}
use Rattle.image.proofs.CodeSpelling.{Laws}
use Rattle.image.proofs.Whole.{parts, sizes, program_read-found, refusal_of-sizes, refusal_of-program, not_both, not_err, same_program}
use Rattle.image.proofs.ImageSpelling.{image_bytes-read}
use Rattle.image.proofs.images.Image.parse.Goals as goal

abbrev ok : Program → Result Program ImageError
ok p = Ok p

-- the bytes of an image are refused only where memory runs out
only_memory : Laws → (bytes : List ℕ) (e : ImageError) → (e ≡ Memory) ⊎ (program_read bytes ≡ Err e)
    → (p : Program) → IsImage p → bytes ≡ image_bytes p → e ≡ Memory
only_memory laws bytes e (inl m) p h q = m
only_memory laws bytes e (inr r) p h q =
    absurd (not_err bytes e p r (image_bytes-read laws bytes p h q).program)

refused : (bytes : List ℕ) (e : ImageError) → size_refusal bytes ≡ None
    → (e ≡ Memory) ⊎ (program_read bytes ≡ Err e) → (e ≡ Memory) ⊎ (refusal_of bytes ≡ Some e)
refused bytes e s (inl m) = inl m
refused bytes e s (inr r) = inr (refusal_of-program bytes (Err e) s r)

-- the parts that were read make the program
read_as : (bytes : List ℕ) (v : Version) (rows : List MapDef) (xs : List (Option Insn))
    → program_read bytes ≡ ok (parts (version_read bytes) rows xs) → v ≡ version_read bytes
    → program_read bytes ≡ ok (parts v rows xs)
read_as bytes v rows xs e is = e ∙ ap (λ w. ok (parts w rows xs)) (sym is)

pub returns-in-Some : goal.returns-in-Some
returns-in-Some c =
    let bytes = c.args.bytes.now in
    let laws : Laws = search rules in
    let refusal = sym c.in-Some.ensures in
    record {
      found = search rules;
      fits = search rules;
      only = λ p h e.
          absurd (not_both bytes c.in-Some.error refusal (image_bytes-read laws bytes p h e).sizes);
      refused = inr (refusal_of-sizes bytes c.in-Some.error refusal);
    }

pub returns-in_err-maps : goal.returns-in_err-maps
returns-in_err-maps c =
    let bytes = c.args.bytes.now in
    let laws : Laws = search rules in
    let e = c.in_err-maps.field-0.0 in
    let given = err_from_is_err_and c.from_residual.result c.from_residual.ensures.1 in
    record {
      found = rw given.1 tt;
      fits = rw given.1 tt;
      only = λ p h is. rw (given.1, given.2) (only_memory laws bytes e c.in_err-maps.ensures p h is);
      refused = rw (given.1, given.2)
          (refused bytes e (sym c.in_default.ensures) c.in_err-maps.ensures);
    }

pub invariant_of-result : goal.invariant_of-result
invariant_of-result c =
    let bytes = c.args.bytes.now in
    let laws : Laws = search rules in
    let e = read_as bytes c.version_of.result c.in_ok-maps.maps.items c.in_ok-maps.slots.items
    c.in_ok-maps.ensures c.version_of.ensures in
    (program_read-found laws bytes _ (λ j. omega (arith, c.type_inv.bytes j))
    (sizes bytes (sym c.in_default.ensures)) e).image

pub returns : goal.returns
returns c =
    let bytes = c.args.bytes.now in
    let laws : Laws = search rules in
    let e = read_as bytes c.version_of.result c.in_ok-maps.maps.items c.in_ok-maps.slots.items
    c.in_ok-maps.ensures c.version_of.ensures in
    let found = program_read-found laws bytes _ (λ j. omega (arith, c.type_inv.bytes j))
    (sizes bytes (sym c.in_default.ensures)) e in
    record {
      found = found.spelled;
      fits = found.image;
      only = λ q h spelled.
          same_program _ q (sym e ∙ (image_bytes-read laws bytes q h spelled).program);
      refused = refusal_of-program bytes _ (sym c.in_default.ensures) e;
    }
