-- The maps of a machine between runs, by the texts that fill and list them.
use Rattle.machine.proofs.Common.{◌≡◌, ℕ, List, Result, ap, subst, ◌∙◌, MapDef, Program, MapState, rows_of, contents_of, Running}
use Rattle.isa_model.specs.Reporting.Streams.{ByEnd}
use Rattle.map_texts.specs.declared.errors.MapTextError.{MapTextError}
use Rattle.map_texts.specs.Fillings.{FilledMaps, filled_by}
use Rattle.map_texts.specs.Listings.{text_of}
use Rattle.map_texts.specs.Reading.{filled_of, error_of}
use Rattle.machine.specs.Texts.{FillsMaps, filled_maps}
use Rattle.machine.proofs.BetweenRunsLaws.{seen}

module _ (p : Program) (bound : ℕ) (maps : List MapState) (rows : rows_of maps ≡ p.maps)
    (r : Running) (view : seen p bound maps ≡ r) where
  pub fills : (text : List ℕ) (new : List MapState) (result : Result (Unit {0}) MapTextError)
      → filled_of new result
      ≡ filled_by (rows_of maps) (contents_of maps) (record { bytes = text; ending = ByEnd })
      → FillsMaps text (error_of result) r (seen p bound new)
  fills text new result is =
      let filled : filled_of new result ≡ filled_maps (seen p bound maps) text =
      is
      ∙ ap (λ (rs : List MapDef). filled_by rs (contents_of maps)
      (record { bytes = text; ending = ByEnd })) rows in
      subst (λ (x : Running). FillsMaps text (error_of result) x (seen p bound new)) view
      (record {
        error_is = ap (λ (f : FilledMaps). f.error) filled;
        machine =
            ap (λ (f : FilledMaps). let m : Running =
            record { program = p; bound = bound; contents = f.contents } in m) filled;
      })

  pub text_seen : text_of (rows_of maps) (contents_of maps) ≡ text_of r.program.maps r.contents
  text_seen =
      ap (λ (rs : List MapDef). text_of rs (contents_of maps)) rows
      ∙ ap (λ (x : Running). text_of x.program.maps x.contents) view
