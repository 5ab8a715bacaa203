use Rattle.checked_vm.proofs.Common.{◌≡◌, List, subst, ap, ◌∙◌, IfOk, KeyValues}
use Rattle.maps.specs.Maps.{rows_of, contents_of}
use Rattle.maps.proofs.MapLaws.{rows_of-starting, contents_of-starting}
use Rattle.checked_vm.specs.Machines.{LoadedProgram}
use Rattle.checked_vm.proofs.checked.Checked.new.Goals as goal

pub with_maps-requires : goal.with_maps-requires
with_maps-requires c =
    record { rows = ap rows_of c.in-Ok.ensures ∙ rows_of-starting c.args.image.maps }

pub returns : goal.returns
returns c =
    let start = ap contents_of c.in-Ok.ensures ∙ contents_of-starting c.args.image.maps in
    record {
      made =
          subst (λ (contents : List KeyValues). IfOk c.with_maps.result
          (λ (machine : LoadedProgram). machine
          ≡ record { program = c.args.image; contents = contents }))
          start c.with_maps.ensures.made;
    }
