-- Parts in groups.
use Rattle.std.specs.Prelude.{List, [], ◌∷◌, ◌++◌, Option, Some, None, option_to_list}
use Rattle.state_index.specs.declared.parts.Part.{Part}
use Rattle.kept_states.specs.declared.groups.KeptParts.{KeptParts}
use Rattle.kept_states.specs.declared.groups.KeptParts.TheVariants.{Few, AfterConstant, Many}
use Rattle.kept_states.specs.Constants.{constant_part}

-- all parts, group by group
abbrev pub whole : List (List Part) → List Part
whole [] = []
whole (group ∷ groups) = group ++ whole groups

-- the constant of a kept call frame that is kept by itself
abbrev pub constant_of : KeptParts → Option Part
constant_of (Few parts) = None
constant_of (AfterConstant n v others) = Some (constant_part n v)
constant_of (Many groups) = None

-- its other parts that are in no group
abbrev pub others_of : KeptParts → List Part
others_of (Few parts) = parts.items
others_of (AfterConstant n v others) = others.items
others_of (Many groups) = []

-- all of its parts that are in no group
abbrev pub few_of : KeptParts → List Part
few_of kept = option_to_list (constant_of kept) ++ others_of kept

-- and its groups
abbrev pub groups_of : KeptParts → List (List Part)
groups_of (Few parts) = []
groups_of (AfterConstant n v others) = []
groups_of (Many groups) = groups.items
