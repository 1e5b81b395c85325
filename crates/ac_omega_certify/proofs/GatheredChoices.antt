-- Choices gathered one by one.
use Rattle.std.specs.Prelude.{List, [], ◌∷◌, ◌++◌, Option, Some, None}
use Rattle.ac_omega_steps.specs.declared.choose.Choice.{Choice}
use Rattle.ac_omega_certify.specs.Alternatives.{Alternatives}

-- the list that a list becomes by adding these in order, where there is one in each place
abbrev pub gathered : List Choice → Alternatives → Option (List Choice)
gathered made [] = Some made
gathered made (None ∷ hs) = None
gathered made (Some h ∷ hs) = gathered (made ++ h ∷ []) hs
