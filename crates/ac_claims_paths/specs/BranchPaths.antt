-- What a branch adds to a path.
use Rattle.std.specs.Prelude.{true, List, map, Option, option_map}
use Rattle.ac_claims_paths.specs.PathSteps.{extended}
use Rattle.ac_claims_paths.specs.declared.path.Branch.{Branch}
use Rattle.ac_claims_paths.specs.declared.path.Path.{Path}

-- the path behind a branch
abbrev pub onto : Path → Branch → Path
onto h b = record { conj = extended h.conj b.columns b.rows; left = b.left; right = b.right; gone = true; last = b.last }

-- the paths behind branches, where there are any
abbrev pub all_onto : Path → Option (List Branch) → Option (List Path)
all_onto h made = option_map (map (onto h)) made
