-- Lists that grow by what is made, as long as all of it is made.
use Rattle.std.specs.Prelude.{◌≡◌, ◌++◌, List, Option, Some, None, Result, Ok, Err, Bool, true, false}
use Rattle.std.specs.declared.alloc.AllocError.{AllocError}
use Rattle.ac_claims_paths.specs.PathColumns.{all_of}
use Rattle.ac_claims_paths.specs.declared.path.Path.{Path}

-- all of them behind the old ones; or one of them is missing
abbrev pub Adds : List (Option Path) → List Path → List Path → Result Bool AllocError → Type 0
Adds os old new (Ok true) = (more : List Path) × (all_of os ≡ Some more) × (new ≡ old ++ more)
Adds os old new (Ok false) = all_of os ≡ None
Adds os old new (Err e) = Unit {0}
