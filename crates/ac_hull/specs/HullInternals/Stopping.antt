-- The stop of a call on a hull, from that of the elimination.
use Rattle.std.specs.Prelude.{◌≡◌, ℤ, List}
use Rattle.ac_forms.specs.declared.stop.FormStop.{FormStop}
use Rattle.ac_forms.specs.declared.stop.FormStop.TheVariants.{Wide, Memory}
use Rattle.ac_hull.specs.declared.stop.HullStop.{HullStop}
use Rattle.ac_hull.specs.declared.stop.HullStop.TheVariants.{Overflow, Memory as NoMemory}

-- the points, where a number was wide
abbrev pub IsStopAt : List (List ℤ) → FormStop → HullStop → Type 0
IsStopAt points Wide (Overflow ps) = ps ≡ points
IsStopAt points (Memory e) (Overflow ps) = ⊥
IsStopAt points s (NoMemory e) = Unit {0}
