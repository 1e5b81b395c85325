-- When a call on a hull is stopped: want of memory may come at any time, and Overflow exactly where a number leaves `i128`.
use Rattle.std.specs.Prelude.{◌≡◌, ℤ, List}
use Rattle.ac_hull.specs.declared.stop.HullStop.{HullStop}
use Rattle.ac_hull.specs.declared.stop.HullStop.TheVariants.{Overflow, Memory}

-- a number leaves `i128`, and the points are handed back
abbrev pub HandsBack : List (List ℤ) → HullStop → Type 0 → Type 0
HandsBack points (Overflow ps) P = P × (ps ≡ points)
HandsBack points (Memory e) P = Unit {0}
