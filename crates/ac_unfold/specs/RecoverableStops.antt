-- Stops with which a caller goes on.
use Rattle.ac_unfold.specs.declared.types.UnfoldStop.{UnfoldStop}
use Rattle.ac_unfold.specs.declared.types.UnfoldStop.TheVariants.{Overflow, Spent, Paths, Memory}

-- a stop that is not want of memory
abbrev pub IsStop : UnfoldStop → Type 0
IsStop (Overflow question) = Unit {0}
IsStop (Spent question cost) = Unit {0}
IsStop (Paths found) = Unit {0}
IsStop (Memory want) = ⊥
