-- What the stops of a walk and of a question tell. Want of memory may come at any time, and tells nothing.
use Rattle.ac_omega.specs.declared.halt.Halt.{Halt}
use Rattle.ac_omega.specs.declared.halt.Halt.TheVariants.{Wide, Spent, Memory}
use Rattle.ac_omega.specs.declared.pieces.Stop.{Stop}
use Rattle.ac_omega.specs.declared.pieces.Stop.TheVariants as stop

-- a number leaves `i128`; no budget is spent
abbrev pub OnlyWide : Halt → Type 0 → Type 0
OnlyWide Wide P = P
OnlyWide (Spent c) P = ⊥
OnlyWide (Memory e) P = Unit {0}

-- P, where the stop is not want of memory
abbrev pub UnlessMemory : Stop → Type 0 → Type 0
UnlessMemory (stop.Overflow c) P = P
UnlessMemory (stop.Spent c k) P = P
UnlessMemory (stop.Memory e) P = Unit {0}
