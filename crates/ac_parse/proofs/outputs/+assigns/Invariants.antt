use Rattle.std.proofs.Common.{◌≡◌, drop}
use Rattle.std.specs.List.{list_any}
use Rattle.ac_parse.specs.AssignedArrays.{assigns}
use Rattle.ac_parse.proofs.outputs.+assigns.Given as goal

abbrev pub invariant-assigns_in-loop-statement : goal.invariant-assigns_in-loop-statement
invariant-assigns_in-loop-statement l = list_any (assigns l.array) l.body ≡ list_any (assigns l.array) (drop l.statement-index l.body)
