use Rattle.std.proofs.Common.{◌≡◌, take, false, ◌==◌}
use Rattle.std.specs.List.{list_any}
use Rattle.ac_cli_args.proofs.parts.cut.Given as goal

abbrev pub invariant-loop-at : goal.invariant-loop-at
invariant-loop-at l = list_any (λ c. c == l.byte) (take l.at l.text) ≡ false
