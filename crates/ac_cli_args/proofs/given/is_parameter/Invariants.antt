use Rattle.std.proofs.Common.{◌≡◌, take, false, nat_eq}
use Rattle.std.specs.List.{list_any}
use Rattle.std.specs.Cmp.Lexicographic.{pointwise}
use Rattle.ac_cli_args.proofs.given.is_parameter.Given as goal

abbrev pub invariant-loop-param : goal.invariant-loop-param
invariant-loop-param l = list_any (pointwise nat_eq l.name) (take l.param-index l.params) ≡ false
