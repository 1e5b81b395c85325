use Rattle.std.proofs.Common.{◌≡◌, take, false, nat_eq}
use Rattle.std.specs.Cmp.Lexicographic.{pointwise}
use Rattle.std.specs.List.{list_any}
use Rattle.ac_claims_paths.proofs.symbols.has_name.Given as goal

abbrev pub invariant-loop-candidate : goal.invariant-loop-candidate
invariant-loop-candidate l = list_any (pointwise nat_eq l.name) (take l.candidate-index l.names) ≡ false
