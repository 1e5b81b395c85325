use Rattle.std.proofs.Common.{◌≡◌, take, true}
use Rattle.ac_parse_exprs.specs.AffineForms.{all_small}
use Rattle.ac_parse_exprs.proofs.form.all_small.Given as goal

abbrev pub invariant-loop-x : goal.invariant-loop-x
invariant-loop-x l = all_small (take l.x-index l.xs) ≡ true
