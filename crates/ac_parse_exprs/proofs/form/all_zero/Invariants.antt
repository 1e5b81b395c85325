use Rattle.std.proofs.Common.{◌≡◌, take, true}
use Rattle.std.specs.List.{list_all}
use Rattle.ac_syntax.specs.Index.{is_zero}
use Rattle.ac_parse_exprs.proofs.form.all_zero.Given as goal

abbrev pub invariant-loop-x : goal.invariant-loop-x
invariant-loop-x l = list_all is_zero (take l.x-index l.xs) ≡ true
