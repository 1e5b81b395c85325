use Rattle.std.proofs.Common.{◌≡◌, take, true}
use Rattle.ac_parse_exprs.specs.AffineForms.{all_small}
use Rattle.ac_parse_exprs.proofs.form.narrowed.Given as goal

abbrev pub invariant-loop-x : goal.invariant-loop-x
invariant-loop-x l = record { so_far : l.numbers ≡ take l.x-index l.xs; small : all_small l.numbers ≡ true }
