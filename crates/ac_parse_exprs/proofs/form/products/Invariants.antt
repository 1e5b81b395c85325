use Rattle.std.proofs.Common.{◌≡◌, take, true}
use Rattle.ac_parse_exprs.specs.AffineForms.{all_kept, times}
use Rattle.ac_parse_exprs.proofs.form.products.Given as goal

abbrev pub invariant-loop-x : goal.invariant-loop-x
invariant-loop-x l = record { so_far : l.products ≡ take l.x-index (times l.fn.k l.xs); kept : all_kept l.products ≡ true }
