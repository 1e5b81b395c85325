use Rattle.std.proofs.Common.{◌≡◌, take, true}
use Rattle.ac_parse_exprs.specs.AffineForms.{all_kept, plus_times, signed}
use Rattle.ac_parse_exprs.proofs.form.sums.Given as goal

abbrev pub invariant-loop-i : goal.invariant-loop-i
invariant-loop-i l = record { so_far : l.sums ≡ take l.i (plus_times (signed l.down) l.xs l.ys); kept : all_kept l.sums ≡ true }
