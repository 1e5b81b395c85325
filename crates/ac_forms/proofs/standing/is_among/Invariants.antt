use Rattle.std.proofs.Common.{◌≡◌, drop}
use Rattle.ac_forms.specs.Standing.{is_among}
use Rattle.ac_forms.proofs.standing.is_among.Given as goal

abbrev pub invariant-loop-other : goal.invariant-loop-other
invariant-loop-other l = is_among l.row l.rows ≡ is_among l.row (drop l.other-index l.rows)
