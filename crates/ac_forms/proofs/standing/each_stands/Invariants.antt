use Rattle.std.proofs.Common.{◌≡◌, drop}
use Rattle.ac_forms.specs.Standing.{all_stand_among}
use Rattle.ac_forms.proofs.standing.each_stands.Given as goal

abbrev pub invariant-loop-row : goal.invariant-loop-row
invariant-loop-row l = all_stand_among l.kept l.wanted ≡ all_stand_among l.kept (drop l.row-index l.wanted)
