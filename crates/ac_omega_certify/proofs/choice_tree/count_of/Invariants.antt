use Rattle.std.proofs.Common.{◌≡◌, ◌+◌, ◌≤◌, drop}
use Rattle.ac_omega_certify.specs.ChoiceBranches.{count_of}
use Rattle.ac_omega_certify.proofs.choice_tree.count_of.Given as goal

abbrev pub invariant-loop-choice : goal.invariant-loop-choice
invariant-loop-choice l = record {
  so_far : l.count + count_of l.i (drop l.choice-index l.choices) ≡ count_of l.i l.choices;
  few : l.count ≤ l.choice-index;
}
