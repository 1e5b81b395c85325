use Rattle.ac_widen_programs.proofs.Entries.{mismatches_are_shown, steps_are_justified, pair_paths_derive}
use Rattle.ac_widen_programs.proofs.pair_path_laws.pair_paths_derive.Goals as goal

pub returns-clause-steps : goal.returns-clause-steps
returns-clause-steps c = steps_are_justified

pub returns-clause-derivation : goal.returns-clause-derivation
returns-clause-derivation c = pair_paths_derive

pub returns-clause-mismatch : goal.returns-clause-mismatch
returns-clause-mismatch c = mismatches_are_shown
