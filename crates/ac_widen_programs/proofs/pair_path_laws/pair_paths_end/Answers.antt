use Rattle.ac_widen_programs.proofs.Ending.{broken_claims_fail, ends_are_mismatches}
use Rattle.ac_widen_programs.proofs.pair_path_laws.pair_paths_end.Goals as goal

pub returns-clause-mismatches : goal.returns-clause-mismatches
returns-clause-mismatches c = ends_are_mismatches

pub returns-clause-claims : goal.returns-clause-claims
returns-clause-claims c = broken_claims_fail
