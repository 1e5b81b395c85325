use Rattle.ac_widen_programs.proofs.Picks.{points_are_numbers}
use Rattle.ac_widen_programs.proofs.pair_path_laws.points_are_numbers.Goals as goal

pub returns : goal.returns
returns c = λ params s p l k m. points_are_numbers params s.0 s.1 p l k m
