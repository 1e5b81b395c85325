use Rattle.std.proofs.Common.{ap}
use Rattle.ac_unfold.specs.UnfoldPaths.{BrokenPathsOf}
use Rattle.ac_unfold.proofs.breaks.BrokenPaths.into_paths.Goals as goal

pub returns-clause-same : goal.returns-clause-same
returns-clause-same c = ap (λ (f : BrokenPathsOf). f.paths) c.self.view_is

pub returns-clause-paths : goal.returns-clause-paths
returns-clause-paths c = c.self.invariant.0
