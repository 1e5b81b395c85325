use Rattle.std.proofs.Common.{drop}
use Rattle.std.specs.List.{flat_map}
use Rattle.ac_syntax.specs.Index.{point}
use Rattle.ac_instance.specs.declared.state.Machine.{Machine}
use Rattle.ac_instance.specs.Events.{quotient}
use Rattle.ac_instance.proofs.Happen.{Continues}
use Rattle.ac_instance.proofs.machine.quotients.Given as goal

abbrev pub invariant-loop-quot : goal.invariant-loop-quot
invariant-loop-quot l =
    (m : Machine) → Continues m (flat_map (quotient l.scope.side (point l.scope.params.now l.iters)) l.quots) m (flat_map (quotient l.scope.side (point l.scope.params.now l.iters)) (drop l.quot-index l.quots))
