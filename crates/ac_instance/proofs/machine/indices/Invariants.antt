use Rattle.std.proofs.Common.{◌≡◌, drop, take, map}
use Rattle.std.specs.List.{flat_map}
use Rattle.ac_syntax.specs.Index.{point, index_value}
use Rattle.ac_instance.specs.declared.state.Machine.{Machine}
use Rattle.ac_instance.specs.Events.{index}
use Rattle.ac_instance.proofs.Happen.{Continues}
use Rattle.ac_instance.proofs.machine.indices.Given as goal

abbrev pub invariant-loop-sub : goal.invariant-loop-sub
invariant-loop-sub l = record {
  value : l.at.items ≡ map (index_value (point l.scope.params.now l.iters)) (take l.sub-index l.subs);
  steps : (m : Machine) → Continues m (flat_map (index l.scope.side (point l.scope.params.now l.iters)) l.subs) m (flat_map (index l.scope.side (point l.scope.params.now l.iters)) (drop l.sub-index l.subs));
}
