use Rattle.std.proofs.Common.{◌≡◌, drop}
use Rattle.std.specs.List.{list_all}
use Rattle.ac_syntax.specs.Index.{point, comparison_holds}
use Rattle.ac_instance.specs.declared.state.Machine.{Machine}
use Rattle.ac_instance.specs.Events.{in_test}
use Rattle.ac_instance.proofs.Happen.{Continues}
use Rattle.ac_instance.proofs.run.test.Given as goal

abbrev pub invariant-loop-part : goal.invariant-loop-part
invariant-loop-part l = record {
  holds : list_all (comparison_holds (point l.scope.params.now l.iters)) l.parts ≡ list_all (comparison_holds (point l.scope.params.now l.iters)) (drop l.part-index l.parts);
  steps : (m : Machine) → Continues m (in_test l.scope.side (point l.scope.params.now l.iters) l.parts) m (in_test l.scope.side (point l.scope.params.now l.iters) (drop l.part-index l.parts));
}
