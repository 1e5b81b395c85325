use Rattle.std.proofs.Common.{◌≡◌, [], take, drop}
use Rattle.ac_syntax.specs.Algebra.{Cell}
use Rattle.ac_syntax.specs.Index.{point}
use Rattle.ac_syntax.specs.Outputs.{extents_at}
use Rattle.ac_syntax.specs.Term.{Term}
use Rattle.ac_instance.specs.declared.halt.Side.TheVariants.{Left, Right}
use Rattle.ac_instance.specs.ComparisonAnswers.{in_outputs, AreOutcomes}
use Rattle.ac_instance.specs.KeptIds.{leaf_in, Holds}
use Rattle.ac_instance.specs.Least.{AgreeAt, throughout}
use Rattle.ac_instance.proofs.Happen.{Continues}
use Rattle.ac_instance.proofs.state.Machine.compare_all.Given as goal

abbrev pub invariant-loop-output : goal.invariant-loop-output
invariant-loop-output l = record {
  steps : Continues l.fn.self (in_outputs l.scope.side (point l.scope.params.now []) l.scope.arrays.now l.outputs) l.self (in_outputs l.scope.side (point l.scope.params.now []) l.scope.arrays.now (drop l.output-index l.outputs));
  outcomes : (left right : Cell → Term) → Holds l.fn.self.table l.left (leaf_in Left l.scope.arrays.now) left → Holds l.fn.self.table l.right (leaf_in Right l.scope.arrays.now) right
      → AreOutcomes (λ o. throughout (AgreeAt l.fn.self.table.commutative o left right) (point l.scope.params.now []) (extents_at l.scope.arrays.now o)) (take l.output-index l.outputs) l.outcomes;
}
