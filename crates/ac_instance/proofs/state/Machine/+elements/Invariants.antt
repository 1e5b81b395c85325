use Rattle.std.proofs.Common.{length}
use Rattle.ac_syntax.specs.Algebra.{Cell}
use Rattle.ac_syntax.specs.Term.{Term}
use Rattle.ac_instance.specs.declared.halt.Side.TheVariants.{Left, Right}
use Rattle.ac_instance.specs.Events.{in_elements}
use Rattle.ac_instance.specs.KeptIds.{leaf_in, Holds}
use Rattle.ac_instance.specs.Least.{AgreeAt, IsLeast}
use Rattle.ac_instance.proofs.Elements.{upto, elements_left}
use Rattle.ac_instance.proofs.Happen.{Continues}
use Rattle.ac_instance.proofs.state.Machine.+elements.Given as goal

abbrev pub decreases-first_beneath : goal.decreases-first_beneath
decreases-first_beneath l = length l.sizes.now

abbrev pub invariant-loop-k : goal.invariant-loop-k
invariant-loop-k l = record {
  steps : Continues l.fn.self (in_elements l.sizes) l.self (elements_left l.k l.k-end l.rest);
  least : (left right : Cell → Term) → Holds l.fn.self.table l.runs.left.now (leaf_in Left l.runs.arrays.now) left → Holds l.fn.self.table l.runs.right.now (leaf_in Right l.runs.arrays.now) right
      → IsLeast (upto (AgreeAt l.fn.self.table.commutative l.runs.output left right) l.prefix l.rest l.k) l.best;
}
