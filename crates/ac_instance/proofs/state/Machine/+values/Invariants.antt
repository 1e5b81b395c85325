use Rattle.std.proofs.Common.{◌≡◌, drop, take, map}
use Rattle.std.specs.List.{flat_map}
use Rattle.ac_syntax.specs.Algebra.{Cell, value_of}
use Rattle.ac_syntax.specs.Index.{point}
use Rattle.ac_syntax.specs.Term.{Term, terms, free}
use Rattle.ac_terms.specs.Table.{StandForAll}
use Rattle.ac_instance.specs.Events.{in_value}
use Rattle.ac_instance.specs.KeptIds.{leaf_in, Holds}
use Rattle.ac_instance.proofs.Happen.{Continues}
use Rattle.ac_instance.proofs.state.Machine.+values.Given as goal

abbrev pub invariant-evaluate_all-loop-value : goal.invariant-evaluate_all-loop-value
invariant-evaluate_all-loop-value l = record {
  terms : (state : Cell → Term) → Holds l.fn.self.table l.cells (leaf_in l.scope.side l.scope.arrays.now) state → StandForAll l.self.table (terms (map (value_of free (point l.scope.params.now l.iters) state) (take l.value-index l.values))) l.ids.items;
  steps : Continues l.fn.self (flat_map (in_value l.scope.side (point l.scope.params.now l.iters)) l.values) l.self (flat_map (in_value l.scope.side (point l.scope.params.now l.iters)) (drop l.value-index l.values));
}
