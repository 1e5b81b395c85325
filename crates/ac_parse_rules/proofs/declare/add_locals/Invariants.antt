use Rattle.std.proofs.Common.{◌≡◌, ◌≤◌, ◌+◌, ◌++◌, drop}
use Rattle.ac_parse_rules.specs.Declarations.{local_entries}
use Rattle.ac_parse_rules.proofs.declare.add_locals.Given as goal

abbrev pub invariant-loop-declared : goal.invariant-loop-declared
invariant-loop-declared l = record {
  so_far : l.all ++ local_entries l.body (drop l.declared-index l.locals) l.arrays ≡ l.fn.entries ++ local_entries l.body l.locals l.fn.inputs;
  arrays : l.arrays ≤ l.fn.inputs + l.declared-index;
}
