use Rattle.std.proofs.Common.{◌≡◌, ◌≤◌, ◌++◌, drop}
use Rattle.ac_parse_rules.specs.Declarations.{param_entries}
use Rattle.ac_parse_rules.proofs.declare.param_entries.Given as goal

abbrev pub invariant-loop-declared : goal.invariant-loop-declared
invariant-loop-declared l = record {
  so_far : l.entries ++ param_entries (drop l.declared-index l.params) l.numbers l.arrays ≡ param_entries l.params 0 0;
  numbers : l.numbers ≤ l.declared-index;
  arrays : l.arrays ≤ l.declared-index;
}
