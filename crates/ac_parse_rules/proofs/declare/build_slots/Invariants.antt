use Rattle.std.proofs.Common.{◌≡◌, ◌≤◌, ◌++◌, drop}
use Rattle.ac_parse_rules.specs.Declarations.{slots_from}
use Rattle.ac_parse_rules.proofs.declare.build_slots.Given as goal

abbrev pub invariant-loop-declared : goal.invariant-loop-declared
invariant-loop-declared l = record {
  so_far : l.slots ++ slots_from (drop l.declared-index l.params) l.numbers l.arrays ≡ slots_from l.params 0 0;
  numbers : l.numbers ≤ l.declared-index;
  arrays : l.arrays ≤ l.declared-index;
}
