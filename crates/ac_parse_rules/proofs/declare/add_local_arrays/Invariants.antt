use Rattle.std.proofs.Common.{◌≡◌, ◌+◌, ◌++◌, drop}
use Rattle.ac_syntax.specs.declared.tree.Kind.TheVariants.{Local}
use Rattle.ac_parse_rules.specs.Declarations.{arrays_from, is_loop_name}
use Rattle.ac_parse_rules.proofs.declare.add_local_arrays.Given as goal

abbrev pub invariant-loop-i : goal.invariant-loop-i
invariant-loop-i l =
    l.arrays ++ arrays_from l.names l.scope Local (is_loop_name l.body) (l.first + l.i) (drop l.i l.locals)
    ≡ l.fn.inputs ++ arrays_from l.names l.scope Local (is_loop_name l.body) l.first l.locals
