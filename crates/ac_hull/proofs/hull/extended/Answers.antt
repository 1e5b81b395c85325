use Rattle.std.proofs.Common.{rules}
use Rattle.ac_hull.proofs.Hulls.{extension_lengths, extension_some}
use Rattle.ac_hull.proofs.hull.extended.Goals as goal

pub equalities-made-requires-clause-lengths : goal.equalities-made-requires-clause-lengths
equalities-made-requires-clause-lengths c = extension_lengths c.args.columns c.args.lines.now _ c.args.members.now c.args.line c.requires (search rules)

pub equalities-made-requires-clause-some : goal.equalities-made-requires-clause-some
equalities-made-requires-clause-some c = extension_some c.args.columns c.args.lines.now _ c.args.members.now c.args.line c.requires (search rules)
