use Rattle.ac_claims_paths.specs.ModelCalls.{pairing}
use Rattle.ac_claims.proofs.Entering.{entry_formed, entry_entries, entry_due, entry_settles, settles_none}
use Rattle.ac_claims.proofs.stack.advance.Goals as goal

pub take_entry-requires-clause-formed : goal.take_entry-requires-clause-formed
take_entry-requires-clause-formed c = entry_formed c.args.line.now.programs.now.left.now.params c.args.rows c.args.due.now c.pop.new.self c.in-Some.entry c.path_at-path.result c.in-Some.ensures c.requires.entries c.path_at-path.ensures c.requires.formed

pub take_entry-requires-clause-some : goal.take_entry-requires-clause-some
take_entry-requires-clause-some c = entry_due c.args.rows c.args.due.now c.pop.new.self c.in-Some.entry c.path_at-path.result c.in-Some.ensures c.requires.entries c.path_at-path.ensures

pub take_entry-requires-clause-entries : goal.take_entry-requires-clause-entries
take_entry-requires-clause-entries c = entry_entries c.args.rows c.args.due.now c.pop.new.self c.in-Some.entry c.path_at-path.result c.in-Some.ensures c.requires.entries c.path_at-path.ensures

pub returns-in-Some : goal.returns-in-Some
returns-in-Some c =
    entry_settles (pairing c.args.line.now.programs.now) c.args.line.now.claims.now c.args.line.now.item.now c.args.line.now.number c.args.rows c.args.due.now c.pop.new.self c.in-Some.entry c.path_at-path.result c.take_entry.new.due c.take_entry.result c.in-Some.ensures c.requires.entries c.path_at-path.ensures c.take_entry.ensures

pub returns-in-None : goal.returns-in-None
returns-in-None c = settles_none (pairing c.args.line.now.programs.now) c.args.line.now.claims.now c.args.line.now.item.now c.args.line.now.number c.args.rows c.args.due.now c.pop.new.self c.in-None.ensures.0 c.in-None.ensures.1 c.requires.entries
