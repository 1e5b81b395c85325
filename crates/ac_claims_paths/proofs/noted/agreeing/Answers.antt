use Rattle.std.proofs.Common.{rules, ◌+◌, ap}
use Rattle.ac_claims_paths.proofs.Notes.{agree_step}
use Rattle.ac_claims_paths.proofs.noted.agreeing.Goals as goal

pub loop-note-preserved : goal.loop-note-preserved
loop-note-preserved c = (ap (λ n. n + 1) c.loop-note.invariant.0, agree_step c.args.noted.now c.args.rows.now c.loop-note.count c.note-item.result c.in-Some.row.now c.loop-note.invariant.1 (search rules) (search rules) (search rules) (search rules) (search rules))
