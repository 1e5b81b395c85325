use Rattle.std.proofs.Common.{subst, sym}
use Rattle.ac_claims_paths.specs.ModelCalls.{pairing}
use Rattle.ac_claims_paths.specs.declared.path.Path.{Path}
use Rattle.ac_forms.specs.Rows.{IsWellMade}
use Rattle.ac_claims.proofs.DueForms.{made_front}
use Rattle.ac_claims.proofs.Entering.{side_settles}
use Rattle.ac_claims.proofs.StackSteps.{row_entries}
use Rattle.ac_claims.proofs.stack.take_side.Goals as goal

pub longer-requires-clause-made : goal.longer-requires-clause-made
longer-requires-clause-made c = (made_front c.args.path.conj c.args.row c.requires.made).0

pub longer-requires-clause-over : goal.longer-requires-clause-over
longer-requires-clause-over c = (made_front c.args.path.conj c.args.row c.requires.made).1

pub take_at-requires-clause-made : goal.take_at-requires-clause-made
take_at-requires-clause-made c = subst (λ (p : Path). IsWellMade p.conj) (sym c.in_ok-path.ensures) c.requires.made

pub take_at-requires-clause-entries : goal.take_at-requires-clause-entries
take_at-requires-clause-entries c = row_entries c.args.path c.in_ok-path.path c.args.row c.args.due.now c.in_ok-path.ensures c.requires.entries

pub returns : goal.returns
returns c =
    side_settles (pairing c.args.line.now.programs.now) c.args.line.now.claims.now c.args.line.now.item.now c.args.line.now.number c.args.path c.in_ok-path.path c.args.row c.args.due.now c.take_at.new.due c.take_at.result c.in_ok-path.ensures c.requires.entries c.take_at.ensures
