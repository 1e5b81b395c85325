use Rattle.std.proofs.Common.{sym}
use Rattle.ac_claims_paths.specs.ModelCalls.{pairing}
use Rattle.ac_claims.proofs.Entering.{settles_at, branch_formed}
use Rattle.ac_claims.proofs.stack.take_branch.Goals as goal

pub take_at-requires-clause-made : goal.take_at-requires-clause-made
take_at-requires-clause-made c = (branch_formed c.args.line.now.programs.now.left.now.params c.args.path c.args.left c.in_ok-next.next _ _ c.requires.some c.in_ok-next.ensures.value c.requires.formed).made

pub returns : goal.returns
returns c = settles_at (pairing c.args.line.now.programs.now) c.args.line.now.claims.now c.args.line.now.item.now c.args.line.now.number _ _ c.take_at.new.due c.take_at.result (sym c.in_ok-next.ensures.value) c.take_at.ensures
