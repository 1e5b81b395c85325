use Rattle.std.proofs.Common.{sym}
use Rattle.ac_claims_paths.specs.ModelCalls.{pairing}
use Rattle.ac_claims.proofs.Entering.{settles_at, class_formed}
use Rattle.ac_claims.proofs.stack.take_class.Goals as goal

pub take_at-requires-clause-made : goal.take_at-requires-clause-made
take_at-requires-clause-made c = (class_formed c.args.line.now.programs.now.left.now.params c.args.path c.args.classes c.in_ok-next.next _ _ c.requires.classes c.in_ok-next.ensures.value c.requires.path).made

pub returns : goal.returns
returns c = settles_at (pairing c.args.line.now.programs.now) c.args.line.now.claims.now c.args.line.now.item.now c.args.line.now.number _ _ c.take_at.new.due c.take_at.result (sym c.in_ok-next.ensures.value) c.take_at.ensures
