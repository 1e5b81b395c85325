use Rattle.ac_instance.specs.declared.halt.Halt.TheVariants.{OutsideContext, Wide}
use Rattle.ac_walk.proofs.Elements.{halts_all}
use Rattle.ac_walk.proofs.differing.no_element.Goals as goal

pub returns-in-OutsideContext-clause-halts : goal.returns-in-OutsideContext-clause-halts
returns-in-OutsideContext-clause-halts c = halts_all c.args.halt OutsideContext c.in-OutsideContext.is (λ d h. h)

pub returns-in-Wide-clause-halts : goal.returns-in-Wide-clause-halts
returns-in-Wide-clause-halts c = halts_all c.args.halt Wide c.in-Wide.is (λ d h. h)
