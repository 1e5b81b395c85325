use Rattle.std.proofs.Common.{sym, subst}
use Rattle.ac_syntax.specs.ReadyPrograms.{FitParts}
use Rattle.ac_gen.proofs.Pairs.{paired, small, lowered, everywhere, runs, within}
use Rattle.ac_gen.proofs.pair.generated.Goals as goal

pub lowered-requires-clause-program : goal.lowered-requires-clause-program
lowered-requires-clause-program c = (paired c.args.seed c.args.stages c.in_ok-pair.pair c.requires.some c.requires.few c.in_ok-pair.ensures).left

pub lowered-requires-clause-context : goal.lowered-requires-clause-context
lowered-requires-clause-context c = (paired c.args.seed c.args.stages c.in_ok-pair.pair c.requires.some c.requires.few c.in_ok-pair.ensures).context

pub lowered-requires-clause-lowered : goal.lowered-requires-clause-lowered
lowered-requires-clause-lowered c = (lowered c.args.seed c.args.stages c.in_ok-pair.pair c.requires.some c.requires.few c.in_ok-pair.ensures).0

pub lowered-requires-2-clause-program : goal.lowered-requires-2-clause-program
lowered-requires-2-clause-program c = (paired c.args.seed c.args.stages c.in_ok-pair.pair c.requires.some c.requires.few c.in_ok-pair.ensures).right

pub lowered-requires-2-clause-context : goal.lowered-requires-2-clause-context
lowered-requires-2-clause-context c =
    let both = paired c.args.seed c.args.stages c.in_ok-pair.pair c.requires.some c.requires.few c.in_ok-pair.ensures in
    subst (λ n. FitParts n 0 c.in_ok-pair.pair.context.parts) (sym both.params) both.context

pub lowered-requires-2-clause-lowered : goal.lowered-requires-2-clause-lowered
lowered-requires-2-clause-lowered c = (lowered c.args.seed c.args.stages c.in_ok-pair.pair c.requires.some c.requires.few c.in_ok-pair.ensures).1

pub returns-clause-paired : goal.returns-clause-paired
returns-clause-paired c = paired c.args.seed c.args.stages c.in_ok-pair.pair c.requires.some c.requires.few c.in_ok-pair.ensures

pub returns-clause-small : goal.returns-clause-small
returns-clause-small c = small c.args.seed c.args.stages c.in_ok-pair.pair c.requires.some c.requires.few c.in_ok-pair.ensures

pub returns-clause-valuations : goal.returns-clause-valuations
returns-clause-valuations c = everywhere c.args.seed c.args.stages c.in_ok-pair.pair c.requires.some c.requires.few c.in_ok-pair.ensures

pub returns-clause-ready : goal.returns-clause-ready
returns-clause-ready c = runs c.args.seed c.args.stages c.in_ok-pair.pair c.requires.some c.requires.few c.in_ok-pair.ensures

pub returns-clause-within : goal.returns-clause-within
returns-clause-within c = within c.args.seed c.args.stages c.in_ok-pair.pair c.requires.some c.requires.few c.in_ok-pair.ensures
