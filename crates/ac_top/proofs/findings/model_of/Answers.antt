use Rattle.std.proofs.Common.{subst}
use Rattle.ac_top.specs.RunStages.{IsLowering, said_by}
use Rattle.ac_top.proofs.ArrangedLowerings.{not_refused}
use Rattle.ac_top.proofs.findings.model_of.Goals as goal

pub returns : goal.returns
returns c = (subst (IsLowering c.args.program.now c.args.context.now) c.in-Model.is c.in_ok-model.ensures).1

pub unreachable-requires : goal.unreachable-requires
unreachable-requires c =
    let why = subst (IsLowering c.args.program.now c.args.context.now) c.in-Refused.is c.in_ok-model.ensures in
    not_refused c.args.program.now (said_by c.in-Refused._complaint) c.requires.lowered why
