use Rattle.std.proofs.Common.{sym, subst}
use Rattle.ac_top.specs.ProgramAnswers.{AreRefused, first_not_lowered, second_not_lowered}
use Rattle.ac_top.specs.RunStages.{IsLowering, said_by}
use Rattle.ac_top.proofs.Lowerings.{fits_left, fits_right}
use Rattle.ac_top.proofs.lowering.lowered_pair.Goals as goal

pub lowered_program-requires-clause-context : goal.lowered_program-requires-clause-context
lowered_program-requires-clause-context c = fits_left c.args.pair.now c.requires.pair

pub lowered_program-requires-2-clause-context : goal.lowered_program-requires-2-clause-context
lowered_program-requires-2-clause-context c = fits_right c.args.pair.now c.requires.pair

pub returns-in-Refused : goal.returns-in-Refused
returns-in-Refused c =
    let left = c.args.left.now in
    let right = c.args.right.now in
    let pair = c.args.pair.now in
    let why = subst (IsLowering pair.left pair.context) c.in-Refused.is c.in_ok-model.ensures in
    subst (AreRefused left.name.now right.name.now left.bytes.now right.bytes.now) (sym c.in_ok-refusal_line-in-Refused.ensures) (first_not_lowered pair (said_by c.in-Refused.complaint) c.requires.are why)

pub returns-in-Refused-2 : goal.returns-in-Refused-2
returns-in-Refused-2 c =
    let left = c.args.left.now in
    let right = c.args.right.now in
    let pair = c.args.pair.now in
    let made = subst (IsLowering pair.left pair.context) c.in-Model.is c.in_ok-model.ensures in
    let why = subst (IsLowering pair.right pair.context) c.in-Refused-2.is c.in_ok-model-2.ensures in
    subst (AreRefused left.name.now right.name.now left.bytes.now right.bytes.now) (sym c.in_ok-refusal_line-in-Refused-2.ensures) (second_not_lowered pair (said_by c.in-Refused-2.complaint) c.requires.are made.0 why)

pub returns : goal.returns
returns c =
    let pair = c.args.pair.now in
    let one = subst (IsLowering pair.left pair.context) c.in-Model.is c.in_ok-model.ensures in
    let two = subst (IsLowering pair.right pair.context) c.in-Model-2.is c.in_ok-model-2.ensures in
    (record { left = one.0; right = two.0 }, record { left_is = one.1; right_is = two.1 })
