use Rattle.std.proofs.Common.{sym, subst}
use Rattle.ac_parse.specs.ProgramPairs.{HasPairFault}
use Rattle.ac_top.specs.ProgramAnswers.{AreNoPair, signatures_differ, nothing_compared}
use Rattle.ac_top.proofs.sources.pair_programs.Goals as goal

pub returns-in_ok-signature_line-in-Err-Signature : goal.returns-in_ok-signature_line-in-Err-Signature
returns-in_ok-signature_line-in-Err-Signature c =
    let fault = subst (HasPairFault c.args.left c.args.right) c.in-Err-Signature.field-0-is c.in-Err-Signature.ensures.fault in
    subst (AreNoPair c.args.left c.args.right) (sym c.in_ok-signature_line-in-Err-Signature.ensures) (signatures_differ c.in-Err-Signature.number fault)

pub returns-in_ok-no_output_line-in-Err-NoOutput : goal.returns-in_ok-no_output_line-in-Err-NoOutput
returns-in_ok-no_output_line-in-Err-NoOutput c =
    let fault = subst (HasPairFault c.args.left c.args.right) c.in-Err-NoOutput.field-0-is c.in-Err-NoOutput.ensures.fault in
    subst (AreNoPair c.args.left c.args.right) (sym c.in_ok-no_output_line-in-Err-NoOutput.ensures) (nothing_compared fault)
