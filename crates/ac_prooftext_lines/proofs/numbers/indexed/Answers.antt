use Rattle.std.proofs.Common.{◌++◌, decimal}
use Rattle.std.specs.Fmt.{signed_decimal}
use Rattle.ac_prooftext_lines.proofs.Cuts.{uncut, cut_number, no_colon}
use Rattle.ac_prooftext_lines.proofs.numbers.indexed.Goals as goal

pub returns-in_default : goal.returns-in_default
returns-in_default c = λ p can e. uncut 58 c.args.word.now (decimal p.0) (signed_decimal p.1) c.in_default.ensures e

pub returns-in_default-natural : goal.returns-in_default-natural
returns-in_default-natural c = λ p can e.
    let same = cut_number 58 p.0 c.args.word.now c.in-Some.before.now c.in-Some.after.now (signed_decimal p.1) no_colon can.0 c.in-Some.ensures e in
    c.in_default-natural.ensures p.0 can.0 same.0

pub returns-in_default-integer : goal.returns-in_default-integer
returns-in_default-integer c = λ p can e.
    let same = cut_number 58 p.0 c.args.word.now c.in-Some.before.now c.in-Some.after.now (signed_decimal p.1) no_colon can.0 c.in-Some.ensures e in
    c.in_default-integer.ensures p.1 can.1 same.1
