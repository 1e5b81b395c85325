use Rattle.ac_prooftext_lines.proofs.Cuts.{uncut, cut_number, no_point}
use Rattle.ac_prooftext_lines.specs.Spelling.{dotted_word}
use Rattle.std.proofs.Common.{◌++◌, decimal}
use Rattle.ac_prooftext_lines.proofs.numbers.dotted.Goals as goal

pub returns-in_default : goal.returns-in_default
returns-in_default c = λ p can e. uncut 46 c.args.word.now (decimal p.0) (decimal p.1) c.in_default.ensures e

pub returns-in_default-natural : goal.returns-in_default-natural
returns-in_default-natural c = λ p can e.
    let same = cut_number 46 p.0 c.args.word.now c.in-Some.before.now c.in-Some.after.now (decimal p.1) no_point can.0 c.in-Some.ensures e in
    c.in_default-natural.ensures p.0 can.0 same.0

pub returns-in_default-natural-2 : goal.returns-in_default-natural-2
returns-in_default-natural-2 c = λ p can e.
    let same = cut_number 46 p.0 c.args.word.now c.in-Some.before.now c.in-Some.after.now (decimal p.1) no_point can.0 c.in-Some.ensures e in
    c.in_default-natural-2.ensures p.1 can.1 same.1
