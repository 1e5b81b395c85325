use Rattle.std.proofs.Common.{rules, arith}
use Rattle.ac_cli_args.proofs.Numerals.{number_is}
use Rattle.ac_cli_args.proofs.numbers.number_in.Goals as goal

pub returns-in_default : goal.returns-in_default
returns-in_default c = λ n h.
    let e = number_is c.args.least c.args.greatest c.args.text.now n c.in-Some.n (search rules) h (search rules) (search rules) in
    let k = h.at_most in
    omega (arith, e, k, c.if-n-greatest.false)

pub returns-in_default-2 : goal.returns-in_default-2
returns-in_default-2 c = λ n h.
    let e = number_is c.args.least c.args.greatest c.args.text.now n c.in-Some.n (search rules) h (search rules) (search rules) in
    let k = h.at_least in
    omega (arith, e, k, c.if-least-n.false)
