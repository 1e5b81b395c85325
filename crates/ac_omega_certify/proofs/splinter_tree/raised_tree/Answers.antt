use Rattle.std.proofs.Common.{◌≡◌, ◌+◌, length, rules, arith}
use Rattle.ac_omega_certify.proofs.Ranges.{raised}
use Rattle.ac_omega_certify.proofs.splinter_tree.raised_tree.Goals as goal

pub returns : goal.returns
returns c =
    let size : c.len-count.result ≡ length c.args.leaves.items = omega (arith, c.len-count.ensures) in
    let grown : c.in-Some.next ≡ c.args.end + 1 = first_of (omega arith, search rules) in
    raised c.args.leaves.items c.args.form.now c.args.depth c.args.low c.args.end c.in-Some.next c.len-count.result c.in_ok-below.below c.args.onward c.in_ok-tree.tree size grown c.in_ok-tree.ensures c.in_ok-below.ensures
