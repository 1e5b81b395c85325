use Rattle.std.proofs.Common.{◌≡◌, ◌∙◌, length, option_map, sym, ap, arith}
use Rattle.std.proofs.lemmas.Bool.Decides.{nat_tests}
use Rattle.ac_claims_paths.specs.ModelCalls.{called, pairing}
use Rattle.ac_unfold.proofs.Stopped.{two_calls}
use Rattle.ac_unfold.proofs.kinds.are_calls.Goals as goal

pub returns-then-same_symbol-clause-there : goal.returns-then-same_symbol-clause-there
returns-then-same_symbol-clause-there c = λ e.
    let many : length c.in-Some.left.args.now ≡ length c.in-Some-call_at.right.args.now = grind (arith, nat_tests, e) in
    two_calls (pairing c.args.programs.now) c.args.path.now c.in-Some.left c.in-Some-call_at.right (sym c.call_at.ensures ∙ ap (option_map called) c.in-Some.is) (sym c.call_at-in-Some.ensures ∙ ap (option_map called) c.in-Some-call_at.is)
    (sym c.same_symbol.ensures ∙ c.if-same_symbol.true) many
