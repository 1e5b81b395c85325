use Rattle.std.proofs.Common.{◌∙◌, ◌++◌, false, FitsSigned, w64, rules}
use Rattle.std.proofs.lemmas.Int.{to_z-of_z}
use Rattle.ac_syntax.specs.Text.{terms, quot_terms, constant_term, sum_text}
use Rattle.ac_syntax.proofs.Sums.{joined_terms, ended_sum}
use Rattle.ac_syntax.proofs.print.forms.push_form.Goals as goal

pub returns : goal.returns
returns c =
    let k : FitsSigned w64 c.args.e.now.konst = search rules in
    let last = simp to_z-of_z at c.in_ok-push_last.ensures in
    let names = terms c.as_slice.result.now c.args.scope.now.params ++ terms c.as_slice-2.result.now c.args.scope.now.iters in
    let quots = quot_terms c.args.scope.now c.as_slice-3.result.now in
    let s = joined_terms names quots false c.in_ok-any.any c.in_ok-any-2.any c.args.bytes.now.items c.push_names.new.bytes.items c.push_quots.new.bytes.items
    c.in_ok-any.ensures.text c.in_ok-any.ensures.any c.in_ok-any-2.ensures.text c.in_ok-any-2.ensures.any in
    ended_sum (names ++ quots) c.in_ok-any-2.any c.args.e.now.konst c.args.bytes.now.items c.push_quots.new.bytes.items c.push_last.new.bytes.items s.0 s.1 last
    ∙ (λ i. c.args.bytes.now.items ++ sum_text (terms (c.as_slice.ensures i) c.args.scope.now.params ++ terms (c.as_slice-2.ensures i) c.args.scope.now.iters ++ quot_terms c.args.scope.now (c.as_slice-3.ensures i) ++ constant_term c.args.e.now.konst))
