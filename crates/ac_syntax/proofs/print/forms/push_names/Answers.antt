use Rattle.std.proofs.Common.{ap, ◌∙◌, ◌++◌, false}
use Rattle.ac_syntax.specs.Text.{terms}
use Rattle.ac_syntax.specs.PrinterTerms.{continued, has_terms}
use Rattle.ac_syntax.proofs.Sums.{joined_terms}
use Rattle.ac_syntax.proofs.print.forms.push_names.Goals as goal

pub returns-clause-text : goal.returns-clause-text
returns-clause-text c =
    let s = joined_terms (terms c.args.params.now c.scope.inside.params.now) (terms c.args.iters.now c.scope.inside.iters.now) false c.in_ok-any.any c.in_ok-any-2.any c.args.bytes.now.items c.push_terms.new.bytes.items c.push_terms-2.new.bytes.items
    c.in_ok-any.ensures.text c.in_ok-any.ensures.any c.in_ok-any-2.ensures.text c.in_ok-any-2.ensures.any in
    s.0 ∙ ap (λ s. c.args.bytes.now.items ++ continued false (terms c.args.params.now s.params ++ terms c.args.iters.now s.iters)) c.scope.view_is

pub returns-clause-any : goal.returns-clause-any
returns-clause-any c =
    let s = joined_terms (terms c.args.params.now c.scope.inside.params.now) (terms c.args.iters.now c.scope.inside.iters.now) false c.in_ok-any.any c.in_ok-any-2.any c.args.bytes.now.items c.push_terms.new.bytes.items c.push_terms-2.new.bytes.items
    c.in_ok-any.ensures.text c.in_ok-any.ensures.any c.in_ok-any-2.ensures.text c.in_ok-any-2.ensures.any in
    s.1 ∙ ap (λ s. has_terms false (terms c.args.params.now s.params ++ terms c.args.iters.now s.iters)) c.scope.view_is
