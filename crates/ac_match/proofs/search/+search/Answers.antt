use Rattle.std.proofs.Common.{arith, ◌∙◌, slice_set, ap, Some, None}
use Rattle.std.proofs.lemmas.List.{length-set}
use Rattle.ac_syntax.specs.declared.tree.Order.TheVariants.{Keep, Swap}
use Rattle.ac_match.proofs.Searches.{open_fewer, open_within, both_refuted, set_again, set_back}
use Rattle.ac_match.proofs.search.+search.Goals as goal

pub overflow_sub-left : goal.overflow_sub-left
overflow_sub-left t c = omega (arith, open_fewer c.args.assigned.now c.in-Open.site Keep c.in-Open.ensures, c.requires.left)

pub search-requires : goal.search-requires
search-requires t c =
    let f = open_fewer c.args.assigned.now c.in-Open.site Keep c.in-Open.ensures in
    (omega (arith, f, c.requires.left, c.decreases), omega (arith, f, c.requires.left))

pub bounds-assigned-site-2 : goal.bounds-assigned-site-2
bounds-assigned-site-2 t c = rw c.if-search.ensures.exact.0 (rw (length-set c.args.assigned.now c.in-Open.site (Some Keep)) (open_within c.args.assigned.now c.in-Open.site c.in-Open.ensures))

pub overflow_sub-left-2 : goal.overflow_sub-left-2
overflow_sub-left-2 t c = omega (arith, open_fewer c.args.assigned.now c.in-Open.site Keep c.in-Open.ensures, c.requires.left)

pub search-requires-2 : goal.search-requires-2
search-requires-2 t c =
    let f = open_fewer c.args.assigned.now c.in-Open.site Swap c.in-Open.ensures in
    rw (c.if-search.ensures.exact.0, set_again c.args.assigned.now c.in-Open.site (Some Keep) (Some Swap))
    (omega (arith, f, c.requires.left, c.decreases), omega (arith, f, c.requires.left))

pub bounds-assigned-site-3 : goal.bounds-assigned-site-3
bounds-assigned-site-3 t c =
    rw (c.if-search-2.ensures.exact.0, c.if-search.ensures.exact.0, set_again c.args.assigned.now c.in-Open.site (Some Keep) (Some Swap))
    (rw (length-set c.args.assigned.now c.in-Open.site (Some Swap)) (open_within c.args.assigned.now c.in-Open.site c.in-Open.ensures))

pub returns-clause-exact : goal.returns-clause-exact
returns-clause-exact t c =
    let a = rw (c.if-search.ensures.exact.0, set_again c.args.assigned.now c.in-Open.site (Some Keep) (Some Swap)) at c.if-search-2.ensures.exact in
    let back = ap (λ x. slice_set x c.in-Open.site None) a.0 ∙ set_again c.args.assigned.now c.in-Open.site (Some Swap) None ∙ set_back c.args.assigned.now c.in-Open.site c.in-Open.ensures in
    (back, both_refuted c.args.assigned.now c.args.refuted.now c.in-Open.site c.in-Open.ensures c.if-search.ensures.exact.1 a.1)
