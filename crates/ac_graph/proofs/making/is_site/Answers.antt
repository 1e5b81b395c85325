use Rattle.std.proofs.Common.{◌∙◌, sym, ap, option_map}
use Rattle.ac_syntax.specs.Outputs.{swaps_of}
use Rattle.ac_claims_paths.proofs.CallSteps.{symbol_is}
use Rattle.ac_graph.specs.ProgramOutlines.{called}
use Rattle.ac_graph.proofs.Linking.{call_linked}
use Rattle.ac_graph.proofs.SiteSteps.{site_swaps, no_site}
use Rattle.ac_graph.proofs.making.is_site.Goals as goal

pub returns-then-same_symbol : goal.returns-then-same_symbol
returns-then-same_symbol c = λ g h.
    site_swaps g (swaps_of c.args.both.now.commutative.now) c.args.pair.now (called c.in-Some.left) (called c.in-Some-call_at.right) c.may_swap.result h.swaps
    (sym (call_linked g.left c.args.both.now.left h.left c.args.pair.now.0) ∙ sym c.call_at.ensures ∙ ap (option_map called) c.in-Some.is)
    (sym (call_linked g.right c.args.both.now.right h.right c.args.pair.now.1) ∙ sym c.call_at-in-Some.ensures ∙ ap (option_map called) c.in-Some-call_at.is)
    (symbol_is c.in-Some.left.symbol.now c.in-Some-call_at.right.symbol.now (sym c.same_symbol.ensures ∙ c.if-same_symbol.true)) c.may_swap.ensures

pub returns-else-same_symbol : goal.returns-else-same_symbol
returns-else-same_symbol c = λ g h.
    no_site g c.args.pair.now (called c.in-Some.left) (called c.in-Some-call_at.right) c.same_symbol.result
    (sym (call_linked g.left c.args.both.now.left h.left c.args.pair.now.0) ∙ sym c.call_at.ensures ∙ ap (option_map called) c.in-Some.is)
    (sym (call_linked g.right c.args.both.now.right h.right c.args.pair.now.1) ∙ sym c.call_at-in-Some.ensures ∙ ap (option_map called) c.in-Some-call_at.is)
    c.same_symbol.ensures c.if-same_symbol.false
