use Rattle.std.proofs.Common.{◌≡◌, ◌∙◌, sym, subst, false, true}
use Rattle.ac_syntax.specs.declared.tree.Position.{Position}
use Rattle.ac_graph.specs.Reachability.{IsMore}
use Rattle.ac_graph.proofs.PlaceSteps.{edge_pushed}
use Rattle.ac_graph.proofs.edges.push_edge.Goals as goal

pub returns-in_ok-push_new : goal.returns-in_ok-push_new
returns-in_ok-push_new c =
    edge_pushed c.args.position.now c.args.case.now c.args.out.now c.push_new.new.pairs (λ p. let t = c.is_empty.ensures.1 p in let f = c.if-is_empty.false in let g : false ≡ true = sym f ∙ t in absurd cc)
    (subst (λ (x : Position). IsMore (λ q. q ≡ (c.args.position.now, x)) c.args.out.now c.push_new.new.pairs) c.target.ensures c.in_ok-push_new.ensures)
