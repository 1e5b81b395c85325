use Rattle.std.proofs.Common.{sym, subst, List, ℕ}
use Rattle.std.proofs.lemmas.Result.{IfOk-weaker}
use Rattle.ac_graph.specs.Recurrence.{AreFallingOutside}
use Rattle.ac_graph.specs.Ways.{IsGraph, AreFalling}
use Rattle.ac_graph.proofs.RecurSteps.{graph_outside, falling_outside}
use Rattle.ac_graph.proofs.analysis.ranks.Goals as goal

pub followers-requires : goal.followers-requires
followers-requires c = subst (λ (ns : List (List ℕ)). IsGraph ns) (sym c.as_slice.ensures) (graph_outside c.args.next.now c.in_ok-rest.rest c.args.marks.now c.requires c.in_ok-rest.ensures)

pub returns : goal.returns
returns c =
    IfOk-weaker c.followers.result (AreFalling c.as_slice.result.now) (AreFallingOutside c.args.next.now c.args.marks.now)
    (λ ranks f. falling_outside c.args.next.now c.in_ok-rest.rest c.args.marks.now ranks c.in_ok-rest.ensures (subst (λ (ns : List (List ℕ)). AreFalling ns ranks) c.as_slice.ensures f))
    c.followers.ensures
