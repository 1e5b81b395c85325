use Rattle.std.proofs.Common.{◌∙◌, sym, subst, List, Bool, ℕ}
use Rattle.std.proofs.lemmas.Result.{IfOk-weaker}
use Rattle.ac_graph.specs.Recurrence.{AreMarkedBy, AreRecurring}
use Rattle.ac_graph.specs.Ways.{IsGraph, IsWithin, AreCyclic}
use Rattle.ac_graph.proofs.RecurSteps.{recurring_are, graph_within}
use Rattle.ac_graph.proofs.analysis.recurring.Goals as goal

pub cyclic-requires-2 : goal.cyclic-requires-2
cyclic-requires-2 c = subst (λ (ns : List (List ℕ)). IsGraph ns) (sym c.as_slice-2.ensures) (graph_within c.args.next.now c.in_ok-reading.reading c.as_slice.result.now c.requires.graph c.in_ok-reading.ensures)

pub returns : goal.returns
returns c =
    IfOk-weaker c.marked_pairs.result (AreMarkedBy c.args.pairs.now c.as_slice-3.result.now c.as_slice-4.result.now c.as_slice-5.result.now) (AreRecurring c.args.both.now c.args.pairs.now c.args.next.now)
    (λ marks m.
    recurring_are c.args.both.now c.args.pairs.now c.args.next.now c.in_ok-reading.reading c.as_slice-3.result.now c.as_slice-4.result.now c.as_slice-5.result.now marks
    (c.as_slice-4.ensures ∙ c.in_ok-readers.ensures)
    (subst (λ (ms : List Bool). AreCyclic c.args.next.now ms) (sym c.as_slice-3.ensures) c.in_ok-on_cycles.ensures)
    (subst (λ (ms : List Bool). IsWithin c.args.next.now ms c.in_ok-reading.reading) (c.as_slice.ensures ∙ sym c.as_slice-4.ensures) c.in_ok-reading.ensures)
    (subst (λ (ms : List Bool). AreCyclic c.in_ok-reading.reading ms) (sym c.as_slice-5.ensures) (subst (λ (ns : List (List ℕ)). AreCyclic ns c.in_ok-on_reading.on_reading) c.as_slice-2.ensures c.in_ok-on_reading.ensures))
    m)
    c.marked_pairs.ensures
