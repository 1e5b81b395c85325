use Rattle.std.proofs.Common.{List, subst, sym}
use Rattle.std.proofs.lemmas.List.{take_all}
use Rattle.ac_widen.specs.declared.derivation.Entry.{Entry}
use Rattle.ac_walk_state.specs.PartialOrders.{AreSourcesOf}
use Rattle.ac_walk_state.proofs.Choosing.{stepped_from}
use Rattle.ac_walk_state.proofs.LastItems.{next_item}
use Rattle.ac_walk_state.proofs.partial.stepped_from.Goals as goal

pub loop-entry-preserved : goal.loop-entry-preserved
loop-entry-preserved c =
    subst (λ (es : List Entry). AreSourcesOf c.args.entries.now es c.push_source.new.pairs) (sym (next_item c.args.entries.now c.loop-entry.entry-index c.entry-item.result c.loop-entry-test.true c.entry-item.is)) (c.in_ok-push_source.ensures _ c.loop-entry.invariant)

pub returns : goal.returns
returns c =
    stepped_from c.args.entries.now c.loop-entry.pairs (subst (λ (es : List Entry). AreSourcesOf c.args.entries.now es c.loop-entry.pairs) (take_all c.loop-entry.entry-index c.args.entries.now c.loop-entry-test.false) c.loop-entry.invariant)
