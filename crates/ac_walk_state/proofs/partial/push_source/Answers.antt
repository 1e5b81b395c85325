use Rattle.std.proofs.Common.{◌≡◌, ◌++◌, ◌∷◌, [], List, subst, sym}
use Rattle.ac_widen.specs.declared.derivation.Entry.{Entry}
use Rattle.ac_walk_state.specs.PartialOrders.{AreSourcesOf}
use Rattle.ac_walk_state.proofs.Choosing.{sources_more, sources_same}
use Rattle.ac_walk_state.proofs.LastItems.{on_ok}
use Rattle.ac_walk_state.proofs.partial.push_source.Goals as goal

pub returns-in-Some : goal.returns-in-Some
returns-in-Some c =
    let es = c.args.entries.now in
    let e = c.args.entry.now in
    let old = c.args.pairs.now in
    let new = c.push.new.self in
    on_ok (new ≡ old ++ c.in-Some.pair ∷ []) ((first : List Entry) → AreSourcesOf es first old → AreSourcesOf es (first ++ e ∷ []) new) c.push.result
    (λ is first h. subst (AreSourcesOf es (first ++ e ∷ [])) (sym is) (sources_more es first e old c.in-Some.pair c.in-Some.ensures h)) c.push.ensures.ok

pub returns-in-None : goal.returns-in-None
returns-in-None c = λ first h. sources_same c.args.entries.now first c.args.entry.now c.args.pairs.now c.in-None.ensures h
