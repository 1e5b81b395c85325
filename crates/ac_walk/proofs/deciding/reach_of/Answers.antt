use Rattle.std.proofs.Common.{◌↔◌, List, [], ◌∷◌, subst}
use Rattle.ac_forms.specs.ListMembers.{IsAmong}
use Rattle.ac_syntax.specs.declared.tree.Position.{Position}
use Rattle.ac_walk.specs.OutputDecisions.{AreSitesAmong}
use Rattle.ac_walk.proofs.deciding.reach_of.Goals as goal

pub returns-clause-recurrent : goal.returns-clause-recurrent
returns-clause-recurrent c = λ p.
    let made = c.in_ok-recurrent.recurrent in
    let graph = c.args.graph.now in
    let reached = c.in_ok-pairs.ensures.reached p in
    let is : IsAmong p made ↔ (IsAmong p c.in_ok-pairs.pairs × IsAmong p graph.recurrent) =
    subst (λ (xs : List (Position × Position)). IsAmong p made ↔ (IsAmong p xs × IsAmong p graph.recurrent)) c.as_slice-reached.ensures
    (subst (λ (ys : List (Position × Position)). IsAmong p made ↔ (IsAmong p c.as_slice-reached.result.now × IsAmong p ys)) c.as_slice.ensures (c.in_ok-recurrent.ensures p)) in
    ((λ i. let r = is.0 i in (reached.0 r.0, r.1)), (λ h. is.1 (reached.1 h.0, h.1)))

pub returns-clause-sites : goal.returns-clause-sites
returns-clause-sites c = record {
  pairs = c.in_ok-pairs.pairs;
  reached = c.in_ok-pairs.ensures.reached;
  among = subst (λ (pairs : List (Position × Position)). AreSitesAmong c.args.pair.now pairs c.in_ok-sites.sites) c.as_slice-reached.ensures c.in_ok-sites.ensures;
}
