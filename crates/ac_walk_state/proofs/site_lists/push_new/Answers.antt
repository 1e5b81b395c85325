use Rattle.std.proofs.Common.{◌≡◌, ◌++◌, ◌∷◌, [], List, subst, sym, true}
use Rattle.ac_forms.specs.ListMembers.{IsAmong}
use Rattle.ac_syntax.specs.declared.tree.Site.{Site}
use Rattle.ac_walk_state.specs.PartialOrders.{AreOnce}
use Rattle.ac_walk_state.proofs.Choosing.{once_more, once_same}
use Rattle.ac_walk_state.proofs.LastItems.{on_ok}
use Rattle.ac_walk_state.proofs.site_lists.push_new.Goals as goal

pub returns-then-has_site : goal.returns-then-has_site
returns-then-has_site c = λ first h. once_same first c.args.made.now c.args.site.now (subst (IsAmong c.args.site.now) c.as_slice.ensures (c.has_site.ensures.0 c.if-has_site.true)) h

pub returns : goal.returns
returns c =
    let old = c.args.made.now in
    let new = c.push.new.self in
    let site = c.args.site.now in
    on_ok (new ≡ old ++ site ∷ []) ((first : List Site) → AreOnce first old → AreOnce (first ++ site ∷ []) new) c.push.result
    (λ is first h. subst (AreOnce (first ++ site ∷ [])) (sym is) (once_more first old site (λ k. let t : c.has_site.result ≡ true = c.has_site.ensures.1 (subst (IsAmong site) (sym c.as_slice.ensures) k) in let f = c.if-has_site.false in absurd cc) h)) c.push.ensures.ok
