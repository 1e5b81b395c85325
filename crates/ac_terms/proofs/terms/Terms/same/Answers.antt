use Rattle.std.proofs.Common.{sym, subst, ◌∙◌}
use Rattle.ac_terms.specs.Table.{Table}
use Rattle.ac_terms.specs.TableNodes.{AreApart}
use Rattle.ac_terms.proofs.Same.{ids-Decides}
use Rattle.ac_terms.proofs.Agreement.{ids_decide}
use Rattle.ac_terms.proofs.terms.Terms.same.Goals as goal

pub returns-clause-agree : goal.returns-clause-agree
returns-clause-agree c t u h k =
    let apart = subst (λ (x : Table). AreApart x.places) c.self.view_is c.self.invariant in
    let both = ids_decide c.args.self.now apart t u c.args.a c.args.b h k in
    let test = ids-Decides c.args.a c.args.b in
    (λ r. both.0 (test.0 (sym c.eq.ensures ∙ r)), λ p. c.eq.ensures ∙ test.1 (both.1 p))
