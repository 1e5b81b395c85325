use Rattle.std.proofs.Common.{subst}
use Rattle.ac_terms.specs.Table.{Table}
use Rattle.ac_terms.specs.TableNodes.{AreApart}
use Rattle.ac_terms.proofs.Agreement.{ids_decide}
use Rattle.ac_terms.proofs.terms.Terms.ids_decide_agreement.Goals as goal

pub returns : goal.returns
returns c t u a b h k =
    let apart = subst (λ (x : Table). AreApart x.places) c.self.view_is c.self.invariant in
    ids_decide c.args.self.now apart t u a b h k
