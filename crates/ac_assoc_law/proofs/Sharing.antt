-- What an output of the arranged pair says of the old one.
use Rattle.std.proofs.Common.{sym, ◌∙◌}
use Rattle.ac_syntax.specs.Where.{element}
use Rattle.ac_assoc_law.specs.ArrangedPairs.{arranged_pair}
use Rattle.ac_assoc_law.specs.ArrangedTables.{arranged_table}
use Rattle.ac_assoc_law.specs.LawsOfArrangements.{ArrangedPairsHaveTables, SameArrangedIsSameUnderChains, SameFinitelyIsSameUnderFiniteChains, StandsFor}
use Rattle.ac_assoc_law.proofs.Running.{runs_law}
use Rattle.ac_assoc_law.proofs.Respecting.{tables_respect}
use Rattle.ac_assoc_law.proofs.Finite.{tables_finite}

pub pairs_have_tables : ArrangedPairsHaveTables
pairs_have_tables names choice pair h t r = (
  arranged_table names t,
  record {
    respects = tables_respect names pair.commutative t r;
    left = λ params contents c. runs_law names t (λ stmt node. 0) pair.left.body params contents c h.left h.arities.0;
    right = λ params contents c. runs_law names t choice pair.right.body params contents c h.right h.arities.1;
    finite = tables_finite names t;
  },
)

pub same_arranged : SameArrangedIsSameUnderChains
same_arranged names choice pair output h same params v e k t at_left at_right r agree =
    let stands : StandsFor names pair (arranged_pair names choice pair) t (pairs_have_tables names choice pair h t r).0 = (pairs_have_tables names choice pair h t r).1 in
    sym (stands.left params at_left (element output e))
    ∙ same params (record { each = v.each; context = v.context }) e k (pairs_have_tables names choice pair h t r).0 at_left at_right stands.respects agree
    ∙ stands.right params at_right (element output e)

pub finitely_arranged : SameFinitelyIsSameUnderFiniteChains
finitely_arranged names choice pair output h same params v e k t at_left at_right i j r agree =
    let stands : StandsFor names pair (arranged_pair names choice pair) t (pairs_have_tables names choice pair h t r).0 = (pairs_have_tables names choice pair h t r).1 in
    sym (stands.left params at_left (element output e))
    ∙ same params (record { each = v.each; context = v.context }) e k (pairs_have_tables names choice pair h t r).0 at_left at_right (stands.finite i j) stands.respects agree
    ∙ stands.right params at_right (element output e)
