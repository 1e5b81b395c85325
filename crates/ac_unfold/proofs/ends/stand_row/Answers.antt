use Rattle.std.proofs.Common.{◌∷◌, [], refl, subst}
use Rattle.ac_unfold.specs.BrokenPathResults.{IsNone}
use Rattle.ac_unfold.specs.RequiredRows.{IsRefused}
use Rattle.ac_unfold.proofs.Adding.{adds_none}
use Rattle.ac_unfold.proofs.Keeping.{stays_more}
use Rattle.ac_unfold.proofs.Reaching.{hands_by}
use Rattle.ac_unfold.proofs.Stopped.{row_refused, standing_lacks}
use Rattle.ac_unfold.proofs.ends.stand_row.Goals as goal

pub returns-then-standing-clause-stood : goal.returns-then-standing-clause-stood
returns-then-standing-clause-stood c = stays_more c.args.search.now c.args.course c.args.row.now (c.in_ok-standing.ensures.stands c.if-standing.true)

pub returns-then-standing-clause-found : goal.returns-then-standing-clause-found
returns-then-standing-clause-found c = adds_none _ _ _ _ refl

pub returns-in-Wide-clause-causes : goal.returns-in-Wide-clause-causes
returns-in-Wide-clause-causes c =
    let k = c.args.course.node.question.conj in
    let row = c.args.row.now in
    standing_lacks c.args.search.now.budget k (row ∷ []) c.too_wide.result c.too_wide.ensures (row_refused k.columns row (subst (IsRefused k.columns row) c.in-Wide.is c.in_ok-kind.ensures.refused))

pub returns-in-Wide-clause-full : goal.returns-in-Wide-clause-full
returns-in-Wide-clause-full c = hands_by IsNone c.args.found_paths.now.ended c.args.course.node.question.conj (Unit {0}) c.too_wide.result c.too_wide.ensures

pub returns-then-standing-clause-met : goal.returns-then-standing-clause-met
returns-then-standing-clause-met c = λ made none p point. (c.in_ok-standing.ensures.holds c.if-standing.true p point.meets, tt)
