use Rattle.std.proofs.Common.{◌∙◌, arith}
use Rattle.ac_hull.proofs.Findings.{pair_made}
use Rattle.ac_hull.proofs.finding.met_rows.Goals as goal
use Rattle.ac_hull.proofs.finding.met_rows.Goals.{then-first-second+in_ok-rows, else-first-second, then-first-second-2+in_ok-rows-2, else-first-second-2}

pub returns : goal.returns
returns c =
    pair_made c.args.points.now c.args.thresholds.now c.args.moduli.now c.args.first c.args.second c.if-first-second.rows c.if-first-second-2.rows
    (λ ne. elim c.if-first-second.branch [ then-first-second+in_ok-rows w ↦ rw w.rows-is (rw c.new-rows.ensures at w.in_ok-rows.ensures) | else-first-second w ↦ absurd (ne w.if-first-second.false) ])
    (λ e. elim c.if-first-second.branch [ then-first-second+in_ok-rows w ↦ absurd (w.if-first-second.true e) | else-first-second w ↦ w.rows-is ∙ c.new-rows.ensures ])
    (λ l. elim c.if-first-second-2.branch [ then-first-second-2+in_ok-rows-2 w ↦ rw w.rows-is w.in_ok-rows-2.ensures | else-first-second-2 w ↦ (let g = w.if-first-second-2.false in absurd (omega arith)) ])
    (λ l. elim c.if-first-second-2.branch [ then-first-second-2+in_ok-rows-2 w ↦ (let g = w.if-first-second-2.true in absurd (omega arith)) | else-first-second-2 w ↦ w.rows-is ])
