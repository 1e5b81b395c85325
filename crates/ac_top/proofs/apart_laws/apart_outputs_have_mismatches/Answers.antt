use Rattle.std.proofs.Common.{inl, [], ◌∷◌, refl}
use Rattle.ac_hull.specs.Templates.{template_rows}
use Rattle.ac_widen_programs.proofs.Holding.{outputs_without_mismatch_agree}
use Rattle.ac_widen_programs.specs.PairSetting.{point_width}
use Rattle.ac_walk_state.proofs.Orders.{unmatched_have_mismatches}
use Rattle.ac_top.specs.ApartOutputs.{ApartOutputsHaveMismatches}
use Rattle.ac_top.specs.ArrangementReports.{differs, unmatched}
use Rattle.ac_top.proofs.apart_laws.apart_outputs_have_mismatches.Goals as goal

have_mismatches : ApartOutputsHaveMismatches
have_mismatches pair output paired left right outputs (differs at element d) w is order = λ none.
    d.1.1 (outputs_without_mismatch_agree pair (output ∷ []) w.recurrent (λ widening_point. template_rows (point_width pair widening_point) w.thresholds w.moduli) paired left right outputs order none output (inl refl) at d.0 element d.1.0)
have_mismatches pair output paired left right outputs (unmatched refuted u) w is order = λ none. none (unmatched_have_mismatches pair output refuted u w is order)

pub returns : goal.returns
returns c = have_mismatches
