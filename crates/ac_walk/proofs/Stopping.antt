-- A proof that stops matches the outputs that it names.
use Rattle.std.proofs.Common.{List, [], ◌∷◌, subst}
use Rattle.ac_forms.specs.declared.row.Row.{Row}
use Rattle.ac_syntax.specs.declared.tree.Pair.{Pair}
use Rattle.ac_syntax.specs.declared.tree.Position.{Position}
use Rattle.ac_hull.specs.Templates.{template_rows}
use Rattle.ac_widen_programs.specs.PairSetting.{point_width}
use Rattle.ac_unfold_plans.specs.ProofDecisions.{IsStoppedProof}
use Rattle.ac_unfold_plans.proofs.Deciding.{stopped_proofs_decide}
use Rattle.ac_walk_state.specs.SearchSetting.{Widening}
use Rattle.ac_walk_state.proofs.Telling.{same_widening}
use Rattle.ac_walk.specs.MatchedByProof.{StoppedProofsMatch}

-- the template rows of a widening
abbrev rows_of : Pair → Widening → Position × Position → List Row
rows_of pair w key = template_rows (point_width pair key) w.thresholds w.moduli

-- an output has one widening
pub stopped_proofs_match : StoppedProofsMatch
stopped_proofs_match pair w order part proof output is stopped named = record {
  widening = (w, is);
  matched = λ v k.
      let there = subst (λ (x : Widening). IsStoppedProof pair order x.recurrent (rows_of pair x) part proof) (same_widening pair output w v is k) stopped in
      (order, stopped_proofs_decide pair order v.recurrent (rows_of pair v) part proof there (output ∷ []) named);
}
