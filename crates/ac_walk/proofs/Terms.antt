-- Verdicts, and whether the terms agree.
use Rattle.std.proofs.Common.{inl, ℕ, List, [], ◌∷◌, inr, refl, subst, sym}
use Rattle.ac_syntax.specs.declared.tree.Order.{Order}
use Rattle.ac_syntax.specs.declared.tree.Order.TheVariants.{Keep}
use Rattle.ac_syntax.specs.declared.tree.Pair.{Pair}
use Rattle.ac_syntax.specs.declared.tree.Position.{Position}
use Rattle.ac_widen_programs.proofs.Agreeing.{agreeing_terms_have_no_mismatch}
use Rattle.ac_widen_programs.proofs.Holding.{outputs_without_mismatch_agree}
use Rattle.ac_claims.specs.Soundness.{TermsAgree}
use Rattle.ac_hull.specs.Templates.{template_rows}
use Rattle.ac_forms.specs.ListMembers.{IsAmong}
use Rattle.ac_widen_programs.specs.PairSetting.{point_width}
use Rattle.ac_walk_state.specs.UnmatchedOutputs.{IsUnmatched}
use Rattle.ac_walk_state.proofs.Orders.{unmatched_have_mismatches}
use Rattle.ac_match.specs.declared.orders.Refuted.{Refuted}
use Rattle.ac_report.specs.declared.types.Cause.TheVariants.{Unmatched, OverflowQuestion, OverflowHull, SpentQuestion, SpentPieces, SpentPaths, SpentOrders}
use Rattle.ac_report.specs.declared.types.Verdict.TheVariants.{Equal, Different, Unknown}
use Rattle.ac_walk.specs.Terms.{IsPlain, VerdictsTellTerms}

-- the one output of a list
only : (P : ℕ → Type 0) (o : ℕ) → P o → (k : ℕ) → IsAmong k (o ∷ []) → P k
only P o h k (inl e) = subst P (sym e) h
only P o h k (inr f) = elim f [ ]

always : Position × Position → Order
always widening_point = Keep

unmatched_differs : (pair : Pair) (o : ℕ) → IsPlain pair o → (list : List Refuted) → IsUnmatched pair o list → ¬ (TermsAgree pair o)
unmatched_differs pair o plain list u t =
    let w = u.widening.0 in
    let is = u.widening.1 in
    agreeing_terms_have_no_mismatch pair (o ∷ []) w.recurrent (λ widening_point. template_rows (point_width pair widening_point) w.thresholds w.moduli) (plain.recurs w is) plain.commutative (only (TermsAgree pair) o t) always (unmatched_have_mismatches pair o list u w is always)

pub verdicts_tell_terms : VerdictsTellTerms
verdicts_tell_terms pair paired left right o plain outputs Equal verdict matched =
    let w = matched.widening.0 in
    let m = matched.matched w matched.widening.1 in
    outputs_without_mismatch_agree pair (o ∷ []) w.recurrent (λ widening_point. template_rows (point_width pair widening_point) w.thresholds w.moduli) paired left right outputs m.0 m.1 o (inl refl)
verdicts_tell_terms pair paired left right o plain outputs (Different at element) verdict matched = λ t. verdict.1.1 (t at verdict.0 element verdict.1.0)
verdicts_tell_terms pair paired left right o plain outputs (Unknown (Unmatched refuted)) verdict matched = unmatched_differs pair o plain refuted verdict
verdicts_tell_terms pair paired left right o plain outputs (Unknown (OverflowQuestion question)) verdict matched = tt
verdicts_tell_terms pair paired left right o plain outputs (Unknown (OverflowHull members)) verdict matched = tt
verdicts_tell_terms pair paired left right o plain outputs (Unknown (SpentQuestion question cost)) verdict matched = tt
verdicts_tell_terms pair paired left right o plain outputs (Unknown (SpentPieces position kept)) verdict matched = tt
verdicts_tell_terms pair paired left right o plain outputs (Unknown (SpentPaths paths)) verdict matched = tt
verdicts_tell_terms pair paired left right o plain outputs (Unknown (SpentOrders refuted)) verdict matched = tt
