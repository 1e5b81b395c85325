-- Not vacuous: a plan of one step, to claims alone, stops where a tree begins, and does not stop behind a step at a recurrence pair.
use Rattle.std.proofs.Common.{◌≡◌, ℕ, List, [], ◌∷◌, Bool, true, false, refl, sym, subst}
use Rattle.ac_syntax.specs.declared.tree.Order.{Order}
use Rattle.ac_syntax.specs.declared.tree.Pair.{Pair}
use Rattle.ac_syntax.specs.declared.tree.Position.{Position}
use Rattle.ac_claims_paths.specs.PathSteps.{at_rows}
use Rattle.ac_claims_paths.specs.declared.path.Path.{Path}
use Rattle.ac_claims.specs.declared.types.PlanNext.{PlanNext, Split', Residue', Go', Row_of-Plan, end_of-Plan, more_of-Plan}
use Rattle.ac_claims.specs.declared.types.PlanNext.TheVariants.{Absurd, Killed, Hit, SameNumber, SameInitial}
use Rattle.ac_widen_programs.specs.PairSetting.{order_at}
use Rattle.ac_unfold_plans.specs.PlanStops.{positions_at, Stops, CasesStop}
use Rattle.ac_unfold_plans.proofs.Handled.{not_both}

-- each of the plans is a hit
abbrev AreHits : {w : _} → Row_of-Plan w → Type 0
AreHits end_of-Plan = Unit {0}
AreHits (more_of-Plan s t rest) = ((c : ℕ) × (t ≡ Hit c)) × AreHits rest

-- a step to claims alone, which takes the arguments as the order says
abbrev IsOneStep : Pair → (Position × Position → Order) → PlanNext → Path → Type 0
IsOneStep pair order (Split' f p s l q t r) h = ⊥
IsOneStep pair order (Residue' m f shape all) h = ⊥
IsOneStep pair order (Go' taken shape all) h = (taken ≡ order_at pair (positions_at h) (order (positions_at h))) × AreHits all
IsOneStep pair order (Absurd i) h = ⊥
IsOneStep pair order (Killed kill) h = ⊥
IsOneStep pair order (Hit c) h = ⊥
IsOneStep pair order SameNumber h = ⊥
IsOneStep pair order SameInitial h = ⊥

hits_stop : (pair : Pair) (order : Position × Position → Order) (recurrent : Position × Position → Bool) {w : _} (all : Row_of-Plan w) (hs : List Path) → AreHits all → CasesStop pair order recurrent (λ c. true) all hs
hits_stop pair order recurrent end_of-Plan hs h = tt
hits_stop pair order recurrent (more_of-Plan s t rest) [] h = tt
hits_stop pair order recurrent (more_of-Plan s t rest) (k ∷ hs) h = ((λ d e. subst (λ (z : PlanNext). Stops pair order recurrent (λ c. true) z (at_rows k d)) (sym h.0.1) refl), hits_stop pair order recurrent rest hs h.1)

begins : (pair : Pair) (order : Position × Position → Order) (recurrent : Position × Position → Bool) (x : PlanNext) (h : Path) → h.gone ≡ false → IsOneStep pair order x h → Stops pair order recurrent (λ c. true) x h
begins pair order recurrent (Split' f p s l q t r) h e i = absurd i
begins pair order recurrent (Residue' m f shape all) h e i = absurd i
begins pair order recurrent (Go' taken shape all) h e i = ((λ g. not_both h.gone g e), i.0, λ hs b. hits_stop pair order recurrent all hs i.1)
begins pair order recurrent (Absurd j) h e i = absurd i
begins pair order recurrent (Killed kill) h e i = absurd i
begins pair order recurrent (Hit c) h e i = absurd i
begins pair order recurrent SameNumber h e i = absurd i
begins pair order recurrent SameInitial h e i = absurd i

goes_on : (pair : Pair) (order : Position × Position → Order) (recurrent : Position × Position → Bool) (part : ℕ → Bool) (x : PlanNext) (h : Path) → h.gone ≡ true → recurrent (positions_at h) ≡ true → IsOneStep pair order x h → ¬ (Stops pair order recurrent part x h)
goes_on pair order recurrent part (Split' f p s l q t r) h e r' i st = absurd i
goes_on pair order recurrent part (Residue' m f shape all) h e r' i st = absurd i
goes_on pair order recurrent part (Go' taken shape all) h e r' i st = not_both (recurrent (positions_at h)) r' (st.0 e)
goes_on pair order recurrent part (Absurd j) h e r' i st = absurd i
goes_on pair order recurrent part (Killed kill) h e r' i st = absurd i
goes_on pair order recurrent part (Hit c) h e r' i st = absurd i
goes_on pair order recurrent part SameNumber h e r' i st = absurd i
goes_on pair order recurrent part SameInitial h e r' i st = absurd i
