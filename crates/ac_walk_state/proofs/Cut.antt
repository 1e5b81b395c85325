-- Plans that stop with claims of a part, and end at few of them.
use Rattle.std.proofs.Common.{◌≡◌, ◌<◌, ℕ, ◌+◌, ℤ, List, [], ◌∷◌, Bool, true}
use Rattle.ac_forms.specs.Affine.{Affine}
use Rattle.ac_syntax.specs.declared.tree.Order.{Order}
use Rattle.ac_syntax.specs.declared.tree.Pair.{Pair}
use Rattle.ac_syntax.specs.declared.tree.Position.{Position}
use Rattle.ac_claims.specs.declared.types.Plan.{Plan}
use Rattle.ac_claims.specs.declared.types.PlanNext.{PlanNext, Split', Residue', Go', Row_of-Plan, end_of-Plan, more_of-Plan}
use Rattle.ac_claims.specs.declared.types.PlanNext.TheVariants.{Absurd, Killed, Hit, SameNumber, SameInitial}
use Rattle.ac_claims_paths.specs.PathSteps.{at_rows}
use Rattle.ac_claims_paths.specs.declared.path.Path.{Path}
use Rattle.ac_unfold_plans.specs.PlanStops.{Stops, ClassesStop, CasesStop, PlanStops}
use Rattle.ac_walk_state.specs.Hits.{HitsWithin, EachHitsWithin, StopsAreCut}

module _ (pair : Pair) (order : Position × Position → Order) (recurrent : Position × Position → Bool) (part cut : ℕ → Bool) (n : ℕ) (cuts : (c : ℕ) → part c ≡ true → c < n → cut c ≡ true) where
  mutual
    next_cut : (x : PlanNext) (h : Path) → HitsWithin n x → Stops pair order recurrent part x h → Stops pair order recurrent cut x h
    next_cut (Split' f p s l q t r) h (u, v) k = λ a b is. let both = k a b is in (λ d e. next_cut l (at_rows h d) u (both.0 d e), λ d e. next_cut r (at_rows h d) v (both.1 d e))
    next_cut (Residue' m f shape all) h u k = classes_cut all m f 0 h u k
    next_cut (Go' taken shape all) h u k = (k.0, k.1, λ hs is. cases_cut all hs u (k.2 hs is))
    next_cut (Absurd i) h u k = tt
    next_cut (Killed kill) h u k = tt
    next_cut (Hit c) h u k = cuts c k u
    next_cut SameNumber h u k = k
    next_cut SameInitial h u k = k

    classes_cut : {w : _} (all : Row_of-Plan w) (m : ℤ) (f : Affine) (i : ℕ) (h : Path) → EachHitsWithin n all → ClassesStop pair order recurrent part all m f i h → ClassesStop pair order recurrent cut all m f i h
    classes_cut end_of-Plan m f i h u k = tt
    classes_cut (more_of-Plan s t rest) m f i h (u, v) k = (λ d e. next_cut t (at_rows h d) u (k.0 d e), classes_cut rest m f (i + 1) h v k.1)

    cases_cut : {w : _} (all : Row_of-Plan w) (hs : List Path) → EachHitsWithin n all → CasesStop pair order recurrent part all hs → CasesStop pair order recurrent cut all hs
    cases_cut end_of-Plan hs u k = tt
    cases_cut (more_of-Plan s t rest) [] u k = tt
    cases_cut (more_of-Plan s t rest) (h ∷ hs) (u, v) k = (λ d e. next_cut t (at_rows h d) u (k.0 d e), cases_cut rest hs v k.1)

  plan_cut : (t : Plan) (h : Path) → HitsWithin n t.next → PlanStops pair order recurrent part t h → PlanStops pair order recurrent cut t h
  plan_cut t h u k = λ d e. next_cut t.next (at_rows h d) u (k d e)

pub stops_are_cut : StopsAreCut
stops_are_cut pair order recurrent part cut n cuts t h u k = plan_cut pair order recurrent part cut n cuts t h u k
