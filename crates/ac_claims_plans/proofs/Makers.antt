-- What the plans of a branch on a row need, at the form that stands on the path.
use Rattle.std.proofs.Common.{◌≡◌, ℕ, suc, ◌+◌, ◌≤◌, ℤ, pos, ◌≤ℤ◌, List, [], ◌∷◌, ◌++◌, length, Some, true, sym, ap, ◌∙◌, subst}
use Rattle.std.specs.Prelude.{Box, Vec}
use Rattle.std.specs.declared.alloc.Global.{Global}
use Rattle.ac_forms.specs.Affine.{Affine, FormFits}
use Rattle.ac_forms.specs.Fits.{Fits}
use Rattle.ac_forms.specs.Negation.{opposite, with_column, NegationFits}
use Rattle.ac_forms.specs.declared.conj.Conj.{Conj}
use Rattle.ac_forms.specs.declared.row.Row.TheVariants.{Eq, Div, Ge}
use Rattle.ac_cert.specs.AcceptedTrees.{after_steps}
use Rattle.ac_cert.specs.RowBranches.{behind, under, over_zero, with_rest}
use Rattle.ac_cert.specs.Rules.{both_sides, is_partition}
use Rattle.ac_cert.specs.declared.types.Step.{Step}
use Rattle.ac_cert.specs.declared.types.Step.TheVariants.{EqCut, DivEq, DivMod, Floor}
use Rattle.ac_cert.proofs.RowBranching.{ge-branch, eq-branch, div-branch}
use Rattle.ac_claims_paths.specs.PathSteps.{Pairing, at_rows}
use Rattle.ac_claims_paths.specs.declared.path.Path.{Path}
use Rattle.ac_claims.specs.declared.types.Claim.{Claim}
use Rattle.ac_claims.specs.declared.types.Plan.{Plan, roll-Plan}
use Rattle.ac_claims.specs.declared.types.PlanNext.{PlanNext, Split, Residue}
use Rattle.ac_claims_plans.specs.PlanAcceptance.{AcceptsPlan}
use Rattle.ac_claims_plans.specs.BranchSides.{AcceptsClasses}
use Rattle.ac_claims_plans.proofs.PlanParts.{split-accepted, residue-accepted, behind-accepted}

-- what the makers say
abbrev pub Splits : Affine → Plan → Plan → Plan → Type 0
Splits e first second t = (g : Pairing) (cs : List Claim) (h : Path) (a b : Conj) → both_sides e h.conj ≡ Some (a, b) → AcceptsPlan g cs first (at_rows h a) → AcceptsPlan g cs second (at_rows h b) → AcceptsPlan g cs t h

abbrev pub Leads : List Step → Plan → Plan → Type 0
Leads steps plan t = (g : Pairing) (cs : List Claim) (h : Path) (d : Conj) → after_steps steps h.conj ≡ Some d → AcceptsPlan g cs plan (at_rows h d) → AcceptsPlan g cs t h

pub split_made : (t : Plan) (e : Affine) (l r : Box Plan Global) (first second : Plan) → t.steps ≡ [] → t.next ≡ Split e l r → l.value ≡ first → r.value ≡ second → Splits e first second t
split_made t e l r first second empty next low high g cs h a b is x y =
    split-accepted g cs t e l r h a b empty next is (subst (λ (z : Plan). AcceptsPlan g cs z (at_rows h a)) (sym low) x) (subst (λ (z : Plan). AcceptsPlan g cs z (at_rows h b)) (sym high) y)

pub behind_made : (steps s f : List Step) (x : PlanNext) → s ≡ steps ++ f → Leads steps (roll-Plan (record { steps = f; next = x })) (roll-Plan (record { steps = s; next = x }))
behind_made steps s f x is g cs h d e a = behind-accepted g cs steps s f x h d is e a

pub residue_made : (t : Plan) (m n : ℤ) (e : Affine) (kids : Vec Plan Global) → t.steps ≡ [] → t.next ≡ Residue n e kids → n ≡ m → (g : Pairing) (cs : List Claim) (h : Path) → is_partition m e h.conj.columns (length kids.items) ≡ true → AcceptsClasses g cs kids.items m e 0 h → AcceptsPlan g cs t h
residue_made t m n e kids empty next same g cs h is each = residue-accepted g cs t m e kids h empty (next ∙ ap (λ (z : ℤ). Residue z e kids) same) is each

pub ge_made : (f : Affine) (inside below t : Plan) → Splits f inside below t → (g : Pairing) (cs : List Claim) (h : Path) → length f.coefs ≤ h.conj.columns → NegationFits (Ge f) → AcceptsPlan g cs below (at_rows h (under h.conj f)) → AcceptsPlan g cs inside (at_rows h (behind h.conj (Ge f))) → AcceptsPlan g cs t h
ge_made f inside below t split g cs h short fits out on =
    ge-branch (λ u d. AcceptsPlan g cs u (at_rows h d)) f inside below t h.conj short fits (λ c a b is x y. split g cs (at_rows h c) a b is x y) out on

pub eq_made : (f e : Affine) (count : ℕ) (steps : List Step) (inside equal low above below t : Plan) → FormFits f → steps ≡ EqCut count (count + 1) ∷ [] → e ≡ opposite f → Leads steps inside equal → Splits e equal above low → Splits f low below t
    → (g : Pairing) (cs : List Claim) (h : Path) → length h.conj.rows ≡ count → length f.coefs ≤ h.conj.columns → NegationFits (Eq f) → AcceptsPlan g cs above (at_rows h (over_zero h.conj f)) → AcceptsPlan g cs below (at_rows h (under h.conj f)) → AcceptsPlan g cs inside (at_rows h (behind h.conj (Eq f))) → AcceptsPlan g cs t h
eq_made f e count steps inside equal low above below t fits are turned leads inner outer g cs h long short negated over out on =
    let leads2 : Leads (EqCut count (count + 1) ∷ []) inside equal = subst (λ ss. Leads ss inside equal) are leads in
    let inner2 : Splits (opposite f) equal above low = subst (λ x. Splits x equal above low) turned inner in
    eq-branch (λ u d. AcceptsPlan g cs u (at_rows h d)) f count inside equal low above below t h.conj long short fits negated
    (λ c d is x. leads2 g cs (at_rows h c) d is x) (λ c a b is x y. inner2 g cs (at_rows h c) a b is x y) (λ c a b is x y. outer g cs (at_rows h c) a b is x y) over out on

pub div_made : (m : ℤ) (f e : Affine) (columns count : ℕ) (steps floor : List Step) (inside next both outside t : Plan) → Fits m → FormFits f → steps ≡ EqCut count (count + 2) ∷ DivEq (count + 3) m ∷ DivMod (count + 4) (pos 1) m f ∷ [] → e ≡ with_column columns m (opposite f) → floor ≡ Floor m f ∷ []
    → Leads steps inside next → Splits e next outside both → Leads floor both t
    → (g : Pairing) (cs : List Claim) (h : Path) → h.conj.columns ≡ columns → length h.conj.rows ≡ count → length f.coefs ≤ columns → pos 1 ≤ℤ m → NegationFits (Div m f) → AcceptsPlan g cs outside (at_rows h (with_rest h.conj m f)) → AcceptsPlan g cs inside (at_rows h (behind h.conj (Div m f))) → AcceptsPlan g cs t h
div_made m f e columns count steps floor inside next both outside t modulus fits are high floored leads split falls g cs h wide long short positive negated out on =
    let leads2 : Leads (EqCut count (count + 2) ∷ DivEq (count + 3) m ∷ DivMod (count + 4) (pos 1) m f ∷ []) inside next = subst (λ ss. Leads ss inside next) are leads in
    let split2 : Splits (with_column columns m (opposite f)) next outside both = subst (λ x. Splits x next outside both) high split in
    let falls2 : Leads (Floor m f ∷ []) both t = subst (λ ss. Leads ss both t) floored falls in
    div-branch (λ u d. AcceptsPlan g cs u (at_rows h d)) m f columns count inside next both outside t h.conj wide long short positive modulus fits negated
    (λ c d is x. leads2 g cs (at_rows h c) d is x) (λ c a b is x y. split2 g cs (at_rows h c) a b is x y) (λ c d is x. falls2 g cs (at_rows h c) d is x) out on

-- the residue branch with a plan in front
pub class_made : (t : Plan) (m : ℤ) (f : Affine) (inside : Plan) (outside kids : List Plan) → kids ≡ inside ∷ outside → ((g : Pairing) (cs : List Claim) (h : Path) → is_partition m f h.conj.columns (length kids) ≡ true → AcceptsClasses g cs kids m f 0 h → AcceptsPlan g cs t h)
    → (g : Pairing) (cs : List Claim) (h : Path) → is_partition m f h.conj.columns (suc (length outside)) ≡ true → AcceptsClasses g cs (inside ∷ outside) m f 0 h → AcceptsPlan g cs t h
class_made t m f inside outside kids are made g cs h is each =
    made g cs h (subst (λ xs. is_partition m f h.conj.columns (length xs) ≡ true) (sym are) is) (subst (λ xs. AcceptsClasses g cs xs m f 0 h) (sym are) each)
