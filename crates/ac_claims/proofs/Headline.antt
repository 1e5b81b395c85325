-- A valid proof names only outputs that are the same.
use Rattle.std.proofs.Common.{◌≡◌, ℕ, zero, suc, ◌+◌, ◌&&◌, ℤ, List, [], ◌∷◌, ◌++◌, map, length, true, Option, Some, None, refl, sym, ap, ◌∙◌, subst, arith, inl, inr}
use Rattle.std.specs.Prelude.{slice_get, nat_eq, option_map, ◌<ℤ◌}
use Rattle.std.specs.List.{AllByRecursion, list_any}
use Rattle.ac_forms.specs.Rows.{Meets, HaveModuli, AreRowsOver}
use Rattle.ac_forms.specs.declared.row.Row.{Row}
use Rattle.ac_forms.proofs.Joining.{both_of}
use Rattle.ac_forms.proofs.Passes.{moduli_of}
use Rattle.ac_syntax.specs.Index.{point, index_value}
use Rattle.ac_syntax.specs.ReadyPrograms.{FitParts}
use Rattle.ac_syntax.specs.declared.tree.IndexExpr.{IndexExpr}
use Rattle.ac_syntax.specs.Outputs.{SameOutput, IsValuation, InExtents, extents_at, input_at, swaps_of}
use Rattle.ac_syntax.specs.Spot.{AtEnd}
use Rattle.ac_syntax.specs.Where.{element}
use Rattle.ac_syntax.specs.declared.tree.Pair.{Pair}
use Rattle.ac_syntax.specs.declared.tree.Position.{Position}
use Rattle.ac_syntax.specs.declared.tree.Position.TheVariants.{Output}
use Rattle.ac_syntax.proofs.Agreeing.{same_from_terms}
use Rattle.ac_poly.specs.ModelMeaning.{values_at}
use Rattle.ac_poly.specs.Model.{model_of}
use Rattle.ac_poly.proofs.Columns.{has_columns, has_kinds}
use Rattle.ac_poly.proofs.Whole.{has_context}
use Rattle.ac_poly.specs.declared.types.Model.{Model}
use Rattle.ac_cert.specs.CertificateFaults.{first_fault_of}
use Rattle.ac_cert.specs.declared.types.Rule.TheVariants as rule
use Rattle.ac_omega_steps.proofs.Keeping.{Meets-append}
use Rattle.ac_base.proofs.Options.{map-some}
use Rattle.ac_cert.proofs.Soundness.{first-none}
use Rattle.ac_forms.specs.Renaming.{picked}
use Rattle.ac_claims_paths.specs.PathColumns.{columns_of, equal_forms}
use Rattle.ac_claims.specs.ProofEnds.{same_position}
use Rattle.ac_claims_paths.specs.Executions.{Execution, At, elements, execution}
use Rattle.ac_claims_paths.specs.PathSteps.{Pairing}
use Rattle.ac_claims_paths.specs.ModelPositions.{element_forms}
use Rattle.ac_claims.specs.PlanFaults.{fault_unless}
use Rattle.ac_claims.specs.ProofFaults.{Domain, domain, is_point, head_lines, heads_fault, claims_fault, claim_lines, left_seat, right_seat, start_columns, piece_rows, output_rows, all_stand_among, asks_by, asks_no_more, output_stands, outputs_fault, due_from, trees_fault, IsValidProof}
use Rattle.ac_claims.specs.Soundness.{ArePaired, pairing_of, ClaimsHaveModuli, TermsAgree, ValidProofsHaveAgreeingTerms, ValidProofsNameSameOutputs}
use Rattle.ac_forms.specs.Standing.{all_stand}
use Rattle.ac_claims.specs.declared.types.Claim.{Claim}
use Rattle.ac_claims.specs.declared.types.Proof.{Proof}
use Rattle.ac_claims.proofs.Central.{Valid, claims_hold}
use Rattle.ac_claims_paths.proofs.Moving.{equal-values, equal-within, appended-parts, meets-both, made-both}
use Rattle.ac_forms.proofs.Standings.{all-hold}
use Rattle.ac_claims.proofs.Claimed.{Setting, runs_of, Claimed}
use Rattle.ac_claims_paths.proofs.OnPaths.{seat_columns}
use Rattle.ac_claims_paths.proofs.Heres.{element_values}
use Rattle.ac_forms.specs.ListMembers.{IsAmong}
use Rattle.ac_claims_paths.proofs.InBranches.{made-wide}
use Rattle.ac_claims.proofs.Plans.{position_is, unless_none}
use Rattle.ac_claims.proofs.Trees.{InDomain, output_parts, domain_point, domain_moduli, start_point, pieces_meet, pieces_made, all_valid}
use Rattle.ac_claims_paths.proofs.Described.{models_describe}

pub moduli_at : (cs : List Claim) → AllByRecursion (λ (c : Claim). HaveModuli c.rows) cs → (i : ℕ) (c : Claim) → slice_get cs i ≡ Some c → HaveModuli c.rows
moduli_at [] h i c e = absurd cc
moduli_at (d ∷ cs) h zero c e = let s : d ≡ c = cc in subst (λ (y : Claim). HaveModuli y.rows) s h.0
moduli_at (d ∷ cs) h (suc i) c e = moduli_at cs h.1 i c e

-- the models of a pair
abbrev left_of : Pair → Model
left_of pair = model_of pair.left pair.context

abbrev right_of : Pair → Model
right_of pair = model_of pair.right pair.context

right_fits : (pair : Pair) → ArePaired pair → FitParts (length pair.right.params) 0 pair.context.parts
right_fits pair t = subst (λ n. FitParts n 0 pair.context.parts) (sym t.params) t.context

-- the setting of a proof at a valuation of the context
abbrev setting : (pair : Pair) (proof : Proof) → ArePaired pair → ClaimsHaveModuli proof → (params : List ℤ) → IsValuation pair params → Setting
setting pair proof t m params v = record {
  on = record {
    pairing = pairing_of pair (left_of pair) (right_of pair);
    params = params;
    left = execution pair.left (left_of pair) params;
    right = execution pair.right (right_of pair) params;
    input = input_at pair.left.arrays;
    count = sym v.each;
    describes_left = models_describe pair.left pair.context params t.left t.context v.each;
    describes_right = models_describe pair.right pair.context params t.right (right_fits pair t) (v.each ∙ sym t.params);
    inputs = λ a e. sym (has_kinds pair.left pair.context a) ∙ e;
  };
  claims = proof.claims;
  context = (has_context pair.left pair.context t.context params v.each).1 v.context;
  context_made = (has_columns pair.left pair.context t.left t.context).context;
  moduli = moduli_at proof.claims m;
}

-- the parts of an output that stands
pub record Stood (g : Pairing) (c : Claim) : Type 0 where
  pub left : Domain
  pub right : Domain
  pub left_is : domain g.left c.left ≡ Some left
  pub right_is : domain g.right c.right ≡ Some right
  pub left_piece : List Row
  pub right_piece : List Row
  pub left_pieces : left.pieces ≡ left_piece ∷ []
  pub right_pieces : right.pieces ≡ right_piece ∷ []
  pub given : List Row
  pub given_is : output_rows g c left right left_piece right_piece ≡ Some given
  pub stand : all_stand given c.rows ≡ true

pub stood : (g : Pairing) (c : Claim) → asks_no_more g c (domain g.left c.left) (domain g.right c.right) ≡ true → Stood g c
stood g c e = by (domain g.left c.left) (domain g.right c.right) refl refl e
  where
    rows : (a b : Domain) (l r : List Row) (o : Option (List Row)) → domain g.left c.left ≡ Some a → domain g.right c.right ≡ Some b → a.pieces ≡ l ∷ [] → b.pieces ≡ r ∷ [] → output_rows g c a b l r ≡ o → all_stand_among o c.rows ≡ true → Stood g c
    rows a b l r None q q' la lb i e = absurd cc
    rows a b l r (Some given) q q' la lb i e = record { left = a; right = b; left_is = q; right_is = q'; left_piece = l; right_piece = r; left_pieces = la; right_pieces = lb; given = given; given_is = i; stand = e }

    pieces : (a b : Domain) (ls rs : List (List Row)) → domain g.left c.left ≡ Some a → domain g.right c.right ≡ Some b → a.pieces ≡ ls → b.pieces ≡ rs → asks_by g c a b ls rs ≡ true → Stood g c
    pieces a b (l ∷ []) (r ∷ []) q q' la lb e = rows a b l r (output_rows g c a b l r) q q' la lb refl e
    pieces a b [] rs q q' la lb e = absurd cc
    pieces a b (l ∷ l' ∷ ls) rs q q' la lb e = absurd cc
    pieces a b (l ∷ []) [] q q' la lb e = absurd cc
    pieces a b (l ∷ []) (r ∷ r' ∷ rs) q q' la lb e = absurd cc

    by : (o o' : Option Domain) → domain g.left c.left ≡ o → domain g.right c.right ≡ o' → asks_no_more g c o o' ≡ true → Stood g c
    by None o' q q' e = absurd cc
    by (Some a) None q q' e = absurd cc
    by (Some a) (Some b) q q' e = pieces a b a.pieces b.pieces q q' refl refl e

pub only : {A : Type 0} (x y : A) → IsAmong x (y ∷ []) → x ≡ y
only x y (inl e) = e
only x y (inr n) = absurd n

-- the claim's rows hold at each element against itself
pub element_meets : (g : Setting) (c : Claim) (s : Stood g.on.pairing c) (e : List ℤ) → HaveModuli c.rows → InDomain g.on.params s.left e → InDomain g.on.params s.right e → HaveModuli s.left_piece → HaveModuli s.right_piece → Meets c.rows (g.on.params ++ (e ++ e))
element_meets g c s e hm dl dr ml mr =
    let a = s.left in
    let b = s.right in
    let p = g.on.params ++ (e ++ e) in
    let cols = start_columns g.on.pairing a b in
    let sp = start_point g c a b e e dl.long dr.long in
    let ks = columns_of (left_seat g.on.pairing c a) in
    let ls = columns_of (right_seat g.on.pairing c a b) in
    let pl : Meets s.left_piece (g.on.params ++ e) = subst (λ (q : List Row). Meets q (g.on.params ++ e)) (only dl.piece s.left_piece (subst (IsAmong dl.piece) s.left_pieces dl.among)) dl.meets in
    let pr : Meets s.right_piece (g.on.params ++ e) = subst (λ (q : List Row). Meets q (g.on.params ++ e)) (only dr.piece s.right_piece (subst (IsAmong dr.piece) s.right_pieces dr.among)) dr.meets in
    let t = appended-parts (equal_forms ks (element_forms 0 a.width) ls (element_forms 0 b.width)) (option_map (λ rows. g.on.pairing.left.context ++ rows) (piece_rows g.on.pairing c a b s.left_piece s.right_piece)) s.given s.given_is in
    let u = map-some (piece_rows g.on.pairing c a b s.left_piece s.right_piece) (λ rows. g.on.pairing.left.context ++ rows) t.1 t.3 in
    let kl = seat_columns (left_seat g.on.pairing c a) cols (omega arith) in
    let kr = seat_columns (right_seat g.on.pairing c a b) cols (omega arith) in
    let same : values_at (picked ks p) (element_forms 0 a.width) ≡ values_at (picked ls p) (element_forms 0 b.width) =
    ap (λ z. values_at z (element_forms 0 a.width)) sp.left ∙ element_values [] e 0 a.width refl dl.long ∙ sym (ap (λ z. values_at z (element_forms 0 b.width)) sp.right ∙ element_values [] e 0 b.width refl dr.long) in
    let m1 = (equal-values ks (element_forms 0 a.width) ls (element_forms 0 b.width) t.0 p t.2).1 same in
    let lp : length g.on.params ≡ g.on.pairing.params = sym g.on.count in
    let m2 = Meets-append g.on.pairing.left.context g.on.pairing.params g.on.params (e ++ e) (omega (arith, lp)) g.context_made g.context in
    let m3 = pieces_meet g c a b s.left_piece s.right_piece u.0 e e u.1 sp pl pr in
    let w1 = equal-within ks (element_forms 0 a.width) ls (element_forms 0 b.width) t.0 cols kl kr t.2 in
    let w2 = made-wide g.on.pairing.left.context g.on.pairing.params cols (omega arith) g.context_made in
    let w3 = pieces_made g.on.pairing c a b s.left_piece s.right_piece u.0 u.1 ml mr in
    let is : s.given ≡ t.0 ++ (g.on.pairing.left.context ++ u.0) = t.4 ∙ ap (λ (z : List Row). t.0 ++ z) u.2 in
    let meets : Meets s.given p = subst (λ (z : List Row). Meets z p) (sym is) (meets-both t.0 (g.on.pairing.left.context ++ u.0) p m1 (meets-both g.on.pairing.left.context u.0 p m2 m3)) in
    let made : AreRowsOver cols s.given = subst (λ (z : List Row). AreRowsOver cols z) (sym is) (made-both cols t.0 (g.on.pairing.left.context ++ u.0) w1 (made-both cols g.on.pairing.left.context u.0 w2 w3)) in
    all-hold s.given c.rows p s.stand (moduli_of cols s.given made) hm meets

-- equal extents have the same elements
pub in_extents : (params : List ℤ) (es fs : List IndexExpr) (at : List ℤ) → map (index_value (point params [])) fs ≡ map (index_value (point params [])) es → InExtents (point params []) es at → InExtents (point params []) fs at
in_extents params [] [] [] q h = tt
in_extents params [] [] (x ∷ at) q h = absurd h
in_extents params [] (f ∷ fs) at q h = absurd cc
in_extents params (e ∷ es) [] at q h = absurd cc
in_extents params (e ∷ es) (f ∷ fs) [] q h = absurd h
in_extents params (e ∷ es) (f ∷ fs) (x ∷ at) q h =
    let v : index_value (point params []) f ≡ index_value (point params []) e = cc in
    let t : map (index_value (point params [])) fs ≡ map (index_value (point params [])) es = cc in
    (h.0, subst (λ z. x <ℤ z) (sym v) h.1, in_extents params es fs at t h.2)

-- a position at an element
pub at_output : (x : Execution) (o : ℕ) (e : List ℤ) → x.inside o e → At x (Output o) e (AtEnd (element o e))
unfolding At
at_output x o e h = (h, refl)

-- where the claims hold, the terms of an output that stands agree
stands_agree : (pair : Pair) (proof : Proof) (t : ArePaired pair) (m : ClaimsHaveModuli proof)
    → ((params : List ℤ) (v : IsValuation pair params) → Valid (runs_of (setting pair proof t m params v)) (Claimed (setting pair proof t m params v)))
    → (o i : ℕ) (c : Claim) → slice_get proof.claims i ≡ Some c → c.left ≡ Output o → c.right ≡ Output o → list_any (nat_eq o) pair.outputs ≡ true → Stood (pairing_of pair (left_of pair) (right_of pair)) c → TermsAgree pair o
stands_agree pair proof t m valid o i c ic lo ro out s params v e inside =
    let g = setting pair proof t m params v in
    let dl : domain (left_of pair) (Output o) ≡ Some s.left = subst (λ (P : Position). domain (left_of pair) P ≡ Some s.left) lo s.left_is in
    let dr : domain (right_of pair) (Output o) ≡ Some s.right = subst (λ (P : Position). domain (right_of pair) P ≡ Some s.right) ro s.right_is in
    let xl = output_parts (left_of pair) o s.left dl in
    let xr = output_parts (right_of pair) o s.right dr in
    let in_left : elements pair.left (left_of pair) params o e = (xl.0, xl.1, inside) in
    let in_right : elements pair.right (right_of pair) params o e = (xr.0, xr.1, in_extents params (extents_at pair.left.arrays o) (extents_at pair.right.arrays o) e (t.extents o out params) inside) in
    let hl : At g.on.left (Output o) e (AtEnd (element o e)) = at_output g.on.left o e in_left in
    let hr : At g.on.right (Output o) e (AtEnd (element o e)) = at_output g.on.right o e in_right in
    let hl' : At g.on.left c.left e (AtEnd (element o e)) = subst (λ (P : Position). At g.on.left P e (AtEnd (element o e))) (sym lo) hl in
    let hr' : At g.on.right c.right e (AtEnd (element o e)) = subst (λ (P : Position). At g.on.right P e (AtEnd (element o e))) (sym ro) hr in
    let pl = domain_point (left_of pair) params g.on.left g.on.describes_left c.left e (AtEnd (element o e)) s.left s.left_is hl' in
    let pr = domain_point (right_of pair) params g.on.right g.on.describes_right c.right e (AtEnd (element o e)) s.right s.right_is hr' in
    let ml = domain_moduli (left_of pair) params g.on.left g.on.describes_left c.left s.left s.left_piece s.left_is (subst (IsAmong s.left_piece) (sym s.left_pieces) (inl refl)) in
    let mr = domain_moduli (right_of pair) params g.on.right g.on.describes_right c.right s.right s.right_piece s.right_is (subst (IsAmong s.right_piece) (sym s.right_pieces) (inl refl)) in
    let meets = element_meets g c s e (moduli_at proof.claims m i c ic) pl pr ml mr in
    claims_hold (runs_of g) (Claimed g) (valid params v) (AtEnd (element o e)) (AtEnd (element o e)) (i, c, ic, e, e, hl', hr', meets)

output_agrees : (pair : Pair) (proof : Proof) (t : ArePaired pair) (m : ClaimsHaveModuli proof)
    → ((params : List ℤ) (v : IsValuation pair params) → Valid (runs_of (setting pair proof t m params v)) (Claimed (setting pair proof t m params v)))
    → (o i : ℕ) → output_stands (pairing_of pair (left_of pair) (right_of pair)) pair.outputs o (slice_get proof.claims i) ≡ true → TermsAgree pair o
output_agrees pair proof t m valid o i e = by (slice_get proof.claims i) refl e
  where
    by : (c : Option Claim) → slice_get proof.claims i ≡ c → output_stands (pairing_of pair (left_of pair) (right_of pair)) pair.outputs o c ≡ true → TermsAgree pair o
    by None q e = absurd cc
    by (Some c) q e =
        let g = pairing_of pair (left_of pair) (right_of pair) in
        let a = both_of (list_any (nat_eq o) pair.outputs) (same_position c.left (Output o) && (same_position c.right (Output o) && asks_no_more g c (domain g.left c.left) (domain g.right c.right))) e in
        let b = both_of (same_position c.left (Output o)) (same_position c.right (Output o) && asks_no_more g c (domain g.left c.left) (domain g.right c.right)) a.1 in
        let d = both_of (same_position c.right (Output o)) (asks_no_more g c (domain g.left c.left) (domain g.right c.right)) b.1 in
        stands_agree pair proof t m valid o i c q (position_is c.left (Output o) b.0) (position_is c.right (Output o) d.0) a.0 (stood g c d.1)

outputs_agree : (pair : Pair) (proof : Proof) (t : ArePaired pair) (m : ClaimsHaveModuli proof)
    → ((params : List ℤ) (v : IsValuation pair params) → Valid (runs_of (setting pair proof t m params v)) (Claimed (setting pair proof t m params v)))
    → (os : List (ℕ × ℕ)) (k : ℕ) → outputs_fault (pairing_of pair (left_of pair) (right_of pair)) pair.outputs proof.claims os k ≡ None → AllByRecursion (λ (o : ℕ × ℕ). TermsAgree pair o.0) os
outputs_agree pair proof t m valid [] k e = tt
outputs_agree pair proof t m valid (o ∷ os) k e =
    let g = pairing_of pair (left_of pair) (right_of pair) in
    let f = first-none (fault_unless (output_stands g pair.outputs o.0 (slice_get proof.claims o.1)) k rule.Output) (outputs_fault g pair.outputs proof.claims os (k + 1)) e in
    (output_agrees pair proof t m valid o.0 o.1 (unless_none (output_stands g pair.outputs o.0 (slice_get proof.claims o.1)) k rule.Output f.0), outputs_agree pair proof t m valid os (k + 1) f.1)

with_models : (pair : Pair) (proof : Proof) → ArePaired pair → ClaimsHaveModuli proof → IsValidProof (pairing_of pair (left_of pair) (right_of pair)) pair.outputs proof → AllByRecursion (λ (o : ℕ × ℕ). TermsAgree pair o.0) proof.outputs
with_models pair proof t m e =
    let g = pairing_of pair (left_of pair) (right_of pair) in
    let first = 4 + head_lines proof.heads in
    let k = first + claim_lines proof.claims in
    let trees = trees_fault g proof.claims proof.trees.items (due_from g 0 proof.claims) (k + length proof.outputs) in
    let outputs = outputs_fault g pair.outputs proof.claims proof.outputs k in
    let claims = claims_fault g proof.claims first in
    let a = first-none (fault_unless (is_point g.left proof.point) 2 rule.Point) (first_fault_of (heads_fault g proof.heads) (first_fault_of claims (first_fault_of outputs trees))) e in
    let h = first-none (heads_fault g proof.heads) (first_fault_of claims (first_fault_of outputs trees)) a.1 in
    let b = first-none claims (first_fault_of outputs trees) h.1 in
    let c = first-none outputs trees b.1 in
    outputs_agree pair proof t m (λ params v. all_valid (setting pair proof t m params v) first (k + length proof.outputs) proof.trees.items b.0 c.1) proof.outputs k c.0

-- THE theorem: a valid proof names only outputs whose terms agree
pub valid_proofs_have_agreeing_terms : ValidProofsHaveAgreeingTerms
valid_proofs_have_agreeing_terms pair left right proof t a m e = with_models pair proof t m (subst (λ (n : Model). IsValidProof (pairing_of pair (left_of pair) n) pair.outputs proof) a.right_is (subst (λ (n : Model). IsValidProof (pairing_of pair n right) pair.outputs proof) a.left_is e))

-- and so outputs that are the same
all_same : (pair : Pair) (os : List (ℕ × ℕ)) → AllByRecursion (λ (o : ℕ × ℕ). TermsAgree pair o.0) os → AllByRecursion (λ (o : ℕ × ℕ). SameOutput pair o.0) os
all_same pair [] h = tt
all_same pair (o ∷ os) h = ((λ params v e inside. same_from_terms (input_at pair.left.arrays) (swaps_of pair.commutative) pair.left.body pair.right.body params (element o.0 e) (h.0 params v e inside)), all_same pair os h.1)

pub valid_proofs_name_same_outputs : ValidProofsNameSameOutputs
valid_proofs_name_same_outputs pair left right proof t a m e = all_same pair proof.outputs (valid_proofs_have_agreeing_terms pair left right proof t a m e)
