-- Tables that grow.
use Rattle.std.proofs.Common.{◌≡◌, ℕ, ◌+◌, Option, Some, List, [], ◌∷◌, ◌++◌, length, refl, sym, ap, ◌∙◌, subst, append_assoc, append-nil}
use Rattle.std.specs.Prelude.{IfSome}
use Rattle.ac_forms.specs.ListMembers.{IsAmong}
use Rattle.ac_claims_paths.specs.ModelCalls.{pairing}
use Rattle.ac_claims.specs.CheckKnowledge.{IsClaimMade}
use Rattle.ac_syntax.specs.declared.tree.Order.{Order}
use Rattle.ac_syntax.specs.declared.tree.Site.{Site}
use Rattle.ac_claims.specs.declared.types.Claim.{Claim}
use Rattle.ac_claims.specs.declared.types.ClaimTree.{ClaimTree}
use Rattle.ac_unfold_plans.specs.PlanStops.{claim_positions}
use Rattle.ac_unfold.specs.declared.types.ProgramFlows.{ProgramFlows}
use Rattle.ac_unfold_table.specs.TabledClaims.{AddsTabled, IsFit, IsTabled}
use Rattle.ac_unfold_table.specs.Tables.{Grows, TableOf, with_tabled}
use Rattle.ac_unfold_table.specs.StartPlans.{AreTreesOf, UseTabled}

-- ---- a table grows

grows_same : (t : TableOf) → Grows t t
grows_same t = record {
  base = refl;
  claims = refl;
  order = refl;
  tabled = ([], sym (append-nil t.tabled));
  trees = ([], sym (append-nil t.trees));
}

grows_then : (a b c : TableOf) → Grows a b → Grows b c → Grows a c
grows_then a b c h k = record {
  base = k.base ∙ h.base;
  claims = k.claims ∙ h.claims;
  order = k.order ∙ h.order;
  tabled = (h.tabled.0 ++ k.tabled.0, k.tabled.1 ∙ ap (λ (xs : List Claim). xs ++ k.tabled.0) h.tabled.1 ∙ append_assoc a.tabled h.tabled.0 k.tabled.0);
  trees = (h.trees.0 ++ k.trees.0, k.trees.1 ∙ ap (λ (xs : List (List ClaimTree)). xs ++ k.trees.0) h.trees.1 ∙ append_assoc a.trees h.trees.0 k.trees.0);
}

grows_one : (t : TableOf) (c : Claim) (ts : List ClaimTree) → Grows t (with_tabled t c ts)
grows_one t c ts = record {
  base = refl;
  claims = refl;
  order = refl;
  tabled = (c ∷ [], refl);
  trees = (ts ∷ [], refl);
}

-- ---- by claims that were proved

pub adds_same : (s : ProgramFlows) (t : TableOf) → AddsTabled s t t
adds_same s t = record { kept = grows_same t; valid = λ h. h }

pub adds_by : (s : ProgramFlows) (a b : TableOf) → b ≡ a → AddsTabled s a b
adds_by s a b e = subst (λ (t : TableOf). AddsTabled s a t) (sym e) (adds_same s a)

pub adds_then : (s : ProgramFlows) (a b c : TableOf) → AddsTabled s a b → AddsTabled s b c → AddsTabled s a c
adds_then s a b c h k = record { kept = grows_then a b c h.kept k.kept; valid = λ v. k.valid (h.valid v) }

-- a claim that is made, where none of the claims is of its pair
pub fit_for : (s : ProgramFlows) (old new : List Claim) (c d : Claim) (found : Option Claim) → found ≡ Some d → IfSome found (λ x. (x ≡ c) × IsClaimMade (pairing s.programs) c) → new ≡ old → ((x : Claim) → IsAmong x old → ¬ (claim_positions x ≡ claim_positions c)) → IsFit s new d
fit_for s old new c d found e h same free =
    let is = subst (λ o. IfSome o (λ x. (x ≡ c) × IsClaimMade (pairing s.programs) c)) e h in
    subst (λ (xs : List Claim). IsFit s xs d) (sym same) (subst (IsFit s old) (sym is.0) (record { made = is.1; free = free }))

-- by one claim with its plans
pub adds_one : (s : ProgramFlows) (a b : TableOf) (c : Claim) (ts : List ClaimTree) (number : ℕ) → b ≡ with_tabled a c ts → number ≡ a.base + length a.claims + length a.tabled → AreTreesOf s a.base a.claims a.tabled a.order number c ts → UseTabled s a.tabled c ts → IsFit s a.claims c → AddsTabled s a b
adds_one s a b c ts number e n h use_tabled fit =
    subst (λ (t : TableOf). AddsTabled s a t) (sym e)
    (record {
      kept = grows_one a c ts;
      valid = λ v. IsTabled.more a.tabled a.trees c ts (a.tabled ++ c ∷ []) (a.trees ++ ts ∷ []) v (subst (λ (k : ℕ). AreTreesOf s a.base a.claims a.tabled a.order k c ts) n h) use_tabled refl refl fit;
    })

-- ---- nothing is tabled

pub nothing_tabled : (s : ProgramFlows) (base : ℕ) (claims : List Claim) (order : List (Site × Order)) (tabled : List Claim) (trees : List (List ClaimTree)) → tabled ≡ [] → trees ≡ [] → IsTabled s base claims order tabled trees
nothing_tabled s base claims order tabled trees e f =
    subst (λ (xs : List Claim). IsTabled s base claims order xs trees) (sym e)
    (subst (λ (ys : List (List ClaimTree)). IsTabled s base claims order [] ys) (sym f) IsTabled.none)
