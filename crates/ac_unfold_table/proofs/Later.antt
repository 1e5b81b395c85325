-- What was known of plans when less was tabled.
use Rattle.std.proofs.Common.{◌≡◌, inl, inr, ℕ, zero, suc, ◌+◌, List, [], ◌∷◌, ◌++◌, length, Some, refl, sym, ap, ◌∙◌, subst, length-append}
use Rattle.std.specs.Prelude.{◌⊎◌, slice_get}
use Rattle.ac_syntax.specs.declared.tree.Order.{Order}
use Rattle.ac_syntax.specs.declared.tree.Site.{Site}
use Rattle.ac_claims.specs.declared.types.Claim.{Claim}
use Rattle.ac_claims.specs.declared.types.ClaimTree.{ClaimTree}
use Rattle.ac_claims_plans.specs.DuePlans.{AreNumbered}
use Rattle.ac_unfold_plans.specs.PairStops.{Stopped}
use Rattle.ac_unfold.specs.SearchPlanStops.{IsStoppedAt}
use Rattle.ac_unfold.specs.declared.types.ProgramFlows.{ProgramFlows}
use Rattle.ac_unfold_table.specs.TabledClaims.{IsTabled}
use Rattle.ac_unfold_table.specs.Tables.{Grows, TableOf}
use Rattle.ac_unfold_table.specs.StartPlans.{AreTreesOf}

-- ---- lists

get_before : {A : Type 0} (xs ys : List A) (i : ℕ) (x : A) → slice_get xs i ≡ Some x → slice_get (xs ++ ys) i ≡ Some x
get_before [] ys i x e = absurd cc
get_before (y ∷ xs) ys zero x e = e
get_before (y ∷ xs) ys (suc i) x e = get_before xs ys i x e

get_last : {A : Type 0} (xs : List A) (x : A) → slice_get (xs ++ x ∷ []) (length xs) ≡ Some x
get_last [] x = refl
get_last (y ∷ xs) x = get_last xs x

some_is : {A : Type 0} (x y : A) → Some x ≡ Some y → x ≡ y
some_is x y e = cc

get_split : {A : Type 0} (xs : List A) (x : A) (i : ℕ) (y : A) → slice_get (xs ++ x ∷ []) i ≡ Some y → (slice_get xs i ≡ Some y) ⊎ ((i ≡ length xs) × (x ≡ y))
get_split [] x zero y e = inr (refl, some_is x y e)
get_split [] x (suc i) y e = absurd cc
get_split (z ∷ xs) x zero y e = inl e
get_split (z ∷ xs) x (suc i) y e = elim (get_split xs x i y e) [ inl h ↦ inl h | inr h ↦ inr (ap suc h.0, h.1) ]

-- ---- plans

numbered_before : (base : ℕ) (xs ys cs : List Claim) → AreNumbered base (xs ++ ys) cs → AreNumbered base xs cs
numbered_before base xs ys cs h = λ i c e. h i c (get_before xs ys i c e)

stopped_before : (s : ProgramFlows) (order : List (Site × Order)) (base : ℕ) (claims xs ys : List Claim) (g : Stopped) → IsStoppedAt s order base claims (xs ++ ys) g → IsStoppedAt s order base claims xs g
stopped_before s order base claims xs ys g h = record {
  programs = h.programs;
  orders = h.orders;
  claimed = h.claimed;
  part = h.part;
  tabled_part = λ i c e. h.tabled_part i c (get_before xs ys i c e);
}

-- they stay where more is tabled
pub trees_more : (s : ProgramFlows) (base : ℕ) (claims xs ys : List Claim) (order : List (Site × Order)) (number : ℕ) (start : Claim) (trees : List ClaimTree)
    → AreTreesOf s base claims xs order number start trees → AreTreesOf s base claims (xs ++ ys) order number start trees
trees_more s base claims xs ys order number start trees h = record {
  claim = h.claim;
  domains = h.domains;
  pieces = h.pieces;
  accepted = λ settled cs a b. h.accepted settled cs a (numbered_before (base + length claims) xs ys cs b);
  stops = λ g at. h.stops g (stopped_before s order base claims xs ys g at);
}

-- they stay where the table has grown
pub trees_grown : (s : ProgramFlows) (old new : TableOf) (number : ℕ) (start : Claim) (trees : List ClaimTree) → Grows old new
    → AreTreesOf s old.base old.claims old.tabled old.order number start trees → AreTreesOf s new.base new.claims new.tabled new.order number start trees
trees_grown s old new number start trees grown h =
    subst (λ (o : List (Site × Order)). AreTreesOf s new.base new.claims new.tabled o number start trees) (sym grown.order)
    (subst (λ (zs : List Claim). AreTreesOf s new.base new.claims zs old.order number start trees) (sym grown.tabled.1)
    (subst (λ (zs : List Claim). AreTreesOf s new.base zs (old.tabled ++ grown.tabled.0) old.order number start trees) (sym grown.claims)
    (subst (λ (k : ℕ). AreTreesOf s k old.claims (old.tabled ++ grown.tabled.0) old.order number start trees) (sym grown.base)
    (trees_more s old.base old.claims old.tabled grown.tabled.0 old.order number start trees h))))

-- ---- what is tabled

-- a tabled claim has plans by its number, against all that is tabled
pub record IsProvedAt (s : ProgramFlows) (base : ℕ) (claims : List Claim) (order : List (Site × Order)) (tabled : List Claim) (trees : List (List ClaimTree)) (i : ℕ) (c : Claim) : Type 0 where
  pub plans : List ClaimTree
  pub there : slice_get trees i ≡ Some plans
  pub are : AreTreesOf s base claims tabled order (base + length claims + i) c plans

-- as many plans are there as claims
pub as_many : (s : ProgramFlows) (base : ℕ) (claims : List Claim) (order : List (Site × Order)) (tabled : List Claim) (trees : List (List ClaimTree)) → IsTabled s base claims order tabled trees → length trees ≡ length tabled
as_many s base claims order tabled trees IsTabled.none = refl
as_many s base claims order tabled trees (IsTabled.more before done c ts _ _ h are use_tabled e f fit) =
    let same = as_many s base claims order before done h in
    ap length f ∙ length-append done (ts ∷ []) ∙ ap (λ (n : ℕ). n + 1) same ∙ sym (length-append before (c ∷ [])) ∙ sym (ap length e)

pub proved_at : (s : ProgramFlows) (base : ℕ) (claims : List Claim) (order : List (Site × Order)) (tabled : List Claim) (trees : List (List ClaimTree)) (i : ℕ) (c : Claim)
    → IsTabled s base claims order tabled trees → slice_get tabled i ≡ Some c → IsProvedAt s base claims order tabled trees i c
proved_at s base claims order tabled trees i c IsTabled.none at = absurd cc
proved_at s base claims order tabled trees i c (IsTabled.more before done d ts _ _ h are use_tabled e f fit) at =
    let goal : List Claim → List (List ClaimTree) → Type 0 = λ xs ys. IsProvedAt s base claims order xs ys i c in
    let here : slice_get (before ++ d ∷ []) i ≡ Some c = subst (λ (xs : List Claim). slice_get xs i ≡ Some c) e at in
    let proved : goal (before ++ d ∷ []) (done ++ ts ∷ []) = elim (get_split before d i c here) [
      | inl old ↦
          let p = proved_at s base claims order before done i c h old in
          record { plans = p.plans; there = get_before done (ts ∷ []) i p.plans p.there; are = trees_more s base claims before (d ∷ []) order (base + length claims + i) c p.plans p.are }
      | inr new ↦
          let place : i ≡ length done = new.0 ∙ sym (as_many s base claims order before done h) in
          record {
            plans = ts;
            there = subst (λ (k : ℕ). slice_get (done ++ ts ∷ []) k ≡ Some ts) (sym place) (get_last done ts);
            are = subst (λ (x : Claim). AreTreesOf s base claims (before ++ d ∷ []) order (base + length claims + i) x ts) new.1
                (subst (λ (k : ℕ). AreTreesOf s base claims (before ++ d ∷ []) order (base + length claims + k) d ts) (sym new.0) (trees_more s base claims before (d ∷ []) order (base + length claims + length before) d ts are));
          }
    ] in
    subst (λ (xs : List Claim). goal xs trees) (sym e) (subst (λ (ys : List (List ClaimTree)). goal (before ++ d ∷ []) ys) (sym f) proved)
