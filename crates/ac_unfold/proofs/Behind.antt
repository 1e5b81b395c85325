-- Plans behind branches on rows.
use Rattle.std.proofs.Common.{◌≡◌, List, [], ◌∷◌, ◌++◌, Option, Some, refl, sym, ap, ◌∙◌, subst, append_assoc}
use Rattle.std.specs.Prelude.{Result, Ok, Err, IfOk, option_to_list}
use Rattle.std.specs.declared.alloc.AllocError.{AllocError}
use Rattle.ac_claims.specs.declared.types.Plan.{Plan}
use Rattle.ac_claims_plans.specs.PlanAcceptance.{BranchesTo}
use Rattle.ac_claims_plans.specs.BranchSides.{BranchServesAnywhere}
use Rattle.ac_unfold.specs.OpenBranches.{IsBehind, IsBranched}
use Rattle.ac_unfold.specs.declared.course.Open.{Open}

pub branched_ok : (res : Result Plan AllocError) (b : Open) (inside : Plan) → IfOk res (λ t. BranchServesAnywhere b.embedding b.row inside b.outside.items t) → IfOk res (λ t. BranchesTo (inside ∷ b.outside.items) t.next) → IfOk res (IsBranched b inside)
branched_ok (Ok t) b inside s r = record { serves = s; branches = r }
branched_ok (Err e) b inside s r = tt

-- the plan behind one branch more, at its end
pub record Inside (bs : List Open) (b : Open) (end t : Plan) : Type 0 where
  pub plan : Plan
  pub behind : IsBehind bs plan t
  pub serves : BranchServesAnywhere b.embedding b.row end b.outside.items plan

pub behind_last : (bs : List Open) (b : Open) (end t : Plan) → IsBehind (bs ++ b ∷ []) end t → Inside bs b end t
behind_last [] b end t h = record { plan = t; behind = refl; serves = subst (λ (x : Plan). BranchServesAnywhere b.embedding b.row x b.outside.items t) (sym h.1) h.2.serves }
behind_last (x ∷ bs) b end t h =
    let k = behind_last bs b end h.0 h.1 in
    record { plan = k.plan; behind = (h.0, k.behind, h.2); serves = k.serves }

-- the branches that are still to be closed, and the plan that stands behind the others
pub record Closing (all left : List Open) (end t : Plan) : Type 0 where
  pub rest : List Open
  pub are : all ≡ left ++ rest
  pub behind : IsBehind rest end t

pub closing_start : (all : List Open) (end : Plan) → Closing all all end end
closing_start all end = record { rest = []; are = nothing all; behind = refl }
  where
    nothing : (xs : List Open) → xs ≡ xs ++ []
    nothing [] = refl
    nothing (x ∷ xs) = ap (λ (ys : List Open). x ∷ ys) (nothing xs)

pub closing_next : (all left next : List Open) (b : Open) (end t u : Plan) → Closing all left end t → left ≡ next ++ b ∷ [] → IsBranched b t u → Closing all next end u
closing_next all left next b end t u h e s = record {
  rest = b ∷ h.rest;
  are = h.are ∙ ap (λ (xs : List Open). xs ++ h.rest) e ∙ append_assoc next (b ∷ []) h.rest;
  behind = (t, h.behind, s);
}

pub popped : (xs ys : List Open) (o : Option Open) (x : Open) → xs ≡ ys ++ option_to_list o → o ≡ Some x → xs ≡ ys ++ x ∷ []
popped xs ys o x e is = e ∙ ap (λ z. ys ++ option_to_list z) is

pub closing_end : (all left : List Open) (end t : Plan) → Closing all left end t → left ≡ [] → IsBehind all end t
closing_end all left end t h none = subst (λ (xs : List Open). IsBehind xs end t) (sym (h.are ∙ ap (λ (xs : List Open). xs ++ h.rest) none)) h.behind
