-- Plans that branch on rows, down to others.
use Rattle.std.proofs.Common.{◌≡◌, inl, inr, ℤ, List, [], ◌∷◌, ◌++◌, refl, sym, subst}
use Rattle.std.specs.Prelude.{Box, Vec}
use Rattle.std.specs.declared.alloc.Global.{Global}
use Rattle.ac_forms.specs.Affine.{Affine}
use Rattle.ac_forms.specs.ListMembers.{IsAmong}
use Rattle.ac_claims.specs.declared.types.Plan.{Plan}
use Rattle.ac_claims.specs.declared.types.PlanNext as plan
use Rattle.ac_claims_paths.proofs.Branches.{in_left, in_right}
use Rattle.ac_claims_plans.specs.PlanAcceptance.{BranchesTo, ends, split, residue}

-- down to others, where each of its own does so
down : (ts us : List Plan) (x : plan.PlanNext) → BranchesTo ts x → ((t : Plan) → IsAmong t ts → BranchesTo us t.next) → BranchesTo us x
down ts us x (ends t n) f = f t n
down ts us x (split e low high a b) f = split e low high (down ts us low.value.next a f) (down ts us high.value.next b f)
down ts us x (residue m e kids a) f = residue m e kids (λ t n. down ts us t.next (a t n) f)

down_one : (t : Plan) (us : List Plan) (x : plan.PlanNext) → BranchesTo (t ∷ []) x → BranchesTo us t.next → BranchesTo us x
down_one t us x h k = down (t ∷ []) us x h by
  where
    by : (z : Plan) → IsAmong z (t ∷ []) → BranchesTo us z.next
    by z (inl e) = subst (λ (y : Plan). BranchesTo us y.next) (sym e) k
    by z (inr n) = absurd n

down_two : (t u : Plan) (us : List Plan) (x : plan.PlanNext) → BranchesTo (t ∷ u ∷ []) x → BranchesTo us t.next → BranchesTo us u.next → BranchesTo us x
down_two t u us x h k l = down (t ∷ u ∷ []) us x h by
  where
    by : (z : Plan) → IsAmong z (t ∷ u ∷ []) → BranchesTo us z.next
    by z (inl e) = subst (λ (y : Plan). BranchesTo us y.next) (sym e) k
    by z (inr (inl e)) = subst (λ (y : Plan). BranchesTo us y.next) (sym e) l
    by z (inr (inr n)) = absurd n

-- ---- what is made

pub split_branches : (t : Plan) (f : Affine) (l r : Box Plan Global) (first second : Plan) → t.next ≡ plan.Split f l r → l.value ≡ first → r.value ≡ second → BranchesTo (first ∷ second ∷ []) t.next
split_branches t f l r first second is low high =
    subst (BranchesTo (first ∷ second ∷ [])) (sym is) (split f l r (ends l.value (inl low)) (ends r.value (inr (inl high))))

pub residue_branches : (t : Plan) (m : ℤ) (f : Affine) (kids : Vec Plan Global) → t.next ≡ plan.Residue m f kids → BranchesTo kids.items t.next
residue_branches t m f kids is = subst (BranchesTo kids.items) (sym is) (residue m f kids (λ u n. ends u n))

pub eq_branches : (inside equal low above below t : Plan) → BranchesTo (inside ∷ []) equal.next → BranchesTo (equal ∷ above ∷ []) low.next → BranchesTo (low ∷ below ∷ []) t.next → BranchesTo (inside ∷ above ∷ below ∷ []) t.next
eq_branches inside equal low above below t e i o =
    let us = inside ∷ above ∷ below ∷ [] in
    down_two low below us t.next o (down_two equal above us low.next i (down_one inside us equal.next e (ends inside (inl refl))) (ends above (inr (inl refl)))) (ends below (inr (inr (inl refl))))

pub div_branches : (inside next both outside t : Plan) → BranchesTo (inside ∷ []) next.next → BranchesTo (next ∷ outside ∷ []) both.next → BranchesTo (both ∷ []) t.next → BranchesTo (inside ∷ outside ∷ []) t.next
div_branches inside next both outside t n b o =
    let us = inside ∷ outside ∷ [] in
    down_one both us t.next o (down_two next outside us both.next b (down_one inside us next.next n (ends inside (inl refl))) (ends outside (inr (inl refl))))

-- ---- of plans that were taken from the end of a list

pub last_branches : (inside last : Plan) (all rest : List Plan) (x : plan.PlanNext) → all ≡ rest ++ last ∷ [] → BranchesTo (inside ∷ last ∷ []) x → BranchesTo (inside ∷ all) x
last_branches inside last all rest x e h =
    down_two inside last (inside ∷ all) x h (ends inside (inl refl)) (ends last (inr (subst (IsAmong last) (sym e) (in_right last rest (last ∷ []) (inl refl)))))

pub last_two_branches : (inside above below : Plan) (all rest more : List Plan) (x : plan.PlanNext) → all ≡ rest ++ below ∷ [] → rest ≡ more ++ above ∷ [] → BranchesTo (inside ∷ above ∷ below ∷ []) x → BranchesTo (inside ∷ all) x
last_two_branches inside above below all rest more x e f h = down (inside ∷ above ∷ below ∷ []) (inside ∷ all) x h by
  where
    by : (z : Plan) → IsAmong z (inside ∷ above ∷ below ∷ []) → BranchesTo (inside ∷ all) z.next
    by z (inl i) = ends z (inl i)
    by z (inr (inl i)) = ends z (inr (subst (IsAmong z) (sym e) (in_left z rest (below ∷ []) (subst (IsAmong z) (sym f) (in_right z more (above ∷ []) (inl i))))))
    by z (inr (inr (inl i))) = ends z (inr (subst (IsAmong z) (sym e) (in_right z rest (below ∷ []) (inl i))))
    by z (inr (inr (inr n))) = absurd n
