-- Of which pairs the claims of a proof are, and the rows of the claim of a pair.
use Rattle.std.proofs.Common.{◌≡◌, ◌⊎◌, inl, inr, ℕ, zero, suc, ◌+◌, ◌&&◌, ℤ, negsuc, List, [], ◌∷◌, Bool, true, false, cond, Some, refl, sym, ap, ◌∙◌, subst, arith}
use Rattle.std.specs.Prelude.{slice_get, nat_eq}
use Rattle.std.proofs.lemmas.Int.{ints}
use Rattle.std.proofs.lemmas.Bool.{eq-eqb}
use Rattle.ac_forms.specs.Rows.{Holds, Meets}
use Rattle.ac_forms.specs.declared.row.Row.{Row}
use Rattle.ac_forms.specs.declared.row.Row.TheVariants.{Ge}
use Rattle.ac_forms.proofs.Joining.{both_of}
use Rattle.ac_syntax.specs.declared.tree.Pair.{Pair}
use Rattle.ac_syntax.specs.declared.tree.Position.{Position}
use Rattle.ac_syntax.specs.declared.tree.Position.TheVariants.{Output, Node, InitialOutput, InitialNode}
use Rattle.ac_forms.specs.ListMembers.{IsAmong}
use Rattle.ac_claims.specs.ProofEnds.{same_position, same_pair}
use Rattle.ac_claims.specs.declared.types.Claim.{Claim}
use Rattle.ac_claims.proofs.Plans.{position_is}
use Rattle.ac_widen.specs.Claims.{IsClaimRow}
use Rattle.ac_widen.specs.Combinations.{Each}
use Rattle.ac_widen_programs.specs.PairSetting.{PairAt}
use Rattle.ac_unfold_plans.specs.PlanStops.{claim_positions, claim_at, claims_of}
use Rattle.ac_unfold_plans.proofs.Handled.{not_both}
use Rattle.ac_graph.proofs.MoveSteps.{true_both, same_self}

-- some claim of the part is of the pair
pub record IsClaimed (pair : Pair) (part : ℕ → Bool) (cs : List Claim) (key : Position × Position) (p : List ℤ) : Type 0 where
  pub number : ℕ
  pub claim : Claim
  pub is : slice_get cs number ≡ Some claim
  pub within : part number ≡ true
  pub key_is : claim_positions claim ≡ key
  pub there : PairAt pair key p
  pub meets : Meets claim.rows p

-- a claim with a number of the part is among its claims, and each of these has one
pub claim_within : (part : ℕ → Bool) (j : ℕ) (cs : List Claim) (i : ℕ) (c : Claim) → slice_get cs i ≡ Some c → part (j + i) ≡ true → IsAmong c (claims_of part j cs)
claim_within part j [] i c e m = absurd cc
claim_within part j (d ∷ cs) zero c e m =
    let z : j + 0 ≡ j = omega arith in
    let q : c ≡ d = cc in
    by (part j) (ap part (sym z) ∙ m) q
  where
    by : (b : Bool) → b ≡ true → c ≡ d → IsAmong c (cond b (d ∷ claims_of part (j + 1) cs) (claims_of part (j + 1) cs))
    by true e q = inl q
    by false e q = absurd cc
claim_within part j (d ∷ cs) (suc i) c e m =
    let z : j + suc i ≡ (j + 1) + i = omega arith in
    by (part j) (claim_within part (j + 1) cs i c e (ap part (sym z) ∙ m))
  where
    by : (b : Bool) → IsAmong c (claims_of part (j + 1) cs) → IsAmong c (cond b (d ∷ claims_of part (j + 1) cs) (claims_of part (j + 1) cs))
    by true n = inr n
    by false n = n

pub within_claim : (part : ℕ → Bool) (j : ℕ) (cs : List Claim) (c : Claim) → IsAmong c (claims_of part j cs) → (i : ℕ) × (slice_get cs i ≡ Some c) × (part (j + i) ≡ true)
within_claim part j [] c n = absurd n
within_claim part j (d ∷ cs) c n = by (part j) refl n (within_claim part (j + 1) cs c)
  where
    onward : (i : ℕ) × (slice_get cs i ≡ Some c) × (part ((j + 1) + i) ≡ true) → (i : ℕ) × (slice_get (d ∷ cs) i ≡ Some c) × (part (j + i) ≡ true)
    onward r = let z : j + suc r.0 ≡ (j + 1) + r.0 = omega arith in (suc r.0, r.1, ap part z ∙ r.2)

    by : (b : Bool) → part j ≡ b → IsAmong c (cond b (d ∷ claims_of part (j + 1) cs) (claims_of part (j + 1) cs)) → (IsAmong c (claims_of part (j + 1) cs) → (i : ℕ) × (slice_get cs i ≡ Some c) × (part ((j + 1) + i) ≡ true))
        → (i : ℕ) × (slice_get (d ∷ cs) i ≡ Some c) × (part (j + i) ≡ true)
    by true q (inl e) next = let z : j + 0 ≡ j = omega arith in (0, ap Some (sym e), ap part z ∙ q)
    by true q (inr n) next = onward (next n)
    by false q n next = onward (next n)

pub key_is : (j k : Position × Position) → same_pair j k ≡ true → j ≡ k
key_is j k e =
    let b = both_of (same_position j.0 k.0) (same_position j.1 k.1) e in
    let l = position_is j.0 k.0 b.0 in
    let r = position_is j.1 k.1 b.1 in
    λ i. (l i, r i)

pub same_if : (j k : Position × Position) → j ≡ k → same_pair j k ≡ true
same_if j k e = subst (λ (z : Position × Position). same_pair j z ≡ true) e (true_both (same_position j.0 j.0) (same_position j.1 j.1) (same_self j.0) (same_self j.1))

-- the rows of a claim that is alone at its pair
pub claim_is : (cs : List Claim) (d : Claim) (key : Position × Position) → IsAmong d cs → claim_positions d ≡ key → ((c : Claim) → IsAmong c cs → claim_positions c ≡ key → c ≡ d) → claim_at cs key ≡ d.rows
claim_is [] d key n e alone = absurd n
claim_is (c ∷ cs) d key n e alone = by (same_pair (claim_positions c) key) refl n (λ m. claim_is cs d key m e (λ z i. alone z (inr i)))
  where
    by : (b : Bool) → same_pair (claim_positions c) key ≡ b → (d ≡ c) ⊎ IsAmong d cs → (IsAmong d cs → claim_at cs key ≡ d.rows) → cond b c.rows (claim_at cs key) ≡ d.rows
    by true q m next = ap (λ (z : Claim). z.rows) (alone c (inl refl) (key_is (claim_positions c) key q))
    by false q (inl m) next = not_both (same_pair (claim_positions c) key) (same_if (claim_positions c) key (ap claim_positions (sym m) ∙ e)) q
    by false q (inr m) next = next m

never_holds : (p : List ℤ) → ¬ (Holds (Ge (record { konst = negsuc 0; coefs = [] })) p)
never_holds p h = absurd (omega (arith, ints, h))

-- they are claim rows where those of each claim of the pair are
pub claim_rows : (cs : List Claim) (key : Position × Position) (template : List Row) → ((c : Claim) → IsAmong c cs → claim_positions c ≡ key → Each (IsClaimRow template) c.rows) → Each (IsClaimRow template) (claim_at cs key)
claim_rows [] key template h = (inr (inr never_holds), tt)
claim_rows (c ∷ cs) key template h = by (same_pair (claim_positions c) key) refl (claim_rows cs key template (λ z i. h z (inr i)))
  where
    by : (b : Bool) → same_pair (claim_positions c) key ≡ b → Each (IsClaimRow template) (claim_at cs key) → Each (IsClaimRow template) (cond b c.rows (claim_at cs key))
    by true q next = h c (inl refl) (key_is (claim_positions c) key q)
    by false q next = next

-- a point that meets them meets the rows of a claim of the pair
pub claim_met : (cs : List Claim) (key : Position × Position) (p : List ℤ) → Meets (claim_at cs key) p → (c : Claim) × IsAmong c cs × (claim_positions c ≡ key) × Meets c.rows p
claim_met [] key p m = absurd (never_holds p m.0)
claim_met (c ∷ cs) key p m = by (same_pair (claim_positions c) key) refl m (claim_met cs key p)
  where
    by : (b : Bool) → same_pair (claim_positions c) key ≡ b → Meets (cond b c.rows (claim_at cs key)) p → (Meets (claim_at cs key) p → (d : Claim) × IsAmong d cs × (claim_positions d ≡ key) × Meets d.rows p) → (d : Claim) × IsAmong d (c ∷ cs) × (claim_positions d ≡ key) × Meets d.rows p
    by true q m next = (c, inl refl, key_is (claim_positions c) key q, m)
    by false q m next = let r = next m in (r.0, inr r.1, r.2, r.3)
