-- Which plan comes next.
use Rattle.std.proofs.Common.{◌≡◌, ◌≢◌, ℕ, zero, suc, ◌+◌, ◌<◌, ◌≤◌, List, [], ◌∷◌, ◌++◌, map, drop, length, get_or, Bool, true, false, cond, Option, Some, None, slice_get, nat_eq, refl, sym, ap, ◌∙◌, subst, arith, inl, inr}
use Rattle.std.specs.Prelude.{◌⊎◌, nat_le, nat_lt, option_map, option_and_then}
use Rattle.std.specs.List.{flat_map}
use Rattle.std.proofs.lemmas.Bool.{leb-true, leb-false, ltb-true, ltb-false}
use Rattle.std.proofs.lemmas.Bool.Decides.{Decides-eqb}
use Rattle.std.proofs.lemmas.List.{drop_all}
use Rattle.std.proofs.lemmas.Option.{slice_get_past, slice_get_cases, slice_get-get_or}
use Rattle.ac_forms.specs.declared.row.Row.{Row}
use Rattle.ac_base.proofs.Truths.{true-nat_le}
use Rattle.ac_claims_paths.specs.PathSteps.{Pairing}
use Rattle.ac_claims.specs.ProofFaults.{Domain, domain, DuePlan, numbered, due_at, due_from}
use Rattle.ac_claims.specs.RemainingPlans.{plan_for, plans_beside, plans_from, start_beside, start_at, remaining_by, remaining, count_by, IsThereBy, IsThere, Settled, next_in, AtClaim}
use Rattle.ac_claims.specs.Domains.{piece_by}
use Rattle.ac_claims.specs.PlanStarts.{after_one}
use Rattle.ac_claims.specs.declared.domains.Piece.{Piece}
use Rattle.ac_claims.specs.declared.types.Claim.{Claim}
use Rattle.ac_claims.specs.declared.upcoming.Upcoming.{Upcoming}

pub numbered_length : {A : Type 0} (k : ℕ) (xs : List A) → length (numbered k xs) ≡ length xs
numbered_length k [] = refl
numbered_length k (x ∷ xs) = ap suc (numbered_length (k + 1) xs)

pub numbered_at : {A : Type 0} (k : ℕ) (xs : List A) (i : ℕ) (x : A) → slice_get xs i ≡ Some x → slice_get (numbered k xs) i ≡ Some (k + i, x)
numbered_at k [] i x e = absurd cc
numbered_at k (y ∷ xs) zero x e =
    let n : k + 0 ≡ k = omega arith in
    let s : y ≡ x = cc in
    λ i. Some (sym n i, s i)
numbered_at k (y ∷ xs) (suc i) x e =
    let n : k + 1 + i ≡ k + suc i = omega arith in
    numbered_at (k + 1) xs i x e ∙ ap (λ j. Some (j, x)) n

-- a list from an item on
pub drop_get : {A : Type 0} (xs : List A) (i : ℕ) (x : A) → slice_get xs i ≡ Some x → drop i xs ≡ x ∷ drop (i + 1) xs
drop_get [] i x e = absurd cc
drop_get (y ∷ xs) zero x e = let s : y ≡ x = cc in ap (λ z. z ∷ xs) s
drop_get (y ∷ xs) (suc i) x e =
    let n : suc (i + 1) ≡ suc i + 1 = omega arith in
    drop_get xs i x e ∙ ap (λ j. x ∷ drop j (y ∷ xs)) n

drop_none : {A : Type 0} (xs : List A) (i : ℕ) → slice_get xs i ≡ None → drop i xs ≡ []
drop_none [] zero e = refl
drop_none [] (suc i) e = refl
drop_none (y ∷ xs) zero e = absurd cc
drop_none (y ∷ xs) (suc i) e = drop_none xs i e

module _ (g : Pairing) (i : ℕ) (c : Claim) (a b : Domain) where
  -- plans for some left and right pieces: all of them; and those from two pieces on
  abbrev all_plans : List (ℕ × List Row) → List (ℕ × List Row) → List DuePlan
  all_plans ls rs = flat_map (λ l. map (plan_for g i c a b l) rs) ls

  abbrev from : List (ℕ × List Row) → List (ℕ × List Row) → ℕ → ℕ → List DuePlan
  from ls rs left right = plans_beside g i c a b (drop right rs) (slice_get ls left) ++ all_plans (drop (left + 1) ls) rs

  from_start : (ls rs : List (ℕ × List Row)) → from ls rs 0 0 ≡ all_plans ls rs
  from_start [] rs = refl
  from_start (l ∷ ls) rs = refl

  from_next : (ls rs : List (ℕ × List Row)) (left right : ℕ) (l r : ℕ × List Row) → slice_get ls left ≡ Some l → slice_get rs right ≡ Some r → from ls rs left right ≡ plan_for g i c a b l r ∷ from ls rs left (right + 1)
  from_next ls rs left right l r e f =
      let rest = all_plans (drop (left + 1) ls) rs in
      ap (λ o. plans_beside g i c a b (drop right rs) o ++ rest) e
      ∙ ap (λ z. map (plan_for g i c a b l) z ++ rest) (drop_get rs right r f)
      ∙ sym (ap (λ o. plan_for g i c a b l r ∷ (plans_beside g i c a b (drop (right + 1) rs) o ++ rest)) e)

  beside_none : (o : Option (ℕ × List Row)) → plans_beside g i c a b [] o ≡ []
  beside_none None = refl
  beside_none (Some l) = refl

  -- the row of the next left piece
  row_from : (ls rs : List (ℕ × List Row)) (left : ℕ) → all_plans (drop left ls) rs ≡ from ls rs left 0
  row_from ls rs left = by (slice_get ls left) refl
    where
      by : (o : Option (ℕ × List Row)) → slice_get ls left ≡ o → all_plans (drop left ls) rs ≡ plans_beside g i c a b rs (slice_get ls left) ++ all_plans (drop (left + 1) ls) rs
      by None e =
          let d : drop (left + 1) ls ≡ [] = drop_more ls left (drop_none ls left e) in
          ap (λ z. all_plans z rs) (drop_none ls left e) ∙ sym (λ j. plans_beside g i c a b rs (e j) ++ all_plans (d j) rs)
        where
          drop_more : (xs : List (ℕ × List Row)) (k : ℕ) → drop k xs ≡ [] → drop (k + 1) xs ≡ []
          drop_more [] zero q = refl
          drop_more [] (suc k) q = drop_all (suc k + 1) [] (omega arith)
          drop_more (x ∷ xs) zero q = absurd cc
          drop_more (x ∷ xs) (suc k) q = let n : suc k + 1 ≡ suc (k + 1) = omega arith in ap (λ j. drop j (x ∷ xs)) n ∙ drop_more xs k q
      by (Some l) e = ap (λ z. all_plans z rs) (drop_get ls left l e) ∙ sym (ap (λ o. plans_beside g i c a b rs o ++ all_plans (drop (left + 1) ls) rs) e)

  from_row : (ls rs : List (ℕ × List Row)) (left right : ℕ) → length rs ≤ right → from ls rs left right ≡ from ls rs (left + 1) 0
  from_row ls rs left right h =
      ap (λ z. plans_beside g i c a b z (slice_get ls left) ++ all_plans (drop (left + 1) ls) rs) (drop_all right rs h)
      ∙ ap (λ z. z ++ all_plans (drop (left + 1) ls) rs) (beside_none (slice_get ls left))
      ∙ row_from ls rs (left + 1)

  from_past : (ls rs : List (ℕ × List Row)) (left right : ℕ) → length ls ≤ left → from ls rs left right ≡ []
  from_past ls rs left right h =
      let d : drop (left + 1) ls ≡ [] = drop_all (left + 1) ls (omega arith) in
      λ j. plans_beside g i c a b (drop right rs) (slice_get_past ls left h j) ++ all_plans (d j) rs

  no_plans : (ls : List (ℕ × List Row)) → all_plans ls [] ≡ []
  no_plans [] = refl
  no_plans (l ∷ ls) = no_plans ls

  from_none : (ls rs : List (ℕ × List Row)) (left right : ℕ) → length rs ≡ 0 → from ls rs left right ≡ []
  from_none ls [] left right h =
      ap (λ z. plans_beside g i c a b z (slice_get ls left) ++ all_plans (drop (left + 1) ls) []) (drop_all right [] (omega arith))
      ∙ ap (λ z. z ++ all_plans (drop (left + 1) ls) []) (beside_none (slice_get ls left))
      ∙ no_plans (drop (left + 1) ls)
  from_none ls (r ∷ rs) left right h = absurd (omega (arith, h))

-- what the next plan of a claim is
abbrev Steps : Pairing → Claim → Option Domain → Option Domain → Upcoming → Option Upcoming → Type 0
Steps g c o o' u None = plans_from g u.claim c o o' u.left_piece u.right_piece ≡ []
Steps g c o o' u (Some v) =
    (u.claim ≡ v.claim) × (plans_from g u.claim c o o' u.left_piece u.right_piece ≡ plans_from g u.claim c o o' v.left_piece v.right_piece) × (v.left_piece < count_by o) × (v.right_piece < count_by o')

no_left : (right : ℕ) (u : Upcoming) → next_in 0 right u ≡ None
no_left right u = ap (λ p. cond p None (cond (nat_eq right 0) None (cond (nat_lt u.right_piece right) (Some u) (cond (nat_lt (u.left_piece + 1) 0) (Some (record { claim = u.claim; left_piece = u.left_piece + 1; right_piece = 0 })) None)))) (true-nat_le 0 u.left_piece (omega arith))

no_right : (left : ℕ) (u : Upcoming) → next_in left 0 u ≡ None
no_right left u = by (nat_le left u.left_piece)
  where
    by : (p : Bool) → cond p None (cond (nat_eq 0 0) None (cond (nat_lt u.right_piece 0) (Some u) (cond (nat_lt (u.left_piece + 1) left) (Some (record { claim = u.claim; left_piece = u.left_piece + 1; right_piece = 0 })) None))) ≡ None
    by true = refl
    by false = refl

steps_in : (g : Pairing) (c : Claim) (o o' : Option Domain) (u : Upcoming) → Steps g c o o' u (next_in (count_by o) (count_by o') u)
steps_in g c None o' u = subst (Steps g c None o' u) (sym (no_left (count_by o') u)) refl
steps_in g c (Some a) None u = subst (Steps g c (Some a) None u) (sym (no_right (length a.pieces) u)) refl
steps_in g c (Some a) (Some b) u = by (nat_le (length a.pieces) u.left_piece) (nat_eq (length b.pieces) 0) (nat_lt u.right_piece (length b.pieces)) (nat_lt (u.left_piece + 1) (length a.pieces)) refl refl refl refl
  where
    by : (p q r s : Bool) → nat_le (length a.pieces) u.left_piece ≡ p → nat_eq (length b.pieces) 0 ≡ q → nat_lt u.right_piece (length b.pieces) ≡ r → nat_lt (u.left_piece + 1) (length a.pieces) ≡ s
        → Steps g c (Some a) (Some b) u (cond p None (cond q None (cond r (Some u) (cond s (Some (record { claim = u.claim; left_piece = u.left_piece + 1; right_piece = 0 })) None))))
    by true q r s e f i j = from_past g u.claim c a b (numbered 0 a.pieces) (numbered 0 b.pieces) u.left_piece u.right_piece (omega (arith, leb-true (length a.pieces) u.left_piece e, numbered_length 0 a.pieces))
    by false true r s e f i j = from_none g u.claim c a b (numbered 0 a.pieces) (numbered 0 b.pieces) u.left_piece u.right_piece (numbered_length 0 b.pieces ∙ (Decides-eqb (length b.pieces) 0).0 f)
    by false false true s e f i j = (refl, refl, leb-false (length a.pieces) u.left_piece e, ltb-true u.right_piece (length b.pieces) i)
    by false false false true e f i j =
        let some : length b.pieces ≢ 0 = λ z. (let t : nat_eq (length b.pieces) 0 ≡ true = (Decides-eqb (length b.pieces) 0).1 z in cc) in
        (refl, from_row g u.claim c a b (numbered 0 a.pieces) (numbered 0 b.pieces) u.left_piece u.right_piece (omega (arith, ltb-false u.right_piece (length b.pieces) i, numbered_length 0 b.pieces)), ltb-true (u.left_piece + 1) (length a.pieces) j, omega (arith, some))
    by false false false false e f i j =
        from_row g u.claim c a b (numbered 0 a.pieces) (numbered 0 b.pieces) u.left_piece u.right_piece (omega (arith, ltb-false u.right_piece (length b.pieces) i, numbered_length 0 b.pieces))
        ∙ from_past g u.claim c a b (numbered 0 a.pieces) (numbered 0 b.pieces) (u.left_piece + 1) 0 (omega (arith, ltb-false (u.left_piece + 1) (length a.pieces) j, numbered_length 0 a.pieces))

-- the plans of the claims from one on
pub remaining_start : (g : Pairing) (cs : List Claim) (i : ℕ) → remaining g cs (record { claim = i; left_piece = 0; right_piece = 0 }) ≡ due_from g i (drop i cs)
remaining_start g cs i = by (slice_get cs i) refl
  where
    claim : (c : Claim) (o o' : Option Domain) → plans_from g i c o o' 0 0 ≡ due_at g i c o o'
    claim c None o' = refl
    claim c (Some a) None = refl
    claim c (Some a) (Some b) = from_start g i c a b (numbered 0 a.pieces) (numbered 0 b.pieces)

    by : (o : Option Claim) → slice_get cs i ≡ o → remaining_by g cs (record { claim = i; left_piece = 0; right_piece = 0 }) (slice_get cs i) ≡ due_from g i (drop i cs)
    by None e = ap (remaining_by g cs (record { claim = i; left_piece = 0; right_piece = 0 })) e ∙ sym (ap (due_from g i) (drop_none cs i e))
    by (Some c) e =
        ap (remaining_by g cs (record { claim = i; left_piece = 0; right_piece = 0 })) e
        ∙ ap (λ z. z ++ due_from g (i + 1) (drop (i + 1) cs)) (claim c (domain g.left c.left) (domain g.right c.right))
        ∙ sym (ap (due_from g i) (drop_get cs i c e))

pub at_claim_is : (g : Pairing) (cs : List Claim) (u : Upcoming) (c : Claim) (found : Option Upcoming) → slice_get cs u.claim ≡ Some c → found ≡ next_in (count_by (domain g.left c.left)) (count_by (domain g.right c.right)) u → AtClaim g cs u found
at_claim_is g cs u c found q e = subst (AtClaim g cs u) (sym e) (by (next_in (count_by (domain g.left c.left)) (count_by (domain g.right c.right)) u) (steps_in g c (domain g.left c.left) (domain g.right c.right) u))
  where
    by : (o : Option Upcoming) → Steps g c (domain g.left c.left) (domain g.right c.right) u o → AtClaim g cs u o
    by None s = ap (remaining_by g cs u) q ∙ ap (λ z. z ++ due_from g (u.claim + 1) (drop (u.claim + 1) cs)) s
    by (Some v) s =
        let p : v.claim ≡ u.claim = sym s.0 in
        let qv : slice_get cs v.claim ≡ Some c = ap (slice_get cs) p ∙ q in
        record {
          same =
              ap (remaining_by g cs v) qv
              ∙ (λ j. plans_from g (p j) c (domain g.left c.left) (domain g.right c.right) v.left_piece v.right_piece ++ due_from g (p j + 1) (drop (p j + 1) cs))
              ∙ ap (λ z. z ++ due_from g (u.claim + 1) (drop (u.claim + 1) cs)) (sym s.1)
              ∙ sym (ap (remaining_by g cs u) q);
          there = subst (IsThereBy g v) (sym qv) (s.2, s.3);
        }

-- past the claims
pub past_claims : (g : Pairing) (cs : List Claim) (u : Upcoming) → length cs ≤ u.claim → IsThere g cs u
past_claims g cs u h = subst (IsThereBy g u) (sym (slice_get_past cs u.claim h)) tt

pub settled_same : (g : Pairing) (cs : List Claim) (plans more : List DuePlan) (u : Upcoming) → Settled g cs plans u → plans ≡ more → Settled g cs more u
settled_same g cs plans more u s e = record { same = s.same ∙ e; there = s.there }

pub settled_at_end : (g : Pairing) (cs : List Claim) (u : Upcoming) → length cs ≤ u.claim → Settled g cs (remaining g cs u) u
settled_at_end g cs u h = record { same = refl; there = past_claims g cs u h }

pub settled_none : (g : Pairing) (cs : List Claim) (from i : ℕ) (u : Upcoming) → due_from g from (drop from cs) ≡ due_from g i (drop i cs) → length cs ≤ i → u ≡ record { claim = length cs; left_piece = 0; right_piece = 0 } → Settled g cs (due_from g from (drop from cs)) u
settled_none g cs from i u e h is =
    let z : Upcoming = record { claim = length cs; left_piece = 0; right_piece = 0 } in
    subst (Settled g cs (due_from g from (drop from cs))) (sym is) (record {
      same = remaining_start g cs (length cs) ∙ ap (due_from g (length cs)) (drop_all (length cs) cs (omega arith)) ∙ sym (e ∙ ap (due_from g i) (drop_all i cs h));
      there = past_claims g cs z (omega arith);
    })

-- the first plan of a claim, from pieces that are there on
PlanIn : Pairing → ℕ → Claim → Option Domain → Option Domain → ℕ → ℕ → Type 0
PlanIn g i c o o' left right =
    (d : DuePlan) × (plans_from g i c o o' left right ≡ d ∷ plans_from g i c o o' left (right + 1)) × (d.claim ≡ i) × (d.left_piece ≡ left) × (d.right_piece ≡ right)
    × (d.path ≡ option_and_then (λ (l : Piece). start_beside g c l (piece_by right o')) (piece_by left o))

plan_in : (g : Pairing) (i : ℕ) (c : Claim) (o o' : Option Domain) (left right : ℕ) → left < count_by o → right < count_by o' → PlanIn g i c o o' left right
unfolding PlanIn
plan_in g i c None o' left right h h' = absurd (omega arith)
plan_in g i c (Some a) None left right h h' = absurd (omega arith)
plan_in g i c (Some a) (Some b) left right h h' =
    let l : List Row = get_or a.pieces left [] in
    let r : List Row = get_or b.pieces right [] in
    let e : slice_get a.pieces left ≡ Some l = slice_get-get_or a.pieces left [] h in
    let f : slice_get b.pieces right ≡ Some r = slice_get-get_or b.pieces right [] h' in (
      plan_for g i c a b (0 + left, l) (0 + right, r),
      from_next g i c a b (numbered 0 a.pieces) (numbered 0 b.pieces) left right (0 + left, l) (0 + right, r) (numbered_at 0 a.pieces left l e) (numbered_at 0 b.pieces right r f),
      refl,
      omega arith,
      omega arith,
      sym (λ j. option_and_then (λ (x : Piece). start_beside g c x (option_map (λ rows. record { width = b.width; rows = rows }) (f j))) (option_map (λ rows. record { width = a.width; rows = rows }) (e j))),
    )

-- the next plan, whose pieces are there, and those behind it
pub record NextPlan (g : Pairing) (cs : List Claim) (u : Upcoming) : Type 0 where
  pub of : Claim
  pub of_is : slice_get cs u.claim ≡ Some of
  pub plan : DuePlan
  pub same : remaining g cs u ≡ plan ∷ remaining g cs (after_one u)
  pub claim_is : plan.claim ≡ u.claim
  pub left_is : plan.left_piece ≡ u.left_piece
  pub right_is : plan.right_piece ≡ u.right_piece
  pub path_is : plan.path ≡ start_at g of u.left_piece u.right_piece

pub next_plan : (g : Pairing) (cs : List Claim) (u : Upcoming) → u.claim < length cs → IsThere g cs u → NextPlan g cs u
unfolding PlanIn
next_plan g cs u lt t = by (slice_get_cases cs u.claim).1
  where
    here : (c : Claim) → slice_get cs u.claim ≡ Some c → NextPlan g cs u
    here c q =
        let h = subst (IsThereBy g u) q t in
        let p = plan_in g u.claim c (domain g.left c.left) (domain g.right c.right) u.left_piece u.right_piece h.0 h.1 in
        let rest = due_from g (u.claim + 1) (drop (u.claim + 1) cs) in
        record {
          of = c;
          of_is = q;
          plan = p.0;
          same = ap (remaining_by g cs u) q ∙ ap (λ z. z ++ rest) p.1 ∙ sym (ap (λ o. p.0 ∷ remaining_by g cs (after_one u) o) q);
          claim_is = p.2;
          left_is = p.3;
          right_is = p.4;
          path_is = p.5;
        }

    by : ((c : Claim) × (u.claim < length cs) × (slice_get cs u.claim ≡ Some c) × (get_or cs u.claim c ≡ c)) ⊎ ((length cs ≤ u.claim) × (slice_get cs u.claim ≡ None)) → NextPlan g cs u
    by (inl z) = here z.0 z.2
    by (inr z) = absurd (omega (arith, z.0))

pub ruleset first_steps = (remaining_start, settled_same, settled_none)

pub ruleset settle_steps = (settled_same, settled_at_end)
