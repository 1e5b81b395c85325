-- The lines of a proof, taken one after the other.
use Rattle.std.proofs.Common.{◌≡◌, ◌-◌, ℕ, zero, suc, Bool, true, false, cond, nat_le, ℤ, pos, List, [], ◌∷◌, ◌++◌, length, Option, None, Some, refl, sym, ap, ◌∙◌, arith}
use Rattle.std.specs.Prelude.{option_and_then, is_some, unsigned_abs}
use Rattle.ac_forms.specs.declared.row.Row.{Row}
use Rattle.ac_cert.specs.declared.types.Step.{Step}
use Rattle.ac_omega_steps.specs.declared.choose.Choice.{Choice}
use Rattle.ac_claims.specs.Machine.{step_items, choice_items, next_items, row_items, IsSpelled, AreSpelled}
use Rattle.ac_claims.specs.PlanFaults.{count_of}
use Rattle.ac_claims.specs.ProofMachine.{items_of, head_items, row_lines, claims_lines, output_lines, tree_lines, lines_of, AreSpelledTrees}
use Rattle.ac_claims.specs.declared.item.Item.{Item}
use Rattle.ac_claims.specs.declared.item.Item.TheVariants as item
use Rattle.ac_claims.specs.declared.types.Claim.{Claim}
use Rattle.ac_claims.specs.declared.types.ClaimTree.{ClaimTree}
use Rattle.ac_claims.specs.declared.types.Heads.{Heads}
use Rattle.ac_claims.specs.declared.types.Plan.{Plan}
use Rattle.ac_claims.specs.declared.types.PlanNext.{PlanNext, Split', Residue', Go', Row_of-Plan, end_of-Plan, more_of-Plan}
use Rattle.ac_claims.specs.declared.types.PlanNext.TheVariants.{Absurd, Killed, Hit, SameNumber, SameInitial}
use Rattle.ac_claims.specs.declared.types.Proof.{Proof}
use Rattle.ac_prooftext.specs.CompleteProofs.{AreRising}
use Rattle.ac_prooftext.specs.LineOrder.{Place, next, next_all, start, done, closed, opened, choices_left, claims_left, rows_left, is_above}
use Rattle.ac_prooftext.specs.declared.stages.Stage.{Stage}
use Rattle.ac_prooftext.specs.declared.stages.Stage.TheVariants as stage

abbrev in_plan : List ℕ → Place
in_plan ns = record { stage = stage.Plan; open_counts = ns }

abbrev outside : Stage → Place
outside s = record { stage = s; open_counts = [] }

one_less : (n : ℕ) → suc n - 1 ≡ n
one_less n = omega arith

several : (n : ℕ) → nat_le (suc (suc n)) 1 ≡ false
several n = grind arith

steps_follow : (ns : List ℕ) (ss : List Step) (rest : List Item) → next_all (in_plan ns) (step_items ss rest) ≡ next_all (in_plan ns) rest
steps_follow ns [] rest = refl
steps_follow ns (s ∷ ss) rest = steps_follow ns ss rest

choices_follow : (ns : List ℕ) (cs : List Choice) (rest : List Item) → next_all (choices_left (length cs) ns) (choice_items cs rest) ≡ next_all (closed ns) rest
choices_follow ns [] rest = refl
choices_follow ns (c ∷ cs) rest = ap (λ n. next_all (choices_left n ns) (choice_items cs rest)) (one_less (length cs)) ∙ choices_follow ns cs rest

goes_on : (n : ℕ) (ns : List ℕ) → closed (suc n ∷ ns) ≡ opened n ns
goes_on zero ns = refl
goes_on (suc n) ns = ap (λ b. cond b (closed ns) (in_plan ((suc (suc n) - 1) ∷ ns))) (several n) ∙ ap (λ k. in_plan (k ∷ ns)) (one_less (suc n))

mutual
  next_follows : (t : PlanNext) (ns : List ℕ) (rest : List Item) → IsSpelled t → next_all (in_plan ns) (next_items t rest) ≡ next_all (closed ns) rest
  next_follows (Split' f p s l q t r) ns rest h =
      steps_follow (2 ∷ ns) s (next_items l (step_items t (next_items r rest)))
      ∙ (next_follows l (2 ∷ ns) (step_items t (next_items r rest)) h.0 ∙ (steps_follow (1 ∷ ns) t (next_items r rest) ∙ next_follows r (1 ∷ ns) rest h.1))
  next_follows (Residue' m f shape all) ns rest h = ap (λ k. next_all (opened (unsigned_abs k) ns) (row_items all rest)) h.0 ∙ rows_follow all ns rest h.1
  next_follows (Go' order shape all) ns rest h = rows_follow all ns rest h
  next_follows (Absurd i) ns rest h = refl
  next_follows (Killed kill) ns rest h = choices_follow ns kill.choices rest
  next_follows (Hit c) ns rest h = refl
  next_follows SameNumber ns rest h = refl
  next_follows SameInitial ns rest h = refl

  rows_follow : {m : _} → (all : Row_of-Plan m) (ns : List ℕ) (rest : List Item) → AreSpelled all → next_all (opened (count_of all) ns) (row_items all rest) ≡ next_all (closed ns) rest
  rows_follow end_of-Plan ns rest h = refl
  rows_follow (more_of-Plan s t more) ns rest h =
      steps_follow (suc (count_of more) ∷ ns) s (next_items t (row_items more rest))
      ∙ (next_follows t (suc (count_of more) ∷ ns) (row_items more rest) h.0 ∙ (ap (λ p. next_all p (row_items more rest)) (goes_on (count_of more) ns) ∙ rows_follow more ns rest h.1))

-- behind lines, other lines
behind : (p : Place) (xs ys : List Item) → next_all p (xs ++ ys) ≡ option_and_then (λ q. next_all q ys) (next_all p xs)
behind p [] ys = refl
behind p (x ∷ xs) ys = by (next p x) (λ q. behind q xs ys)
  where
    by : (o : Option Place) → ((q : Place) → next_all q (xs ++ ys) ≡ option_and_then (λ r. next_all r ys) (next_all q xs)) → option_and_then (λ q. next_all q (xs ++ ys)) o ≡ option_and_then (λ q. next_all q ys) (option_and_then (λ q. next_all q xs) o)
    by None step = refl
    by (Some q) step = step q

plan_follows : (t : Plan) (rest : List Item) → IsSpelled t.next → next_all (in_plan []) (items_of t ++ rest) ≡ next_all (outside stage.Tree) rest
plan_follows t rest h = behind (in_plan []) (items_of t) rest ∙ ap (λ o. option_and_then (λ q. next_all q rest) o) (steps_follow [] t.steps (next_items t.next []) ∙ next_follows t.next [] [] h)

trees_follow : (s : Stage) (ts : List ClaimTree) → ((c a b : ℕ) → next (outside s) (item.Tree c a b) ≡ Some (in_plan [])) → next (outside s) item.End ≡ Some done → AreSpelledTrees ts → next_all (outside s) (tree_lines ts (item.End ∷ [])) ≡ Some done
trees_follow s [] tree end h = ap (λ o. option_and_then (λ q. next_all q []) o) end
trees_follow s (t ∷ ts) tree end h =
    ap (λ o. option_and_then (λ q. next_all q (items_of t.tree ++ tree_lines ts (item.End ∷ []))) o) (tree t.claim t.left_piece t.right_piece)
    ∙ (plan_follows t.tree (tree_lines ts (item.End ∷ [])) h.0 ∙ trees_follow stage.Tree ts (λ c a b. refl) refl h.1)

outputs_follow : (last : Option ℕ) (os : List (ℕ × ℕ)) (ts : List ClaimTree) → AreRising last os → AreSpelledTrees ts → next_all (outside (stage.Output last)) (output_lines os (tree_lines ts (item.End ∷ []))) ≡ Some done
outputs_follow last [] ts rise h = trees_follow (stage.Output last) ts (λ c a b. refl) refl h
outputs_follow last (o ∷ os) ts rise h =
    ap (λ b. option_and_then (λ q. next_all q (output_lines os (tree_lines ts (item.End ∷ [])))) (Rattle.std.specs.Prelude.option_map (λ t. outside t) (cond b (Some (stage.Output (Some o.0))) None))) rise.0
    ∙ outputs_follow (Some o.0) os ts rise.1 h

claim_rows_follow : (n : ℕ) (rs : List Row) (rest : List Item) → next_all (outside (rows_left n (length rs))) (row_lines rs rest) ≡ next_all (outside (claims_left n)) rest
claim_rows_follow n [] rest = refl
claim_rows_follow n (r ∷ rs) rest = ap (λ k. next_all (outside (rows_left n k)) (row_lines rs rest)) (one_less (length rs)) ∙ claim_rows_follow n rs rest

claims_follow : (cs : List Claim) (rest : List Item) → next_all (outside (claims_left (length cs))) (claims_lines cs rest) ≡ next_all (outside (stage.Output None)) rest
claims_follow [] rest = refl
claims_follow (c ∷ cs) rest =
    ap (λ n. next_all (outside (rows_left n (length c.rows))) (row_lines c.rows (claims_lines cs rest))) (one_less (length cs))
    ∙ (claim_rows_follow (length cs) c.rows (claims_lines cs rest) ∙ claims_follow cs rest)

body_follows : (p : Proof) → AreSpelledTrees p.trees.items → AreRising None p.outputs → next_all (outside stage.Claims) (item.Claims (length p.claims) ∷ claims_lines p.claims (output_lines p.outputs (tree_lines p.trees.items (item.End ∷ [])))) ≡ Some done
body_follows p h rise = claims_follow p.claims (output_lines p.outputs (tree_lines p.trees.items (item.End ∷ []))) ∙ outputs_follow None p.outputs p.trees.items rise h

pub takes_proofs : (p : Proof) → AreSpelledTrees p.trees.items → AreRising None p.outputs → next_all (start (is_some p.heads)) (lines_of p) ≡ Some done
takes_proofs p h rise = by p.heads
  where
    by : (heads : Option Heads) → next_all (start (is_some heads)) (item.Point p.point ∷ head_items heads (item.Claims (length p.claims) ∷ claims_lines p.claims (output_lines p.outputs (tree_lines p.trees.items (item.End ∷ []))))) ≡ Some done
    by None = body_follows p h rise
    by (Some heads) = body_follows p h rise
