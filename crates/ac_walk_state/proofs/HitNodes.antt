-- Claims at which plans end, node by node.
use Rattle.std.proofs.Common.{◌≡◌, ◌↔◌, ℕ, List, [], ◌∷◌, Bor, sym, ap, subst, ◌∙◌}
use Rattle.std.specs.List.{AllByRecursion}
use Rattle.ac_claims.specs.PlanNodes.{nodes_behind, nodes_of_row, nodes_of}
use Rattle.ac_claims.specs.declared.types.Plan.{Plan}
use Rattle.ac_claims.specs.declared.types.PlanNext.{PlanNext, Split', Residue', Go', Row_of-Plan, end_of-Plan, more_of-Plan}
use Rattle.ac_claims.specs.declared.types.PlanNext.TheVariants.{Absurd, Killed, Hit, SameNumber, SameInitial}
use Rattle.ac_claims.proofs.DueForms.{all_both, all_parts}
use Rattle.ac_claims.proofs.NodeSteps.{led}
use Rattle.ac_walk_state.specs.Hits.{HitsWithin, EachHitsWithin, NodeHitsWithin, NodesHitWithin}

abbrev pub Within : ℕ → Plan → Type 0
Within n t = NodeHitsWithin n t.next

mutual
  hits_behind : (n : ℕ) (x : PlanNext) → HitsWithin n x ↔ (NodeHitsWithin n x × AllByRecursion (Within n) (nodes_behind x))
  hits_behind n (Split' f p s l q t r) =
      let left = record { steps = s; next = l } ∷ nodes_behind l in
      let right = record { steps = t; next = r } ∷ nodes_behind r in (
        λ h. (tt, all_both (Within n) left right ((hits_behind n l).0 h.0) ((hits_behind n r).0 h.1)),
        λ h. let k = all_parts (Within n) left right h.1 in ((hits_behind n l).1 k.0, (hits_behind n r).1 k.1),
      )
  hits_behind n (Residue' m f shape all) = (λ h. (tt, (hits_of_row n all).0 h), λ h. (hits_of_row n all).1 h.1)
  hits_behind n (Go' order shape all) = (λ h. (tt, (hits_of_row n all).0 h), λ h. (hits_of_row n all).1 h.1)
  hits_behind n (Absurd i) = (λ h. (tt, tt), λ h. tt)
  hits_behind n (Killed kill) = (λ h. (tt, tt), λ h. tt)
  hits_behind n (Hit c) = (λ h. (h, tt), λ h. h.0)
  hits_behind n SameNumber = (λ h. (tt, tt), λ h. tt)
  hits_behind n SameInitial = (λ h. (tt, tt), λ h. tt)

  hits_of_row : (n : ℕ) {w : _} (all : Row_of-Plan w) → EachHitsWithin n all ↔ AllByRecursion (Within n) (nodes_of_row all)
  hits_of_row n end_of-Plan = (λ h. tt, λ h. tt)
  hits_of_row n (more_of-Plan s t more) =
      let first = record { steps = s; next = t } ∷ nodes_behind t in (
        λ h. all_both (Within n) first (nodes_of_row more) ((hits_behind n t).0 h.0) ((hits_of_row n more).0 h.1),
        λ h. let k = all_parts (Within n) first (nodes_of_row more) h in ((hits_behind n t).1 k.0, (hits_of_row n more).1 k.1),
      )

-- the same of the plans that references lead to
all_led : (n : ℕ) (nodes : List (Bor Plan)) → NodesHitWithin n nodes ↔ AllByRecursion (Within n) (led nodes)
all_led n [] = (λ h. tt, λ h. tt)
all_led n (r ∷ nodes) = (λ h. (h.0, (all_led n nodes).0 h.1), λ h. (h.0, (all_led n nodes).1 h.1))

-- a plan hits within if each of its nodes does
pub within_listed : (n : ℕ) (t : Plan) (nodes listed : List (Bor Plan)) → listed ≡ nodes → led nodes ≡ nodes_of t → NodesHitWithin n listed ↔ HitsWithin n t.next
within_listed n t nodes listed is e =
    let led_so : led listed ≡ nodes_of t = ap led is ∙ e in (
      λ h. (hits_behind n t.next).1 (subst (AllByRecursion (Within n)) led_so ((all_led n listed).0 h)),
      λ h. (all_led n listed).1 (subst (AllByRecursion (Within n)) (sym led_so) ((hits_behind n t.next).0 h)),
    )
