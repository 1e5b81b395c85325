-- The numbers of the claims at which plans end.
use Rattle.std.specs.Prelude.{◌≡◌, ℕ, ◌<◌, List, ◌++◌, length, Bool, true}
use Rattle.std.specs.Borrow.{Bor}
use Rattle.std.specs.List.{AllByRecursion}
use Rattle.ac_syntax.specs.declared.tree.Order.{Order}
use Rattle.ac_syntax.specs.declared.tree.Pair.{Pair}
use Rattle.ac_syntax.specs.declared.tree.Position.{Position}
use Rattle.ac_claims_paths.specs.PathSteps.{Pairing}
use Rattle.ac_claims_paths.specs.declared.path.Path.{Path}
use Rattle.ac_claims.specs.declared.types.Claim.{Claim}
use Rattle.ac_claims.specs.declared.types.ClaimTree.{ClaimTree}
use Rattle.ac_claims.specs.declared.types.Plan.{Plan}
use Rattle.ac_claims.specs.declared.types.PlanNext.{PlanNext, Split', Residue', Go', Row_of-Plan, end_of-Plan, more_of-Plan}
use Rattle.ac_claims.specs.declared.types.PlanNext.TheVariants.{Absurd, Killed, Hit, SameNumber, SameInitial}
use Rattle.ac_claims_plans.specs.PlanAcceptance.{AcceptsPlan}
use Rattle.ac_unfold_plans.specs.PlanStops.{PlanStops}

abbrev mutual
  -- each claim at which it ends has a number below n
  pub HitsWithin : ℕ → PlanNext → Type 0
  HitsWithin n (Split' f p s l q t r) = HitsWithin n l × HitsWithin n r
  HitsWithin n (Residue' m f shape all) = EachHitsWithin n all
  HitsWithin n (Go' order shape all) = EachHitsWithin n all
  HitsWithin n (Absurd i) = Unit {0}
  HitsWithin n (Killed kill) = Unit {0}
  HitsWithin n (Hit c) = c < n
  HitsWithin n SameNumber = Unit {0}
  HitsWithin n SameInitial = Unit {0}

  pub EachHitsWithin : ℕ → {m : _} → Row_of-Plan m → Type 0
  EachHitsWithin n end_of-Plan = Unit {0}
  EachHitsWithin n (more_of-Plan s t more) = HitsWithin n t × EachHitsWithin n more

-- if it is itself such an end, that claim has a number below n
abbrev pub NodeHitsWithin : ℕ → PlanNext → Type 0
NodeHitsWithin n (Hit c) = c < n
NodeHitsWithin n _ = Unit {0}

abbrev pub NodesHitWithin : ℕ → List (Bor Plan) → Type 0
NodesHitWithin n = AllByRecursion (λ (node : Bor Plan). NodeHitsWithin n node.now.next)

abbrev pub AllHitWithin : ℕ → List Plan → Type 0
AllHitWithin n = AllByRecursion (λ (p : Plan). HitsWithin n p.next)

abbrev pub TreesHitWithin : ℕ → List ClaimTree → Type 0
TreesHitWithin n = AllByRecursion (λ (t : ClaimTree). HitsWithin n t.tree.next)

-- a plan that ends at none of the further claims is accepted without them
abbrev pub FirstClaimsAccept : Type 0
FirstClaimsAccept = (g : Pairing) (first further : List Claim) (t : Plan) (h : Path) → HitsWithin (length first) t.next → AcceptsPlan g (first ++ further) t h → AcceptsPlan g first t h

-- and a plan that stops with claims of a part, and ends at none whose number is n or more, stops with the others
abbrev pub StopsAreCut : Type 0
StopsAreCut =
    (pair : Pair) (order : Position × Position → Order) (recurrent : Position × Position → Bool) (part cut : ℕ → Bool) (n : ℕ) → ((c : ℕ) → part c ≡ true → c < n → cut c ≡ true) → (t : Plan) (h : Path)
    → HitsWithin n t.next → PlanStops pair order recurrent part t h → PlanStops pair order recurrent cut t h
