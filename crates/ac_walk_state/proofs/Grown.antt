-- Parts with one more claim.
use Rattle.std.proofs.Common.{◌≡◌, ℕ, suc, ◌+◌, List, [], ◌∷◌, ◌++◌, map, length, Bool, Some, refl, sym, ap, ◌∙◌, subst, arith}
use Rattle.std.specs.Prelude.{slice_get}
use Rattle.std.specs.List.{AllByRecursion}
use Rattle.std.proofs.lemmas.List.{map-append}
use Rattle.ac_syntax.specs.declared.tree.Order.{Order}
use Rattle.ac_syntax.specs.declared.tree.Pair.{Pair}
use Rattle.ac_syntax.specs.declared.tree.Position.{Position}
use Rattle.ac_base.proofs.Options.{some-is}
use Rattle.ac_claims_paths.specs.PathSteps.{Pairing}
use Rattle.ac_claims.specs.CheckKnowledge.{IsClaimMade}
use Rattle.ac_claims.specs.declared.types.Claim.{Claim}
use Rattle.ac_claims.specs.declared.types.ClaimTree.{ClaimTree}
use Rattle.ac_claims.proofs.DueForms.{all_both}
use Rattle.ac_unfold_plans.specs.PlanStops.{claim_positions}
use Rattle.ac_claims_plans.specs.DuePlans.{AreNumbered, StartsAccepted, pieces_of}
use Rattle.ac_walk_state.specs.PartExtension.{StaysPlanned, StaysStopping}
use Rattle.ac_walk_state.specs.ClaimPlans.{ArePlanned, IsClaimPlanned, IsTreeAccepted, numbers_of}
use Rattle.ac_walk_state.specs.PartStops.{StopsFrom, TreeStops}
use Rattle.ac_walk_state.specs.declared.types.Part.{Part}
use Rattle.ac_walk_state.proofs.Dues.{numbers_more}
use Rattle.ac_walk_state.proofs.ListElements.{get_behind}

-- the numbers of plans of one claim
numbered : (n : ℕ) (ts : List ClaimTree) → AllByRecursion (λ (t : ClaimTree). t.claim ≡ n) ts → map numbers_of ts ≡ map (λ (p : ℕ × ℕ). (n, p.0, p.1)) (map pieces_of ts)
numbered n [] h = refl
numbered n (t ∷ ts) h = λ i. (h.0 i, t.left_piece, t.right_piece) ∷ numbered n ts h.1 i

accepted_each : (g : Pairing) (cs : List Claim) (n : ℕ) (claim : Claim) (ts : List ClaimTree) → slice_get cs n ≡ Some claim → AllByRecursion (λ (t : ClaimTree). t.claim ≡ n) ts → AllByRecursion (StartsAccepted g cs claim) ts → AllByRecursion (IsTreeAccepted g cs) ts
accepted_each g cs n claim [] there h a = tt
accepted_each g cs n claim (t ∷ ts) there h a =
    ((λ c e. subst (λ (z : Claim). StartsAccepted g cs z t) (some-is claim c (sym there ∙ ap (slice_get cs) (sym h.0) ∙ e)) a.0), accepted_each g cs n claim ts there h.1 a.1)

-- with a claim that has its plans, all claims have theirs
pub planned_more : (g : Pairing) (cs : List Claim) (first : ℕ) (claims : List Claim) (plans : List ClaimTree) (claim : Claim) (trees : List ClaimTree) → ArePlanned g cs first claims plans → IsClaimPlanned g cs (first + length claims) claim trees → ArePlanned g cs first (claims ++ claim ∷ []) (plans ++ trees)
planned_more g cs first claims plans claim trees p c =
    let n = first + length claims in
    record {
      made = all_both (IsClaimMade g) claims (claim ∷ []) p.made (c.made, tt);
      due = map-append numbers_of plans trees ∙ (λ i. p.due i ++ (numbered n trees c.numbered ∙ ap (map (λ (q : ℕ × ℕ). (n, q.0, q.1))) c.pieces) i) ∙ sym (numbers_more g first claims claim);
      accepted = all_both (IsTreeAccepted g cs) plans trees p.accepted (accepted_each g cs n claim trees c.there c.numbered c.accepted);
    }

pub stays_planned : (part longer : Part) (claim : Claim) (trees : List ClaimTree) → longer.claims.items ≡ part.claims.items ++ claim ∷ [] → longer.trees.items ≡ part.trees.items ++ trees → StaysPlanned part claim trees longer
stays_planned part longer claim trees ec et g cs first p c =
    let more = planned_more g cs first part.claims.items part.trees.items claim trees p c in
    subst (λ (xs : List Claim). ArePlanned g cs first xs longer.trees.items) (sym ec) (subst (ArePlanned g cs first (part.claims.items ++ claim ∷ [])) (sym et) more)

stops_each : (pair : Pair) (order : Position × Position → Order) (recurrent : Position × Position → Bool) (numbers : ℕ → Bool) (cs : List Claim) (n : ℕ) (claim : Claim) (ts : List ClaimTree) → slice_get cs n ≡ Some claim → AllByRecursion (λ (t : ClaimTree). t.claim ≡ n) ts
    → AllByRecursion (λ (t : ClaimTree). StopsFrom pair order recurrent numbers (claim_positions claim) t.tree) ts → AllByRecursion (TreeStops pair order recurrent numbers cs) ts
stops_each pair order recurrent numbers cs n claim [] there h s = tt
stops_each pair order recurrent numbers cs n claim (t ∷ ts) there h s =
    ((λ c e. subst (λ (z : Claim). StopsFrom pair order recurrent numbers (claim_positions z) t.tree) (some-is claim c (sym there ∙ ap (slice_get cs) (sym h.0) ∙ e)) s.0), stops_each pair order recurrent numbers cs n claim ts there h.1 s.1)

-- with plans that stop from the pair of their claim on, all plans stop
pub stopping_more : (pair : Pair) (order : Position × Position → Order) (recurrent : Position × Position → Bool) (numbers : ℕ → Bool) (cs : List Claim) (n : ℕ) (claim : Claim) (plans trees : List ClaimTree) → AllByRecursion (TreeStops pair order recurrent numbers cs) plans → slice_get cs n ≡ Some claim
    → AllByRecursion (λ (t : ClaimTree). t.claim ≡ n) trees → AllByRecursion (λ (t : ClaimTree). StopsFrom pair order recurrent numbers (claim_positions claim) t.tree) trees → AllByRecursion (TreeStops pair order recurrent numbers cs) (plans ++ trees)
stopping_more pair order recurrent numbers cs n claim plans trees s there h own = all_both (TreeStops pair order recurrent numbers cs) plans trees s (stops_each pair order recurrent numbers cs n claim trees there h own)

pub stays_stopping : (part longer : Part) (claim : Claim) (trees : List ClaimTree) → longer.trees.items ≡ part.trees.items ++ trees → StaysStopping part claim trees longer
stays_stopping part longer claim trees et pair order recurrent numbers cs n s there h own =
    subst (AllByRecursion (TreeStops pair order recurrent numbers cs)) (sym et) (stopping_more pair order recurrent numbers cs n claim part.trees.items trees s there h own)

-- ---- the claims of a part behind others: the output's, then those of recurrence pairs

pub output_there : (before claims : List Claim) (output : Claim) → slice_get (before ++ output ∷ claims) (length before) ≡ Some output
output_there before claims output = let z : length before ≡ length before + 0 = omega arith in ap (slice_get (before ++ output ∷ claims)) z ∙ get_behind before (output ∷ claims) 0 output refl

pub claims_numbered : (before claims : List Claim) (output : Claim) (base : ℕ) → base ≡ length before + 1 → AreNumbered base claims (before ++ output ∷ claims)
claims_numbered before claims output base b i c e = let z : base + i ≡ length before + suc i = omega (arith, b) in ap (slice_get (before ++ output ∷ claims)) z ∙ get_behind before (output ∷ claims) (suc i) c e
