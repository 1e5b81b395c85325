-- A proof that is accepted, with one more part, is accepted.
use Rattle.std.proofs.Common.{◌≡◌, ℕ, ◌+◌, ◌&&◌, ℤ, List, [], ◌∷◌, ◌++◌, map, length, Bool, true, false, Option, Some, None, refl, sym, ap, ◌∙◌, subst, arith}
use Rattle.std.specs.Prelude.{slice_get, nat_eq}
use Rattle.std.specs.List.{AllByRecursion, list_any}
use Rattle.std.proofs.lemmas.Bool.{eq-eqb}
use Rattle.ac_forms.specs.Rows.{HaveModuli}
use Rattle.ac_syntax.specs.declared.tree.Position.{Position}
use Rattle.ac_syntax.specs.declared.tree.Position.TheVariants.{Output}
use Rattle.ac_poly.specs.declared.types.Model.{Model}
use Rattle.ac_cert.specs.CertificateFaults.{Fault, first_fault_of}
use Rattle.ac_cert.specs.declared.types.Rule.TheVariants as rule
use Rattle.ac_cert.proofs.Soundness.{first-none}
use Rattle.ac_claims_paths.specs.PathSteps.{Pairing}
use Rattle.ac_claims_paths.specs.declared.path.Path.{Path}
use Rattle.ac_claims.specs.CheckKnowledge.{IsClaimMade}
use Rattle.ac_claims.specs.ProofEnds.{same_position}
use Rattle.ac_claims.specs.PlanFaults.{fault_unless}
use Rattle.ac_claims.specs.ProofFaults.{Domain, DuePlan, IsValidProof, asks_no_more, claim_lines, claims_fault, domain, due_from, have_shapes, head_lines, heads_fault, is_point, output_stands, outputs_fault, proof_fault, trees_fault}
use Rattle.ac_claims.specs.ProofMachine.{AreSpelledTrees}
use Rattle.ac_claims.specs.RemainingPlans.{count_by, start_at}
use Rattle.ac_claims.specs.declared.types.Claim.{Claim}
use Rattle.ac_claims.specs.declared.types.ClaimTree.{ClaimTree}
use Rattle.ac_claims.specs.declared.types.Heads.{Heads}
use Rattle.ac_claims.specs.declared.types.Proof.{Proof}
use Rattle.ac_claims.proofs.DueForms.{all_both}
use Rattle.ac_claims.proofs.Plans.{unless_none}
use Rattle.ac_claims.proofs.Trees.{output_parts}
use Rattle.ac_claims_plans.specs.DuePlans.{pairs_of}
use Rattle.ac_walk_state.specs.Heads.{AreHeadsOf}
use Rattle.ac_walk_state.specs.ProofParts.{IsAccepted, IsEmpty, IsLonger, IsPartFor}
use Rattle.ac_walk_state.specs.ClaimPlans.{due_numbers, numbers_of, pairs_at, IsTreeAccepted}
use Rattle.ac_walk_state.specs.declared.types.Part.{Part}
use Rattle.ac_walk_state.proofs.ListElements.{any_among, get_before, get_behind}
use Rattle.ac_walk_state.proofs.Longer.{both_none, holds_none}
use Rattle.ac_walk_state.proofs.Dues.{due_more, due_of, numbers_from, trees_fine, trees_longer, trees_spelled}
use Rattle.ac_walk_state.proofs.Claims.{claims_longer, made_moduli, outputs_longer}

-- ---- the parts of a proof without fault

pub record Fine (g : Pairing) (outputs : List ℕ) (point : List ℤ) (heads : Option Heads) (claims : List Claim) (named : List (ℕ × ℕ)) (trees : List ClaimTree) : Type 0 where
  pub point_is : is_point g.left point ≡ true
  pub heads_are : heads_fault g heads ≡ None
  pub claims_line : ℕ
  pub claims_are : claims_fault g claims claims_line ≡ None
  pub outputs_line : ℕ
  pub outputs_are : outputs_fault g outputs claims named outputs_line ≡ None
  pub trees_line : ℕ
  pub trees_are : trees_fault g claims trees (due_from g 0 claims) trees_line ≡ None

pub parts_of : (g : Pairing) (outputs : List ℕ) (p : Proof) → IsValidProof g outputs p → Fine g outputs p.point p.heads p.claims p.outputs p.trees.items
parts_of g outputs p e =
    let first = 4 + head_lines p.heads in
    let k = first + claim_lines p.claims in
    let trees = trees_fault g p.claims p.trees.items (due_from g 0 p.claims) (k + length p.outputs) in
    let outs = outputs_fault g outputs p.claims p.outputs k in
    let claims = claims_fault g p.claims first in
    let a = first-none (fault_unless (is_point g.left p.point) 2 rule.Point) (first_fault_of (heads_fault g p.heads) (first_fault_of claims (first_fault_of outs trees))) e in
    let h = first-none (heads_fault g p.heads) (first_fault_of claims (first_fault_of outs trees)) a.1 in
    let b = first-none claims (first_fault_of outs trees) h.1 in
    let c = first-none outs trees b.1 in
    record {
      point_is = unless_none (is_point g.left p.point) 2 rule.Point a.0;
      heads_are = h.0;
      claims_line = first;
      claims_are = b.0;
      outputs_line = k;
      outputs_are = c.0;
      trees_line = k + length p.outputs;
      trees_are = c.1;
    }

-- without a fault on any line, whatever their numbers
record FineAnywhere (g : Pairing) (outputs : List ℕ) (point : List ℤ) (heads : Option Heads) (claims : List Claim) (named : List (ℕ × ℕ)) (trees : List ClaimTree) : Type 0 where
  pub point_is : is_point g.left point ≡ true
  pub heads_are : heads_fault g heads ≡ None
  pub claims_are : (k : ℕ) → claims_fault g claims k ≡ None
  pub outputs_are : (k : ℕ) → outputs_fault g outputs claims named k ≡ None
  pub trees_are : (k : ℕ) → trees_fault g claims trees (due_from g 0 claims) k ≡ None

fault_by : Pairing → List ℕ → List ℤ → Option Heads → List Claim → List (ℕ × ℕ) → List ClaimTree → Fault
fault_by g outputs p heads claims os trees =
    let first = 4 + head_lines heads in
    let k = first + claim_lines claims in
    first_fault_of (fault_unless (is_point g.left p) 2 rule.Point)
    (first_fault_of (heads_fault g heads)
    (first_fault_of (claims_fault g claims first)
    (first_fault_of (outputs_fault g outputs claims os k)
    (trees_fault g claims trees (due_from g 0 claims) (k + length os)))))

fault_is : (g : Pairing) (outputs : List ℕ) (p : Proof) → proof_fault g outputs p ≡ fault_by g outputs p.point p.heads p.claims p.outputs p.trees.items
unfolding fault_by
fault_is g outputs p = refl

by_fine : (g : Pairing) (outputs : List ℕ) (p : List ℤ) (heads : Option Heads) (claims : List Claim) (os : List (ℕ × ℕ)) (trees : List ClaimTree) → FineAnywhere g outputs p heads claims os trees → fault_by g outputs p heads claims os trees ≡ None
unfolding fault_by
by_fine g outputs p heads claims os trees f =
    let first = 4 + head_lines heads in
    let k = first + claim_lines claims in
    let t = trees_fault g claims trees (due_from g 0 claims) (k + length os) in
    let o = outputs_fault g outputs claims os k in
    let c = claims_fault g claims first in
    let h = heads_fault g heads in
    both_none (fault_unless (is_point g.left p) 2 rule.Point) (first_fault_of h (first_fault_of c (first_fault_of o t))) (holds_none (is_point g.left p) 2 rule.Point f.point_is)
    (both_none h (first_fault_of c (first_fault_of o t)) f.heads_are
    (both_none c (first_fault_of o t) (f.claims_are first)
    (both_none o t (f.outputs_are k) (f.trees_are (k + length os)))))

-- a proof with these parts
valid_by : (g : Pairing) (outputs : List ℕ) (proof : Proof) (p : List ℤ) (heads : Option Heads) (claims : List Claim) (os : List (ℕ × ℕ)) (trees : List ClaimTree)
    → proof.point ≡ p → proof.heads ≡ heads → proof.claims ≡ claims → proof.outputs ≡ os → proof.trees.items ≡ trees → FineAnywhere g outputs p heads claims os trees → IsValidProof g outputs proof
valid_by g outputs proof p heads claims os trees ep eh ec eo et f = fault_is g outputs proof ∙ (λ i. fault_by g outputs (ep i) (eh i) (ec i) (eo i) (et i)) ∙ by_fine g outputs p heads claims os trees f

-- ---- the claim of the output

three : (a b c d : Bool) → a ≡ true → b ≡ true → c ≡ true → d ≡ true → (a && (b && (c && d))) ≡ true
three true true true true e f h i = refl
three true true true false e f h i = absurd cc
three true true false d e f h i = absurd cc
three true false c d e f h i = absurd cc
three false b c d e f h i = absurd cc

same_output : (P : Position) (o : ℕ) → P ≡ Output o → same_position P (Output o) ≡ true
same_output P o e = ap (λ (z : Position). same_position z (Output o)) e ∙ eq-eqb o o refl

-- an output has one piece
one_piece : (m : Model) (o : ℕ) (P : Position) (a : Domain) → P ≡ Output o → domain m P ≡ Some a → count_by (domain m P) ≡ 1
one_piece m o P a p e =
    let x = output_parts m o a (ap (domain m) (sym p) ∙ e) in
    ap count_by e ∙ ap (λ (d : Domain). length d.pieces) x.2

first_is : {X : Type 0} (xs : List X) (x : X) → slice_get xs 0 ≡ Some x → (rest : List X) × (xs ≡ x ∷ rest)
first_is [] x e = absurd cc
first_is (y ∷ xs) x e = let s : y ≡ x = cc in (xs, ap (λ z. z ∷ xs) s)

-- its first plan starts
first_starts : (g : Pairing) (array : ℕ) (cs : List Claim) (i : ℕ) (c : Claim) (rest : List Claim) (trees : List ClaimTree) → slice_get cs i ≡ Some c → c.left ≡ Output array → c.right ≡ Output array → IsClaimMade g c
    → map numbers_of trees ≡ due_numbers g i (c ∷ rest) → AllByRecursion (IsTreeAccepted g cs) trees → (h : Path) × (start_at g c 0 0 ≡ Some h)
first_starts g array cs i c rest trees ic l r m due accepted =
    let x = one_piece g.left array c.left m.left l m.left_is in
    let y = one_piece g.right array c.right m.right r m.right_is in
    let one : pairs_at g c ≡ (0, 0) ∷ [] = λ n. pairs_of (x n) (y n) in
    by trees (due ∙ ap (λ (ps : List (ℕ × ℕ)). map (λ (p : ℕ × ℕ). (i, p.0, p.1)) ps ++ due_numbers g (i + 1) rest) one) accepted
  where
    by : (ts : List ClaimTree) → map numbers_of ts ≡ (i, 0, 0) ∷ due_numbers g (i + 1) rest → AllByRecursion (IsTreeAccepted g cs) ts → (h : Path) × (start_at g c 0 0 ≡ Some h)
    by [] e a = absurd cc
    by (t ∷ ts) e a =
        let n : numbers_of t ≡ (i, 0, 0) = cc in
        let s = a.0 c (ap (λ (z : ℕ × ℕ × ℕ). slice_get cs z.0) n ∙ ic) in
        (s.path, (λ k. start_at g c (sym n k).1 (sym n k).2) ∙ s.starts)

part_stands : (g : Pairing) (outputs : List ℕ) (array : ℕ) (before : List Claim) (part : Part) → IsPartFor g outputs array before part → output_stands g outputs array (slice_get (before ++ part.claims.items) (length before)) ≡ true
part_stands g outputs array before part f =
    let all = before ++ part.claims.items in
    let x = first_is part.claims.items f.claim f.first in
    let z : length before + 0 ≡ length before = omega arith in
    let ic : slice_get all (length before) ≡ Some f.claim = ap (slice_get all) (sym z) ∙ get_behind before part.claims.items 0 f.claim f.first in
    let made : AllByRecursion (IsClaimMade g) (f.claim ∷ x.0) = subst (AllByRecursion (IsClaimMade g)) x.1 f.planned.made in
    let due : map numbers_of part.trees.items ≡ due_numbers g (length before) (f.claim ∷ x.0) = f.planned.due ∙ ap (due_numbers g (length before)) x.1 in
    let s = first_starts g array all (length before) f.claim x.0 part.trees.items ic f.output.left_is f.output.right_is made.0 due f.planned.accepted in
    ap (output_stands g outputs array) ic
    ∙ three (list_any (nat_eq array) outputs) (same_position f.claim.left (Output array)) (same_position f.claim.right (Output array)) (asks_no_more g f.claim (domain g.left f.claim.left) (domain g.right f.claim.right)) (any_among array outputs f.among)
    (same_output f.claim.left array f.output.left_is) (same_output f.claim.right array f.output.right_is) (f.output.asks s.0 s.1)

-- ---- the longer proof

-- each plan of the part is accepted where it is due
part_trees : (g : Pairing) (outputs : List ℕ) (array : ℕ) (before : List Claim) (part : Part) → IsPartFor g outputs array before part → (k : ℕ) → trees_fault g (before ++ part.claims.items) part.trees.items (due_from g (length before) part.claims.items) k ≡ None
part_trees g outputs array before part f k =
    let all = before ++ part.claims.items in
    let ds = due_from g (length before) part.claims.items in
    trees_fine g all part.trees.items ds k (f.planned.due ∙ sym (numbers_from g (length before) part.claims.items)) f.planned.accepted (λ d n.
    let r = due_of g (length before) part.claims.items d n in
    (r.claim, ap (slice_get all) r.number ∙ get_behind before part.claims.items r.place r.claim r.there, r.starts))

longer_fine : (g : Pairing) (outputs : List ℕ) (proof : Proof) (part : Part) (array : ℕ) → IsValidProof g outputs proof → IsPartFor g outputs array proof.claims part
    → FineAnywhere g outputs proof.point proof.heads (proof.claims ++ part.claims.items) (proof.outputs ++ (array, length proof.claims) ∷ []) (proof.trees.items ++ part.trees.items)
longer_fine g outputs proof part array v f =
    let p = parts_of g outputs proof v in
    let all = proof.claims ++ part.claims.items in
    let us = part.trees.items in
    let es = due_from g (length proof.claims) part.claims.items in
    let z : 0 + length proof.claims ≡ length proof.claims = omega arith in
    let split : due_from g 0 all ≡ due_from g 0 proof.claims ++ es = due_more g 0 proof.claims part.claims.items ∙ ap (λ (n : ℕ). due_from g 0 proof.claims ++ due_from g n part.claims.items) z in
    record {
      point_is = p.point_is;
      heads_are = p.heads_are;
      claims_are = λ k. claims_longer g proof.claims part.claims.items p.claims_line k p.claims_are f.planned.made;
      outputs_are = λ k. outputs_longer g outputs proof.claims part.claims.items proof.outputs (array, length proof.claims) p.outputs_line k p.outputs_are (part_stands g outputs array proof.claims part f);
      trees_are = λ k.
          subst (λ (ds : List DuePlan). trees_fault g all (proof.trees.items ++ us) ds k ≡ None) (sym split)
          (trees_longer g proof.claims all (λ i c e. get_before proof.claims part.claims.items i c e) proof.trees.items us (due_from g 0 proof.claims) es p.trees_line k p.trees_are (part_trees g outputs array proof.claims part f));
    }

pub longer_valid : (g : Pairing) (outputs : List ℕ) (proof : Proof) (part : Part) (array : ℕ) (longer : Proof) → IsLonger proof part array longer → IsValidProof g outputs proof → IsPartFor g outputs array proof.claims part → IsValidProof g outputs longer
longer_valid g outputs proof part array longer l v f =
    valid_by g outputs longer proof.point proof.heads (proof.claims ++ part.claims.items) (proof.outputs ++ (array, length proof.claims) ∷ []) (proof.trees.items ++ part.trees.items) l.point l.heads l.claims l.outputs l.trees (longer_fine g outputs proof part array v f)

pub longer_accepted : (g : Pairing) (outputs : List ℕ) (proof : Proof) (part : Part) (array : ℕ) (longer : Proof) → IsLonger proof part array longer → IsAccepted g outputs proof → IsPartFor g outputs array proof.claims part → IsAccepted g outputs longer
longer_accepted g outputs proof part array longer l a f =
    let v = longer_valid g outputs proof part array longer l a.valid f in
    let p = parts_of g outputs longer v in
    record {
      valid = v;
      spelled = trees_spelled g longer.claims longer.trees.items (due_from g 0 longer.claims) p.trees_line p.trees_are;
      moduli = subst (AllByRecursion (λ (c : Claim). HaveModuli c.rows)) (sym l.claims) (all_both (λ (c : Claim). HaveModuli c.rows) proof.claims part.claims.items a.moduli (made_moduli g part.claims.items f.planned.made));
    }

-- ---- a proof without claims

heads_fine : (g : Pairing) (heads : Option Heads) → AreHeadsOf g heads → heads_fault g heads ≡ None
heads_fine g None h = refl
heads_fine g (Some s) h = both_none (fault_unless (have_shapes s.left g.left.stmts) 3 rule.Coords) (fault_unless (have_shapes s.right g.right.stmts) 4 rule.Coords) (holds_none (have_shapes s.left g.left.stmts) 3 rule.Coords h.0) (holds_none (have_shapes s.right g.right.stmts) 4 rule.Coords h.1)

pub empty_accepted : (g : Pairing) (outputs : List ℕ) (point : List ℤ) (heads : Option Heads) (proof : Proof) → IsEmpty point heads proof → is_point g.left point ≡ true → AreHeadsOf g heads → IsAccepted g outputs proof
empty_accepted g outputs point heads proof e p h = record {
  valid = valid_by g outputs proof point heads [] [] [] e.point_is e.heads_are e.claims e.outputs e.trees (record { point_is = p; heads_are = heads_fine g heads h; claims_are = λ k. refl; outputs_are = λ k. refl; trees_are = λ k. refl });
  spelled = subst (λ (ts : List ClaimTree). AreSpelledTrees ts) (sym e.trees) tt;
  moduli = subst (AllByRecursion (λ (c : Claim). HaveModuli c.rows)) (sym e.claims) tt;
}
