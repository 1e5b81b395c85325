-- The plans that are due for claims: their numbers, and where they start.
use Rattle.std.proofs.Common.{◌≡◌, ◌⊎◌, inl, inr, ℕ, zero, suc, ◌+◌, ◌<◌, ◌&&◌, List, [], ◌∷◌, ◌++◌, map, length, Bool, true, false, Option, Some, None, refl, sym, ap, ◌∙◌, subst, append_assoc, arith}
use Rattle.std.specs.Prelude.{slice_get, nat_eq, option_and_then, option_map}
use Rattle.std.specs.List.{AllByRecursion, flat_map, range_with_len}
use Rattle.std.proofs.lemmas.Bool.{eq-eqb, eqb-true}
use Rattle.std.proofs.lemmas.List.{map-append}
use Rattle.std.proofs.lemmas.Option.{slice_get_within}
use Rattle.ac_forms.specs.ListMembers.{IsAmong}
use Rattle.ac_forms.specs.declared.row.Row.{Row}
use Rattle.ac_cert.specs.CertificateFaults.{first_fault_of}
use Rattle.ac_cert.specs.declared.types.Rule.TheVariants as rule
use Rattle.ac_cert.proofs.Soundness.{first-none}
use Rattle.ac_claims_paths.specs.PathSteps.{Pairing}
use Rattle.ac_claims_paths.specs.declared.path.Path.{Path}
use Rattle.ac_claims_paths.proofs.InBranches.{in_either}
use Rattle.ac_claims.specs.Domains.{piece_by}
use Rattle.ac_claims.specs.PlanFaults.{plan_fault, plan_lines}
use Rattle.ac_claims.specs.ProofFaults.{Domain, DuePlan, domain, due_at, due_from, is_due, numbered, start, tree_fault_at, trees_fault}
use Rattle.ac_claims.specs.ProofMachine.{AreSpelledTrees}
use Rattle.ac_claims.specs.RemainingPlans.{count_by, start_at}
use Rattle.ac_claims.specs.declared.domains.Piece.{Piece}
use Rattle.ac_claims.specs.declared.types.Claim.{Claim}
use Rattle.ac_claims.specs.declared.types.ClaimTree.{ClaimTree}
use Rattle.ac_claims.proofs.Plans.{none_if}
use Rattle.ac_claims_plans.specs.DuePlans.{StartsAccepted, pairs_of}
use Rattle.ac_walk_state.specs.ClaimPlans.{IsTreeAccepted, due_numbers, numbers_of, pairs_at}
use Rattle.ac_walk_state.proofs.ListElements.{among_flat, among_map}
use Rattle.ac_walk_state.proofs.Longer.{both_none, if_none, plan_again}
use Rattle.ac_walk_state.proofs.Spelled.{plan_spelled}

-- ---- the numbers

abbrev pub numbers_due : DuePlan → ℕ × ℕ × ℕ
numbers_due d = (d.claim, d.left_piece, d.right_piece)

abbrev Numbers : Type 0
Numbers = ℕ × ℕ × ℕ

abbrev with_claim : ℕ → ℕ × ℕ → Numbers
with_claim i p = (i, p.0, p.1)

-- what is due for two numbered pieces of a claim
abbrev due_for : Pairing → ℕ → Claim → Domain → Domain → ℕ × List Row → ℕ × List Row → DuePlan
due_for g i c a b l r = record { claim = i; left_piece = l.0; right_piece = r.0; path = start g c a b l.1 r.1 }

beside : (g : Pairing) (i : ℕ) (c : Claim) (a b : Domain) (l : ℕ × List Row) (k : ℕ) (rs : List (List Row)) → map numbers_due (map (due_for g i c a b l) (numbered k rs)) ≡ map (with_claim i) (map (λ (r : ℕ). (l.0, r)) (range_with_len k (length rs)))
beside g i c a b l k [] = refl
beside g i c a b l k (r ∷ rs) = ap (λ (z : List Numbers). (i, l.0, k) ∷ z) (beside g i c a b l (k + 1) rs)

across : (g : Pairing) (i : ℕ) (c : Claim) (a b : Domain) (rs : List (List Row)) (k : ℕ) (ls : List (List Row))
    → map numbers_due (flat_map (λ (l : ℕ × List Row). map (due_for g i c a b l) (numbered 0 rs)) (numbered k ls)) ≡ map (with_claim i) (flat_map (λ (l : ℕ). map (λ (r : ℕ). (l, r)) (range_with_len 0 (length rs))) (range_with_len k (length ls)))
across g i c a b rs k [] = refl
across g i c a b rs k (l ∷ ls) =
    let here = map (due_for g i c a b (k, l)) (numbered 0 rs) in
    let pairs : List (ℕ × ℕ) = map (λ (r : ℕ). (k, r)) (range_with_len 0 (length rs)) in
    map-append numbers_due here (flat_map (λ (l : ℕ × List Row). map (due_for g i c a b l) (numbered 0 rs)) (numbered (k + 1) ls))
    ∙ (λ n. beside g i c a b (k, l) 0 rs n ++ across g i c a b rs (k + 1) ls n)
    ∙ sym (map-append (with_claim i) pairs (flat_map (λ (l : ℕ). map (λ (r : ℕ). (l, r)) (range_with_len 0 (length rs))) (range_with_len (k + 1) (length ls))))

-- no pieces on the right
nothing_beside : (k n : ℕ) → flat_map {A = ℕ × ℕ} (λ (l : ℕ). map (λ (r : ℕ). (l, r)) (range_with_len 0 0)) (range_with_len k n) ≡ []
nothing_beside k zero = refl
nothing_beside k (suc n) = nothing_beside (k + 1) n

numbers_at : (g : Pairing) (i : ℕ) (c : Claim) (o o' : Option Domain) → map numbers_due (due_at g i c o o') ≡ map (with_claim i) (pairs_of (count_by o) (count_by o'))
numbers_at g i c None o' = refl
numbers_at g i c (Some a) None = ap (map (with_claim i)) (sym (nothing_beside 0 (length a.pieces)))
numbers_at g i c (Some a) (Some b) = across g i c a b b.pieces 0 a.pieces

pub numbers_from : (g : Pairing) (i : ℕ) (cs : List Claim) → map numbers_due (due_from g i cs) ≡ due_numbers g i cs
numbers_from g i [] = refl
numbers_from g i (c ∷ cs) =
    map-append numbers_due (due_at g i c (domain g.left c.left) (domain g.right c.right)) (due_from g (i + 1) cs) ∙ (λ n. numbers_at g i c (domain g.left c.left) (domain g.right c.right) n ++ numbers_from g (i + 1) cs n)

pub numbers_more : (g : Pairing) (i : ℕ) (cs : List Claim) (c : Claim) → due_numbers g i (cs ++ c ∷ []) ≡ due_numbers g i cs ++ map (with_claim (i + length cs)) (pairs_at g c)
numbers_more g i [] c = let z : i ≡ i + 0 = omega arith in append_nil (map (with_claim i) (pairs_at g c)) ∙ ap (λ (n : ℕ). map (with_claim n) (pairs_at g c)) z
  where
    append_nil : {A : Type 0} (xs : List A) → xs ++ [] ≡ xs
    append_nil [] = refl
    append_nil (x ∷ xs) = ap (λ z. x ∷ z) (append_nil xs)
numbers_more g i (d ∷ cs) c =
    let z : i + 1 + length cs ≡ i + suc (length cs) = omega arith in
    ap (λ (z : List Numbers). map (with_claim i) (pairs_at g d) ++ z) (numbers_more g (i + 1) cs c ∙ ap (λ (n : ℕ). due_numbers g (i + 1) cs ++ map (with_claim n) (pairs_at g c)) z)
    ∙ sym (append_assoc (map (with_claim i) (pairs_at g d)) (due_numbers g (i + 1) cs) (map (with_claim (i + suc (length cs))) (pairs_at g c)))

pub due_more : (g : Pairing) (i : ℕ) (cs more : List Claim) → due_from g i (cs ++ more) ≡ due_from g i cs ++ due_from g (i + length cs) more
due_more g i [] more = let z : i ≡ i + 0 = omega arith in ap (λ (n : ℕ). due_from g n more) z
due_more g i (c ∷ cs) more =
    let z : i + 1 + length cs ≡ i + suc (length cs) = omega arith in
    let here = due_at g i c (domain g.left c.left) (domain g.right c.right) in
    ap (λ (z : List DuePlan). here ++ z) (due_more g (i + 1) cs more ∙ ap (λ (n : ℕ). due_from g (i + 1) cs ++ due_from g n more) z) ∙ sym (append_assoc here (due_from g (i + 1) cs) (due_from g (i + suc (length cs)) more))

-- ---- where they start

-- what is due is of a claim with its number, and starts at its pieces
pub record IsDueOf (g : Pairing) (first : ℕ) (cs : List Claim) (d : DuePlan) : Type 0 where
  pub place : ℕ
  pub claim : Claim
  pub number : d.claim ≡ first + place
  pub there : slice_get cs place ≡ Some claim
  pub starts : d.path ≡ start_at g claim d.left_piece d.right_piece

numbered_at : {A : Type 0} (k : ℕ) (xs : List A) (x : ℕ × A) → IsAmong x (numbered k xs) → (n : ℕ) × (x.0 ≡ k + n) × (slice_get xs n ≡ Some x.1)
numbered_at k [] x h = absurd h
numbered_at k (y ∷ xs) x (inl e) = let z : k ≡ k + 0 = omega arith in (0, ap (λ w. w.0) e ∙ z, ap (λ w. Some w.1) (sym e))
numbered_at k (y ∷ xs) x (inr h) = let r = numbered_at (k + 1) xs x h in let z : k + 1 + r.0 ≡ k + suc r.0 = omega arith in (suc r.0, r.1 ∙ z, r.2)

piece_is : {A : Type 0} (xs : List A) (x : ℕ × A) → IsAmong x (numbered 0 xs) → slice_get xs x.0 ≡ Some x.1
piece_is xs x h = let r = numbered_at 0 xs x h in let z : 0 + r.0 ≡ r.0 = omega arith in ap (slice_get xs) (r.1 ∙ z) ∙ r.2

-- the place of a start for two pieces
started : (g : Pairing) (c : Claim) (a b : Domain) (l r : ℕ × List Row) → domain g.left c.left ≡ Some a → domain g.right c.right ≡ Some b → slice_get a.pieces l.0 ≡ Some l.1 → slice_get b.pieces r.0 ≡ Some r.1 → start g c a b l.1 r.1 ≡ start_at g c l.0 r.0
started g c a b l r la rb ll rr =
    let L : Piece = record { width = a.width; rows = l.1 } in
    let R : Piece = record { width = b.width; rows = r.1 } in
    let x : piece_by l.0 (domain g.left c.left) ≡ Some L = ap (piece_by l.0) la ∙ ap (option_map (λ (rows : List Row). record { width = a.width; rows = rows })) ll in
    let y : piece_by r.0 (domain g.right c.right) ≡ Some R = ap (piece_by r.0) rb ∙ ap (option_map (λ (rows : List Row). record { width = b.width; rows = rows })) rr in
    sym (by (piece_by l.0 (domain g.left c.left)) (piece_by r.0 (domain g.right c.right)) x y)
  where
    at : Option Piece → Option Piece → Option Path
    at o o' = option_and_then (λ (p : Piece). option_and_then (λ (q : Piece). start g c (record { width = p.width; pieces = [] }) (record { width = q.width; pieces = [] }) p.rows q.rows) o') o

    by : (o o' : Option Piece) → o ≡ Some (record { width = a.width; rows = l.1 }) → o' ≡ Some (record { width = b.width; rows = r.1 })
        → option_and_then (λ (p : Piece). option_and_then (λ (q : Piece). start g c (record { width = p.width; pieces = [] }) (record { width = q.width; pieces = [] }) p.rows q.rows) o') o ≡ start g c a b l.1 r.1
    by o o' e f = λ n. option_and_then (λ (p : Piece). option_and_then (λ (q : Piece). start g c (record { width = p.width; pieces = [] }) (record { width = q.width; pieces = [] }) p.rows q.rows) (f n)) (e n)

due_here : (g : Pairing) (i : ℕ) (c : Claim) (o o' : Option Domain) (d : DuePlan) → domain g.left c.left ≡ o → domain g.right c.right ≡ o' → IsAmong d (due_at g i c o o') → (d.claim ≡ i) × (d.path ≡ start_at g c d.left_piece d.right_piece)
due_here g i c None o' d q q' n = absurd n
due_here g i c (Some a) None d q q' n = absurd n
due_here g i c (Some a) (Some b) d q q' n =
    let x = among_flat (λ (l : ℕ × List Row). map (due_for g i c a b l) (numbered 0 b.pieces)) d (numbered 0 a.pieces) n in
    let y = among_map (due_for g i c a b x.0) d (numbered 0 b.pieces) x.2 in
    let s = started g c a b x.0 y.0 q q' (piece_is a.pieces x.0 x.1) (piece_is b.pieces y.0 y.1) in
    (ap (λ (z : DuePlan). z.claim) y.2, subst (λ (z : DuePlan). z.path ≡ start_at g c z.left_piece z.right_piece) (sym y.2) s)

pub due_of : (g : Pairing) (first : ℕ) (cs : List Claim) (d : DuePlan) → IsAmong d (due_from g first cs) → IsDueOf g first cs d
due_of g first [] d n = absurd n
due_of g first (c ∷ cs) d n = by (in_either d (due_at g first c (domain g.left c.left) (domain g.right c.right)) (due_from g (first + 1) cs) n) (due_of g (first + 1) cs d)
  where
    by : IsAmong d (due_at g first c (domain g.left c.left) (domain g.right c.right)) ⊎ IsAmong d (due_from g (first + 1) cs) → (IsAmong d (due_from g (first + 1) cs) → IsDueOf g (first + 1) cs d) → IsDueOf g first (c ∷ cs) d
    by (inl m) next =
        let b = due_here g first c (domain g.left c.left) (domain g.right c.right) d refl refl m in
        let z : first ≡ first + 0 = omega arith in
        record { place = 0; claim = c; number = b.0 ∙ z; there = refl; starts = b.1 }
    by (inr m) next =
        let r = next m in
        let z : first + 1 + r.place ≡ first + suc r.place = omega arith in
        record { place = suc r.place; claim = r.claim; number = r.number ∙ z; there = r.there; starts = r.starts }

-- ---- trees

-- the numbers are those of what is due
is_due_by : (t : ClaimTree) (d : DuePlan) → numbers_of t ≡ numbers_due d → is_due t d ≡ true
is_due_by t d e = three (nat_eq t.claim d.claim) (nat_eq t.left_piece d.left_piece) (nat_eq t.right_piece d.right_piece) (eq-eqb t.claim d.claim (ap (λ (n : Numbers). n.0) e)) (eq-eqb t.left_piece d.left_piece (ap (λ (n : Numbers). n.1) e)) (eq-eqb t.right_piece d.right_piece (ap (λ (n : Numbers). n.2) e))
  where
    three : (a b c : Bool) → a ≡ true → b ≡ true → c ≡ true → (a && (b && c)) ≡ true
    three true true true e f h = refl
    three true true false e f h = absurd cc
    three true false c e f h = absurd cc
    three false b c e f h = absurd cc

-- each plan is accepted where it is due
pub trees_fine : (g : Pairing) (cs : List Claim) (ts : List ClaimTree) (ds : List DuePlan) (k : ℕ) → map numbers_of ts ≡ map numbers_due ds → AllByRecursion (IsTreeAccepted g cs) ts
    → ((d : DuePlan) → IsAmong d ds → (c : Claim) × (slice_get cs d.claim ≡ Some c) × (d.path ≡ start_at g c d.left_piece d.right_piece)) → trees_fault g cs ts ds k ≡ None
trees_fine g cs [] [] k e a due = refl
trees_fine g cs [] (d ∷ ds) k e a due = absurd cc
trees_fine g cs (t ∷ ts) [] k e a due = absurd cc
trees_fine g cs (t ∷ ts) (d ∷ ds) k e a due =
    let same : numbers_of t ≡ numbers_due d = cc in
    let rest : map numbers_of ts ≡ map numbers_due ds = cc in
    let r = due d (inl refl) in
    let n : t.claim ≡ d.claim = ap (λ (z : Numbers). z.0) same in
    let s : StartsAccepted g cs r.0 t = a.0 r.0 (ap (slice_get cs) n ∙ r.1) in
    let at : d.path ≡ Some s.path = r.2 ∙ (λ i. start_at g r.0 ((sym same i).1) ((sym same i).2)) ∙ s.starts in
    let fine : tree_fault_at g cs t d.path k ≡ None = ap (λ (o : Option Path). tree_fault_at g cs t o k) at ∙ s.accepted (k + 1) in
    if_none (is_due t d) (first_fault_of (tree_fault_at g cs t d.path k) (trees_fault g cs ts ds (k + (1 + plan_lines t.tree)))) (k, rule.Tree) (is_due_by t d same)
    (both_none (tree_fault_at g cs t d.path k) (trees_fault g cs ts ds (k + (1 + plan_lines t.tree))) fine (trees_fine g cs ts ds (k + (1 + plan_lines t.tree)) rest a.1 (λ x m. due x (inr m))))

-- the plans that no line fails, against more claims, and further ones behind them
tree_again : (g : Pairing) (cs all : List Claim) → ((i : ℕ) (c : Claim) → slice_get cs i ≡ Some c → slice_get all i ≡ Some c) → (t : ClaimTree) (o : Option Path) (k j : ℕ) → tree_fault_at g cs t o k ≡ None → tree_fault_at g all t o j ≡ None
tree_again g cs all keeps t None k j e = absurd cc
tree_again g cs all keeps t (Some h) k j e = plan_again g cs all keeps t.tree h (k + 1) (j + 1) e

pub trees_longer : (g : Pairing) (cs all : List Claim) → ((i : ℕ) (c : Claim) → slice_get cs i ≡ Some c → slice_get all i ≡ Some c) → (ts us : List ClaimTree) (ds es : List DuePlan) (k j : ℕ)
    → trees_fault g cs ts ds k ≡ None → ((n : ℕ) → trees_fault g all us es n ≡ None) → trees_fault g all (ts ++ us) (ds ++ es) j ≡ None
trees_longer g cs all keeps [] us [] es k j e more = more j
trees_longer g cs all keeps [] us (d ∷ ds) es k j e more = absurd cc
trees_longer g cs all keeps (t ∷ ts) us [] es k j e more = absurd cc
trees_longer g cs all keeps (t ∷ ts) us (d ∷ ds) es k j e more =
    let b = none_if (is_due t d) (first_fault_of (tree_fault_at g cs t d.path k) (trees_fault g cs ts ds (k + (1 + plan_lines t.tree)))) (k, rule.Tree) e in
    let f = first-none (tree_fault_at g cs t d.path k) (trees_fault g cs ts ds (k + (1 + plan_lines t.tree))) b.1 in
    if_none (is_due t d) (first_fault_of (tree_fault_at g all t d.path j) (trees_fault g all (ts ++ us) (ds ++ es) (j + (1 + plan_lines t.tree)))) (j, rule.Tree) b.0
    (both_none (tree_fault_at g all t d.path j) (trees_fault g all (ts ++ us) (ds ++ es) (j + (1 + plan_lines t.tree))) (tree_again g cs all keeps t d.path k j f.0)
    (trees_longer g cs all keeps ts us ds es (k + (1 + plan_lines t.tree)) (j + (1 + plan_lines t.tree)) f.1 more))

-- they are spelled
tree_spelled : (g : Pairing) (cs : List Claim) (t : ClaimTree) (o : Option Path) (k : ℕ) → tree_fault_at g cs t o k ≡ None → (h : Path) × (plan_fault g cs t.tree h (k + 1) ≡ None)
tree_spelled g cs t None k e = absurd cc
tree_spelled g cs t (Some h) k e = (h, e)

pub trees_spelled : (g : Pairing) (cs : List Claim) (ts : List ClaimTree) (ds : List DuePlan) (k : ℕ) → trees_fault g cs ts ds k ≡ None → AreSpelledTrees ts
trees_spelled g cs [] ds k e = tt
trees_spelled g cs (t ∷ ts) [] k e = absurd cc
trees_spelled g cs (t ∷ ts) (d ∷ ds) k e =
    let b = none_if (is_due t d) (first_fault_of (tree_fault_at g cs t d.path k) (trees_fault g cs ts ds (k + (1 + plan_lines t.tree)))) (k, rule.Tree) e in
    let f = first-none (tree_fault_at g cs t d.path k) (trees_fault g cs ts ds (k + (1 + plan_lines t.tree))) b.1 in
    let s = tree_spelled g cs t d.path k f.0 in
    (plan_spelled g cs t.tree s.0 (k + 1) s.1, trees_spelled g cs ts ds (k + (1 + plan_lines t.tree)) f.1)

-- each plan is of a claim that is there
pub trees_within : (g : Pairing) (cs : List Claim) (ts : List ClaimTree) (ds : List DuePlan) (k n : ℕ) → trees_fault g cs ts ds k ≡ None → ((d : DuePlan) → IsAmong d ds → d.claim < n) → AllByRecursion (λ (t : ClaimTree). t.claim < n) ts
trees_within g cs [] ds k n e within = tt
trees_within g cs (t ∷ ts) [] k n e within = absurd cc
trees_within g cs (t ∷ ts) (d ∷ ds) k n e within =
    let b = none_if (is_due t d) (first_fault_of (tree_fault_at g cs t d.path k) (trees_fault g cs ts ds (k + (1 + plan_lines t.tree)))) (k, rule.Tree) e in
    let f = first-none (tree_fault_at g cs t d.path k) (trees_fault g cs ts ds (k + (1 + plan_lines t.tree))) b.1 in
    let same : t.claim ≡ d.claim = claim_same t d b.0 in
    let below : d.claim < n = within d (inl refl) in
    (omega (arith, same, below), trees_within g cs ts ds (k + (1 + plan_lines t.tree)) n f.1 (λ x m. within x (inr m)))
  where
    first : (a b : Bool) → (a && b) ≡ true → a ≡ true
    first true b e = refl
    first false b e = absurd cc

    claim_same : (t : ClaimTree) (d : DuePlan) → is_due t d ≡ true → t.claim ≡ d.claim
    claim_same t d e = eqb-true t.claim d.claim (first (nat_eq t.claim d.claim) (nat_eq t.left_piece d.left_piece && nat_eq t.right_piece d.right_piece) e)

pub due_within : (g : Pairing) (cs : List Claim) (d : DuePlan) → IsAmong d (due_from g 0 cs) → d.claim < length cs
due_within g cs d n =
    let r = due_of g 0 cs d n in
    let i = r.number in
    let l = slice_get_within cs r.place r.claim r.there in
    omega (arith, i, l)
