-- How a broken path begins and ends.
use Rattle.std.proofs.Common.{◌≡◌, inl, inr, ℕ, suc, ◌+◌, ℤ, List, [], ◌∷◌, ◌++◌, map, length, refl, sym, ap, ◌∙◌, subst, arith, length-append}
use Rattle.ac_syntax.specs.declared.tree.Pair.{Pair}
use Rattle.ac_syntax.specs.declared.tree.Position.{Position}
use Rattle.ac_poly.specs.Model.{model_of}
use Rattle.ac_claims.specs.declared.types.Claim.{Claim}
use Rattle.ac_claims_paths.specs.Executions.{execution}
use Rattle.ac_claims_paths.specs.declared.path.Path.{Path}
use Rattle.ac_claims_paths.specs.declared.path.Seat.{Seat}
use Rattle.ac_claims_paths.specs.PathColumns.{base, columns_of}
use Rattle.ac_forms.specs.ListMembers.{IsAmong}
use Rattle.ac_forms.specs.Renaming.{picked}
use Rattle.ac_widen_programs.specs.PairSetting.{PairAt, IsMismatchPair, coordinate_count, point_width}
use Rattle.ac_widen_programs.proofs.PositionModels.{at_width}
use Rattle.ac_widen.specs.declared.derivation.Entry.{Entry}
use Rattle.ac_widen_programs.proofs.Mismatching.{pair_at}
use Rattle.ac_widen_programs.specs.BrokenPaths.{IsBroken, EndsAtClaim, EndsBroken, HasNoClaim}
use Rattle.ac_widen_programs.specs.PairPathEnds.{HaveBothArities, entries_at, entry_at, step_from, steps_behind}
use Rattle.ac_widen_programs.specs.PairPaths.{Unfolding, ComesTo, IsOfClaim, last_of, pair_of, params_of, point_of, positions_of, seats_of}
use Rattle.ac_widen_programs.proofs.Ending.{ends_are_mismatches}
use Rattle.ac_widen_programs.proofs.Entries.{steps_of}
use Rattle.ac_widen_programs.proofs.Picks.{pick_pair}
use Rattle.ac_widen_programs.proofs.Trails.{Steps}
use Rattle.ac_walk_state.specs.PathEnds.{EndsFree, IsEnd, entry_positions}
use Rattle.ac_walk_state.specs.GrowthStep.{pair_of as pair_of_claim}
use Rattle.ac_walk_state.proofs.LastItems.{all_in, among_map, last_among, last_map, last_more}

-- ---- points

-- a point at a pair of positions has as many numbers as they need
pub wide_there : (pair : Pair) (positions : Position × Position) (p : List ℤ) → PairAt pair positions p → length p ≡ point_width pair positions
wide_there pair positions p h =
    let lm = model_of pair.left pair.context in
    let rm = model_of pair.right pair.context in
    let l = at_width lm h.params (execution pair.left lm h.params) h.compared.left h.a.position h.a.at h.a.spot h.a.here in
    let r = at_width rm h.params (execution pair.right rm h.params) h.compared.right h.b.position h.b.at h.b.spot h.b.here in
    let left : length h.a.at ≡ coordinate_count lm positions.0 = l ∙ ap (coordinate_count lm) h.placed.left_is in
    let right : length h.b.at ≡ coordinate_count rm positions.1 = r ∙ ap (coordinate_count rm) h.placed.right_is in
    ap length h.placed.point_is ∙ length-append h.params (h.a.at ++ h.b.at) ∙ (λ i. h.compared.valuation.each i + (length-append h.a.at h.b.at ∙ (λ j. left j + right j)) i)

-- both positions of the question stand there
pub end_there : (u : Unfolding) (pair_path : List (Seat × Seat)) (q : Path) (p : List ℤ) → ComesTo u pair_path q p → PairAt u.pair (positions_of (seats_of q)) (point_of (params_of u) p (seats_of q))
end_there u pair_path q p to =
    let n = params_of u in
    subst (PairAt u.pair (positions_of (seats_of q))) (sym (pick_pair n q.left q.right p)) (pair_at u.pair (picked (base n) p) q.left.position (picked (columns_of q.left) p) q.right.position (picked (columns_of q.right) p) to.here)

-- ---- pair paths

abbrev BeginsThere : Unfolding → List ℤ → List (Seat × Seat) → Type 0
BeginsThere u p [] = Unit {0}
BeginsThere u p (s ∷ rest) = IsOfClaim u (positions_of s) (point_of (params_of u) p s)

abbrev EndsThere : Path → List (Seat × Seat) → Type 0
EndsThere q [] = Unit {0}
EndsThere q (s ∷ rest) = last_of s rest ≡ seats_of q

pub of_claim : (u : Unfolding) (claims : List Claim) (path : List Entry) (b : IsBroken u claims path) → IsOfClaim u (positions_of b.first) (point_of (params_of u) b.point b.first)
of_claim u claims path b = subst (BeginsThere u b.point) (sym b.comes.pair_path_is) b.comes.start

pub last_is : (u : Unfolding) (claims : List Claim) (path : List Entry) (b : IsBroken u claims path) → last_of b.first b.rest ≡ seats_of b.question
last_is u claims path b = subst (EndsThere b.question) (sym b.comes.pair_path_is) b.comes.last_is

pub steps_on : (u : Unfolding) (claims : List Claim) (path : List Entry) (b : IsBroken u claims path) → Steps u b.point b.first b.rest
steps_on u claims path b = steps_of u (b.first ∷ b.rest) b.question b.point b.comes

-- ---- the last entry of a path

-- the pair of an entry with its point
abbrev pub place_of : Entry → (Position × Position) × List ℤ
place_of e = (entry_positions e, e.point)

behind_places : (k params : ℕ) (p : List ℤ) (rest : List (Seat × Seat)) → map place_of (steps_behind k params p rest) ≡ map (pair_of params p) rest
behind_places k params p [] = refl
behind_places k params p (s ∷ rest) = ap (λ (xs : List ((Position × Position) × List ℤ)). pair_of params p s ∷ xs) (behind_places (suc k) params p rest)

pub places : (params : ℕ) (p : List ℤ) (s : Seat × Seat) (rest : List (Seat × Seat)) → map place_of (entries_at params p (s ∷ rest)) ≡ map (pair_of params p) (s ∷ rest)
places params p s rest = ap (λ (xs : List ((Position × Position) × List ℤ)). pair_of params p s ∷ xs) (behind_places 0 params p rest)

-- the last entry is that of the last pair
last_place : (params : ℕ) (p : List ℤ) (s : Seat × Seat) (rest : List (Seat × Seat)) (front : List Entry) (e : Entry) → entries_at params p (s ∷ rest) ≡ front ++ e ∷ [] → place_of e ≡ pair_of params p (last_of s rest)
last_place params p s rest front e is =
    let d = entry_at params p s in
    let one : last_of d (entries_at params p (s ∷ rest)) ≡ e = ap (last_of d) is ∙ last_more d front e in
    let two : last_of (place_of d) (map place_of (entries_at params p (s ∷ rest))) ≡ place_of e = last_map place_of d (entries_at params p (s ∷ rest)) ∙ ap place_of one in
    let three : last_of (place_of d) (map (pair_of params p) (s ∷ rest)) ≡ pair_of params p (last_of s rest) = last_map (pair_of params p) s rest in
    sym two ∙ ap (last_of (place_of d)) (places params p s rest) ∙ three

pub end_place : (u : Unfolding) (claims : List Claim) (path : List Entry) (b : IsBroken u claims path) (e : Entry) → IsEnd path e → place_of e ≡ pair_of (params_of u) b.point (seats_of b.question)
end_place u claims path b e end = last_place (params_of u) b.point b.first b.rest end.front e (sym b.are ∙ end.path_is) ∙ ap (pair_of (params_of u) b.point) (last_is u claims path b)

-- a path with a step has pairs behind the first one
no_front : {A : Type 0} (x : A) (front : List A) (e : A) → x ∷ [] ≡ front ++ e ∷ [] → front ≡ []
no_front x [] e is = refl
no_front x (y ∷ front) e is = let l : 1 ≡ suc (length (front ++ e ∷ [])) = ap length is in let m = length-append front (e ∷ []) in absurd (omega (arith, l, m))

some_rest : (u : Unfolding) (params : ℕ) (p : List ℤ) (s : Seat × Seat) (rest : List (Seat × Seat)) (front : List Entry) (e : Entry) → entries_at params p (s ∷ rest) ≡ front ++ e ∷ [] → ¬ (front ≡ []) → IsAmong (last_of s rest) rest
some_rest u params p s [] front e is some = absurd (some (no_front (entry_at params p s) front e is))
some_rest u params p s (t ∷ rest) front e is some = last_among s t rest

pub end_behind : (u : Unfolding) (claims : List Claim) (path : List Entry) (b : IsBroken u claims path) (e : Entry) → IsEnd path e → IsAmong (seats_of b.question) b.rest
end_behind u claims path b e end = subst (λ (s : Seat × Seat). IsAmong s b.rest) (last_is u claims path b) (some_rest u (params_of u) b.point b.first b.rest end.front e (sym b.are ∙ end.path_is) end.steps)

-- ---- unmatched ends

behind_snoc : (k params : ℕ) (p : List ℤ) (between : List (Seat × Seat)) (t : Seat × Seat) → (j : ℕ) × (steps_behind k params p (between ++ t ∷ []) ≡ steps_behind k params p between ++ step_from j (entry_at params p t) ∷ [])
behind_snoc k params p [] t = (k, refl)
behind_snoc k params p (s ∷ between) t = let r = behind_snoc (suc k) params p between t in (r.0, ap (λ (es : List Entry). step_from k (entry_at params p s) ∷ es) r.1)

-- a path that ends at a claim has a last pair behind a step, at the claim
claim_end : (u : Unfolding) (claims : List Claim) (path : List Entry) (b : IsBroken u claims path) → EndsAtClaim u claims b.rest b.question b.point → (e : Entry) × IsEnd path e × (entry_positions e ≡ positions_of (seats_of b.question))
claim_end u claims path b at =
    let n = params_of u in
    let r = behind_snoc 0 n b.point at.between (seats_of b.question) in
    let e = step_from r.0 (entry_at n b.point (seats_of b.question)) in
    let front = entry_at n b.point b.first ∷ steps_behind 0 n b.point at.between in
    let is : path ≡ front ++ e ∷ [] = b.are ∙ ap (λ (rest : List (Seat × Seat)). entries_at n b.point (b.first ∷ rest)) at.rest_is ∙ ap (λ (es : List Entry). entry_at n b.point b.first ∷ es) r.1 in
    (e, record { front = front; path_is = is; steps = λ (none : front ≡ []). absurd cc }, refl)

-- the claim at the end is of its pair
claim_pair : (u : Unfolding) (claims : List Claim) (rest : List (Seat × Seat)) (q : Path) (p : List ℤ) (at : EndsAtClaim u claims rest q p) → pair_of_claim at.claim ≡ positions_of (seats_of q)
claim_pair u claims rest q p at = λ i. (sym at.left_is i, sym at.right_is i)

-- where no claim is at the end, it is a mismatch
pub free_mismatch : (u : Unfolding) (claims : List Claim) (path : List Entry) (b : IsBroken u claims path) → HaveBothArities u → EndsFree (map pair_of_claim claims) path
    → IsMismatchPair u.pair (positions_of (seats_of b.question)) (point_of (params_of u) b.point (seats_of b.question))
free_mismatch u claims path b arities free = by b.ends
  where
    by : EndsBroken u claims b.rest b.question b.point → IsMismatchPair u.pair (positions_of (seats_of b.question)) (point_of (params_of u) b.point (seats_of b.question))
    by (inl unmatched) = ends_are_mismatches u (b.first ∷ b.rest) b.question b.point arities b.comes unmatched.nothing
    by (inr at) =
        let end = claim_end u claims path b at in
        let among : IsAmong (pair_of_claim at.claim) (map pair_of_claim claims) = among_map pair_of_claim claims at.claim at.among in
        absurd (free end.0 end.1 (subst (λ (positions : Position × Position). IsAmong positions (map pair_of_claim claims)) (claim_pair u claims b.rest b.question b.point at ∙ sym end.2) among))

-- where one is, the end breaks it: a claim of the pair has a row that fails there
pub claim_broken : (u : Unfolding) (claims : List Claim) (path : List Entry) (b : IsBroken u claims path) (e : Entry) → IsEnd path e → (c : Claim) → IsAmong c claims → pair_of_claim c ≡ entry_positions e → EndsAtClaim u claims b.rest b.question b.point
claim_broken u claims path b e end c among same = by b.ends
  where
    by : EndsBroken u claims b.rest b.question b.point → EndsAtClaim u claims b.rest b.question b.point
    by (inr at) = at
    by (inl unmatched) =
        let none = all_in (HasNoClaim claims) b.rest (seats_of b.question) unmatched.free (end_behind u claims path b e end) in
        let widening_point : pair_of_claim c ≡ positions_of (seats_of b.question) = same ∙ ap (λ (x : (Position × Position) × List ℤ). x.0) (end_place u claims path b e end) in
        absurd (none c among (ap (λ (x : Position × Position). x.0) (sym widening_point)) (ap (λ (x : Position × Position). x.1) (sym widening_point)))

-- a path has one end
pub end_unique : (path : List Entry) (e d : Entry) → IsEnd path e → IsEnd path d → e ≡ d
end_unique path e d h g = sym (last_more e h.front e) ∙ ap (last_of e) (sym h.path_is ∙ g.path_is) ∙ last_more e g.front d
