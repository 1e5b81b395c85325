-- Where the starts of a claim stand, no path is broken.
use Rattle.std.proofs.Common.{◌≡◌, inl, inr, ℤ, List, [], ◌∷◌, ◌++◌, map, refl, sym, ap, ◌∙◌, subst}
use Rattle.std.specs.List.{AllByRecursion}
use Rattle.ac_forms.specs.ListMembers.{IsAmong}
use Rattle.ac_forms.specs.Rows.{Holds, Meets}
use Rattle.ac_forms.specs.declared.row.Row.{Row}
use Rattle.ac_claims.specs.declared.types.Claim.{Claim}
use Rattle.ac_flow.specs.declared.types.Flow.{Flow}
use Rattle.ac_claims_paths.specs.declared.path.Path.{Path}
use Rattle.ac_claims_paths.specs.declared.path.Seat.{Seat}
use Rattle.ac_graph.specs.GraphMeaning.{HaveFlows}
use Rattle.ac_widen_programs.specs.PairSetting.{IsMismatchPair}
use Rattle.ac_widen_programs.specs.BrokenPaths.{HasNoClaim}
use Rattle.ac_widen_programs.specs.PairPaths.{Unfolding, ComesTo, last_of, pair_of, params_of, point_of, positions_of, seats_of}
use Rattle.ac_widen_programs.proofs.Ending.{ends_are_mismatches}
use Rattle.ac_unfold.specs.UnbrokenStarts.{StartStands}
use Rattle.ac_unfold_complete.specs.FinePairs.{AreApart, AreFree, EndsFine, IsFine, IsFree, IsOf, NothingIsBroken, OneHolds, PairOf}
use Rattle.ac_unfold_complete.proofs.Fine.{standing_starts_are_fine}

-- the pairs of a pair path
abbrev pairs_of : Unfolding → List ℤ → List (Seat × Seat) → List PairOf
pairs_of u p ss = map (pair_of (params_of u) p) ss

free_seats : (claims : List Claim) (s : Seat × Seat) → HasNoClaim claims s → IsFree claims (positions_of s)
free_seats claims s h c i o = h c i o.left_is o.right_is

-- pairs without claims, and one more
free_then : (u : Unfolding) (claims : List Claim) (p : List ℤ) (ss : List (Seat × Seat)) (t : Seat × Seat) → AllByRecursion (HasNoClaim claims) ss → AreFree claims (pairs_of u p (ss ++ t ∷ []))
free_then u claims p [] t f = tt
free_then u claims p (s ∷ []) t f = (free_seats claims s f.0, tt)
free_then u claims p (s ∷ r ∷ ss) t f = (free_seats claims s f.0, free_then u claims p (r ∷ ss) t f.1)

all_free : (u : Unfolding) (claims : List Claim) (p : List ℤ) (ss : List (Seat × Seat)) → AllByRecursion (HasNoClaim claims) ss → AreFree claims (pairs_of u p ss)
all_free u claims p [] f = tt
all_free u claims p (s ∷ []) f = tt
all_free u claims p (s ∷ r ∷ ss) f = (free_seats claims s f.0, all_free u claims p (r ∷ ss) f.1)

-- the last of the pairs is that of the last seats
last_pair : (u : Unfolding) (p : List ℤ) (s : Seat × Seat) (ss : List (Seat × Seat)) → last_of (pair_of (params_of u) p s) (pairs_of u p ss) ≡ pair_of (params_of u) p (last_of s ss)
last_pair u p s [] = refl
last_pair u p s (r ∷ ss) = last_pair u p r ss

last_then : {A : Type 0} (x : A) (xs : List A) (y : A) → last_of x (xs ++ y ∷ []) ≡ y
last_then x [] y = refl
last_then x (z ∷ xs) y = last_then z xs y

last_free : (claims : List Claim) (s : Seat × Seat) (ss : List (Seat × Seat)) → AllByRecursion (HasNoClaim claims) (s ∷ ss) → HasNoClaim claims (last_of s ss)
last_free claims s [] f = f.0
last_free claims s (r ∷ ss) f = last_free claims r ss f.1

-- ---- ends

-- a mismatch of two seats at a point
abbrev IsMismatchAt : Unfolding → List ℤ → Seat × Seat → Type 0
IsMismatchAt u p s = IsMismatchPair u.pair (positions_of s) (point_of (params_of u) p s)

-- where no pair behind the first one has a claim, the last one is no mismatch
ends_matched : (u : Unfolding) (claims : List Claim) (p : List ℤ) (s : Seat × Seat) (ss : List (Seat × Seat)) → AllByRecursion (HasNoClaim claims) ss → EndsFine u claims (pair_of (params_of u) p s) (pairs_of u p ss) → ¬ (IsMismatchAt u p (last_of s ss))
ends_matched u claims p s [] f e = e
ends_matched u claims p s (r ∷ ss) f e =
    let fine = subst (IsFine u claims) (last_pair u p r ss) e in
    fine.unclaimed (free_seats claims (last_of r ss) (last_free claims r ss f))

-- behind a step the last one is fine
ends_fine : (u : Unfolding) (claims : List Claim) (p : List ℤ) (s : Seat × Seat) (ss : List (Seat × Seat)) (t : Seat × Seat) → EndsFine u claims (pair_of (params_of u) p s) (pairs_of u p (ss ++ t ∷ [])) → IsFine u claims (pair_of (params_of u) p t)
ends_fine u claims p s [] t e = e
ends_fine u claims p s (r ∷ ss) t e = subst (IsFine u claims) (last_pair u p r (ss ++ t ∷ []) ∙ ap (pair_of (params_of u) p) (last_then r ss t)) e

meets_in : (rows : List Row) (r : Row) (p : List ℤ) → IsAmong r rows → Meets rows p → Holds r p
meets_in [] r p i m = absurd i
meets_in (x ∷ rows) r p (inl e) m = subst (λ (z : Row). Holds z p) (sym e) m.0
meets_in (x ∷ rows) r p (inr i) m = meets_in rows r p i m.1

-- a claim of the pair that holds is the one that fails
no_row_fails : (claims : List Claim) (x : PairOf) (c : Claim) (row : Row) → AreApart claims → IsAmong c claims → IsOf c x.0 → OneHolds claims x → IsAmong row c.rows → ¬ (¬ (Holds row x.1))
no_row_fails claims x c row apart among of (d, i, o, meets) k fails =
    let same : d ≡ c = apart d c i among (sym o.left_is ∙ of.left_is) (sym o.right_is ∙ of.right_is) in
    fails (meets_in c.rows row x.1 k (subst (λ (z : Claim). Meets z.rows x.1) same meets))

-- the steps of a pair path end fine
trail_ends : (u : Unfolding) (left right : Flow) (claims : List Claim) → HaveFlows u.pair left right → StartStands u left right claims → (pair_path : List (Seat × Seat)) (q : Path) (p : List ℤ) → (to : ComesTo u pair_path q p) → AreFree claims (pairs_of u p to.rest)
    → EndsFine u claims (pair_of (params_of u) p to.first) (pairs_of u p to.rest)
trail_ends u left right claims h start pair_path q p to free = standing_starts_are_fine u left right claims h start (positions_of to.first) (point_of (params_of u) p to.first) to.start (pairs_of u p to.rest) to.steps free

same_rest : {A : Type 0} (x y : A) (xs ys : List A) → x ∷ xs ≡ y ∷ ys → xs ≡ ys
same_rest x y xs ys e = cc

pub nothing_is_broken : NothingIsBroken
nothing_is_broken u left right claims h arities start entries b = (
  (λ e.
      let to = b.comes in
      let rest = same_rest b.first to.first b.rest to.rest to.pair_path_is in
      let free = subst (AllByRecursion (HasNoClaim claims)) rest e.free in
      let fine = trail_ends u left right claims h start (b.first ∷ b.rest) b.question b.point to (all_free u claims b.point to.rest free) in
      let none = ends_matched u claims b.point to.first to.rest free fine in
      none (subst (IsMismatchAt u b.point) (sym to.last_is) (ends_are_mismatches u (b.first ∷ b.rest) b.question b.point arities to e.nothing))),
  (λ apart e.
      let to = b.comes in
      let last = seats_of b.question in
      let rest : to.rest ≡ e.between ++ last ∷ [] = sym (same_rest b.first to.first b.rest to.rest to.pair_path_is) ∙ e.rest_is in
      let free = subst (λ (ss : List (Seat × Seat)). AreFree claims (pairs_of u b.point ss)) (sym rest) (free_then u claims b.point e.between last e.free) in
      let ends = subst (λ (ss : List (Seat × Seat)). EndsFine u claims (pair_of (params_of u) b.point to.first) (pairs_of u b.point ss)) rest (trail_ends u left right claims h start (b.first ∷ b.rest) b.question b.point to free) in
      let fine = ends_fine u claims b.point to.first e.between last ends in
      let of : IsOf e.claim (positions_of last) = record { left_is = e.left_is; right_is = e.right_is } in
      no_row_fails claims (pair_of (params_of u) b.point last) e.claim e.row apart e.among of (fine.claimed e.claim e.among of) e.row_among e.fails),
)
