-- The entries of a pair path: each behind the first one is a step from the one before it.
use Rattle.std.proofs.Common.{◌≡◌, ℕ, zero, suc, ◌+◌, ℤ, List, [], ◌∷◌, ◌++◌, map, length, take, Some, refl, sym, ap, ◌∙◌, subst, arith, append_assoc, length-append}
use Rattle.std.specs.Prelude.{slice_get}
use Rattle.ac_syntax.specs.declared.tree.Position.{Position}
use Rattle.ac_base.proofs.Options.{some-is}
use Rattle.ac_claims_paths.specs.declared.path.Path.{Path}
use Rattle.ac_claims_paths.specs.declared.path.Seat.{Seat}
use Rattle.ac_widen.specs.Derivations.{EntryOf, Justified, IsDerivation, StandsAt, entry_of}
use Rattle.ac_widen.specs.Obligations.{Obligation, step}
use Rattle.ac_widen.specs.DerivationPaths.{path_entries}
use Rattle.ac_widen.proofs.Deriving.{one_more, path_more}
use Rattle.ac_widen.specs.declared.derivation.Entry.{Entry}
use Rattle.ac_widen.specs.declared.derivation.Reason.TheVariants.{Step}
use Rattle.ac_widen_programs.specs.DerivationEntries.{entries_of}
use Rattle.ac_widen_programs.specs.PairPathEnds.{entries_at, entry_at, step_from, steps_behind, MismatchesAreShown, StepsAreJustified, PairPathsDerive}
use Rattle.ac_widen_programs.specs.PairPaths.{Unfolding, ComesTo, last_of, pair_of, params_of, point_of, positions_of, seats_of, setting_of}
use Rattle.ac_widen_programs.proofs.Ending.{ends_are_mismatches}
use Rattle.ac_widen_programs.proofs.Trails.{Steps}

-- ---- places of a list

take_all : (front : List Entry) (x : Entry) (rest : List Entry) → take (suc (length front)) (front ++ x ∷ rest) ≡ front ++ x ∷ []
take_all [] x [] = refl
take_all [] x (y ∷ rest) = refl
take_all (z ∷ front) x rest = ap (λ (ys : List Entry). z ∷ ys) (take_all front x rest)

get_here : (front : List Entry) (x : Entry) (rest : List Entry) → slice_get (entries_of (front ++ x ∷ rest)) (length front) ≡ Some (entry_of x)
get_here [] x rest = refl
get_here (z ∷ front) x rest = get_here front x rest

-- ---- steps

-- an entry of a pair of seats, whatever its reason
abbrev IsAt : ℕ → List ℤ → Seat × Seat → Entry → Type 0
IsAt params p s x = (entry_of x).positions ≡ positions_of s × (entry_of x).point ≡ point_of params p s

justified : (u : Unfolding) (p : List ℤ) (s : Seat × Seat) (rest : List (Seat × Seat)) → Steps u p s rest
    → (n : ℕ) (front : List Entry) (x : Entry) → length front ≡ n → IsAt (params_of u) p s x → (k : ℕ) (e : Entry) → slice_get (steps_behind n (params_of u) p rest) k ≡ Some e
    → Justified (setting_of u) u.order (entries_of (take (suc (n + k)) (front ++ x ∷ steps_behind n (params_of u) p rest))) (e.left, e.right) e.point e.reason
justified u p s [] steps n front x l at k e is = absurd cc
justified u p s (t ∷ rest) steps n front x l at zero e is =
    let params = params_of u in
    let y = step_from n (entry_at params p t) in
    let tail = y ∷ steps_behind (suc n) params p rest in
    let same : y ≡ e = some-is y e is in
    let count : suc (n + 0) ≡ suc (length front) = omega (arith, l) in
    let before : take (suc (n + 0)) (front ++ x ∷ tail) ≡ front ++ x ∷ [] = ap (λ (j : ℕ). take j (front ++ x ∷ tail)) count ∙ take_all front x tail in
    let there : StandsAt (entries_of (front ++ x ∷ [])) n (positions_of s) (point_of params p s) = (entry_of x, ap (slice_get (entries_of (front ++ x ∷ []))) (sym l) ∙ get_here front x [], at.0, at.1) in
    subst (λ (z : Entry). Justified (setting_of u) u.order (entries_of (take (suc (n + 0)) (front ++ x ∷ tail))) (z.left, z.right) z.point z.reason) same
    (subst (λ (es : List Entry). Justified (setting_of u) u.order (entries_of es) (positions_of t) (point_of params p t) (Step n)) (sym before) (positions_of s, point_of params p s, there, steps.0))
justified u p s (t ∷ rest) steps n front x l at (suc k) e is =
    let params = params_of u in
    let y = step_from n (entry_at params p t) in
    let all : (front ++ x ∷ []) ++ y ∷ steps_behind (suc n) params p rest ≡ front ++ x ∷ (y ∷ steps_behind (suc n) params p rest) = append_assoc front (x ∷ []) (y ∷ steps_behind (suc n) params p rest) in
    let long : length (front ++ x ∷ []) ≡ suc n = omega (arith, length-append front (x ∷ []), l) in
    let count : suc (suc n + k) ≡ suc (n + suc k) = omega arith in
    let h = justified u p t rest steps.1 (suc n) (front ++ x ∷ []) y long (refl, refl) k e is in
    subst (λ (es : List Entry). Justified (setting_of u) u.order (entries_of es) (e.left, e.right) e.point e.reason) (λ i. take (count i) (all i)) h

-- the steps of a pair path
abbrev pub StepsOf : Unfolding → List ℤ → List (Seat × Seat) → Type 0
StepsOf u p [] = Unit {0}
StepsOf u p (s ∷ rest) = Steps u p s rest

pub steps_of : (u : Unfolding) (pair_path : List (Seat × Seat)) (q : Path) (p : List ℤ) → ComesTo u pair_path q p → StepsOf u p pair_path
steps_of u pair_path q p to = subst (StepsOf u p) (sym to.pair_path_is) to.steps

by_steps : (u : Unfolding) (p : List ℤ) (pair_path : List (Seat × Seat)) → StepsOf u p pair_path → (k : ℕ) (e : Entry) → slice_get (entries_at (params_of u) p pair_path) (suc k) ≡ Some e
    → Justified (setting_of u) u.order (entries_of (take (suc k) (entries_at (params_of u) p pair_path))) (e.left, e.right) e.point e.reason
by_steps u p [] h k e is = absurd cc
by_steps u p (s ∷ rest) h k e is =
    let params = params_of u in
    let x = entry_at params p s in
    let count : suc (0 + k) ≡ suc k = omega arith in
    subst (λ (j : ℕ). Justified (setting_of u) u.order (entries_of (take j (x ∷ steps_behind 0 params p rest))) (e.left, e.right) e.point e.reason) count (justified u p s rest h 0 [] x refl (refl, refl) k e is)

pub steps_are_justified : StepsAreJustified
steps_are_justified u pair_path q p to k e is = by_steps u p pair_path (steps_of u pair_path q p to) k e is

-- ---- from an output

behind_is : (k params : ℕ) (p : List ℤ) (pair_path : List (Seat × Seat)) → entries_of (steps_behind k params p pair_path) ≡ path_entries k (map (pair_of params p) pair_path)
behind_is k params p [] = refl
behind_is k params p (s ∷ pair_path) = ap (λ (es : List (EntryOf (Position × Position))). entry_of (step_from k (entry_at params p s)) ∷ es) (behind_is (suc k) params p pair_path)

pub pair_paths_derive : PairPathsDerive
pair_paths_derive u s pair_path q p to output =
    let params = params_of u in
    let x = entry_of (entry_at params p s) in
    let one = one_more (setting_of u) u.order [] x tt output in
    let all = path_more (setting_of u) u.order (x ∷ []) 0 (positions_of s) (point_of params p s) (map (pair_of params p) pair_path) one refl (x, refl, refl, refl) (steps_of u (s ∷ pair_path) q p to) in
    subst (IsDerivation (setting_of u) u.order) (ap (λ (es : List (EntryOf (Position × Position))). x ∷ es) (sym (behind_is 0 params p pair_path))) all

-- ---- the end of an obligation's pair path

obligation_on : (u : Unfolding) (p : List ℤ) (s : Seat × Seat) (rest : List (Seat × Seat)) → Obligation (setting_of u) u.order (positions_of s) (point_of (params_of u) p s) → Steps u p s rest
    → Obligation (setting_of u) u.order (positions_of (last_of s rest)) (point_of (params_of u) p (last_of s rest))
obligation_on u p s [] o h = o
obligation_on u p s (t ∷ rest) o h = obligation_on u p t rest (step (positions_of s) (point_of (params_of u) p s) (positions_of t) (point_of (params_of u) p t) o h.0) h.1

-- the last pair of a pair path
abbrev EndsAt : Path → List (Seat × Seat) → Type 0
EndsAt q [] = Unit {0}
EndsAt q (s ∷ rest) = last_of s rest ≡ seats_of q

pub mismatches_are_shown : MismatchesAreShown
mismatches_are_shown u s pair_path q p arities to o nothing =
    let last : last_of s pair_path ≡ seats_of q = subst (EndsAt q) (sym to.pair_path_is) to.last_is in
    let there = obligation_on u p s pair_path o (steps_of u (s ∷ pair_path) q p to) in
    (positions_of (seats_of q), point_of (params_of u) p (seats_of q), subst (λ (t : Seat × Seat). Obligation (setting_of u) u.order (positions_of t) (point_of (params_of u) p t)) last there, ends_are_mismatches u (s ∷ pair_path) q p arities to nothing)
