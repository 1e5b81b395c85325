-- What the loops over the arguments of two calls keep.
use Rattle.std.proofs.Common.{◌≡◌, ℕ, zero, suc, ◌+◌, ◌<◌, ◌≤◌, List, [], ◌∷◌, ◌++◌, map, drop, length, get_or, Option, Some, None, true, refl, sym, ap, ◌∙◌, arith, append_assoc, append-nil}
use Rattle.std.specs.Prelude.{option_map}
use Rattle.std.proofs.lemmas.List.{drop_all, map-append}
use Rattle.ac_omega_steps.proofs.Parts.{drop-at}
use Rattle.ac_syntax.specs.declared.tree.Position.TheVariants.{Node}
use Rattle.ac_forms.specs.declared.conj.Conj.{Conj}
use Rattle.ac_forms.specs.declared.row.Row.{Row}
use Rattle.ac_syntax.specs.declared.tree.Position.{Position}
use Rattle.ac_claims_paths.specs.BranchPaths.{onto}
use Rattle.ac_claims_paths.specs.PathSteps.{argument_path, extended, gone_to, initial_path, kept, seat_of, swapped}
use Rattle.ac_claims_paths.specs.ModelPositions.{initial_of}
use Rattle.ac_claims_paths.specs.declared.path.Assumed.{Assumed}
use Rattle.ac_claims_paths.specs.declared.path.Branch.{Branch}
use Rattle.ac_claims_paths.specs.declared.path.Seat.{Seat}
use Rattle.ac_claims_paths.specs.declared.path.Side.{Side}
use Rattle.ac_claims_paths.specs.declared.path.Path.{Path}

-- the paths so far, and the arguments that are left
abbrev pub AtArgument : Path → ℕ → ℕ → List ℕ → List ℕ → ℕ → List Path → Type 0
AtArgument h s t ks ls k out = kept h (map (Node s) ks) (map (Node t) ls) ≡ option_map (λ rest. out ++ rest) (kept h (map (Node s) (drop k ks)) (map (Node t) (drop k ls)))

nil_kept : (o : Option (List Path)) → o ≡ option_map (λ rest. [] ++ rest) o
nil_kept None = refl
nil_kept (Some x) = refl

pub argument_start : (h : Path) (s t : ℕ) (ks ls : List ℕ) → AtArgument h s t ks ls 0 []
argument_start h s t ks ls = nil_kept (kept h (map (Node s) ks) (map (Node t) ls))

more_kept : (out : List Path) (x : Path) (o : Option (List Path)) → option_map (λ rest. out ++ rest) (option_map (λ rest. x ∷ rest) o) ≡ option_map (λ rest. (out ++ x ∷ []) ++ rest) o
more_kept out x None = refl
more_kept out x (Some r) = ap Some (sym (append_assoc out (x ∷ []) r))

any_default : (ks : List ℕ) (k d e : ℕ) → k < length ks → get_or ks k d ≡ get_or ks k e
any_default [] k d e l = absurd (omega (arith, l))
any_default (x ∷ ks) zero d e l = refl
any_default (x ∷ ks) (suc k) d e l = any_default ks k d e (omega (arith, l))

pub argument_next : (h : Path) (s t : ℕ) (ks ls : List ℕ) (k : ℕ) (out new : List Path) (x : Path) → AtArgument h s t ks ls k out → k < length ks → length ks ≡ length ls → x ≡ argument_path h (Node s (get_or ks k 0)) (Node t (get_or ls k 0)) → new ≡ out ++ x ∷ []
    → AtArgument h s t ks ls (k + 1) new
argument_next h s t ks ls k out new x at lk same ex en =
    let a = get_or ks k 0 in
    let b = get_or ls k 0 in
    let ll : k < length ls = omega (arith, lk, same) in
    at ∙ (λ i. option_map (λ rest. out ++ rest) (kept h (map (Node s) (drop-at ks k a lk (any_default ks k 0 a lk) i)) (map (Node t) (drop-at ls k b ll (any_default ls k 0 b ll) i))))
    ∙ more_kept out (argument_path h (Node s a) (Node t b)) (kept h (map (Node s) (drop (k + 1) ks)) (map (Node t) (drop (k + 1) ls)))
    ∙ (λ i. option_map (λ rest. (out ++ sym ex i ∷ []) ++ rest) (kept h (map (Node s) (drop (k + 1) ks)) (map (Node t) (drop (k + 1) ls))))
    ∙ (λ i. option_map (λ rest. sym en i ++ rest) (kept h (map (Node s) (drop (k + 1) ks)) (map (Node t) (drop (k + 1) ls))))

pub onto_push : (h : Path) (out new : List Branch) (b : Branch) → new ≡ out ++ b ∷ [] → map (onto h) new ≡ map (onto h) out ++ onto h b ∷ []
onto_push h out new b e = ap (map (onto h)) e ∙ map-append (onto h) out (b ∷ [])

pub argument_end : (h : Path) (s t : ℕ) (ks ls : List ℕ) (k : ℕ) (out : List Path) → AtArgument h s t ks ls k out → length ks ≤ k → length ks ≡ length ls → Some out ≡ kept h (map (Node s) ks) (map (Node t) ls)
argument_end h s t ks ls k out at lk same =
    let ll : length ls ≤ k = omega (arith, lk, same) in
    sym (at ∙ (λ i. option_map (λ rest. out ++ rest) (kept h (map (Node s) (drop_all k ks lk i)) (map (Node t) (drop_all k ls ll i)))) ∙ ap Some (append-nil out))

pub no_arguments : (h : Path) (s t : ℕ) (ks ls : List ℕ) → (length ks ≡ length ls → ⊥) → None ≡ kept h (map (Node s) ks) (map (Node t) ls)
no_arguments h s t [] [] n = absurd (n refl)
no_arguments h s t [] (l ∷ ls) n = refl
no_arguments h s t (k ∷ ks) [] n = refl
no_arguments h s t (k ∷ ks) (l ∷ ls) n = ap (option_map (λ rest. argument_path h (Node s k) (Node t l) ∷ rest)) (no_arguments h s t ks ls (λ e. n (omega (arith, e))))

pub ruleset kept_steps = (argument_start, argument_end)

-- two arguments each
pub two_swapped : (h : Path) (s t : ℕ) (ks ls : List ℕ) (x y : Path) → length ks ≡ 2 → length ls ≡ 2 → x ≡ argument_path h (Node s (get_or ks 0 0)) (Node t (get_or ls 1 0)) → y ≡ argument_path h (Node s (get_or ks 1 0)) (Node t (get_or ls 0 0))
    → Some (x ∷ y ∷ []) ≡ swapped h (map (Node s) ks) (map (Node t) ls)
two_swapped h s t (k ∷ k' ∷ []) (l ∷ l' ∷ []) x y a b ex ey = λ i. Some (ex i ∷ ey i ∷ [])
two_swapped h s t [] ls x y a b ex ey = absurd (omega (arith, a))
two_swapped h s t (k ∷ []) ls x y a b ex ey = absurd (omega (arith, a))
two_swapped h s t (k ∷ k' ∷ k'' ∷ ks) ls x y a b ex ey = absurd (omega (arith, a))
two_swapped h s t (k ∷ k' ∷ []) [] x y a b ex ey = absurd (omega (arith, b))
two_swapped h s t (k ∷ k' ∷ []) (l ∷ []) x y a b ex ey = absurd (omega (arith, b))
two_swapped h s t (k ∷ k' ∷ []) (l ∷ l' ∷ l'' ∷ ls) x y a b ex ey = absurd (omega (arith, b))

pub not_two_left : (h : Path) (s t : ℕ) (ks ls : List ℕ) → (length ks ≡ 2 → ⊥) → None ≡ swapped h (map (Node s) ks) (map (Node t) ls)
not_two_left h s t [] ls n = refl
not_two_left h s t (k ∷ []) ls n = refl
not_two_left h s t (k ∷ k' ∷ []) ls n = absurd (n refl)
not_two_left h s t (k ∷ k' ∷ k'' ∷ ks) ls n = refl

pub not_two_right : (h : Path) (s t : ℕ) (ks ls : List ℕ) → (length ls ≡ 2 → ⊥) → None ≡ swapped h (map (Node s) ks) (map (Node t) ls)
not_two_right h s t [] ls n = refl
not_two_right h s t (k ∷ []) ls n = refl
not_two_right h s t (k ∷ k' ∷ k'' ∷ ks) ls n = refl
not_two_right h s t (k ∷ k' ∷ []) [] n = refl
not_two_right h s t (k ∷ k' ∷ []) (l ∷ []) n = refl
not_two_right h s t (k ∷ k' ∷ []) (l ∷ l' ∷ []) n = absurd (n refl)
not_two_right h s t (k ∷ k' ∷ []) (l ∷ l' ∷ l'' ∷ ls) n = refl

pub ruleset swapped_steps = (two_swapped, not_two_left, not_two_right)

-- nothing is added to the rows of a path by a step of two calls
pub extended_none : (c : Conj) → extended c 0 [] ≡ c
extended_none c = let e : c.columns + 0 ≡ c.columns = omega arith in λ i. record { columns = e i; rows = append-nil c.rows i }

pub argument_added : (h : Path) (P Q : Position) (rows : List Row) → rows ≡ [] → record { conj = extended h.conj 0 rows; left = record { position = P; first = h.left.first; width = h.left.width }; right = record { position = Q; first = h.right.first; width = h.right.width }; gone = true; last = None } ≡ argument_path h P Q
argument_added h P Q rows e =
    ap (λ (c : Conj). record { conj = c; left = record { position = P; first = h.left.first; width = h.left.width }; right = record { position = Q; first = h.right.first; width = h.right.width }; gone = true; last = None }) (ap (extended h.conj 0) e ∙ extended_none h.conj)

pub ruleset argument_steps = argument_added

-- nor by that to the initial contents
pub initial_made : (h : Path) (side : Side) (reader : Seat) (position : Position) (rows : List Row) (b : Path) → reader ≡ seat_of h side → position ≡ initial_of reader.position → rows ≡ []
    → b ≡ gone_to h side (extended h.conj 0 rows) (record { position = position; first = reader.first; width = reader.width }) (Some (record { side = side; reader = reader; source = None })) → b ≡ initial_path h side
initial_made h side reader position rows b r p e n =
    let seat : Position → Seat = λ q. record { position = q; first = reader.first; width = reader.width } in
    let last : Option Assumed = Some (record { side = side; reader = reader; source = None }) in
    let by_reader : Seat → Path = λ x. gone_to h side h.conj (record { position = initial_of x.position; first = x.first; width = x.width }) (Some (record { side = side; reader = x; source = None })) in
    n ∙ ap (λ (c : Conj). gone_to h side c (seat position) last) (ap (extended h.conj 0) e ∙ extended_none h.conj) ∙ ap (λ q. gone_to h side h.conj (seat q) last) p ∙ ap by_reader r
