-- The numbers of a writing name an assignment of the array, a piece of it and a level before the reader.
use Rattle.std.proofs.Common.{◌≡◌, ◌⊎◌, inl, inr, ℕ, zero, suc, ◌+◌, ◌<◌, nat_eq, List, [], ◌∷◌, map, length, Bool, true, false, cond, Some, arith, refl, sym, subst}
use Rattle.std.specs.Prelude.{slice_get}
use Rattle.std.specs.List.{flat_map, range_with_len}
use borrow.Author.Tests.{eqb-true}
use Rattle.ac_forms.specs.declared.row.Row.{Row}
use Rattle.ac_syntax.specs.declared.tree.Position.{Position}
use Rattle.ac_poly.specs.declared.types.Model.{Model}
use Rattle.ac_poly.specs.declared.types.StmtModel.{StmtModel}
use Rattle.ac_forms.specs.ListMembers.{IsAmong}
use Rattle.ac_claims_paths.specs.ModelPositions.{levels_to}
use Rattle.ac_claims_paths.specs.declared.path.CopyNumbers.{CopyNumbers}
use Rattle.ac_claims_paths.specs.declared.path.Seat.{Seat}
use Rattle.ac_claims_paths.proofs.InBranches.{in_either}
use Rattle.ac_flow.specs.Writings.{numbers_to, afters, writing, writings_of, writings_from, writings}
use Rattle.std.specs.Prelude.{Option}

-- ---- lists

pub of-map : {A B : Type 0} (f : A → B) (y : B) (xs : List A) → IsAmong y (map f xs) → (x : A) × IsAmong x xs × (y ≡ f x)
of-map f y [] h = absurd h
of-map f y (x ∷ xs) (inl e) = (x, inl refl, e)
of-map f y (x ∷ xs) (inr h) = let r = of-map f y xs h in (r.0, inr r.1, r.2)

of-flat-map : {A B : Type 0} (f : A → List B) (y : B) (xs : List A) → IsAmong y (flat_map f xs) → (x : A) × IsAmong x xs × IsAmong y (f x)
of-flat-map f y [] h = absurd h
of-flat-map {A} {B} f y (x ∷ xs) h = by (in_either y (f x) (flat_map f xs) h) (λ i. of-flat-map f y xs i)
  where
    by : IsAmong y (f x) ⊎ IsAmong y (flat_map f xs) → (IsAmong y (flat_map f xs) → (z : A) × IsAmong z xs × IsAmong y (f z)) → (z : A) × IsAmong z (x ∷ xs) × IsAmong y (f z)
    by (inl i) next = (x, inl refl, i)
    by (inr i) next = let r = next i in (r.0, inr r.1, r.2)

in-range : (first count k : ℕ) → IsAmong k (range_with_len first count) → k < first + count
in-range first zero k h = absurd h
in-range first (suc count) k (inl e) = omega (arith, e)
in-range first (suc count) k (inr h) = omega (arith, in-range (first + 1) count k h)

get-at : {A : Type 0} (xs : List A) (k : ℕ) → k < length xs → (x : A) × (slice_get xs k ≡ Some x)
get-at [] k l = absurd (omega arith)
get-at (x ∷ xs) zero l = (x, refl)
get-at (x ∷ xs) (suc k) l = get-at xs k (omega arith)

pub numbered : {A : Type 0} (xs : List A) (k : ℕ) → IsAmong k (numbers_to (length xs)) → (x : A) × (slice_get xs k ≡ Some x)
numbered xs k h = get-at xs k (omega (arith, in-range 0 (length xs) k h))

-- ---- writings

pub record IsNamed (m : Model) (reader : Position) (array : ℕ) (source : Option Seat) (w : CopyNumbers) : Type 0 where
  pub stmt : StmtModel
  pub is : slice_get m.stmts w.stmt ≡ Some stmt
  pub array_is : stmt.array ≡ array
  pub piece : List Row
  pub piece_is : slice_get stmt.pieces w.piece ≡ Some piece
  pub level : List Row
  pub level_is : slice_get (levels_to m w.stmt stmt reader) w.before ≡ Some level
  pub after : IsAmong w.after (afters m source w.stmt stmt)

named-of : (m : Model) (reader : Position) (array : ℕ) (source : Option Seat) (u : ℕ) (stmt : StmtModel) (w : CopyNumbers) → slice_get m.stmts u ≡ Some stmt → stmt.array ≡ array → IsAmong w (writings_of m reader source u stmt) → IsNamed m reader array source w
named-of m reader array source u stmt w is a h =
    let p = of-flat-map (λ piece. flat_map (λ before. map (writing u piece before) (afters m source u stmt)) (numbers_to (length (levels_to m u stmt reader)))) w (numbers_to (length stmt.pieces)) h in
    let l = of-flat-map (λ before. map (writing u p.0 before) (afters m source u stmt)) w (numbers_to (length (levels_to m u stmt reader))) p.2 in
    let f = of-map (writing u p.0 l.0) w (afters m source u stmt) l.2 in
    let piece = numbered stmt.pieces p.0 p.1 in
    let level = numbered (levels_to m u stmt reader) l.0 l.1 in
    subst (IsNamed m reader array source) (sym f.2) (record { stmt = stmt; is = is; array_is = a; piece = piece.0; piece_is = piece.1; level = level.0; level_is = level.1; after = f.1 })

named-from : (m : Model) (reader : Position) (array : ℕ) (source : Option Seat) (u : ℕ) (stmts : List StmtModel) (w : CopyNumbers) → ((j : ℕ) (stmt : StmtModel) → slice_get stmts j ≡ Some stmt → slice_get m.stmts (u + j) ≡ Some stmt) → IsAmong w (writings_from m reader array source u stmts) → IsNamed m reader array source w
named-from m reader array source u [] w f h = absurd h
named-from m reader array source u (stmt ∷ stmts) w f h =
    by (in_either w (cond (nat_eq stmt.array array) (writings_of m reader source u stmt) []) (writings_from m reader array source (suc u) stmts) h)
    (λ i. named-from m reader array source (suc u) stmts w (λ j q e. let z : u + suc j ≡ suc u + j = omega arith in subst (λ k. slice_get m.stmts k ≡ Some q) z (f (suc j) q e)) i)
  where
    one : (t : Bool) → nat_eq stmt.array array ≡ t → IsAmong w (cond t (writings_of m reader source u stmt) []) → IsNamed m reader array source w
    one true e i = let z : u + 0 ≡ u = omega arith in named-of m reader array source u stmt w (subst (λ k. slice_get m.stmts k ≡ Some stmt) z (f 0 stmt refl)) (eqb-true stmt.array array e) i
    one false e i = absurd i

    by : IsAmong w (cond (nat_eq stmt.array array) (writings_of m reader source u stmt) []) ⊎ IsAmong w (writings_from m reader array source (suc u) stmts) → (IsAmong w (writings_from m reader array source (suc u) stmts) → IsNamed m reader array source w) → IsNamed m reader array source w
    by (inl i) next = one (nat_eq stmt.array array) refl i
    by (inr i) next = next i

pub named : (m : Model) (reader : Position) (array : ℕ) (source : Option Seat) (w : CopyNumbers) → IsAmong w (writings m reader array source) → IsNamed m reader array source w
named m reader array source w h = named-from m reader array source 0 m.stmts w (λ j q e. let z : j ≡ 0 + j = omega arith in subst (λ i. slice_get m.stmts i ≡ Some q) z e) h
