-- What the loops over writings keep.
use Rattle.std.proofs.Common.{◌≡◌, ◌≢◌, ℕ, suc, ◌+◌, ◌<◌, ◌≤◌, List, [], ◌∷◌, ◌++◌, map, take, length, get_or, Bool, true, false, cond, Option, Some, refl, sym, ap, ◌∙◌, arith, append_assoc, append-nil, subst}
use Rattle.std.specs.Prelude.{nat_eq}
use Rattle.std.specs.List.{flat_map}
use Rattle.std.proofs.lemmas.Bool.Decides.{Decides-eqb}
use Rattle.std.proofs.lemmas.List.{map-append, take_more, take_all}
use Rattle.std.proofs.lemmas.Grind.{flat_map-append}
use Rattle.std.proofs.lemmas.List.Concat.{flat_map-cons}
use Rattle.ac_poly.specs.declared.types.Model.{Model}
use Rattle.ac_poly.specs.declared.types.StmtModel.{StmtModel}
use Rattle.ac_forms.specs.declared.row.Row.{Row}
use Rattle.ac_syntax.specs.declared.tree.Position.{Position}
use Rattle.ac_claims_paths.specs.ModelPositions.{levels_to}
use Rattle.ac_claims_paths.specs.declared.path.CopyNumbers.{CopyNumbers}
use Rattle.ac_claims_paths.specs.declared.path.Seat.{Seat}
use Rattle.ac_forms.proofs.Ranges.{range_more}
use Rattle.ac_flow.specs.Writings.{numbers_to, afters, writing, writings_of, writings_at, writings_from}

numbers_more : (k : ℕ) → numbers_to (k + 1) ≡ numbers_to k ++ k ∷ []
numbers_more k = let z : 0 + k ≡ k = omega arith in range_more 0 k ∙ ap (λ j. numbers_to k ++ j ∷ []) z

-- ---- numbered

pub record Numbered (k : ℕ) (list : List (Option ℕ)) : Type 0 where
  pub value : list ≡ map Some (numbers_to k)

pub numbered_start : (list : List (Option ℕ)) → list ≡ [] → Numbered 0 list
numbered_start list e = record { value = e }

pub numbered_next : (k : ℕ) (list new : List (Option ℕ)) → Numbered k list → new ≡ list ++ Some k ∷ [] → Numbered (k + 1) new
numbered_next k list new h n = record {
  value = n ∙ ap (λ l. l ++ Some k ∷ []) h.value ∙ sym (map-append Some (numbers_to k) (k ∷ [])) ∙ ap (map Some) (sym (numbers_more k));
}

pub numbered_end : (k count : ℕ) (list : List (Option ℕ)) → Numbered k list → k ≡ count → list ≡ map Some (numbers_to count)
numbered_end k count list h e = h.value ∙ ap (λ j. map Some (numbers_to j)) e

pub ruleset number_steps = (numbered_start, numbered_next, numbered_end)

-- ---- one for each of a list

pub record Mapped (f : Option ℕ → CopyNumbers) (xs : List (Option ℕ)) (old : List CopyNumbers) (i : ℕ) (out : List CopyNumbers) : Type 0 where
  pub value : out ≡ old ++ map f (take i xs)

pub mapped_start : (f : Option ℕ → CopyNumbers) (xs : List (Option ℕ)) (old : List CopyNumbers) → Mapped f xs old 0 old
mapped_start f xs old = record { value = sym (append-nil old) }

pub mapped_next : (f : Option ℕ → CopyNumbers) (xs : List (Option ℕ)) (old out new : List CopyNumbers) (i : ℕ) (x : Option ℕ) → Mapped f xs old i out → i < length xs → x ≡ get_or xs i x → new ≡ out ++ f x ∷ [] → Mapped f xs old (i + 1) new
mapped_next f xs old out new i x h l e n = record {
  value = n ∙ ap (λ z. z ++ f x ∷ []) h.value ∙ append_assoc old (map f (take i xs)) (f x ∷ []) ∙ ap (λ z. old ++ z) (sym (map-append f (take i xs) (x ∷ []))) ∙ ap (λ z. old ++ map f z) (sym (rw e (take_more xs i x l)));
}

pub mapped_end : (f : Option ℕ → CopyNumbers) (xs : List (Option ℕ)) (old out : List CopyNumbers) (i : ℕ) → Mapped f xs old i out → length xs ≤ i → out ≡ old ++ map f xs
mapped_end f xs old out i h l = h.value ∙ ap (λ z. old ++ map f z) (take_all i xs l)

pub ruleset after_steps = (mapped_start, mapped_next, mapped_end)

-- ---- several for each number

pub record Flat (f : ℕ → List CopyNumbers) (old : List CopyNumbers) (k : ℕ) (out : List CopyNumbers) : Type 0 where
  pub value : out ≡ old ++ flat_map f (numbers_to k)

pub flat_start : (f : ℕ → List CopyNumbers) (old : List CopyNumbers) → Flat f old 0 old
flat_start f old = record { value = sym (append-nil old) }

one : (f : ℕ → List CopyNumbers) (k : ℕ) → flat_map f (k ∷ []) ≡ f k
one f k = flat_map-cons f k [] ∙ append-nil (f k)

pub flat_next : (f : ℕ → List CopyNumbers) (old out new : List CopyNumbers) (k : ℕ) → Flat f old k out → new ≡ out ++ f k → Flat f old (k + 1) new
flat_next f old out new k h n = record {
  value = n ∙ ap (λ z. z ++ f k) h.value ∙ append_assoc old (flat_map f (numbers_to k)) (f k) ∙ ap (λ z. old ++ (flat_map f (numbers_to k) ++ z)) (sym (one f k))
      ∙ ap (λ z. old ++ z) (sym (flat_map-append f (numbers_to k) (k ∷ []))) ∙ ap (λ z. old ++ flat_map f z) (sym (numbers_more k));
}

pub flat_end : (f : ℕ → List CopyNumbers) (old out : List CopyNumbers) (k count : ℕ) → Flat f old k out → k ≡ count → out ≡ old ++ flat_map f (numbers_to count)
flat_end f old out k count h e = h.value ∙ ap (λ j. old ++ flat_map f (numbers_to j)) e

pub ruleset flat_steps = (flat_start, flat_next, flat_end)

-- ---- an assignment

pub other_array : (m : Model) (reader : Position) (array : ℕ) (source : Option Seat) (u : ℕ) (stmt : StmtModel) (old new : List CopyNumbers) → stmt.array ≢ array → new ≡ old → new ≡ old ++ writings_at m reader array source u stmt
other_array m reader array source u stmt old new n e = by (nat_eq stmt.array array) refl
  where
    by : (b : Bool) → nat_eq stmt.array array ≡ b → new ≡ old ++ cond b (writings_of m reader source u stmt) []
    by true q = absurd (n ((Decides-eqb stmt.array array).0 q))
    by false q = e ∙ sym (append-nil old)

pub this_array : (m : Model) (reader : Position) (array : ℕ) (source : Option Seat) (u : ℕ) (stmt : StmtModel) (levels : List (List Row)) (all : List (Option ℕ)) (old new : List CopyNumbers) → stmt.array ≡ array → levels ≡ levels_to m u stmt reader → all ≡ afters m source u stmt
    → new ≡ old ++ flat_map (λ piece. flat_map (λ before. map (writing u piece before) all) (numbers_to (length levels))) (numbers_to (length stmt.pieces)) → new ≡ old ++ writings_at m reader array source u stmt
this_array m reader array source u stmt levels all old new a l s e =
    let q : nat_eq stmt.array array ≡ true = (Decides-eqb stmt.array array).1 a in
    let here : new ≡ old ++ writings_of m reader source u stmt = e ∙ (λ j. old ++ flat_map (λ piece. flat_map (λ before. map (writing u piece before) (s j)) (numbers_to (length (l j)))) (numbers_to (length stmt.pieces))) in
    subst (λ b. new ≡ old ++ cond b (writings_of m reader source u stmt) []) (sym q) here

pub ruleset stmt_steps = (other_array, this_array)

-- ---- all assignments

pub record AtStmt (m : Model) (reader : Position) (array : ℕ) (source : Option Seat) (stmts : List StmtModel) (i : ℕ) (out : List CopyNumbers) : Type 0 where
  pub value : out ≡ writings_from m reader array source 0 (take i stmts)

pub all_start : (m : Model) (reader : Position) (array : ℕ) (source : Option Seat) (stmts : List StmtModel) (out : List CopyNumbers) → out ≡ [] → AtStmt m reader array source stmts 0 out
all_start m reader array source stmts out e = record { value = e }

from_snoc : (m : Model) (reader : Position) (array : ℕ) (source : Option Seat) (first : ℕ) (xs : List StmtModel) (x : StmtModel) → writings_from m reader array source first (xs ++ x ∷ []) ≡ writings_from m reader array source first xs ++ writings_at m reader array source (first + length xs) x
from_snoc m reader array source first [] x = let e : first ≡ first + 0 = omega arith in append-nil (writings_at m reader array source first x) ∙ ap (λ u. writings_at m reader array source u x) e
from_snoc m reader array source first (y ∷ ys) x =
    let e : suc first + length ys ≡ first + suc (length ys) = omega arith in
    ap (λ z. writings_at m reader array source first y ++ z) (from_snoc m reader array source (suc first) ys x ∙ ap (λ u. writings_from m reader array source (suc first) ys ++ writings_at m reader array source u x) e)
    ∙ sym (append_assoc (writings_at m reader array source first y) (writings_from m reader array source (suc first) ys) (writings_at m reader array source (first + suc (length ys)) x))

taken : (xs : List StmtModel) (i : ℕ) → i < length xs → length (take i xs) ≡ i
taken xs i l = Rattle.std.proofs.lemmas.List.length-take-le i xs (omega (arith, l))

pub all_next : (m : Model) (reader : Position) (array : ℕ) (source : Option Seat) (stmts : List StmtModel) (out new : List CopyNumbers) (i : ℕ) (stmt : StmtModel) → AtStmt m reader array source stmts i out → i < length stmts → stmt ≡ get_or stmts i stmt
    → new ≡ out ++ writings_at m reader array source i stmt → AtStmt m reader array source stmts (i + 1) new
all_next m reader array source stmts out new i stmt h l e n = record {
  value = n ∙ ap (λ z. z ++ writings_at m reader array source i stmt) h.value
      ∙ ap (λ u. writings_from m reader array source 0 (take i stmts) ++ writings_at m reader array source u stmt) (let k : i ≡ 0 + length (take i stmts) = omega (arith, taken stmts i l) in k)
      ∙ sym (from_snoc m reader array source 0 (take i stmts) stmt) ∙ ap (writings_from m reader array source 0) (sym (rw e (take_more stmts i stmt l)));
}

pub all_end : (m : Model) (reader : Position) (array : ℕ) (source : Option Seat) (stmts : List StmtModel) (out : List CopyNumbers) (i : ℕ) → AtStmt m reader array source stmts i out → length stmts ≤ i → out ≡ writings_from m reader array source 0 stmts
all_end m reader array source stmts out i h l = h.value ∙ ap (writings_from m reader array source 0) (take_all i stmts l)

pub ruleset all_steps = (all_start, all_next, all_end)
