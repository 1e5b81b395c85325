-- The items of forms, conditions and subscripts stand before bytes that stop.
use Rattle.std.specs.Prelude.{Bool, true, false, codes, if◌then◌else◌}
use Rattle.std.specs.List.{flat_map, join_by, AllByRecursion}
use Rattle.std.specs.Fmt.{decimal}
use Rattle.std.proofs.Common.{ℕ, suc, List, [], ◌∷◌, ◌++◌, refl, sym, ◌∙◌, ap, subst, arith, append_assoc, ℤ, pos, negsuc}
use Rattle.std.proofs.lemmas.List.{append-nil}
use Rattle.ac_syntax.specs.Text.{Scope, is_other_than_zero}
use Rattle.ac_syntax.specs.declared.tree.Quot.{Quot}
use Rattle.ac_syntax.specs.declared.tree.IndexExpr.{IndexExpr}
use Rattle.ac_syntax.specs.declared.tree.Rel.{Rel}
use Rattle.ac_syntax.specs.declared.tree.Rel.TheVariants.{NonNegative, Zero, Divides}
use Rattle.ac_syntax.specs.declared.tree.Comparison.{Comparison}
use Rattle.ac_syntax.specs.declared.tree.Cond.{Cond}
use Rattle.ac_lex.specs.Bytes.{is_gap}
use Rattle.ac_parse_roundtrip.specs.Items.{Item, spelled, space, mark, word, number, signed, term, terms, constant_term, plus, sum, argument, quot, quot_term, quot_terms, form, is_zero, tested, in_parentheses, comparison, cond, subscript, subscripts}
use Rattle.ac_parse_roundtrip.specs.ProgramWords.{IsWord, Fits64, IsWritableQuot, IsWritable, IsWritableRel, IsWritablePart, AreWritable, AreComparisons, IsDeclared}
use Rattle.ac_parse_roundtrip.proofs.ItemSpelling.{spelled_append}
use Rattle.ac_parse_roundtrip.proofs.Pieces.{Stops, IsQuiet}
use Rattle.ac_parse_roundtrip.proofs.Apart.{AllStand, stand_append}
use Rattle.ac_parse_roundtrip.proofs.TokenItems.{word_stands, word_quiet, number_stands, number_quiet, space_stands, mark_stands, comma_stands, round_opens, round_closes, fixed_word, square_opens, square_closes, at_least_stands, equals_stands, also_stands}

-- items that stand before bytes that stop
abbrev pub Stand : List Item → Type 0
Stand items = (rest : List ℕ) → Stops rest → AllStand is_gap items rest

-- items of which the first byte stops what stands before it
abbrev pub Begins : List Item → Type 0
Begins items = (rest : List ℕ) → Stops (spelled items ++ rest)

-- ---- many after one another

module _ {X : Type 0} (P : X → Type 0) (f : X → List Item) (begins : (x : X) → Begins (f x)) (each : (x : X) → P x → Stand (f x)) where
  pub each_stops : (xs : List X) (rest : List ℕ) → Stops rest → Stops (spelled (flat_map f xs) ++ rest)
  each_stops [] rest stops = stops
  each_stops (x ∷ xs) rest stops =
      subst Stops (sym (ap (λ l. l ++ rest) (spelled_append (f x) (flat_map f xs)) ∙ append_assoc (spelled (f x)) (spelled (flat_map f xs)) rest)) (begins x (spelled (flat_map f xs) ++ rest))

  pub each_stand : (xs : List X) → AllByRecursion P xs → Stand (flat_map f xs)
  each_stand [] all rest stops = tt
  each_stand (x ∷ xs) all rest stops =
      stand_append is_gap (f x) (flat_map f xs) rest (each x all.0 (spelled (flat_map f xs) ++ rest) (each_stops xs rest stops)) (each_stand xs all.1 rest stops)

module _ {X : Type 0} (P : X → Type 0) (f : X → List Item) (separator : List Item) (begins : Begins separator) (between : (rest : List ℕ) → AllStand is_gap separator rest)
    (each : (x : X) → P x → Stand (f x)) where
  separated_begins : (x : X) → Begins (separator ++ f x)
  separated_begins x rest = subst Stops (sym (ap (λ l. l ++ rest) (spelled_append separator (f x)) ∙ append_assoc (spelled separator) (spelled (f x)) rest)) (begins (spelled (f x) ++ rest))

  separated_stand : (x : X) → P x → Stand (separator ++ f x)
  separated_stand x is rest stops = stand_append is_gap separator (f x) rest (between (spelled (f x) ++ rest)) (each x is rest stops)

  pub joined_stand : (xs : List X) → AllByRecursion P xs → Stand (join_by f separator xs)
  joined_stand [] all rest stops = tt
  joined_stand (x ∷ xs) all rest stops =
      stand_append is_gap (f x) (flat_map (λ y. separator ++ f y) xs) rest
      (each x all.0 (spelled (flat_map (λ y. separator ++ f y) xs) ++ rest) (each_stops P (λ y. separator ++ f y) separated_begins separated_stand xs rest stops))
      (each_stand P (λ y. separator ++ f y) separated_begins separated_stand xs all.1 rest stops)

pub every_append : {X : Type 0} (P : X → Type 0) (xs ys : List X) → AllByRecursion P xs → AllByRecursion P ys → AllByRecursion P (xs ++ ys)
every_append P [] ys first second = second
every_append P (x ∷ xs) ys first second = (first.0, every_append P xs ys first.1 second)

-- ---- forms

-- the names of a scope are words
pub record HasScopeWords (scope : Scope) : Type 0 where
  pub params : AllByRecursion IsWord scope.params
  pub iters : AllByRecursion IsWord scope.iters
  pub arrays : AllByRecursion IsDeclared scope.arrays

signed_stands : (c : ℤ) → Fits64 c → Stand (signed c)
signed_stands (pos n) fits rest stops = (number_stands n rest fits stops, tt)
signed_stands (negsuc n) fits rest stops =
    (mark_stands 45 ((decimal (suc n) ++ []) ++ rest) refl (number_quiet (suc n) rest fits), (number_stands (suc n) rest fits stops, tt))

term_stands : (c : ℤ) (name : List ℕ) → Fits64 c → IsWord name → AllByRecursion Stand (term c name)
term_stands c name fits is = by_test (is_other_than_zero c)
  where
    one : Stand (signed c ++ mark (codes "*") ∷ word name ∷ [])
    one rest stops =
        stand_append is_gap (signed c) (mark (codes "*") ∷ word name ∷ []) rest (signed_stands c fits (42 ∷ ((name ++ []) ++ rest)) refl)
        (mark_stands 42 ((name ++ []) ++ rest) refl (subst (λ l. IsQuiet (l ++ rest)) (sym (append-nil name)) (word_quiet rest is.is)), (word_stands name rest is stops, tt))

    by_test : (t : Bool) → AllByRecursion Stand (if t then (signed c ++ mark (codes "*") ∷ word name ∷ []) ∷ [] else [])
    by_test true = (one, tt)
    by_test false = tt

terms_stand : (cs : List ℤ) (names : List (List ℕ)) → AllByRecursion Fits64 cs → AllByRecursion IsWord names → AllByRecursion Stand (terms cs names)
terms_stand [] names fit are = tt
terms_stand (c ∷ cs) [] fit are = tt
terms_stand (c ∷ cs) (name ∷ names) fit are = every_append Stand (term c name) (terms cs names) (term_stands c name fit.0 are.0) (terms_stand cs names fit.1 are.1)

constant_stand : (c : ℤ) → Fits64 c → AllByRecursion Stand (constant_term c)
constant_stand c fits = by_test (is_other_than_zero c)
  where
    by_test : (t : Bool) → AllByRecursion Stand (if t then signed c ∷ [] else [])
    by_test true = (signed_stands c fits, tt)
    by_test false = tt

plus_stands : (rest : List ℕ) → AllStand is_gap plus rest
plus_stands rest = (space_stands, (mark_stands 43 (32 ∷ rest) refl refl, (space_stands, tt)))

sum_stands : (ts : List (List Item)) → AllByRecursion Stand ts → Stand (sum ts)
sum_stands [] all rest stops = (number_stands 0 rest (omega arith) stops, tt)
sum_stands (t ∷ ts) all rest stops = joined_stand Stand (λ part. part) plus (λ rest. refl) plus_stands (λ part is. is) (t ∷ ts) all rest stops

argument_stands : (scope : Scope) (q : Quot) → HasScopeWords scope → IsWritableQuot q → Stand (argument scope q)
argument_stands scope q words is =
    sum_stands (terms q.params scope.params ++ terms q.iters scope.iters ++ constant_term q.konst)
    (every_append Stand (terms q.params scope.params ++ terms q.iters scope.iters) (constant_term q.konst)
    (every_append Stand (terms q.params scope.params) (terms q.iters scope.iters) (terms_stand q.params scope.params is.params words.params) (terms_stand q.iters scope.iters is.iters words.iters))
    (constant_stand q.konst is.constant))

quot_stands : (scope : Scope) (q : Quot) → HasScopeWords scope → IsWritableQuot q → Stand (quot scope q)
quot_stands scope q words is rest stops =
    let after = mark (codes ",") ∷ space ∷ signed q.div ++ mark (codes ")") ∷ [] in (
      word_stands (codes "floord") _ (fixed_word (codes "floord") refl) refl,
      (
        round_opens _,
        stand_append is_gap (argument scope q) after rest (argument_stands scope q words is (spelled after ++ rest) refl)
            (comma_stands _, (space_stands, stand_append is_gap (signed q.div) (mark (codes ")") ∷ []) rest (signed_stands q.div is.div (41 ∷ rest) refl) (round_closes rest, tt))),
      ),
    )

quot_term_stands : (scope : Scope) (q : Quot) → HasScopeWords scope → IsWritableQuot q → AllByRecursion Stand (quot_term scope q)
quot_term_stands scope q words is = by_test (is_other_than_zero q.coef)
  where
    one : Stand (signed q.coef ++ mark (codes "*") ∷ quot scope q)
    one rest stops =
        stand_append is_gap (signed q.coef) (mark (codes "*") ∷ quot scope q) rest (signed_stands q.coef is.coef (42 ∷ (spelled (quot scope q) ++ rest)) refl)
        (mark_stands 42 (spelled (quot scope q) ++ rest) refl refl, quot_stands scope q words is rest stops)

    by_test : (t : Bool) → AllByRecursion Stand (if t then (signed q.coef ++ mark (codes "*") ∷ quot scope q) ∷ [] else [])
    by_test true = (one, tt)
    by_test false = tt

quots_stand : (scope : Scope) (qs : List Quot) → HasScopeWords scope → AllByRecursion IsWritableQuot qs → AllByRecursion Stand (quot_terms scope qs)
quots_stand scope [] words are = tt
quots_stand scope (q ∷ qs) words are = every_append Stand (quot_term scope q) (quot_terms scope qs) (quot_term_stands scope q words are.0) (quots_stand scope qs words are.1)

pub form_stands : (scope : Scope) (e : IndexExpr) → HasScopeWords scope → IsWritable e → Stand (form scope e)
form_stands scope e words is =
    let ps = terms e.params scope.params in
    let xs = terms e.iters scope.iters in
    let qs = quot_terms scope e.quots in
    sum_stands (ps ++ xs ++ qs ++ constant_term e.konst)
    (every_append Stand (ps ++ xs ++ qs) (constant_term e.konst)
    (every_append Stand (ps ++ xs) qs (every_append Stand ps xs (terms_stand e.params scope.params is.params words.params) (terms_stand e.iters scope.iters is.iters words.iters)) (quots_stand scope e.quots words is.quots))
    (constant_stand e.konst is.constant))

-- ---- conditions

zero_stands : (rest : List ℕ) → Stops rest → AllStand is_gap is_zero rest
zero_stands rest stops = (space_stands, (equals_stands _, (space_stands, (number_stands 0 rest (omega arith) stops, tt))))

comparison_stands : (scope : Scope) → HasScopeWords scope → (c : Comparison) → IsWritablePart c → Stand (comparison scope c)
comparison_stands scope words c is = by_rel c.rel is.rel
  where
    items : List Item
    items = form scope c.form

    stands : Stand items
    stands = form_stands scope c.form words is.form

    by_rel : (r : Rel) → IsWritableRel r → Stand (tested r items)
    by_rel NonNegative fits rest stops =
        let after = space ∷ mark (codes ">=") ∷ space ∷ number 0 ∷ [] in
        stand_append is_gap items after rest (stands (spelled after ++ rest) refl) (space_stands, (at_least_stands _, (space_stands, (number_stands 0 rest (omega arith) stops, tt))))
    by_rel Zero fits rest stops = stand_append is_gap items is_zero rest (stands (spelled is_zero ++ rest) refl) (zero_stands rest stops)
    by_rel (Divides m) fits rest stops =
        let after = space ∷ mark (codes "%") ∷ space ∷ signed m ++ is_zero in
        let behind = spelled after ++ rest in
        stand_append is_gap (in_parentheses items) after rest (round_opens _, stand_append is_gap items (mark (codes ")") ∷ []) behind (stands (41 ∷ behind) refl) (round_closes behind, tt))
        (space_stands, (mark_stands 37 _ refl refl, (space_stands, stand_append is_gap (signed m) is_zero rest (signed_stands m fits (spelled is_zero ++ rest) refl) (zero_stands rest stops))))

also : (rest : List ℕ) → AllStand is_gap (space ∷ mark (codes "&&") ∷ space ∷ []) rest
also rest = (space_stands, (also_stands _, (space_stands, tt)))

pub cond_stands : (scope : Scope) (c : Cond) → HasScopeWords scope → AreComparisons c.parts → Stand (cond scope c)
cond_stands scope c words are =
    joined_stand IsWritablePart (comparison scope) (space ∷ mark (codes "&&") ∷ space ∷ []) (λ rest. refl) also (comparison_stands scope words) c.parts are

-- ---- subscripts

subscript_stands : (scope : Scope) → HasScopeWords scope → (e : IndexExpr) → IsWritable e → Stand (subscript scope e)
subscript_stands scope words e is rest stops =
    (square_opens _, stand_append is_gap (form scope e) (mark (codes "]") ∷ []) rest (form_stands scope e words is (93 ∷ rest) refl) (square_closes rest, tt))

module _ (scope : Scope) (words : HasScopeWords scope) (subs : List IndexExpr) where
  pub subscripts_stop : (rest : List ℕ) → Stops rest → Stops (spelled (subscripts scope subs) ++ rest)
  subscripts_stop rest stops = each_stops IsWritable (subscript scope) (λ e rest. refl) (subscript_stands scope words) subs rest stops

  pub subscripts_stand : AreWritable subs → Stand (subscripts scope subs)
  subscripts_stand are = each_stand IsWritable (subscript scope) (λ e rest. refl) (subscript_stands scope words) subs are
