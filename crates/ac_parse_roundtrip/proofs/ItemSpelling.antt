-- What the items of each part of a program spell.
use Rattle.std.specs.Prelude.{Bool, true, false, codes, if◌then◌else◌}
use Rattle.std.specs.List.{flat_map, join_by}
use Rattle.std.specs.Fmt.{decimal, signed_decimal}
use Rattle.std.proofs.Common.{◌≡◌, ℕ, suc, List, [], ◌∷◌, ◌++◌, map, refl, sym, ◌∙◌, ap, append_assoc, arith, ℤ, pos, negsuc}
use Rattle.std.proofs.lemmas.Grind.{flat_map-append}
use Rattle.std.proofs.lemmas.Fmt.{decimal_digit}
use Rattle.std.proofs.lemmas.List.{append-nil, map-append}
use Rattle.ac_syntax.specs.Text.{Scope, inside, whole_scope, deeper, array_name, name_or_none, is_other_than_zero, is_operator, is_decimal}
use Rattle.ac_syntax.specs.Text as text
use Rattle.ac_syntax.specs.declared.tree.Quot.{Quot}
use Rattle.ac_syntax.specs.declared.tree.IndexExpr.{IndexExpr}
use Rattle.ac_syntax.specs.declared.tree.Rel.{Rel}
use Rattle.ac_syntax.specs.declared.tree.Rel.TheVariants.{NonNegative, Zero, Divides}
use Rattle.ac_syntax.specs.declared.tree.Comparison.{Comparison}
use Rattle.ac_syntax.specs.declared.tree.Cond.{Cond}
use Rattle.ac_parse_roundtrip.specs.Items.{Item, spelling, spelled, space, mark, word, number, enclosed, signed, term, terms, constant_term, plus, sum, argument, quot, quot_term, quot_terms, form, is_zero, tested, in_parentheses, comparison, cond, subscript, subscripts}

pub spelled_append : (xs ys : List Item) → spelled (xs ++ ys) ≡ spelled xs ++ spelled ys
spelled_append xs ys = flat_map-append spelling xs ys

spelled_separated : {X : Type 0} (f : X → List Item) (separator : List Item) (xs : List X)
    → spelled (flat_map (λ y. separator ++ f y) xs) ≡ flat_map (λ y. spelled separator ++ spelled (f y)) xs
spelled_separated f separator [] = refl
spelled_separated f separator (x ∷ xs) =
    spelled_append (separator ++ f x) (flat_map (λ y. separator ++ f y) xs) ∙ ap (λ l. l ++ spelled (flat_map (λ y. separator ++ f y) xs)) (spelled_append separator (f x))
    ∙ ap (λ l. (spelled separator ++ spelled (f x)) ++ l) (spelled_separated f separator xs)

pub spelled_joined : {X : Type 0} (f : X → List Item) (separator : List Item) (xs : List X)
    → spelled (join_by f separator xs) ≡ join_by (λ x. spelled (f x)) (spelled separator) xs
spelled_joined f separator [] = refl
spelled_joined f separator (x ∷ xs) =
    spelled_append (f x) (flat_map (λ y. separator ++ f y) xs) ∙ ap (λ l. spelled (f x) ++ l) (spelled_separated f separator xs)

pub spelled_each : {X : Type 0} (f : X → List Item) (xs : List X) → spelled (flat_map f xs) ≡ flat_map (λ x. spelled (f x)) xs
spelled_each f [] = refl
spelled_each f (x ∷ xs) = spelled_append (f x) (flat_map f xs) ∙ ap (λ l. spelled (f x) ++ l) (spelled_each f xs)

pub flat_map_same : {X : Type 0} (f g : X → List ℕ) → ((x : X) → f x ≡ g x) → (xs : List X) → flat_map f xs ≡ flat_map g xs
flat_map_same f g same [] = refl
flat_map_same f g same (x ∷ xs) = ap (λ l. l ++ flat_map f xs) (same x) ∙ ap (λ l. g x ++ l) (flat_map_same f g same xs)

pub join_same : {X : Type 0} (f g : X → List ℕ) (separator : List ℕ) → ((x : X) → f x ≡ g x) → (xs : List X) → join_by f separator xs ≡ join_by g separator xs
join_same f g separator same [] = refl
join_same f g separator same (x ∷ xs) =
    ap (λ l. l ++ flat_map (λ y. separator ++ f y) xs) (same x)
    ∙ ap (λ l. g x ++ l) (flat_map_same (λ y. separator ++ f y) (λ y. separator ++ g y) (λ y. ap (λ l. separator ++ l) (same y)) xs)

pub join_map : {X : Type 0} (f : X → List ℕ) (separator : List ℕ) (xs : List X) → text.joined separator (map f xs) ≡ join_by f separator xs
join_map f separator [] = refl
join_map f separator (x ∷ xs) = ap (λ l. f x ++ l) (flat xs)
  where
    flat : (xs : List _) → flat_map (λ y. separator ++ y) (map f xs) ≡ flat_map (λ y. separator ++ f y) xs
    flat [] = refl
    flat (x ∷ xs) = ap (λ l. (separator ++ f x) ++ l) (flat xs)

-- ---- forms and conditions

spelled_signed : (c : ℤ) → spelled (signed c) ≡ signed_decimal c
spelled_signed (pos n) = append-nil (decimal n)
spelled_signed (negsuc n) = ap (λ l. 45 ∷ l) (append-nil (decimal (suc n)))

spelled_term : (c : ℤ) (name : List ℕ) → map spelled (term c name) ≡ text.term c name
spelled_term c name = by_test (is_other_than_zero c)
  where
    one : spelled (signed c ++ mark (codes "*") ∷ word name ∷ []) ≡ signed_decimal c ++ codes "*" ++ name
    one = spelled_append (signed c) (mark (codes "*") ∷ word name ∷ []) ∙ ap (λ l. l ++ (42 ∷ (name ++ []))) (spelled_signed c) ∙ simp (append_assoc, append-nil)

    by_test : (t : Bool) → map spelled (if t then (signed c ++ mark (codes "*") ∷ word name ∷ []) ∷ [] else []) ≡ (if t then (signed_decimal c ++ codes "*" ++ name) ∷ [] else [])
    by_test true = ap (λ l. l ∷ []) one
    by_test false = refl

spelled_terms : (cs : List ℤ) (names : List (List ℕ)) → map spelled (terms cs names) ≡ text.terms cs names
spelled_terms [] names = refl
spelled_terms (c ∷ cs) [] = refl
spelled_terms (c ∷ cs) (name ∷ names) =
    map-append spelled (term c name) (terms cs names) ∙ ap (λ l. l ++ map spelled (terms cs names)) (spelled_term c name) ∙ ap (λ l. text.term c name ++ l) (spelled_terms cs names)

spelled_constant : (c : ℤ) → map spelled (constant_term c) ≡ text.constant_term c
spelled_constant c = by_test (is_other_than_zero c)
  where
    by_test : (t : Bool) → map spelled (if t then signed c ∷ [] else []) ≡ (if t then signed_decimal c ∷ [] else [])
    by_test true = ap (λ l. l ∷ []) (spelled_signed c)
    by_test false = refl

spelled_sum : (ts : List (List Item)) → spelled (sum ts) ≡ text.sum_text (map spelled ts)
spelled_sum [] = ap (λ l. l ++ []) (decimal_digit 0 (omega arith))
spelled_sum (t ∷ ts) = spelled_joined (λ part. part) plus (t ∷ ts) ∙ sym (join_map spelled (codes " + ") (t ∷ ts))

spelled_argument : (scope : Scope) (q : Quot) → spelled (argument scope q) ≡ text.argument_text scope q
spelled_argument scope q =
    spelled_sum (terms q.params scope.params ++ terms q.iters scope.iters ++ constant_term q.konst)
    ∙ ap text.sum_text (
    map-append spelled (terms q.params scope.params ++ terms q.iters scope.iters) (constant_term q.konst)
    ∙ ap (λ l. l ++ map spelled (constant_term q.konst)) (map-append spelled (terms q.params scope.params) (terms q.iters scope.iters))
    ∙ ap (λ l. l ++ map spelled (terms q.iters scope.iters) ++ map spelled (constant_term q.konst)) (spelled_terms q.params scope.params)
    ∙ ap (λ l. text.terms q.params scope.params ++ l ++ map spelled (constant_term q.konst)) (spelled_terms q.iters scope.iters)
    ∙ ap (λ l. text.terms q.params scope.params ++ text.terms q.iters scope.iters ++ l) (spelled_constant q.konst))

quot_shape : (form divisor : List ℕ) → codes "floord(" ++ (form ++ (codes ", " ++ (divisor ++ codes ")"))) ≡ codes "floord(" ++ form ++ codes ", " ++ divisor ++ codes ")"
quot_shape form divisor = simp append_assoc

spelled_quot : (scope : Scope) (q : Quot) → spelled (quot scope q) ≡ text.quot_text scope q
spelled_quot scope q =
    let after = mark (codes ",") ∷ space ∷ signed q.div ++ mark (codes ")") ∷ [] in
    let divisor : spelled after ≡ codes ", " ++ (signed_decimal q.div ++ codes ")") = ap (λ l. codes ", " ++ l) (spelled_append (signed q.div) (mark (codes ")") ∷ []) ∙ ap (λ l. l ++ codes ")") (spelled_signed q.div)) in
    ap (λ l. codes "floord(" ++ l) (spelled_append (argument scope q) after ∙ ap (λ l. l ++ spelled after) (spelled_argument scope q) ∙ ap (λ l. text.argument_text scope q ++ l) divisor)
    ∙ quot_shape (text.argument_text scope q) (signed_decimal q.div)

spelled_quot_term : (scope : Scope) (q : Quot) → map spelled (quot_term scope q) ≡ text.term q.coef (text.quot_text scope q)
spelled_quot_term scope q = by_test (is_other_than_zero q.coef)
  where
    one : spelled (signed q.coef ++ mark (codes "*") ∷ quot scope q) ≡ signed_decimal q.coef ++ codes "*" ++ text.quot_text scope q
    one =
        spelled_append (signed q.coef) (mark (codes "*") ∷ quot scope q) ∙ ap (λ l. l ++ (42 ∷ spelled (quot scope q))) (spelled_signed q.coef) ∙ ap (λ l. signed_decimal q.coef ++ (42 ∷ l)) (spelled_quot scope q)
        ∙ sym (append_assoc (signed_decimal q.coef) (codes "*") (text.quot_text scope q))

    by_test : (t : Bool) → map spelled (if t then (signed q.coef ++ mark (codes "*") ∷ quot scope q) ∷ [] else []) ≡ (if t then (signed_decimal q.coef ++ codes "*" ++ text.quot_text scope q) ∷ [] else [])
    by_test true = ap (λ l. l ∷ []) one
    by_test false = refl

spelled_quots : (scope : Scope) (qs : List Quot) → map spelled (quot_terms scope qs) ≡ text.quot_terms scope qs
spelled_quots scope [] = refl
spelled_quots scope (q ∷ qs) =
    map-append spelled (quot_term scope q) (quot_terms scope qs) ∙ ap (λ l. l ++ map spelled (quot_terms scope qs)) (spelled_quot_term scope q)
    ∙ ap (λ l. text.term q.coef (text.quot_text scope q) ++ l) (spelled_quots scope qs)

pub spelled_form : (scope : Scope) (e : IndexExpr) → spelled (form scope e) ≡ text.form_text scope e
spelled_form scope e =
    let ps = terms e.params scope.params in
    let xs = terms e.iters scope.iters in
    let qs = quot_terms scope e.quots in
    let k = constant_term e.konst in
    spelled_sum (ps ++ xs ++ qs ++ k)
    ∙ ap text.sum_text (
    map-append spelled (ps ++ xs ++ qs) k ∙ ap (λ l. l ++ map spelled k) (map-append spelled (ps ++ xs) qs) ∙ ap (λ l. l ++ map spelled qs ++ map spelled k) (map-append spelled ps xs)
    ∙ (λ i. spelled_terms e.params scope.params i ++ spelled_terms e.iters scope.iters i ++ spelled_quots scope e.quots i ++ spelled_constant e.konst i))

pub spelled_enclosed : (left : List ℕ) (items : List Item) (right : List ℕ) → spelled (enclosed left items right) ≡ left ++ spelled items ++ right
spelled_enclosed left items right =
    ap (λ l. left ++ l) (spelled_append items (mark right ∷ []) ∙ ap (λ l. spelled items ++ l) (append-nil right)) ∙ sym (append_assoc left (spelled items) right)

division_shape : (form divisor : List ℕ) → text.in_parentheses form ++ (codes " % " ++ (divisor ++ codes " == 0")) ≡ text.in_parentheses form ++ codes " % " ++ divisor ++ codes " == 0"
division_shape form divisor = simp append_assoc

spelled_zero : spelled is_zero ≡ codes " == 0"
spelled_zero = ap (λ l. codes " == " ++ (l ++ [])) (decimal_digit 0 (omega arith))

spelled_comparison : (scope : Scope) (c : Comparison) → spelled (comparison scope c) ≡ text.comparison_text scope c
spelled_comparison scope c = by_rel c.rel
  where
    by_rel : (r : Rel) → spelled (tested r (form scope c.form)) ≡ text.tested_text r (text.form_text scope c.form)
    by_rel NonNegative =
        spelled_append (form scope c.form) (space ∷ mark (codes ">=") ∷ space ∷ number 0 ∷ [])
        ∙ ap (λ l. l ++ (codes " >= " ++ (decimal 0 ++ []))) (spelled_form scope c.form) ∙ ap (λ l. text.form_text scope c.form ++ (codes " >= " ++ (l ++ []))) (decimal_digit 0 (omega arith))
    by_rel Zero = spelled_append (form scope c.form) is_zero ∙ ap (λ l. l ++ spelled is_zero) (spelled_form scope c.form) ∙ ap (λ l. text.form_text scope c.form ++ l) spelled_zero
    by_rel (Divides m) =
        let after = space ∷ mark (codes "%") ∷ space ∷ signed m ++ is_zero in
        let whole = text.in_parentheses (text.form_text scope c.form) in
        let divisor : spelled after ≡ codes " % " ++ (signed_decimal m ++ codes " == 0") = ap (λ l. codes " % " ++ l) (spelled_append (signed m) is_zero ∙ ap (λ l. l ++ spelled is_zero) (spelled_signed m) ∙ ap (λ l. signed_decimal m ++ l) spelled_zero) in
        spelled_append (in_parentheses (form scope c.form)) after
        ∙ ap (λ l. l ++ spelled after) (spelled_enclosed (codes "(") (form scope c.form) (codes ")") ∙ ap text.in_parentheses (spelled_form scope c.form)) ∙ ap (λ l. whole ++ l) divisor
        ∙ division_shape (text.form_text scope c.form) (signed_decimal m)

pub spelled_cond : (scope : Scope) (c : Cond) → spelled (cond scope c) ≡ text.cond_text scope c
spelled_cond scope c =
    spelled_joined (comparison scope) (space ∷ mark (codes "&&") ∷ space ∷ []) c.parts
    ∙ join_same (λ x. spelled (comparison scope x)) (text.comparison_text scope) (codes " && ") (spelled_comparison scope) c.parts

spelled_subscript : (scope : Scope) (e : IndexExpr) → spelled (subscript scope e) ≡ text.bracketed (text.form_text scope e)
spelled_subscript scope e = spelled_enclosed (codes "[") (form scope e) (codes "]") ∙ ap text.bracketed (spelled_form scope e)

pub spelled_subscripts : (scope : Scope) (subs : List IndexExpr) → spelled (subscripts scope subs) ≡ text.subscripts_text scope subs
spelled_subscripts scope subs =
    spelled_each (subscript scope) subs ∙ flat_map_same (λ e. spelled (subscript scope e)) (λ e. text.bracketed (text.form_text scope e)) (spelled_subscript scope) subs
