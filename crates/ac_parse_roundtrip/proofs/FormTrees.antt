-- The trees of forms.
use Rattle.std.specs.Prelude.{List, [], ◌∷◌, ◌++◌, map, length, codes, ℤ, pos, negsuc, ◌≤ℤ◌, true, false, Option, None, Some, if◌then◌else◌}
use Rattle.std.specs.Fmt.{decimal}
use Rattle.std.specs.List.{flat_map, AllByRecursion}
use Rattle.std.proofs.Common.{◌≡◌, ℕ, zero, suc, ◌+◌, ◌≤◌, ◌^◌, refl, sym, ◌∙◌, ap, subst, append_assoc, arith}
use Rattle.std.proofs.lemmas.List.{append-nil, map-append}
use Rattle.ac_syntax.specs.declared.tree.Place.{Place}
use Rattle.ac_syntax.specs.declared.tree.Quot.{Quot}
use Rattle.ac_syntax.specs.declared.tree.IndexExpr.{IndexExpr}
use Rattle.ac_syntax.specs.Small.{IsSmall}
use Rattle.ac_syntax.specs.Text.{Scope, is_other_than_zero}
use Rattle.ac_syntax.proofs.Pairwise.{every_append, every_map}
use Rattle.ac_lex.specs.Lexemes.{Lexeme}
use Rattle.ac_parse_grammar.specs.declared.tree.Numeral.{Numeral}
use Rattle.ac_parse_grammar.specs.declared.tree.Operator.{Operator}
use Rattle.ac_parse_grammar.specs.declared.tree.Operator.TheVariants.{Add, Multiply}
use Rattle.ac_parse_grammar.specs.declared.tree.Expr.{Expr}
use Rattle.ac_parse_grammar.specs.declared.tree.Expr.TheVariants as expr
use Rattle.ac_parse_grammar.specs.declared.links.Links.{Links}
use Rattle.ac_parse_grammar.specs.Terminals.{terminal, is_rounding, rounds_up}
use Rattle.ac_parse_grammar.specs.TokenWords.{place_of, word_of, numeral_of}
use Rattle.ac_parse_grammar.specs.Operators.{sign_of, star_of}
use Rattle.ac_parse_grammar.specs.Chains.{start, link, chain, quotient_of}
use Rattle.ac_parse_grammar.specs.Grammar as g
use Rattle.ac_parse_grammar.specs.Grammar.{IsExpr, Terms, IsTerm, Factors, IsUnary, IsPrimary}
use Rattle.ac_parse_roundtrip.specs.Items.{Item, lexemes, space, mark, word, number, signed, plus, terms, argument, quot, quot_terms, constant_term, sum, form}
use Rattle.ac_parse_roundtrip.specs.CanonicalTrees.{IsNameTree, IsNumberTree, IsIntegerTree, Factor, by_name, by_quotient, Summand, summand, products, multiples, summands, argument_summands, IsFactorTree, IsProductTree, IsSummandTree, IsSumTree, NoneRounds, IsDivisor, IsQuotientTree, IsFormTree}
use Rattle.ac_parse_roundtrip.specs.GrammarPrograms.{IsName, HasQuotientLiterals, HasLiterals}
use Rattle.ac_parse_roundtrip.proofs.ItemSequences.{after, lexemes-append, Reads, weaker, other_items}
use Rattle.ac_parse_roundtrip.proofs.TokenTerminals.{mark_at, word_at, number_at, open_is, close_is, comma_is, minus_is, plus_is, star_is, floord_is, name_is, number_is, numeral_is}
use Rattle.ac_parse_roundtrip.proofs.PartSequences.{added, behind}

-- ---- numbers and names

pub number_read : (room n : ℕ) → n ≤ 2 ^ 31 → Reads (IsPrimary room) (IsNumberTree n) (number n ∷ [])
number_read room n small = record {
  at = λ at. (expr.Number (numeral_of (number_at at n)), g.number (number_is at n), (numeral_of (number_at at n), numeral_is at n small, refl));
}

signed_read : (room : ℕ) (c : ℤ) → IsSmall c → Reads (IsUnary (suc room)) (IsIntegerTree c) (signed c)
signed_read room (pos n) small = weaker (λ ts a r. g.primary r) (λ a t. t) (number_read (suc room) n small)
signed_read room (negsuc n) small = record {
  at = λ at.
      let x = (number_read room (suc n) small).at (at + 1) in
      let minus = mark_at at (codes "-") in
      (expr.Negative x.0 (place_of minus), g.negative (minus_is at) (g.primary x.1), (x.0, place_of minus, x.2, refl));
}

name_read : (room : ℕ) (name : List ℕ) → IsName name → Reads (IsUnary room) (IsNameTree name) (word name ∷ [])
name_read room name named = record {
  at = λ at.
      let w = word_at at name in
      (expr.Access (word_of w) [], g.primary (g.access (name_is at name named) g.no_subscript), (word_of w, refl, refl));
}

-- ---- products

-- the items of what a number is multiplied by
abbrev factor_items : Scope → Factor → List Item
factor_items scope (by_name name) = word name ∷ []
factor_items scope (by_quotient q) = quot scope q

abbrev product_items : Scope → ℤ → Option Factor → List Item
product_items scope c None = signed c
product_items scope c (Some f) = signed c ++ mark (codes "*") ∷ factor_items scope f

abbrev summand_items : Scope → Summand → List Item
summand_items scope s = product_items scope s.number s.factor

star_operator : (at : ℕ) → star_of (terminal (mark_at at (codes "*"))) ≡ Some Multiply
star_operator at = ap star_of (star_is at)

-- the names of parameters and of loops are names
pub record IsNamedScope (scope : Scope) : Type 0 where
  pub params : AllByRecursion IsName scope.params
  pub iters : AllByRecursion IsName scope.iters

-- a plus and a term
data IsPlus (room : ℕ) : List Lexeme → Expr → Type 0 where
  plus_term : (sign : Lexeme) {us : List Lexeme} {a : Expr} → sign_of (terminal sign) ≡ Some Add → IsTerm room us a → IsPlus room (sign ∷ us) a

-- ---- sums

plus_operator : (at : ℕ) → sign_of (terminal (mark_at at (codes "+"))) ≡ Some Add
plus_operator at = ap sign_of (plus_is at)

abbrev plus_link : Links → Expr → Links
plus_link links a = link links Add a

plus_step : (room : ℕ) (ts us : List Lexeme) (links : Links) (a : Expr) → Terms room ts links → IsPlus room us a → Terms room (ts ++ us) (plus_link links a)
plus_step room ts _ links a r (plus_term sign e t) = g.next_term sign r e t

abbrev linked : List Expr → List Operator → Links
linked operands operators = record { operands = operands; operators = operators }

abbrev adds : List Expr → List Operator
adds others = map (λ (other : Expr). Add) others

same_links : {a b : List Expr} {c d : List Operator} → a ≡ b → c ≡ d → linked a c ≡ linked b d
same_links {b = b} {c = c} e f = ap (λ x. linked x c) e ∙ ap (λ x. linked b x) f

-- the operands and operators of a sum
links_of : (links : Links) (others : List Expr) → added plus_link links others ≡ linked (links.operands ++ others) (links.operators ++ adds others)
links_of links [] = same_links (sym (append-nil links.operands)) (sym (append-nil links.operators))
links_of links (y ∷ ys) =
    links_of (plus_link links y) ys ∙ same_links (append_assoc links.operands (y ∷ []) ys) (append_assoc links.operators (Add ∷ []) (adds ys))

pub of_primary : {room : ℕ} {ts : List Lexeme} {a : Expr} → IsPrimary room ts a → IsExpr room ts a
of_primary r = g.sum (g.one_term (g.product (g.one_factor (g.primary r))))

module _ (scope : Scope) where
  abbrev more_items : List Summand → List Item
  more_items ss = flat_map (λ (s : Summand). plus ++ summand_items scope s) ss

  abbrev sum_items : List Summand → List Item
  sum_items [] = number 0 ∷ []
  sum_items (s ∷ ss) = summand_items scope s ++ more_items ss

-- sums of which the factors are read
module _ (scope : Scope) (Rounds : Quot → Expr → Type 0) (room : ℕ) where
  abbrev FactorReads : Option Factor → Type 0
  FactorReads None = Unit {0}
  FactorReads (Some f) = Reads (IsUnary (suc room)) (IsFactorTree Rounds f) (factor_items scope f)

  record IsFine (s : Summand) : Type 0 where
    small : IsSmall s.number
    factor : FactorReads s.factor

  product_read : (c : ℤ) (f : Option Factor) → IsSmall c → FactorReads f → Reads (IsTerm (suc room)) (IsProductTree Rounds c f) (product_items scope c f)
  product_read c None small read = weaker (λ ts a r. g.product (g.one_factor r)) (λ a t. t) (signed_read room c small)
  product_read c (Some f) small read = record {
    at = λ at.
        let number = (signed_read room c small).at at in
        let star = after at (signed c) in
        let factor = read.at (star + 1) in
        let tree = expr.Chain (number.0 ∷ factor.0 ∷ []) (Multiply ∷ []) in (
          tree,
          subst (λ ts. IsTerm (suc room) ts tree) (sym (lexemes-append at (signed c) (mark (codes "*") ∷ factor_items scope f)))
              (g.product (g.next_factor (mark_at star (codes "*")) (g.one_factor number.1) (star_operator star) factor.1)),
          (number.0, factor.0, number.2, factor.2, refl),
        );
  }

  summand_read : (s : Summand) → IsFine s → Reads (IsTerm (suc room)) (IsSummandTree Rounds s) (summand_items scope s)
  summand_read s fine = product_read s.number s.factor fine.small fine.factor

  plus_read : (s : Summand) → IsFine s → Reads (IsPlus (suc room)) (IsSummandTree Rounds s) (plus ++ summand_items scope s)
  plus_read s fine = record {
    at = λ at.
        let x = (summand_read s fine).at (at + 1 + 1 + 1) in
        (x.0, plus_term (mark_at (at + 1) (codes "+")) (plus_operator (at + 1)) x.1, x.2);
  }

  every_plus : (ss : List Summand) → AllByRecursion IsFine ss → AllByRecursion (λ s. Reads (IsPlus (suc room)) (IsSummandTree Rounds s) (plus ++ summand_items scope s)) ss
  every_plus ss fine = every_map IsFine (λ s. Reads (IsPlus (suc room)) (IsSummandTree Rounds s) (plus ++ summand_items scope s)) plus_read ss fine

  sum_read : (ss : List Summand) → AllByRecursion IsFine ss → Reads (IsExpr (suc room)) (IsSumTree Rounds ss) (sum_items scope ss)
  sum_read [] fine = weaker (λ ts a r. of_primary r) (λ a t. t) (number_read (suc room) 0 (omega arith))
  sum_read (s ∷ ss) fine = record {
    at = λ at.
        let first = (summand_read s fine.0).at at in
        let ts = lexemes at (summand_items scope s) in
        let place = after at (summand_items scope s) in
        let others = behind (Terms (suc room)) (IsPlus (suc room)) plus_link (plus_step (suc room)) (IsSummandTree Rounds) (λ s. plus ++ summand_items scope s) ss (every_plus ss fine.1)
        ts (start first.0) (g.one_term first.1) place in
        let tree = chain (added plus_link (start first.0) others.0) in (
          tree,
          subst (λ us. IsExpr (suc room) us tree) (sym (lexemes-append at (summand_items scope s) (more_items scope ss))) (g.sum others.1),
          (first.0, others.0, first.2, others.2, ap chain (links_of (start first.0) others.0)),
        );
  }

  fine_summand : (c : ℤ) (f : Option Factor) → IsSmall c → FactorReads f → AllByRecursion IsFine (summand c f)
  fine_summand (pos zero) f small read = tt
  fine_summand (pos (suc n)) f small read = (record { small = small; factor = read }, tt)
  fine_summand (negsuc n) f small read = (record { small = small; factor = read }, tt)

  fine_products : (cs : List ℤ) (names : List (List ℕ)) → AllByRecursion IsSmall cs → AllByRecursion IsName names → AllByRecursion IsFine (products cs names)
  fine_products [] names small named = tt
  fine_products (c ∷ cs) [] small named = tt
  fine_products (c ∷ cs) (name ∷ names) small named =
      every_append IsFine (summand c (Some (by_name name))) (products cs names)
      (fine_summand c (Some (by_name name)) small.0 (name_read (suc room) name named.0)) (fine_products cs names small.1 named.1)

-- ---- the items of a form are those of its summands

module _ (scope : Scope) where
  product_is : (c : ℤ) (f : Factor)
      → (if is_other_than_zero c then (signed c ++ mark (codes "*") ∷ factor_items scope f) ∷ [] else []) ≡ map (summand_items scope) (summand c (Some f))
  product_is (pos zero) f = refl
  product_is (pos (suc n)) f = refl
  product_is (negsuc n) f = refl

  constant_is : (c : ℤ) → constant_term c ≡ map (summand_items scope) (summand c None)
  constant_is (pos zero) = refl
  constant_is (pos (suc n)) = refl
  constant_is (negsuc n) = refl

  products_are : (cs : List ℤ) (names : List (List ℕ)) → terms cs names ≡ map (summand_items scope) (products cs names)
  products_are [] names = refl
  products_are (c ∷ cs) [] = refl
  products_are (c ∷ cs) (name ∷ names) =
      let first = summand c (Some (by_name name)) in
      ap (λ is. is ++ terms cs names) (product_is c (by_name name)) ∙ (ap (λ is. map (summand_items scope) first ++ is) (products_are cs names)
      ∙ sym (map-append (summand_items scope) first (products cs names)))

  multiples_are : (qs : List Quot) → quot_terms scope qs ≡ map (summand_items scope) (multiples qs)
  multiples_are [] = refl
  multiples_are (q ∷ qs) =
      let first = summand q.coef (Some (by_quotient q)) in
      ap (λ is. is ++ quot_terms scope qs) (product_is q.coef (by_quotient q)) ∙ (ap (λ is. map (summand_items scope) first ++ is) (multiples_are qs)
      ∙ sym (map-append (summand_items scope) first (multiples qs)))

  -- two lists of summands behind one another
  both_are : {xs ys : List (List Item)} (ss ts : List Summand) → xs ≡ map (summand_items scope) ss → ys ≡ map (summand_items scope) ts
      → xs ++ ys ≡ map (summand_items scope) (ss ++ ts)
  both_are {ys = ys} ss ts e f =
      ap (λ (l : List (List Item)). l ++ ys) e ∙ (ap (λ l. map (summand_items scope) ss ++ l) f ∙ sym (map-append (summand_items scope) ss ts))

  flat_items : (ss : List Summand) → flat_map (λ (y : List Item). plus ++ y) (map (summand_items scope) ss) ≡ more_items scope ss
  flat_items [] = refl
  flat_items (s ∷ ss) = ap (λ is. (plus ++ summand_items scope s) ++ is) (flat_items ss)

  sum_is : (ss : List Summand) → sum (map (summand_items scope) ss) ≡ sum_items scope ss
  sum_is [] = refl
  sum_is (s ∷ ss) = ap (λ is. summand_items scope s ++ is) (flat_items ss)

  argument_is : (q : Quot) → argument scope q ≡ sum_items scope (argument_summands scope q)
  argument_is q =
      let ps = products q.params scope.params in
      let is = products q.iters scope.iters in
      ap sum (both_are (ps ++ is) (summand q.konst None) (both_are ps is (products_are q.params scope.params) (products_are q.iters scope.iters)) (constant_is q.konst))
      ∙ sum_is (argument_summands scope q)

  form_is : (e : IndexExpr) → form scope e ≡ sum_items scope (summands scope e)
  form_is e =
      let ps = products e.params scope.params in
      let is = products e.iters scope.iters in
      let qs = multiples e.quots in
      ap sum (both_are (ps ++ is ++ qs) (summand e.konst None)
      (both_are (ps ++ is) qs (both_are ps is (products_are e.params scope.params) (products_are e.iters scope.iters)) (multiples_are e.quots)) (constant_is e.konst))
      ∙ sum_is (summands scope e)

-- ---- quotients

rounding_is : (at : ℕ) → is_rounding (terminal (word_at at (codes "floord"))) ≡ true
rounding_is at = ap is_rounding (floord_is at)

-- the quotient of what T is of
abbrev IsQuotientOf : (Expr → Type 0) → ℤ → Expr → Type 0
IsQuotientOf T m tree =
    (argument : Expr) × (divisor : Numeral) × (place : Place) × T argument × IsDivisor m divisor × (tree ≡ expr.Quotient false argument divisor place)

quotient_by : (room : ℕ) (T : Expr → Type 0) (is : List Item) (m : ℤ) → pos 1 ≤ℤ m → IsSmall m → Reads (IsExpr room) T is
    → Reads (IsPrimary (suc room)) (IsQuotientOf T m) (word (codes "floord") ∷ mark (codes "(") ∷ is ++ (mark (codes ",") ∷ space ∷ signed m ++ mark (codes ")") ∷ []))
quotient_by room T is (negsuc n) positive small r = absurd (omega arith)
quotient_by room T is (pos n) positive small r = record {
  at = λ at.
      let w = word_at at (codes "floord") in
      let left = mark_at (at + 6) (codes "(") in
      let x = r.at (at + 6 + 1) in
      let place = after (at + 6 + 1) is in
      let divisor = number_at (place + 1 + 1) n in
      let tree = quotient_of w x.0 divisor in (
        tree,
        subst (λ ts. IsPrimary (suc room) (w ∷ left ∷ ts) tree) (sym (lexemes-append (at + 6 + 1) is (mark (codes ",") ∷ space ∷ number n ∷ mark (codes ")") ∷ [])))
            (g.quotient (mark_at place (codes ",")) divisor (mark_at (place + 1 + 1 + length (decimal n)) (codes ")")) (rounding_is at) (open_is (at + 6)) x.1 (comma_is place)
            (number_is (place + 1 + 1) n) (close_is (place + 1 + 1 + length (decimal n)))),
        (
          x.0,
          numeral_of divisor,
          place_of w,
          x.2,
          ap pos (numeral_is (place + 1 + 1) n small),
          ap (λ terminal. expr.Quotient (rounds_up terminal) x.0 (numeral_of divisor) (place_of w)) (floord_is at),
        ),
      );
}

argument_read : (room : ℕ) (scope : Scope) (q : Quot) → IsNamedScope scope → HasQuotientLiterals q
    → Reads (IsExpr (suc room)) (IsSumTree NoneRounds (argument_summands scope q)) (argument scope q)
argument_read room scope q named has =
    let Fine = IsFine scope NoneRounds room in
    let ps = products q.params scope.params in
    let is = products q.iters scope.iters in
    other_items (sym (argument_is scope q)) (sum_read scope NoneRounds room (argument_summands scope q)
    (every_append Fine (ps ++ is) (summand q.konst None)
    (every_append Fine ps is (fine_products scope NoneRounds room q.params scope.params has.params named.params) (fine_products scope NoneRounds room q.iters scope.iters has.iters named.iters))
    (fine_summand scope NoneRounds room q.konst None has.constant tt)))

quotient_read : (room : ℕ) (scope : Scope) (q : Quot) → IsNamedScope scope → HasQuotientLiterals q → Reads (IsUnary (suc (suc room))) (IsQuotientTree scope q) (quot scope q)
quotient_read room scope q named has =
    weaker (λ ts a r. g.primary r) (λ a t. t)
    (quotient_by (suc room) (IsSumTree NoneRounds (argument_summands scope q)) (argument scope q) q.div has.positive has.divisor (argument_read room scope q named has))

-- ---- forms

-- two levels of room: a quotient, and a number below 0 in it
module _ (room : ℕ) (scope : Scope) (named : IsNamedScope scope) where
  abbrev IsFineHere : Summand → Type 0
  IsFineHere = IsFine scope (IsQuotientTree scope) (suc room)

  fine_multiples : (qs : List Quot) → AllByRecursion HasQuotientLiterals qs → AllByRecursion IsFineHere (multiples qs)
  fine_multiples [] has = tt
  fine_multiples (q ∷ qs) has =
      every_append IsFineHere (summand q.coef (Some (by_quotient q))) (multiples qs)
      (fine_summand scope (IsQuotientTree scope) (suc room) q.coef (Some (by_quotient q)) has.0.coef (quotient_read room scope q named has.0)) (fine_multiples qs has.1)

  fine_summands : (e : IndexExpr) → HasLiterals e → AllByRecursion IsFineHere (summands scope e)
  fine_summands e has =
      let ps = products e.params scope.params in
      let is = products e.iters scope.iters in
      let qs = multiples e.quots in
      every_append IsFineHere (ps ++ is ++ qs) (summand e.konst None)
      (every_append IsFineHere (ps ++ is) qs
      (every_append IsFineHere ps is (fine_products scope (IsQuotientTree scope) (suc room) e.params scope.params has.params named.params)
      (fine_products scope (IsQuotientTree scope) (suc room) e.iters scope.iters has.iters named.iters))
      (fine_multiples e.quots has.quots))
      (fine_summand scope (IsQuotientTree scope) (suc room) e.konst None has.constant tt)

  pub form_read : (e : IndexExpr) → HasLiterals e → Reads (IsExpr (suc (suc room))) (IsFormTree scope e) (form scope e)
  form_read e has = other_items (sym (form_is scope e)) (sum_read scope (IsQuotientTree scope) (suc room) (summands scope e) (fine_summands e has))
