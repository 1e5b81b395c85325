-- A test of a divisor is one as it is written: what is left of the division is 0.
use Rattle.std.proofs.Common.{◌≡◌, ◌↔◌, ℕ, zero, suc, ◌%◌, ◌==◌, ◌&&◌, ℤ, pos, negsuc, neg_ℤ, List, [], ◌∷◌, ◌++◌, map, length, Bool, true, false, cond, refl, sym, ap, subst, ◌∙◌, arith, Option, Some, None}
use Rattle.std.specs.Prelude.{int_rem}
use Rattle.std.specs.Option.{option_map, option_and_then}
use Rattle.std.proofs.lemmas.Bool.Decides.{nat_tests}
use Rattle.std.proofs.lemmas.Int.{ints}
use Rattle.std.proofs.lemmas.List.{length-map, map-append}
use Rattle.ac_base.specs.Multiple.{divides}
use Rattle.ac_syntax.specs.Index.{rel_holds}
use Rattle.ac_syntax.specs.declared.tree.Place.{Place}
use Rattle.ac_syntax.specs.declared.tree.Rel.TheVariants.{Divides}
use Rattle.ac_parse_grammar.specs.declared.tree.Numeral.{Numeral}
use Rattle.ac_parse_grammar.specs.declared.tree.Operator.{Operator}
use Rattle.ac_parse_grammar.specs.declared.tree.Operator.TheVariants.{Remainder}
use Rattle.ac_parse_grammar.specs.declared.tree.Relation.{Relation}
use Rattle.ac_parse_grammar.specs.declared.tree.Relation.TheVariants.{Less, AtMost, Greater, AtLeast, Equal}
use Rattle.ac_parse_grammar.specs.declared.tree.Part.{Part}
use Rattle.ac_parse_grammar.specs.declared.tree.Expr.{Expr}
use Rattle.ac_parse_grammar.specs.declared.tree.Expr.TheVariants.{Chain}
use Rattle.ac_parse_exprs.specs.Divisions.{Division, within, number_alone, division_of, is_equality, is_nought, tested_division}
use Rattle.ac_parse_exprs.specs.WrittenValues.{remainder, operated, operated_all, chain_value, expression_value, IsRelated}
use Rattle.ac_parse_exprs.specs.FormValues.{IsCompared}
use Rattle.ac_parse_exprs.proofs.Absent.{both_true}
use Rattle.ac_parse_exprs.proofs.Dividing.{IsSplit, chain_split, alone-number, alone-decimal, alone-access, alone-call, alone-quotient, alone-negative, alone-group, alone-chain, division-number, division-decimal, division-access, division-call, division-quotient, division-negative, division-group, division-chain}
use Rattle.ac_parse_exprs.proofs.Trees.{every_expr}
use Rattle.ac_parse_exprs.proofs.WrittenExpressions.{value-number, value-group, value-chain}

-- ---- what is left of a division is 0 just where the divisor divides

none_left : (m : ℕ) → ((m == 0) ≡ true) ↔ (pos m ≡ pos 0)
none_left zero = ((λ h. refl), (λ h. refl))
none_left (suc m) = ((λ h. absurd (grind (arith, nat_tests, h))), (λ h. absurd (omega (arith, ints, h))))

none_left_below : (m : ℕ) → ((m == 0) ≡ true) ↔ (neg_ℤ (pos m) ≡ pos 0)
none_left_below zero = ((λ h. refl), (λ h. refl))
none_left_below (suc m) = ((λ h. absurd (grind (arith, nat_tests, h))), (λ h. absurd (omega (arith, ints, h))))

divides_as : (n : ℕ) (z : ℤ) → (divides n z ≡ true) ↔ (int_rem z (pos n) ≡ pos 0)
divides_as n (pos a) = none_left (a % n)
divides_as n (negsuc a) = none_left_below (suc a % n)

left_of : (n : ℕ) (x : ℤ) → (n == 0) ≡ false → remainder x (pos n) ≡ Some (int_rem x (pos n))
left_of zero x h = absurd cc
left_of (suc n) x h = refl

-- ---- a chain whose last operator is `%`

operated_last : (a : Option ℤ) (bs : List (Option ℤ)) (os : List Operator) (b : Option ℤ) (o : Operator) → length bs ≡ length os → operated_all a (bs ++ b ∷ []) (os ++ o ∷ []) ≡ operated o (operated_all a bs os) b
operated_last a [] [] b o h = refl
operated_last a [] (p ∷ os) b o h = absurd (omega (arith, h))
operated_last a (c ∷ bs) [] b o h = absurd (omega (arith, h))
operated_last a (c ∷ bs) (p ∷ os) b o h = operated_last (operated p a c) bs os b o (omega (arith, h))

chain_last : (bs : List (Option ℤ)) (os : List Operator) (b : Option ℤ) (o : Operator) → length bs ≡ suc (length os) → chain_value (bs ++ b ∷ []) (os ++ o ∷ []) ≡ operated o (chain_value bs os) b
chain_last [] os b o h = absurd (omega (arith, h))
chain_last (a ∷ bs) os b o h = operated_last a bs os b o (omega (arith, h))

module _ (integer : List ℕ → Option ℤ) where
  abbrev value : Expr → Option ℤ
  value = expression_value integer

  -- what a Number alone is
  pub alone_value : (e : Expr) → (n : Numeral) → number_alone e ≡ Some n → value e ≡ Some (pos n.number)
  alone_value = every_expr (λ e. (n : Numeral) → number_alone e ≡ Some n → value e ≡ Some (pos n.number))
      (λ m n h. let e : m ≡ n = (let i : Some m ≡ Some n = sym (alone-number m) ∙ h in cc) in value-number integer m ∙ ap (λ (k : Numeral). Some (pos k.number)) e)
      (λ word n h. let i : None ≡ Some n = sym (alone-decimal word) ∙ h in absurd cc)
      (λ name subs k n h. let i : None ≡ Some n = sym (alone-access name subs) ∙ h in absurd cc)
      (λ name args k n h. let i : None ≡ Some n = sym (alone-call name args) ∙ h in absurd cc)
      (λ up argument divisor place k n h. let i : None ≡ Some n = sym (alone-quotient up argument divisor place) ∙ h in absurd cc)
      (λ operand place k n h. let i : None ≡ Some n = sym (alone-negative operand place) ∙ h in absurd cc)
      (λ inner place k n h. let i : None ≡ Some n = sym (alone-group inner place) ∙ h in absurd cc)
      (λ operands operators k n h. let i : None ≡ Some n = sym (alone-chain operands operators) ∙ h in absurd cc)

  -- what is left where something is divided
  abbrev left : Division → Option ℤ
  left d = option_and_then (λ x. remainder x (pos d.divisor.number)) (chain_value (map value d.operands) d.operators)

  chain_left : (operands : List Expr) (operators : List Operator) (d : Division) → IsSplit operands operators d → value (Chain operands operators) ≡ left d
  chain_left operands operators d s =
      value-chain integer operands operators
      ∙ (λ i. chain_value (map value (s.operands i)) (s.operators i))
      ∙ ap (λ (vs : List (Option ℤ)). chain_value vs (d.operators ++ Remainder ∷ [])) (map-append value d.operands (s.last ∷ []))
      ∙ chain_last (map value d.operands) d.operators (value s.last) Remainder (length-map d.operands value ∙ s.lengths)
      ∙ ap (λ b. operated Remainder (chain_value (map value d.operands) d.operators) b) (alone_value s.last d.divisor s.divisor)

  in_group : (place : Place) (o : Option Division) (d : Division) → option_map (within place) o ≡ Some d → (c : Division) × (o ≡ Some c) × (left c ≡ left d)
  in_group place None d h = absurd cc
  in_group place (Some c) d h = let e : within place c ≡ d = cc in (c, refl, ap left e)

  division_value : (e : Expr) → (d : Division) → division_of e ≡ Some d → value e ≡ left d
  division_value = every_expr (λ e. (d : Division) → division_of e ≡ Some d → value e ≡ left d)
      (λ n d h. let i : None ≡ Some d = sym (division-number n) ∙ h in absurd cc)
      (λ word d h. let i : None ≡ Some d = sym (division-decimal word) ∙ h in absurd cc)
      (λ name subs k d h. let i : None ≡ Some d = sym (division-access name subs) ∙ h in absurd cc)
      (λ name args k d h. let i : None ≡ Some d = sym (division-call name args) ∙ h in absurd cc)
      (λ up argument divisor place k d h. let i : None ≡ Some d = sym (division-quotient up argument divisor place) ∙ h in absurd cc)
      (λ operand place k d h. let i : None ≡ Some d = sym (division-negative operand place) ∙ h in absurd cc)
      (λ inner place k d h. let g = in_group place (division_of inner) d (sym (division-group inner place) ∙ h) in value-group integer inner place ∙ k g.0 g.1 ∙ g.2)
      (λ operands operators k d h. chain_left operands operators d (chain_split operands operators d (sym (division-chain operands operators) ∙ h)))

  -- ---- comparisons

  nought_by : (e : Expr) (o : Option Numeral) → number_alone e ≡ o → is_nought o ≡ true → value e ≡ Some (pos 0)
  nought_by e None i h = absurd cc
  nought_by e (Some n) i h = let z : n.number ≡ 0 = grind (arith, nat_tests, h) in alone_value e n i ∙ ap (λ k. Some (pos k)) z

  equality_is : (r : Relation) → is_equality r ≡ true → r ≡ Equal
  equality_is Less h = absurd cc
  equality_is AtMost h = absurd cc
  equality_is Greater h = absurd cc
  equality_is AtLeast h = absurd cc
  equality_is Equal h = refl

  tested_by : (part : Part) (b : Bool) (d : Division) → (is_equality part.relation && is_nought (number_alone part.right)) ≡ b → cond b (division_of part.left) None ≡ Some d
      → (part.relation ≡ Equal) × (value part.right ≡ Some (pos 0)) × (value part.left ≡ left d)
  tested_by part false d t h = absurd cc
  tested_by part true d t h =
      let b = both_true (is_equality part.relation) (is_nought (number_alone part.right)) t in
      (equality_is part.relation b.0, nought_by part.right (number_alone part.right) refl b.1, division_value part.left d h)

  -- a test of a divisor holds just where nothing is left
  pub division_holds : (part : Part) (d : Division) (x : ℤ) → tested_division part ≡ Some d → (d.divisor.number == 0) ≡ false → chain_value (map value d.operands) d.operators ≡ Some x
      → IsCompared integer part (rel_holds (Divides (pos d.divisor.number)) x ≡ true)
  division_holds part d x t c h =
      let s = tested_by part (is_equality part.relation && is_nought (number_alone part.right)) d refl t in
      let n = d.divisor.number in (
        int_rem x (pos n),
        pos 0,
        s.2 ∙ ap (option_and_then (λ y. remainder y (pos n))) h ∙ left_of n x c,
        s.1,
        subst (λ r. (rel_holds (Divides (pos n)) x ≡ true) ↔ IsRelated r (int_rem x (pos n)) (pos 0)) (sym s.0) (divides_as n x),
      )
