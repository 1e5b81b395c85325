-- The trees of conditions and subscripts.
use Rattle.std.specs.Prelude.{List, [], ◌∷◌, ◌++◌, length, codes, ℤ, pos, negsuc, Some}
use Rattle.std.specs.List.{flat_map, join_by, AllByRecursion}
use Rattle.std.proofs.Common.{◌≡◌, ℕ, suc, ◌+◌, refl, sym, ◌∙◌, ap, subst, append_assoc, arith}
use Rattle.ac_syntax.specs.declared.tree.IndexExpr.{IndexExpr}
use Rattle.ac_syntax.specs.declared.tree.Rel.{Rel}
use Rattle.ac_syntax.specs.declared.tree.Rel.TheVariants.{NonNegative, Zero, Divides}
use Rattle.ac_syntax.specs.declared.tree.Comparison.{Comparison}
use Rattle.ac_syntax.specs.declared.tree.Cond.{Cond}
use Rattle.ac_syntax.specs.Small.{IsSmallRel}
use Rattle.ac_syntax.specs.Text.{Scope}
use Rattle.ac_syntax.proofs.Pairwise.{every_map}
use Rattle.ac_lex.specs.Lexemes.{Lexeme}
use Rattle.ac_parse_grammar.specs.declared.terminal.Terminal.TheVariants as t
use Rattle.ac_parse_grammar.specs.declared.tree.Operator.TheVariants.{Remainder}
use Rattle.ac_parse_grammar.specs.declared.tree.Expr.{Expr}
use Rattle.ac_parse_grammar.specs.declared.tree.Expr.TheVariants as expr
use Rattle.ac_parse_grammar.specs.declared.tree.Part.{Part}
use Rattle.ac_parse_grammar.specs.Terminals.{terminal}
use Rattle.ac_parse_grammar.specs.Operators.{relation_of}
use Rattle.ac_parse_grammar.specs.Chains.{part_of}
use Rattle.ac_parse_grammar.specs.Grammar as g
use Rattle.ac_parse_grammar.specs.Grammar.{IsExpr, Subscripts, IsCond, IsPart}
use Rattle.ac_parse_roundtrip.specs.Items.{Item, lexemes, space, mark, number, signed, form, is_zero, tested, in_parentheses, comparison, cond, subscript, subscripts}
use Rattle.ac_parse_roundtrip.specs.CanonicalTrees as tree
use Rattle.ac_parse_roundtrip.specs.CanonicalTrees.{Each, IsNumberTree, IsFormTree, IsTestedTree, IsComparisonTree, IsConditionTree}
use Rattle.ac_parse_roundtrip.specs.GrammarPrograms.{HasLiterals, HasPartLiterals, HaveLiterals, HasSome, HasComparisons}
use Rattle.ac_parse_roundtrip.proofs.ItemSequences.{after, lexemes-append, Reads, weaker, other_items}
use Rattle.ac_parse_roundtrip.proofs.TokenTerminals.{mark_at, at_least_is, equal_is, and_is, open_bracket_is, close_bracket_is}
use Rattle.ac_parse_roundtrip.proofs.PartSequences.{snoc, added_snoc, behind}
use Rattle.ac_parse_roundtrip.proofs.FormTrees.{IsNamedScope, number_read, form_read, of_primary}
use Rattle.ac_parse_roundtrip.proofs.Calls.{IsGroupOf, group_read, IsOperationOf, operation_read}

-- how a relation is written
abbrev sign : Rel → List ℕ
sign NonNegative = codes ">="
sign Zero = codes "=="
sign (Divides m) = codes "=="

relation_is : (at : ℕ) (r : Rel) → relation_of (terminal (mark_at at (sign r))) ≡ Some (tree.relation r)
relation_is at NonNegative = ap relation_of (at_least_is at)
relation_is at Zero = ap relation_of (equal_is at)
relation_is at (Divides m) = ap relation_of (equal_is at)

-- what is compared with 0
abbrev dividend : Rel → List Item → List Item
dividend NonNegative items = items
dividend Zero items = items
dividend (Divides m) items = in_parentheses items ++ (space ∷ mark (codes "%") ∷ space ∷ signed m)

-- that, the sign and 0
abbrev compared : Rel → List Item → List Item
compared r items = dividend r items ++ space ∷ mark (sign r) ∷ space ∷ number 0 ∷ []

tested_is : (r : Rel) (items : List Item) → compared r items ≡ tested r items
tested_is NonNegative items = refl
tested_is Zero items = refl
tested_is (Divides m) items = append_assoc (in_parentheses items) (space ∷ mark (codes "%") ∷ space ∷ signed m) is_zero

-- what is left of a form behind a division
module _ (room : ℕ) (scope : Scope) (e : IndexExpr) where
  abbrev IsRestOf : ℕ → Expr → Type 0
  IsRestOf n = IsOperationOf (IsGroupOf (IsFormTree scope e)) (IsNumberTree n) Remainder

  rest_tree : (n : ℕ) (tree : Expr) → IsRestOf n tree → IsTestedTree scope (Divides (pos n)) e tree
  rest_tree n tree x =
      let f = x.2 in
      let d = x.3 in
      let same : expr.Chain (x.0 ∷ x.1 ∷ []) (Remainder ∷ []) ≡ expr.Chain (expr.Group f.0 f.1 ∷ expr.Number d.0 ∷ []) (Remainder ∷ [])
      = ap (λ left. expr.Chain (left ∷ x.1 ∷ []) (Remainder ∷ [])) f.3 ∙ ap (λ right. expr.Chain (expr.Group f.0 f.1 ∷ right ∷ []) (Remainder ∷ [])) d.2 in
      (f.0, f.1, d.0, f.2, ap pos d.1, x.4 ∙ same)

  rest_read : (m : ℤ) → IsSmallRel (Divides m) → Reads (IsExpr room) (IsFormTree scope e) (form scope e)
      → Reads (IsExpr (suc room)) (IsTestedTree scope (Divides m) e) (dividend (Divides m) (form scope e))
  rest_read (negsuc n) small r = absurd (omega arith)
  rest_read (pos n) small r =
      weaker (λ ts a p. p) (rest_tree n)
      (operation_read (suc room) (IsGroupOf (IsFormTree scope e)) (IsNumberTree n) (in_parentheses (form scope e)) (number n ∷ []) Remainder
      (group_read room (IsFormTree scope e) (form scope e) r) (number_read (suc room) n small.1))

-- three levels of room: those of a form, and its parentheses
abbrev above : ℕ → ℕ
above room = suc (suc (suc room))

dividend_read : (room : ℕ) (scope : Scope) → IsNamedScope scope → (r : Rel) (e : IndexExpr) → IsSmallRel r → HasLiterals e
    → Reads (IsExpr (above room)) (IsTestedTree scope r e) (dividend r (form scope e))
dividend_read room scope named NonNegative e small has = form_read (suc room) scope named e has
dividend_read room scope named Zero e small has = form_read (suc room) scope named e has
dividend_read room scope named (Divides m) e small has = rest_read (suc (suc room)) scope e m small (form_read room scope named e has)

-- one comparison alone
data IsOnePart (room : ℕ) : List Lexeme → Part → Type 0 where
  one : {ts : List Lexeme} {part : Part} → IsPart room ts (part ∷ []) → IsOnePart room ts part

compared_read : (room : ℕ) (scope : Scope) (c : Comparison) → Reads (IsExpr room) (IsTestedTree scope c.rel c.form) (dividend c.rel (form scope c.form))
    → Reads (IsOnePart room) (IsComparisonTree scope c) (compared c.rel (form scope c.form))
compared_read room scope c r = record {
  at = λ at.
      let left = r.at at in
      let is = dividend c.rel (form scope c.form) in
      let place = after at is + 1 in
      let right = (number_read room 0 (omega arith)).at (place + length (sign c.rel) + 1) in
      let part = part_of left.0 (tree.relation c.rel) right.0 in (
        part,
        subst (λ ts. IsOnePart room ts part) (sym (lexemes-append at is (space ∷ mark (sign c.rel) ∷ space ∷ number 0 ∷ [])))
            (one (g.comparison (mark_at place (sign c.rel)) left.1 (relation_is place c.rel) (of_primary right.1))),
        record { left = left.2; relation = refl; right = right.2 },
      );
}

comparison_read : (room : ℕ) (scope : Scope) (c : Comparison) → IsNamedScope scope → HasPartLiterals c → Reads (IsOnePart (above room)) (IsComparisonTree scope c) (comparison scope c)
comparison_read room scope c named has =
    other_items (tested_is c.rel (form scope c.form)) (compared_read (above room) scope c (dividend_read room scope named c.rel c.form has.rel has.form))

-- and-signs and comparisons
data IsAlso (room : ℕ) : List Lexeme → Part → Type 0 where
  also : (sign : Lexeme) {us : List Lexeme} {part : Part} → terminal sign ≡ t.And → IsPart room us (part ∷ []) → IsAlso room (sign ∷ us) part

abbrev and_items : List Item
and_items = space ∷ mark (codes "&&") ∷ space ∷ []

also_of : (room at : ℕ) (ts : List Lexeme) (part : Part) → IsOnePart room ts part → IsAlso room (mark_at at (codes "&&") ∷ ts) part
also_of room at ts part (one p) = also (mark_at at (codes "&&")) (and_is at) p

also_read : (room : ℕ) (scope : Scope) → IsNamedScope scope → (c : Comparison) → HasPartLiterals c → Reads (IsAlso (above room)) (IsComparisonTree scope c) (and_items ++ comparison scope c)
also_read room scope named c has = record {
  at = λ at.
      let place = at + 1 + 2 + 1 in
      let x = (comparison_read room scope c named has).at place in
      (x.0, also_of (above room) (at + 1) (lexemes place (comparison scope c)) x.0 x.1, x.2);
}

also_step : (room : ℕ) (ts us : List Lexeme) (parts : List Part) (part : Part) → IsCond room ts parts → IsAlso room us part → IsCond room (ts ++ us) (snoc parts part)
also_step room ts _ parts part r (also sign e p) = g.next_part sign r e p

one_cond : (room : ℕ) (ts : List Lexeme) (part : Part) → IsOnePart room ts part → IsCond room ts (part ∷ [])
one_cond room ts part (one p) = g.one_part p

parts_read : (room : ℕ) (scope : Scope) (cs : List Comparison) → IsNamedScope scope → HasSome cs → HaveLiterals cs
    → Reads (IsCond (above room)) (Each (IsComparisonTree scope) cs) (join_by (comparison scope) and_items cs)
parts_read room scope [] named some has = absurd some
parts_read room scope (c ∷ cs) named some has = record {
  at = λ at.
      let first = (comparison_read room scope c named has.0).at at in
      let is = comparison scope c in
      let rest = flat_map (λ (d : Comparison). and_items ++ comparison scope d) cs in
      let others = behind (IsCond (above room)) (IsAlso (above room)) snoc (also_step (above room)) (IsComparisonTree scope) (λ d. and_items ++ comparison scope d) cs
      (every_map HasPartLiterals (λ d. Reads (IsAlso (above room)) (IsComparisonTree scope d) (and_items ++ comparison scope d)) (also_read room scope named) cs has.1)
      (lexemes at is) (first.0 ∷ []) (one_cond (above room) (lexemes at is) first.0 first.1) (after at is) in
      let parts = first.0 ∷ others.0 in (
        parts,
        subst (λ ts. IsCond (above room) ts parts) (sym (lexemes-append at is rest))
            (subst (λ ps. IsCond (above room) (lexemes at is ++ lexemes (after at is) rest) ps) (added_snoc (first.0 ∷ []) others.0) others.1),
        (first.2, others.2),
      );
}

pub cond_read : (room : ℕ) (scope : Scope) (c : Cond) → IsNamedScope scope → HasComparisons c → Reads (IsCond (suc (suc (suc room)))) (IsConditionTree scope c) (cond scope c)
cond_read room scope c named has = parts_read room scope c.parts named has.some has.literals

-- ---- subscripts

-- an expression in brackets
data IsBracketed (room : ℕ) : List Lexeme → Expr → Type 0 where
  bracketed : (left right : Lexeme) {ts : List Lexeme} {a : Expr} → terminal left ≡ t.OpenBracket → IsExpr room ts a → terminal right ≡ t.CloseBracket
      → IsBracketed room (left ∷ ts ++ right ∷ []) a

bracketed_read : (room : ℕ) (scope : Scope) → IsNamedScope scope → (e : IndexExpr) → HasLiterals e → Reads (IsBracketed (suc (suc room))) (IsFormTree scope e) (subscript scope e)
bracketed_read room scope named e has = record {
  at = λ at.
      let x = (form_read room scope named e has).at (at + 1) in
      let close = after (at + 1) (form scope e) in
      let left = mark_at at (codes "[") in (
        x.0,
        subst (λ ts. IsBracketed (suc (suc room)) (left ∷ ts) x.0) (sym (lexemes-append (at + 1) (form scope e) (mark (codes "]") ∷ [])))
            (bracketed left (mark_at close (codes "]")) (open_bracket_is at) x.1 (close_bracket_is close)),
        x.2,
      );
}

bracketed_step : (room : ℕ) (ts us : List Lexeme) (subs : List Expr) (a : Expr) → Subscripts (suc room) ts subs → IsBracketed room us a → Subscripts (suc room) (ts ++ us) (snoc subs a)
bracketed_step room ts _ subs a r (bracketed left right at x close) = g.next_subscript left right r at x close

pub subscripts_read : (room : ℕ) (scope : Scope) (subs : List IndexExpr) → IsNamedScope scope → AllByRecursion HasLiterals subs
    → Reads (Subscripts (suc (suc (suc room)))) (Each (IsFormTree scope) subs) (subscripts scope subs)
subscripts_read room scope subs named has = record {
  at = λ at.
      let x = behind (Subscripts (suc (suc (suc room)))) (IsBracketed (suc (suc room))) snoc (bracketed_step (suc (suc room))) (IsFormTree scope) (subscript scope) subs
      (every_map HasLiterals (λ e. Reads (IsBracketed (suc (suc room))) (IsFormTree scope e) (subscript scope e)) (bracketed_read room scope named) subs has)
      [] [] g.no_subscript at in
      (x.0, subst (λ trees. Subscripts (suc (suc (suc room))) (lexemes at (subscripts scope subs)) trees) (added_snoc [] x.0) x.1, x.2);
}
