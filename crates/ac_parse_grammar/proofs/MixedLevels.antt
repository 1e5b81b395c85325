-- Conditions are exact, at each room for constructs inside.
use Rattle.std.specs.Prelude.{Bool, true, false, cond, not, Option, Some, None, ◌||◌}
use Rattle.std.proofs.Common.{◌≡◌, ℕ, zero, suc, List, [], ◌∷◌, ◌++◌, refl, sym, ◌∙◌, ap, subst, append_assoc}
use Rattle.std.proofs.lemmas.List.{append-nil}
use Rattle.ac_syntax.specs.declared.tree.Place.{Place}
use Rattle.ac_lex.specs.Lexemes.{Lexeme}
use Rattle.ac_parse_grammar.specs.declared.terminal.Terminal.{Terminal}
use Rattle.ac_parse_grammar.specs.declared.terminal.Terminal.TheVariants as t
use Rattle.ac_parse_grammar.specs.declared.tree.Relation.{Relation}
use Rattle.ac_parse_grammar.specs.declared.tree.Expr.{Expr}
use Rattle.ac_parse_grammar.specs.declared.tree.Expr.TheVariants as tree
use Rattle.ac_parse_grammar.specs.declared.tree.Part.{Part}
use Rattle.ac_parse_grammar.specs.declared.conditions.Mixed.{Mixed}
use Rattle.ac_parse_grammar.specs.declared.conditions.Mixed.TheVariants.{Condition, Expression}
use Rattle.ac_parse_grammar.specs.Terminals.{terminal}
use Rattle.ac_parse_grammar.specs.TokenWords.{place_of, numeral_of}
use Rattle.ac_parse_grammar.specs.ReaderCombinators.{Reader, and_then, ◌>>=◌, peek, front, is}
use Rattle.ac_parse_grammar.specs.Found.{Rel, CanGoOn}
use Rattle.ac_parse_grammar.specs.Expressions.{expr_of, unary, within}
use Rattle.ac_parse_grammar.specs.Conditions.{and_of, join_parts, compared, behind, mixed_part, required, part, parts, more_parts, mixed_in, mixed_below, mixed}
use Rattle.ac_parse_grammar.specs.Conditions as spec
use Rattle.ac_parse_grammar.proofs.Exact.{Exact, Some_of, nowhere, IsThen, both, then_exact}
use Rattle.ac_parse_grammar.proofs.Many.{no_more}
use Rattle.ac_parse_grammar.proofs.Parts.{IsNothing, nothing, pure_empty, pure_is, pure_exact, token, token_heads, one, other, choose, choose_exact, IsNot, aside, IsHeld, map_exact, same_exact}
use Rattle.ac_parse_grammar.proofs.Repeats.{has, IsLinked, repeat_exact, repeat_next}
use Rattle.ac_parse_grammar.proofs.Relations.{IsExprOf, IsUnaryAt, IsExprAt}
use Rattle.ac_parse_grammar.proofs.Productions.{Inner, on_expr, a_number}
use Rattle.ac_parse_grammar.proofs.Levels.{unaries, some_unary}
use Rattle.ac_parse_grammar.proofs.MixedRelations.{comparison_of, IsCompared, IsBehind, IsParen, IsMixedPartIn, IsConditionOf, IsParts, IsMore, IsMixedIn, paren_at, IsMixedPartAt, IsMixedAt}
use Rattle.ac_parse_grammar.proofs.MixedExact.{on_part, on_mixed, and_apart, an_and, some_linked, plain_exact, plain_heads, paren_reader, paren_is, inner_paren, limit_paren, wanted_exact}
use Rattle.ac_parse_grammar.specs.Operators.{relation_of}

-- ---- an expression goes on with a comparison

module _ (V : Rel Expr) (e : Expr) (us : List Lexeme) (more : Relation × Expr) (link : IsLinked relation_of (IsExprOf V) us more) where
  abbrev Longer : Rel Mixed → List Lexeme → Type 0
  Longer R ts = R (ts ++ us) (comparison_of e more)

  compared_more : (left : Expr) (ts : List Lexeme) (m : Mixed) → IsCompared V left ts m → m ≡ Expression e → Longer (IsCompared V left) ts
  compared_more left _ m (one (both i p)) same = cc (pure_is _ p, same)
  compared_more left ts m (other p) same =
      let is : Expression left ≡ Expression e = pure_is ts p ∙ same in
      let left_is : left ≡ e = cc (is) in
      subst (λ l. IsCompared V left (l ++ us) (comparison_of e more)) (sym (pure_empty ts p))
      (subst (λ l. IsCompared V left us (comparison_of l more)) left_is
      (subst (λ l. IsCompared V left l (comparison_of left more)) (append-nil us) (one (both link nothing))))

  behind_more : (place : Place) (inner : Mixed) (ts : List Lexeme) → IsBehind V place inner ts (Expression e) → Longer (IsBehind V place inner) ts
  behind_more place (Expression inner) ts r = by_parts ts _ r refl
    where
      by_parts : (ts : List Lexeme) (m : Mixed) → IsBehind V place (Expression inner) ts m → m ≡ Expression e → Longer (IsBehind V place (Expression inner)) ts
      by_parts _ m (both {ts = vs} {us = ws} {a = left} g c) same = subst (λ l. IsBehind V place (Expression inner) l (comparison_of e more)) (sym (append_assoc vs ws us)) (both g (compared_more left ws m c same))
  behind_more place (Condition parts) ts r = cc (pure_is ts r)

  paren_more : (N : Rel Mixed) (ts : List Lexeme) (m : Mixed) → IsParen N V ts m → m ≡ Expression e → Longer (IsParen N V) ts
  paren_more N _ m (token {t = left} at (both {ts = vs} {us = ws} {a = inner} h b)) same =
      token at (subst (λ l. IsThen (IsHeld N t.Close) (IsBehind V (place_of left)) l (comparison_of e more)) (sym (append_assoc vs ws us))
      (both h (behind_more (place_of left) inner ws (subst (λ m. IsBehind V (place_of left) inner ws m) same b))))

  plain_more : (ts : List Lexeme) (m : Mixed) → IsThen (IsNot (is t.Open) (IsExprOf V)) (IsCompared V) ts m → m ≡ Expression e → Longer (IsThen (IsNot (is t.Open) (IsExprOf V)) (IsCompared V)) ts
  plain_more _ m (both {ts = vs} {us = ws} {a = left} i c) same =
      subst (λ l. IsThen (IsNot (is t.Open) (IsExprOf V)) (IsCompared V) l (comparison_of e more)) (sym (append_assoc vs ws us)) (both i (compared_more left ws m c same))

  part_in_more : (O : Rel Mixed) → ((ts : List Lexeme) → O ts (Expression e) → Longer O ts) → (ts : List Lexeme) → IsMixedPartIn O V ts (Expression e) → Longer (IsMixedPartIn O V) ts
  part_in_more O paren ts (one r) = one (paren ts r)
  part_in_more O paren ts (other r) = other (plain_more ts (Expression e) r refl)

  mixed_in_more : (P : Rel Mixed) → ((ts : List Lexeme) → P ts (Expression e) → Longer P ts) → (ts : List Lexeme) (m : Mixed) → IsMixedIn P ts m → m ≡ Expression e → Longer (IsMixedIn P) ts
  mixed_in_more P longer _ m (both {ts = vs} {us = ws} {a = first} r s) same = by_first first r s
    where
      no_condition : (ws : List Lexeme) (first : List Part) → IsMore P (Condition first) ws m → ⊥
      no_condition _ first (both all p) = cc (pure_is _ p, same)

      by_first : (first : Mixed) → P vs first → IsMore P first ws m → Longer (IsMixedIn P) (vs ++ ws)
      by_first (Condition first) r s = absurd (no_condition ws first s)
      by_first (Expression f) r s =
          let is : f ≡ e = cc (pure_is ws s, same) in
          subst (λ l. IsMixedIn P ((vs ++ l) ++ us) (comparison_of e more)) (sym (pure_empty ws s))
          (subst (λ l. IsMixedIn P (l ++ us) (comparison_of e more)) (sym (append-nil vs))
          (subst (λ l. IsMixedIn P l (comparison_of e more)) (append-nil (vs ++ us)) (both (longer vs (subst (λ f. P vs (Expression f)) is r)) (both no_more nothing))))

pub part_more : (room : ℕ) (e : Expr) (us : List Lexeme) (more : Relation × Expr) → IsLinked relation_of (IsExprAt room) us more → (ts : List Lexeme) → IsMixedPartAt room ts (Expression e)
    → IsMixedPartAt room (ts ++ us) (comparison_of e more)
unfolding paren_at
part_more zero e us more link = part_in_more (IsUnaryAt zero) e us more link IsNothing (λ ts r. elim r [ ])
part_more (suc room) e us more link = part_in_more (IsUnaryAt (suc room)) e us more link (paren_at (suc room)) (λ ts r. paren_more (IsUnaryAt (suc room)) e us more link (IsMixedAt room) ts (Expression e) r refl)

pub mixed_more : (room : ℕ) (e : Expr) (us : List Lexeme) (more : Relation × Expr) → IsLinked relation_of (IsExprAt room) us more → (ts : List Lexeme) → IsMixedAt room ts (Expression e)
    → IsMixedAt room (ts ++ us) (comparison_of e more)
mixed_more room e us more link ts r = mixed_in_more (IsUnaryAt room) e us more link (IsMixedPartAt room) (part_more room e us more link) ts (Expression e) r refl

part_goes_on : (room : ℕ) (ts : List Lexeme) (e : Expr) → IsMixedPartAt room ts (Expression e) → CanGoOn (IsConditionOf (IsMixedPartAt room)) ts
part_goes_on room ts e r = let l = some_linked (IsUnaryAt room) (some_unary room) in (l.0, _, part_more room e l.0 l.1 l.2 ts r)

mixed_goes_on : (room : ℕ) (ts : List Lexeme) (e : Expr) → IsMixedAt room ts (Expression e) → CanGoOn (IsConditionOf (IsMixedAt room)) ts
mixed_goes_on room ts e r = let l = some_linked (IsUnaryAt room) (some_unary room) in (l.0, _, mixed_more room e l.0 l.1 l.2 ts r)

number_unary : (room : ℕ) → IsUnaryAt room (a_number.0 ∷ []) (tree.Number (numeral_of a_number.0))
unfolding IsUnaryAt is
number_unary zero = other (one (token (ap (is t.Number) a_number.1) nothing))
number_unary (suc room) = other (one (token (ap (is t.Number) a_number.1) nothing))

not_open : is t.Open (terminal a_number.0) ≡ false
unfolding is
not_open = ap (is t.Open) a_number.1

pub some_part : (room : ℕ) → Some_of (IsConditionOf (IsMixedPartAt room))
some_part room =
    let l = some_linked (IsUnaryAt room) (some_unary room) in
    ((a_number.0 ∷ []) ++ (l.0 ++ []), _, other (both (aside not_open (both (both (number_unary room) (both no_more nothing)) (both no_more nothing))) (one (both l.2 nothing))))

some_mixed : (room : ℕ) → Some_of (IsMixedAt room)
some_mixed room = let p = some_part room in (p.0 ++ [], Condition p.1, both p.2 (both no_more nothing))

-- ---- one level

module _ (b : Option (Reader Mixed)) (u : Reader Expr) (U V : Rel Expr) (inner : Inner u U V) (O W : Rel Mixed)
    (paren : Exact (paren_reader b u) O W (λ k. not (is t.Open k)) on_part)
    (heads : (ts left : List Lexeme) (a : Mixed) → O ts a → is t.Open (peek (ts ++ left)) ≡ true)
    (extend : (ts : List Lexeme) (e : Expr) → IsMixedPartIn W V ts (Expression e) → CanGoOn (IsConditionOf (IsMixedPartIn W V)) ts)
    (some : Some_of (IsConditionOf (IsMixedPartIn W V)))
    (extend_here : (ts : List Lexeme) (e : Expr) → IsMixedPartIn O U ts (Expression e) → CanGoOn (IsConditionOf (IsMixedPartIn O U)) ts)
    (here : Some_of (IsConditionOf (IsMixedPartIn O U))) where
  abbrev P : Rel Mixed
  P = IsMixedPartIn O U

  abbrev Q : Rel Mixed
  Q = IsMixedPartIn W V

  mixed_part_is : (ts : List Lexeme) → mixed_part b u ts ≡ choose (is t.Open) (paren_reader b u) (expr_of u >>= compared u) ts
  unfolding mixed_part
  mixed_part_is ts = by_test (is t.Open (peek ts))
    where
      by_test : (v : Bool) → cond v (and_then (within b (λ mixed. mixed) t.Close ts) (behind u (place_of (front ts)))) (and_then (expr_of u ts) (compared u))
          ≡ cond v (paren_reader b u ts) (and_then (expr_of u ts) (compared u))
      by_test true = paren_is b u ts
      by_test false = refl

  mixed_part_exact : Exact (mixed_part b u) P Q nowhere on_part
  mixed_part_exact = same_exact (mixed_part b u) mixed_part_is
      (choose_exact (is t.Open) (paren_reader b u) (expr_of u >>= compared u) O W (IsThen (IsNot (is t.Open) (IsExprOf U)) (IsCompared U)) (IsThen (IsNot (is t.Open) (IsExprOf V)) (IsCompared V)) on_part
      paren (plain_exact u U V inner) heads (λ ts left a r end. plain_heads u U V inner ts left a r))

  part_exact : Exact (part b u) (IsConditionOf P) (IsConditionOf Q) nowhere (λ _. on_expr)
  unfolding part
  part_exact = wanted_exact (mixed_part b u) P Q on_part on_expr mixed_part_exact (λ parts k. refl) extend extend_here

  abbrev on_parts : Terminal → Bool
  on_parts k = has (and_of k) || on_expr k

  more_exact : (m : Mixed) → Exact (more_parts b u m) (IsMore P m) (IsMore Q m) (on_part m) on_mixed
  unfolding parts
  more_exact (Condition first) = map_exact (parts b u first) (IsParts P first) (IsParts Q first) Condition on_expr (λ _. on_parts) on_mixed
      (repeat_exact and_of join_parts (part b u) (IsConditionOf P) (IsConditionOf Q) (λ _. on_expr) (λ _. on_expr) part_exact some here refl an_and.0 tt (ap and_of an_and.1) (λ x o b k. refl) (λ b. and_apart) first)
      (λ a k. refl)
  more_exact (Expression e) = pure_exact (Expression e) on_mixed

  some_more : (m : Mixed) → Some_of (IsMore Q m)
  some_more (Condition first) = ([] ++ [], Condition first, both no_more nothing)
  some_more (Expression e) = ([], Expression e, nothing)

  more_here : (m : Mixed) → Some_of (IsMore P m)
  more_here (Condition first) = ([] ++ [], Condition first, both no_more nothing)
  more_here (Expression e) = ([], Expression e, nothing)

  more_next : (m : Mixed) (ts left : List Lexeme) (a : Mixed) → IsMore P m ts a → on_mixed a (peek left) ≡ false → on_part m (peek (ts ++ left)) ≡ false
  more_next (Condition first) _ left a (both {ts = ts} {us = us} {a = all} r p) end =
      ap (λ l. on_expr (peek l)) (append_assoc ts us left ∙ ap (λ l. ts ++ (l ++ left)) (pure_empty us p))
      ∙ repeat_next and_of join_parts (part b u) (IsConditionOf P) (IsConditionOf Q) (λ _. on_expr) (λ _. on_expr) part_exact some here refl an_and.0 tt (ap and_of an_and.1) (λ x o b k. refl) (λ b. and_apart)
      ts left r (ap (λ m. on_mixed m (peek left)) (pure_is us p) ∙ end) on_expr (λ k e. e) and_apart
  more_next (Expression e) _ left _ nothing end = end

  mixed_in_exact : Exact (mixed_in b u) (IsMixedIn P) (IsMixedIn Q) nowhere on_mixed
  unfolding mixed_in
  mixed_in_exact = then_exact (mixed_part b u) (more_parts b u) P Q (IsMore P) (IsMore Q) nowhere on_part on_mixed mixed_part_exact more_exact some_more more_here more_next

-- ---- at each room

pub mixed_exact : (room : ℕ) → Exact (mixed room) (IsMixedAt room) (IsMixedAt (suc room)) nowhere on_mixed
unfolding paren_at mixed_below
mixed_exact zero = mixed_in_exact None (unary zero) (IsUnaryAt zero) (IsUnaryAt (suc zero)) (unaries zero) IsNothing (paren_at (suc zero))
    (limit_paren (IsMixedAt zero) (unary zero) (IsUnaryAt zero) (IsUnaryAt (suc zero)) (unaries zero) (some_mixed zero)) (λ ts left a r. elim r [ ]) (part_goes_on (suc zero)) (some_part (suc zero)) (part_goes_on zero) (some_part zero)
mixed_exact (suc room) = mixed_in_exact (Some (mixed room)) (unary (suc room)) (IsUnaryAt (suc room)) (IsUnaryAt (suc (suc room))) (unaries (suc room)) (paren_at (suc room)) (paren_at (suc (suc room)))
    (inner_paren (mixed room) (IsMixedAt room) (IsMixedAt (suc room)) (unary (suc room)) (IsUnaryAt (suc room)) (IsUnaryAt (suc (suc room))) (unaries (suc room)) (mixed_exact room) (some_mixed (suc room)) (some_mixed room))
    token_heads (part_goes_on (suc (suc room))) (some_part (suc (suc room))) (part_goes_on (suc room)) (some_part (suc room))

pub conditions_exact : (room : ℕ) → Exact (spec.cond room) (IsConditionOf (IsMixedAt room)) (IsConditionOf (IsMixedAt (suc room))) nowhere (λ _ k. has (and_of k) || on_expr k)
unfolding spec.cond
conditions_exact room = wanted_exact (mixed room) (IsMixedAt room) (IsMixedAt (suc room)) on_mixed (λ k. has (and_of k) || on_expr k) (mixed_exact room) (λ parts k. refl) (mixed_goes_on (suc room)) (mixed_goes_on room)
