-- Where a condition or an expression may stand, reading is exact.
use Rattle.std.specs.Prelude.{Bool, true, false, cond, not, Option, Some, None, ◌||◌}
use Rattle.std.proofs.Common.{◌≡◌, List, [], ◌∷◌, ◌++◌, refl, sym, ◌∙◌, ap, subst, inl, inr, append_assoc}
use Rattle.ac_syntax.specs.declared.tree.Place.{Place}
use Rattle.ac_lex.specs.Lexemes.{Lexeme}
use Rattle.ac_lex.specs.declared.tokens.TokenKind.TheVariants as kind
use Rattle.ac_parse_grammar.specs.declared.terminal.Terminal.{Terminal}
use Rattle.ac_parse_grammar.specs.declared.terminal.Terminal.TheVariants as t
use Rattle.ac_parse_grammar.specs.declared.tree.Relation.{Relation}
use Rattle.ac_parse_grammar.specs.declared.tree.Relation.TheVariants as r
use Rattle.ac_parse_grammar.specs.declared.tree.Expr.{Expr}
use Rattle.ac_parse_grammar.specs.declared.tree.Expr.TheVariants.{Group}
use Rattle.ac_parse_grammar.specs.declared.tree.Part.{Part}
use Rattle.ac_parse_grammar.specs.declared.conditions.Mixed.{Mixed}
use Rattle.ac_parse_grammar.specs.declared.conditions.Mixed.TheVariants.{Condition, Expression}
use Rattle.ac_parse_grammar.specs.Terminals.{terminal}
use Rattle.ac_parse_grammar.specs.TokenWords.{place_of}
use Rattle.ac_parse_grammar.specs.ReaderCombinators.{Why, syntax, nesting, Got, found, stopped, Reader, and_then, ◌>>=◌, pure, peek, front, rest, is, ending, operator, operator_at}
use Rattle.ac_parse_grammar.specs.Found.{Rel, Goes, Read, CanGoOn, Stops}
use Rattle.ac_parse_grammar.specs.Expressions.{opens, goes_on, product, sum, expr_of, within}
use Rattle.ac_parse_grammar.specs.Conditions.{and_of, compared, compared_by, behind, required, parts}
use Rattle.ac_parse_grammar.proofs.Exact.{Exact, Some_of, none, nowhere, IsThen, both, then_exact, going, Begun, begun_same}
use Rattle.ac_parse_grammar.proofs.Parts.{IsNothing, IsPure, nothing, pure_exact, ending_exact, pass, token_exact, limit_exact, choose, one, other, choose_from, IsNot, aside, not_exact, closing, IsHeld, IsMap, some_held, held_exact, map_exact, same_exact, goes_exact, marks_of}
use Rattle.ac_parse_grammar.proofs.Repeats.{has, IsLinked, linked, linked_at, pairing, linking, linked_exact}
use Rattle.ac_parse_grammar.proofs.Relations.{IsProduct, IsSum, IsExprOf}
use Rattle.ac_parse_grammar.proofs.Productions.{Inner, on_expr, on_term, a_close, some_expr, some_sum, some_product, product_exact, factors_next, sum_exact, terms_next, expr_exact, expr_heads}
use Rattle.ac_parse_grammar.proofs.MixedRelations.{comparison_of, IsCompared, IsBehind, IsParen, IsConditionOf}
use Rattle.ac_parse_grammar.proofs.ReadExpressions.{same_goes}
use Rattle.ac_parse_grammar.specs.Operators.{relation_of}
use Rattle.ac_parse_grammar.specs.Chains.{part_of}

-- with which terminals a part, and a condition or expression, goes on
abbrev pub on_part : Goes Mixed
on_part (Condition parts) k = on_expr k
on_part (Expression e) k = has (relation_of k) || on_expr k

abbrev pub on_mixed : Goes Mixed
on_mixed (Condition parts) k = has (and_of k) || on_expr k
on_mixed (Expression e) k = has (relation_of k) || on_expr k

relation_apart : (k : Terminal) → has (relation_of k) ≡ true → on_expr k ≡ false
relation_apart t.Less e = refl
relation_apart t.AtMost e = refl
relation_apart t.Greater e = refl
relation_apart t.AtLeast e = refl
relation_apart t.Equal e = refl
relation_apart _ e = cc

pub and_apart : (k : Terminal) → has (and_of k) ≡ true → on_expr k ≡ false
and_apart t.And e = refl
and_apart _ e = cc

or_left : (a b : Bool) → (a || b) ≡ false → a ≡ false
or_left false b e = refl
or_left true b e = cc

or_right : (a b : Bool) → (a || b) ≡ false → b ≡ false
or_right false b e = e
or_right true b e = cc

or_both : (a b : Bool) → a ≡ false → b ≡ false → (a || b) ≡ false
or_both a b e f = rw (e, f) refl

-- a relation and a number
pub a_less : (l : Lexeme) × (terminal l ≡ t.Less)
unfolding terminal
a_less = (record { kind = kind.Mark; at = 0; text = 60 ∷ [] }, refl)

pub an_and : (l : Lexeme) × (terminal l ≡ t.And)
unfolding terminal
an_and = (record { kind = kind.Mark; at = 0; text = 38 ∷ 38 ∷ [] }, refl)

pub some_linked : (V : Rel Expr) → Some_of V → Some_of (IsLinked relation_of (IsExprOf V))
some_linked V some = let e = some_expr V some in (a_less.0 ∷ e.0, (r.Less, e.1), linked (ap relation_of a_less.1) e.2)

-- ---- behind an expression

module _ (u : Reader Expr) (U V : Rel Expr) (inner : Inner u U V) where
  abbrev compared_reader : Expr → Reader Mixed
  compared_reader left = choose (λ k. has (relation_of k)) (linking relation_of (expr_of u) >>= (λ right. pure (comparison_of left right))) (pure (Expression left))

  compared_is : (left : Expr) (ts : List Lexeme) → compared u left ts ≡ compared_reader left ts
  unfolding compared operator linked_at
  compared_is left ts = by_next (relation_of (peek ts))
    where
      by_item : (o : Relation) (r : Got Expr) → and_then r (λ right. pure (Condition (part_of left o right ∷ []))) ≡ and_then (and_then r (pairing o)) (λ right. pure (comparison_of left right))
      by_item o (found b us) = refl
      by_item o (stopped w us) = refl

      by_next : (v : Option Relation) → and_then (operator_at v ts) (compared_by u left) ≡ cond (has v) (and_then (linked_at (expr_of u) v ts) (λ right. pure (comparison_of left right))) (found (Expression left) ts)
      by_next None = refl
      by_next (Some o) = by_item o (expr_of u (rest ts))

  linked_relation : Exact (linking relation_of (expr_of u)) (IsLinked relation_of (IsExprOf U)) (IsLinked relation_of (IsExprOf V)) (λ k. not (has (relation_of k))) (λ a. on_expr)
  linked_relation = linked_exact relation_of (expr_of u) (IsExprOf U) (IsExprOf V) (λ _. on_expr) (expr_exact u U V inner) (some_expr V inner.some) (some_expr U inner.here) refl

  compared_exact : (left : Expr) → Exact (compared u left) (IsCompared U left) (IsCompared V left) on_expr on_part
  compared_exact left = same_exact (compared u left) (compared_is left)
      (choose_from (λ k. has (relation_of k)) on_expr (λ k. not (has (relation_of k))) (on_part (Expression left))
      (linking relation_of (expr_of u) >>= (λ right. pure (comparison_of left right))) (pure (Expression left))
      (IsMap (comparison_of left) (IsLinked relation_of (IsExprOf U))) (IsMap (comparison_of left) (IsLinked relation_of (IsExprOf V))) (IsPure (Expression left)) (IsPure (Expression left)) on_part
      (λ k start is. ap not is) (λ k start is. or_both _ _ is start)
      (map_exact (linking relation_of (expr_of u)) (IsLinked relation_of (IsExprOf U)) (IsLinked relation_of (IsExprOf V)) (comparison_of left) (λ k. not (has (relation_of k))) (λ _. on_expr) on_part linked_relation (λ a k. refl))
      (pure_exact (Expression left) on_part)
      heads apart)
    where
      heads : (ts left' : List Lexeme) (a : Mixed) → IsMap (comparison_of left) (IsLinked relation_of (IsExprOf U)) ts a → has (relation_of (peek (ts ++ left'))) ≡ true
      heads _ left' a (both (linked is i) p) = ap has is

      apart : (ts left' : List Lexeme) (a : Mixed) → IsPure (Expression left) ts a → on_part a (peek left') ≡ false → has (relation_of (peek (ts ++ left'))) ≡ false
      apart _ left' _ nothing end = or_left _ _ end

  compared_next : (left : Expr) (ts left' : List Lexeme) (b : Mixed) → IsCompared U left ts b → on_part b (peek left') ≡ false → on_expr (peek (ts ++ left')) ≡ false
  compared_next left _ left' b (one (both (linked {t = sign} is i) p)) end = relation_apart (terminal sign) (ap has is)
  compared_next left _ left' _ (other nothing) end = or_right _ _ end

  some_compared : (left : Expr) → Some_of (IsCompared V left)
  some_compared left = ([], Expression left, other nothing)

  compared_here : (left : Expr) → Some_of (IsCompared U left)
  compared_here left = ([], Expression left, other nothing)

  -- ---- behind a parenthesis

  abbrev group_reader : Place → Expr → Reader Expr
  group_reader place e = ending opens (Group e place) >>= product u >>= sum u

  grouped_exact : (place : Place) (e : Expr) → Exact (group_reader place e) (IsThen (IsThen (IsPure (Group e place)) (IsProduct U)) (IsSum U)) (IsThen (IsThen (IsPure (Group e place)) (IsProduct V)) (IsSum V)) nowhere (λ _. on_expr)
  grouped_exact place e = then_exact (ending opens (Group e place) >>= product u) (sum u)
      (IsThen (IsPure (Group e place)) (IsProduct U)) (IsThen (IsPure (Group e place)) (IsProduct V)) (IsSum U) (IsSum V) nowhere (λ _. on_term) (λ _. on_expr)
      (then_exact (ending opens (Group e place)) (product u) (IsPure (Group e place)) (IsPure (Group e place)) (IsProduct U) (IsProduct V) nowhere (λ _. opens) (λ _. on_term)
      (ending_exact (Group e place) nowhere opens) (product_exact u U V inner) (some_product V) (some_product U) (factors_next u U V inner))
      (sum_exact u U V inner) (some_sum V) (some_sum U) (terms_next u U V inner)

  behind_exact : (place : Place) (m : Mixed) → Exact (behind u place m) (IsBehind U place m) (IsBehind V place m) nowhere on_part
  unfolding behind
  behind_exact place (Expression e) = then_exact (group_reader place e) (compared u)
      (IsThen (IsThen (IsPure (Group e place)) (IsProduct U)) (IsSum U)) (IsThen (IsThen (IsPure (Group e place)) (IsProduct V)) (IsSum V)) (IsCompared U) (IsCompared V) nowhere (λ _. on_expr) on_part
      (grouped_exact place e) compared_exact some_compared compared_here compared_next
  behind_exact place (Condition parts) = goes_exact on_part (λ ts a is k. goes a is k) (ending_exact (Condition parts) nowhere goes_on)
    where
      goes : {ts : List Lexeme} (a : Mixed) → IsPure (Condition parts) ts a → (k : Terminal) → on_part a k ≡ goes_on k
      goes _ nothing k = sym (same_goes k)

  behind_here : (place : Place) (m : Mixed) → Some_of (IsBehind U place m)
  behind_here place (Expression e) = let p = some_product U (Group e place) in let s = some_sum U p.1 in ((p.0 ++ s.0) ++ [], Expression s.1, both (both (both nothing p.2) s.2) (other nothing))
  behind_here place (Condition parts) = ([], Condition parts, nothing)

  some_behind : (place : Place) (m : Mixed) → Some_of (IsBehind V place m)
  some_behind place (Expression e) = let p = some_product V (Group e place) in let s = some_sum V p.1 in ((p.0 ++ s.0) ++ [], Expression s.1, both (both (both nothing p.2) s.2) (other nothing))
  some_behind place (Condition parts) = ([], Condition parts, nothing)

  -- ---- where the parenthesis does not come first

  expr_some : (a : Expr) → IsExprOf U [] a → ⊥
  expr_some a r = cc (expr_heads u U V inner [] [] a r)

  pub plain_exact : Exact (expr_of u >>= compared u) (IsThen (IsNot (is t.Open) (IsExprOf U)) (IsCompared U)) (IsThen (IsNot (is t.Open) (IsExprOf V)) (IsCompared V)) (is t.Open) on_part
  unfolding is
  plain_exact = then_exact (expr_of u) (compared u) (IsNot (is t.Open) (IsExprOf U)) (IsNot (is t.Open) (IsExprOf V)) (IsCompared U) (IsCompared V) (is t.Open) (λ _. on_expr) on_part
      (not_exact (is t.Open) (expr_of u) (IsExprOf U) (IsExprOf V) (λ _. on_expr) refl (expr_exact u U V inner) expr_some) compared_exact some_compared compared_here compared_next

  pub plain_heads : (ts left : List Lexeme) (a : Mixed) → IsThen (IsNot (is t.Open) (IsExprOf U)) (IsCompared U) ts a → is t.Open (peek (ts ++ left)) ≡ false
  plain_heads _ left a (both (aside off r) s) = off

-- ---- in and outside a parenthesis

unfoldable pub paren_reader : Option (Reader Mixed) → Reader Expr → Reader Mixed
paren_reader None u = λ ts. stopped nesting ts
paren_reader (Some m) u = pass (λ left. (m >>= closing t.Close) >>= behind u (place_of left))

pub paren_is : (b : Option (Reader Mixed)) (u : Reader Expr) (ts : List Lexeme) → and_then (within b (λ mixed. mixed) t.Close ts) (behind u (place_of (front ts))) ≡ paren_reader b u ts
unfolding within paren_reader
paren_is None u ts = refl
paren_is (Some m) u ts = refl

on_mixed_off : (m : Mixed) → on_mixed m t.Close ≡ false
on_mixed_off (Condition parts) = refl
on_mixed_off (Expression e) = refl

some_paren : (M : Rel Mixed) (u : Reader Expr) (U V : Rel Expr) → Inner u U V → Some_of M → (left : Lexeme) → Some_of (IsThen (IsHeld M t.Close) (IsBehind V (place_of left)))
some_paren M u U V inner some left =
    let held = some_held M t.Close a_close some in
    let s = some_behind u U V inner (place_of left) held.1 in
    (held.0 ++ s.0, s.1, both held.2 s.2)

paren_here : (M : Rel Mixed) (u : Reader Expr) (U V : Rel Expr) → Inner u U V → Some_of M → (left : Lexeme) → Some_of (IsThen (IsHeld M t.Close) (IsBehind U (place_of left)))
paren_here M u U V inner some left =
    let held = some_held M t.Close a_close some in
    let s = behind_here u U V inner (place_of left) held.1 in
    (held.0 ++ s.0, s.1, both held.2 s.2)

pub inner_paren : (m : Reader Mixed) (M N : Rel Mixed) (u : Reader Expr) (U V : Rel Expr) → Inner u U V → Exact m M N nowhere on_mixed → Some_of N → Some_of M
    → Exact (paren_reader (Some m) u) (IsParen M U) (IsParen N V) (λ k. not (is t.Open k)) on_part
unfolding paren_reader is
inner_paren m M N u U V inner x some here = token_exact (is t.Open) (λ left. (m >>= closing t.Close) >>= behind u (place_of left))
    (λ left. IsThen (IsHeld M t.Close) (IsBehind U (place_of left))) (λ left. IsThen (IsHeld N t.Close) (IsBehind V (place_of left))) on_part refl
    (λ left. then_exact (m >>= closing t.Close) (behind u (place_of left)) (IsHeld M t.Close) (IsHeld N t.Close) (IsBehind U (place_of left)) (IsBehind V (place_of left)) nowhere none on_part
    (held_exact m M N nowhere on_mixed t.Close a_close x refl on_mixed_off) (behind_exact u U V inner (place_of left)) (some_behind u U V inner (place_of left)) (behind_here u U V inner (place_of left)) (λ a ts left b r end. refl))
    (some_paren N u U V inner some) (paren_here M u U V inner here)

pub limit_paren : (N : Rel Mixed) (u : Reader Expr) (U V : Rel Expr) → Inner u U V → Some_of N → Exact (paren_reader None u) IsNothing (IsParen N V) (λ k. not (is t.Open k)) on_part
unfolding paren_reader is
limit_paren N u U V inner some = limit_exact (is t.Open) (λ left. IsThen (IsHeld N t.Close) (IsBehind V (place_of left))) on_part refl (marks_of t.Open refl) (some_paren N u U V inner some)

-- ---- a part, and a whole condition

-- what a condition wants is exact where each expression goes on with a comparison
module _ (p : Reader Mixed) (R V : Rel Mixed) (g : Goes Mixed) (h : Terminal → Bool) (x : Exact p R V nowhere g) (same : (parts : List Part) (k : Terminal) → g (Condition parts) k ≡ h k)
    (extend : (ts : List Lexeme) (e : Expr) → V ts (Expression e) → CanGoOn (IsConditionOf V) ts)
    (extend_here : (ts : List Lexeme) (e : Expr) → R ts (Expression e) → CanGoOn (IsConditionOf R) ts) where
  wanted_goes_on : (pre : List Lexeme) → CanGoOn V pre → CanGoOn (IsConditionOf V) pre
  wanted_goes_on pre on = by_value on.1 on.2
    where
      by_value : (m : Mixed) → V (pre ++ on.0) m → CanGoOn (IsConditionOf V) pre
      by_value (Condition parts) r = (on.0, parts, r)
      by_value (Expression e) r = let c = extend (pre ++ on.0) e r in (on.0 ++ c.0, c.1, subst (λ l. V l (Condition c.1)) (append_assoc pre on.0 c.0) c.2)

  wanted_sound : (ts left : List Lexeme) (parts : List Part) (r : Got Mixed) → p ts ≡ r → and_then r required ≡ found parts left → Read (IsConditionOf R) (λ _. h) ts left parts
  wanted_sound ts left parts (found (Condition all) mid) got e =
      let same_parts : all ≡ parts = cc (e) in let empty : mid ≡ left = cc (e) in
      let c = x.sound ts left (Condition parts) refl (got ∙ ap (λ v. found (Condition v) mid) same_parts ∙ ap (λ l. found (Condition parts) l) empty) in
      record { used = c.used; cut = c.cut; is = c.is; ends = sym (same parts (peek left)) ∙ c.ends }
  wanted_sound ts left parts (found (Expression e') mid) got e = cc (e)
  wanted_sound ts left parts (stopped w bad) got e = cc (e)

  wanted_complete : (ts left : List Lexeme) (parts : List Part) → R ts (Condition parts) → h (peek left) ≡ false → and_then (p (ts ++ left)) required ≡ found parts left
  wanted_complete ts left parts r end = ap (λ v. and_then v required) (x.complete ts left (Condition parts) r (same parts (peek left) ∙ end))

  wanted_stops : (ts bad : List Lexeme) (w : Why) (r : Got Mixed) → p ts ≡ r → and_then r required ≡ stopped w bad → Stops (p >>= required) (IsConditionOf V) w ts bad
  wanted_stops ts bad w (found (Condition all) mid) got e = cc (e)
  wanted_stops ts bad w (found (Expression f) mid) got e =
      let c = x.sound ts mid (Expression f) refl got in
      let at : mid ≡ bad = cc (e) in let cause : syntax ≡ w = cc (e) in
      record {
        pre = c.used;
        cut = c.cut ∙ ap (λ l. c.used ++ l) at;
        viable = inr (extend c.used f (x.up _ _ c.is));
        only = λ other kind. ap (λ v. and_then v required) (x.complete c.used other (Expression f) c.is (ap (g (Expression f)) (kind ∙ ap peek (sym at)) ∙ c.ends)) ∙ ap (λ v. stopped v other) cause;
        deeper = λ deep. cc (deep, cause);
      }
  wanted_stops ts bad w (stopped w' bad') got e =
      let c = x.stops ts bad w refl (got ∙ cc (e)) in
      record {
        pre = c.pre;
        cut = c.cut;
        viable = elim c.viable [ inl empty ↦ inl empty | inr on ↦ inr (wanted_goes_on c.pre on) ];
        only = λ other kind. ap (λ v. and_then v required) (c.only other kind);
        deeper = λ deep. wanted_goes_on (c.pre ++ front bad ∷ []) (c.deeper deep);
      }

  wanted_here : (pre : List Lexeme) → CanGoOn R pre → CanGoOn (IsConditionOf R) pre
  wanted_here pre on = by_value on.1 on.2
    where
      by_value : (m : Mixed) → R (pre ++ on.0) m → CanGoOn (IsConditionOf R) pre
      by_value (Condition parts) r = (on.0, parts, r)
      by_value (Expression e) r = let c = extend_here (pre ++ on.0) e r in (on.0 ++ c.0, c.1, subst (λ l. R l (Condition c.1)) (append_assoc pre on.0 c.0) c.2)

  wanted_alive : (ts bad : List Lexeme) (w : Why) (r : Got Mixed) → p ts ≡ r → and_then r required ≡ stopped w bad → Begun (IsConditionOf R) w ts bad
  wanted_alive ts bad w (found (Condition all) mid) got e = cc (e)
  wanted_alive ts bad w (found (Expression f) mid) got e =
      let c = x.sound ts mid (Expression f) refl got in
      let at : mid ≡ bad = cc (e) in let cause : syntax ≡ w = cc (e) in
      record { pre = c.used; cut = c.cut ∙ ap (λ l. c.used ++ l) at; live = going (extend_here c.used f c.is); marks = λ deep. cc (deep, cause) }
  wanted_alive ts bad w (stopped w' bad') got e = begun_same R (IsConditionOf R) wanted_here w ts bad (x.alive ts bad w refl (got ∙ cc (e)))

  pub wanted_exact : Exact (p >>= required) (IsConditionOf R) (IsConditionOf V) nowhere (λ _. h)
  wanted_exact = record {
    sound = λ ts left parts start e. wanted_sound ts left parts (p ts) refl e;
    complete = wanted_complete;
    stops = λ ts bad w start e. wanted_stops ts bad w (p ts) refl e;
    up = λ ts parts r. x.up ts (Condition parts) r;
    alive = λ ts bad w start e. wanted_alive ts bad w (p ts) refl e;
  }
