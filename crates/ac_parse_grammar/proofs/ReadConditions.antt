-- What is read as a condition is the grammar's.
use Rattle.std.specs.Prelude.{Bool, true, false, Some, ◌||◌, ◌⊎◌}
use Rattle.std.proofs.Common.{◌≡◌, ℕ, zero, suc, List, [], ◌∷◌, ◌++◌, refl, sym, ◌∙◌, ap, subst, inl, inr, append_assoc}
use Rattle.std.proofs.lemmas.List.{append-nil}
use Rattle.ac_lex.specs.Lexemes.{Lexeme}
use Rattle.ac_parse_grammar.specs.declared.terminal.Terminal.{Terminal}
use Rattle.ac_parse_grammar.specs.declared.terminal.Terminal.TheVariants as t
use Rattle.ac_parse_grammar.specs.declared.tree.Relation.{Relation}
use Rattle.ac_parse_grammar.specs.declared.tree.Expr.{Expr}
use Rattle.ac_parse_grammar.specs.declared.tree.Expr.TheVariants as tree
use Rattle.ac_parse_grammar.specs.declared.tree.Part.{Part}
use Rattle.ac_parse_grammar.specs.declared.conditions.Mixed.{Mixed}
use Rattle.ac_parse_grammar.specs.declared.conditions.Mixed.TheVariants.{Condition, Expression}
use Rattle.ac_parse_grammar.specs.Terminals.{terminal, is_rounding}
use Rattle.ac_parse_grammar.specs.TokenWords.{place_of}
use Rattle.ac_parse_grammar.specs.ReaderCombinators.{is}
use Rattle.ac_parse_grammar.specs.Found.{Rel}
use Rattle.ac_parse_grammar.specs.Grammar as g
use Rattle.ac_parse_grammar.specs.Grammar.{IsExpr, IsCond, IsPart}
use Rattle.ac_parse_grammar.specs.Conditions.{and_of, join_parts, condition_goes_on}
use Rattle.ac_parse_grammar.specs.Conditions as spec
use Rattle.ac_parse_grammar.proofs.Exact.{Exact, Some_of, nowhere, IsThen, both}
use Rattle.ac_parse_grammar.proofs.Many.{no_more}
use Rattle.ac_parse_grammar.proofs.Parts.{is_true, true_is, IsPure, nothing, pure_empty, pure_is, IsToken, token, one, other, IsNot, aside, closed, IsHeld, goes_exact, equal_exact}
use Rattle.ac_parse_grammar.proofs.Repeats.{has, IsLinked, linked}
use Rattle.ac_parse_grammar.proofs.Relations.{at_limit, around, IsGroup, IsProduct, IsSum, IsUnaryIn, IsUnaryAt, IsExprAt}
use Rattle.ac_parse_grammar.proofs.Levels.{is_apart, name_apart, rounding_apart}
use Rattle.ac_parse_grammar.proofs.Productions.{on_expr}
use Rattle.ac_parse_grammar.proofs.MixedRelations.{IsCompared, IsBehind, IsParen, IsConditionOf, IsParts, IsMore, paren_at, IsMixedPartAt, IsMixedAt}
use Rattle.ac_parse_grammar.proofs.MixedLevels.{part_more, conditions_exact, some_part}
use Rattle.ac_parse_grammar.proofs.Aloud.{many_snoc, repeat_all, map_of, of_map, expr_aloud, aloud_expr}
use Rattle.ac_parse_grammar.specs.Operators.{relation_of}
use Rattle.ac_parse_grammar.specs.Chains.{part_of}

-- ---- what a mixed value says

abbrev SaysPart : ℕ → Rel Mixed
SaysPart room ts (Condition parts) = IsPart room ts parts
SaysPart room ts (Expression e) = IsExpr room ts e

abbrev Says : ℕ → Rel Mixed
Says room ts (Condition parts) = IsCond room ts parts
Says room ts (Expression e) = IsExpr room ts e

compared_to : (room : ℕ) (front : List Lexeme) (left : Expr) → IsExpr room front left → (ts : List Lexeme) (m : Mixed) → IsCompared (IsUnaryAt room) left ts m → SaysPart room (front ++ ts) m
compared_to room front left e ts m (one r) = of_map (λ ts m. SaysPart room (front ++ ts) m) by_link ts m r
  where
    by_link : (ts : List Lexeme) (more : Relation × Expr) → IsLinked relation_of (IsExprAt room) ts more → IsPart room (front ++ ts) (part_of left more.0 more.1 ∷ [])
    by_link _ _ (linked {t = sign} {ts = us} {b = right} at i) = g.comparison sign e at (expr_aloud room us right i)
compared_to room front left e _ _ (other nothing) = subst (λ l. IsExpr room l left) (sym (append-nil front)) e

-- an expression that begins with a parenthesis
grouped : (room : ℕ) (ds : List Lexeme) (first : Expr) → IsUnaryAt room ds first → (ts : List Lexeme) (e : Expr) → IsThen (IsThen (IsPure first) (IsProduct (IsUnaryAt room))) (IsSum (IsUnaryAt room)) ts e
    → IsExprAt room (ds ++ ts) e
grouped room ds first u _ e (both {us = cs} {a = term} (both {ts = vs} {us = bs} {a = a} p q) s) =
    subst (λ l. IsExprAt room (ds ++ ((l ++ bs) ++ cs)) e) (sym (pure_empty vs p))
    (subst (λ l. IsExprAt room l e) (append_assoc ds bs cs) (both (both u (subst (λ a. IsProduct (IsUnaryAt room) a bs term) (sym (pure_is vs p)) q)) s))

group_unary : (room : ℕ) (left right : Lexeme) (ts : List Lexeme) (inner : Expr) → is t.Open (terminal left) ≡ true → IsExpr room ts inner → terminal right ≡ t.Close
    → IsUnaryAt (suc room) (left ∷ ts ++ right ∷ []) (tree.Group inner (place_of left))
unfolding IsUnaryAt
group_unary room left right ts inner at i close = other (other (other (other (one (token at
    (map_of (IsHeld (IsExprAt room) t.Close) (λ inner. tree.Group inner (place_of left)) (ts ++ right ∷ []) inner (both (aloud_expr room ts inner i) (closed close))))))))

behind_to : (room : ℕ) (left right : Lexeme) → is t.Open (terminal left) ≡ true → terminal right ≡ t.Close → (ts us : List Lexeme) (inner m : Mixed) → Says room ts inner
    → IsBehind (IsUnaryAt (suc room)) (place_of left) inner us m → SaysPart (suc room) ((left ∷ ts ++ right ∷ []) ++ us) m
behind_to room left right at close ts _ (Condition parts) _ said nothing =
    subst (λ l. IsPart (suc room) (left ∷ l) parts) (sym (append-nil (ts ++ right ∷ []))) (g.nested {left = left} right (is_true _ _ at) said close)
behind_to room left right at close ts _ (Expression inner) m said (both {ts = vs} {us = ws} {a = e} r c) =
    let whole = left ∷ ts ++ right ∷ [] in
    subst (λ l. SaysPart (suc room) l m) (append_assoc (left ∷ ts ++ right ∷ []) vs ws)
    (compared_to (suc room) ((left ∷ ts ++ right ∷ []) ++ vs) e
    (expr_aloud (suc room) ((left ∷ ts ++ right ∷ []) ++ vs) e (grouped (suc room) (left ∷ ts ++ right ∷ []) (tree.Group inner (place_of left)) (group_unary room left right ts inner at said close) vs e r)) ws m c)

plain_to : (room : ℕ) (ts : List Lexeme) (m : Mixed) → IsThen (IsNot (is t.Open) (IsExprAt room)) (IsCompared (IsUnaryAt room)) ts m → SaysPart room ts m
plain_to room _ m (both {us = us} {a = left} (aside {t = first} {ts = ts} off r) c) = compared_to room (first ∷ ts) left (expr_aloud room (first ∷ ts) left r) us m c

is_and : (k : Terminal) (o : Unit {0}) → and_of k ≡ Some o → k ≡ t.And
is_and t.And o e = refl
is_and _ o e = cc

parts_to : (room : ℕ) → ((ts : List Lexeme) (m : Mixed) → IsMixedPartAt room ts m → SaysPart room ts m) → (ts : List Lexeme) (m : Mixed) → IsMixedAt room ts m → Says room ts m
parts_to room part _ m (both {ts = ts} {us = us} {a = first} r s) = by_first first (part ts first r) s
  where
    all : (first : List Part) → IsPart room ts first → (us : List Lexeme) (parts : List Part) → IsParts (IsMixedPartAt room) first us parts → IsCond room (ts ++ us) parts
    all first p us parts r = repeat_all (IsCond room) (λ ts us t x o b c at i. g.next_part t c (is_and _ o at) (part us (Condition b) i)) ts us (g.one_part p) r

    by_first : (first : Mixed) → SaysPart room ts first → IsMore (IsMixedPartAt room) first us m → Says room (ts ++ us) m
    by_first (Condition parts) p s = of_map (λ us m. Says room (ts ++ us) m) (λ us parts' r. all parts p us parts' r) us m s
    by_first (Expression e) p s = subst (λ m. Says room (ts ++ us) m) (pure_is us s) (subst (λ l. IsExpr room (ts ++ l) e) (sym (pure_empty us s)) (subst (λ l. IsExpr room l e) (sym (append-nil ts)) p))

mixed_to : (room : ℕ) (ts : List Lexeme) (m : Mixed) → IsMixedAt room ts m → Says room ts m
unfolding paren_at
mixed_to zero = parts_to zero part
  where
    part : (ts : List Lexeme) (m : Mixed) → IsMixedPartAt zero ts m → SaysPart zero ts m
    part ts m (one r) = elim r [ ]
    part ts m (other r) = plain_to zero ts m r
mixed_to (suc room) = parts_to (suc room) (λ ts m r. part (mixed_to room) ts m r)
  where
    paren : ((ts : List Lexeme) (m : Mixed) → IsMixedAt room ts m → Says room ts m) → (ts : List Lexeme) (m : Mixed) → IsParen (IsMixedAt room) (IsUnaryAt (suc room)) ts m → SaysPart (suc room) ts m
    paren inside _ m (token {t = left} at (both {us = us} (both {ts = ts} {a = inner} r (closed {t = right} close)) b)) = behind_to room left right at close ts us inner m (inside ts inner r) b

    part : ((ts : List Lexeme) (m : Mixed) → IsMixedAt room ts m → Says room ts m) → (ts : List Lexeme) (m : Mixed) → IsMixedPartAt (suc room) ts m → SaysPart (suc room) ts m
    part inside ts m (one r) = paren inside ts m r
    part inside ts m (other r) = plain_to (suc room) ts m r

-- ---- and back

record NotOpen (ts : List Lexeme) : Type 0 where
  first : Lexeme
  more : List Lexeme
  cut : ts ≡ first ∷ more
  off : is t.Open (terminal first) ≡ false

not_open : {A : Type 0} {test : Terminal → Bool} {R : Lexeme → Rel A} → ((k : Terminal) → test k ≡ true → is t.Open k ≡ false) → (ts : List Lexeme) (a : A) → IsToken test R ts a → NotOpen ts
not_open off _ a (token {t = first} {ts = ts} at r) = record { first = first; more = ts; cut = refl; off = off (terminal first) at }

rounding_not_open : (k : Terminal) → is_rounding k ≡ true → is t.Open k ≡ false
rounding_not_open k e = (rounding_apart k e).paren

split_in : (U : Rel Expr) (ts : List Lexeme) (a : Expr) → IsUnaryIn (around U) ts a → IsToken (is t.Open) (IsGroup U) ts a ⊎ NotOpen ts
unfolding is
split_in U _ a (one (token {t = first} {ts = ts} at r)) = inr (record { first = first; more = ts; cut = refl; off = is_apart t.Minus t.Open _ at refl })
split_in U _ a (other (one (token {t = first} {ts = ts} at r))) = inr (record { first = first; more = ts; cut = refl; off = is_apart t.Number t.Open _ at refl })
split_in U _ a (other (other (one (token {t = first} {ts = ts} at r)))) = inr (record { first = first; more = ts; cut = refl; off = is_apart t.Decimal t.Open _ at refl })
split_in U ts a (other (other (other (one r)))) = inr (not_open rounding_not_open ts a r)
split_in U ts a (other (other (other (other (one r))))) = inl r
split_in U _ a (other (other (other (other (other (one (token {t = first} {ts = ts} at r))))))) = inr (record { first = first; more = ts; cut = refl; off = (name_apart _ at).paren })
split_in U ts a (other (other (other (other (other (other r)))))) = elim r [ ]

limit_not_open : (ts : List Lexeme) (a : Expr) → IsUnaryIn at_limit ts a → NotOpen ts
unfolding is
limit_not_open ts a (one r) = elim r [ ]
limit_not_open _ a (other (one (token {t = first} {ts = ts} at r))) = record { first = first; more = ts; cut = refl; off = is_apart t.Number t.Open _ at refl }
limit_not_open _ a (other (other (one (token {t = first} {ts = ts} at r)))) = record { first = first; more = ts; cut = refl; off = is_apart t.Decimal t.Open _ at refl }
limit_not_open ts a (other (other (other (one r)))) = not_open rounding_not_open ts a r
limit_not_open ts a (other (other (other (other (one r))))) = elim r [ ]
limit_not_open _ a (other (other (other (other (other (one (token {t = first} {ts = ts} at r))))))) = record { first = first; more = ts; cut = refl; off = (name_apart _ at).paren }
limit_not_open ts a (other (other (other (other (other (other r)))))) = elim r [ ]

plain_from : (room : ℕ) (ts rest : List Lexeme) (e : Expr) → NotOpen ts → IsExprAt room (ts ++ rest) e → IsMixedPartAt room (ts ++ rest) (Expression e)
plain_from room ts rest e n r =
    let all : ts ++ rest ≡ n.first ∷ (n.more ++ rest) = ap (λ l. l ++ rest) n.cut in
    subst (λ l. IsMixedPartAt room l (Expression e)) (append-nil (n.first ∷ (n.more ++ rest)) ∙ sym all) (other (both (aside n.off (subst (λ l. IsExprAt room l e) all r)) (other nothing)))

mixed_of_part : (room : ℕ) (ts : List Lexeme) (e : Expr) → IsMixedPartAt room ts (Expression e) → IsMixedAt room ts (Expression e)
mixed_of_part room ts e r = subst (λ l. IsMixedAt room l (Expression e)) (append-nil ts) (both r nothing)

expr_mixed : (room : ℕ) (ts : List Lexeme) (e : Expr) → IsExprAt room ts e → IsMixedPartAt room ts (Expression e)
unfolding IsUnaryAt paren_at
expr_mixed zero _ e (both {us = cs} (both {ts = ds} {us = bs} {a = first} u p) s) =
    subst (λ l. IsMixedPartAt zero l (Expression e)) (sym (append_assoc ds bs cs))
    (plain_from zero ds (bs ++ cs) e (limit_not_open ds first u) (subst (λ l. IsExprAt zero l e) (append_assoc ds bs cs) (both (both u p) s)))
expr_mixed (suc room) _ e (both {us = cs} {a = term} (both {ts = ds} {us = bs} {a = first} u p) s) = by_first (split_in (IsUnaryAt room) ds first u) (expr_mixed room)
  where
    held : (left : Lexeme) (ds bs cs : List Lexeme) (first : Expr) → ((ts : List Lexeme) (e : Expr) → IsExprAt room ts e → IsMixedPartAt room ts (Expression e)) → is t.Open (terminal left) ≡ true
        → (inner : Expr) → IsHeld (IsExprAt room) t.Close ds inner → first ≡ tree.Group inner (place_of left) → IsProduct (IsUnaryAt (suc room)) first bs term → IsSum (IsUnaryAt (suc room)) term cs e
        → IsMixedPartAt (suc room) (((left ∷ ds) ++ bs) ++ cs) (Expression e)
    held left _ bs cs first inside at inner (both {ts = ts} r (closed {t = right} close)) same p s =
        subst (λ l. IsMixedPartAt (suc room) l (Expression e)) (ap (λ l. (left ∷ ts ++ right ∷ []) ++ l) (append-nil (bs ++ cs)) ∙ sym (append_assoc (left ∷ ts ++ right ∷ []) bs cs))
        (one (token at (both (both (mixed_of_part room ts inner (inside ts inner r)) (closed close))
        (both (both (both nothing (subst (λ a. IsProduct (IsUnaryAt (suc room)) a bs term) same p)) s) (other nothing)))))

    group : (ds : List Lexeme) → ((ts : List Lexeme) (e : Expr) → IsExprAt room ts e → IsMixedPartAt room ts (Expression e)) → IsToken (is t.Open) (IsGroup (IsUnaryAt room)) ds first
        → IsMixedPartAt (suc room) ((ds ++ bs) ++ cs) (Expression e)
    group _ inside (token {t = left} at (both {ts = ts} {us = us} {a = inner} h q)) =
        subst (λ l. IsMixedPartAt (suc room) (((left ∷ l) ++ bs) ++ cs) (Expression e)) (sym (append-nil ts) ∙ ap (λ l. ts ++ l) (sym (pure_empty us q)))
        (held left ts bs cs first inside at inner h (sym (pure_is us q)) p s)

    by_first : IsToken (is t.Open) (IsGroup (IsUnaryAt room)) ds first ⊎ NotOpen ds → ((ts : List Lexeme) (e : Expr) → IsExprAt room ts e → IsMixedPartAt room ts (Expression e)) → IsMixedPartAt (suc room) ((ds ++ bs) ++ cs) (Expression e)
    by_first (inl r) inside = group ds inside r
    by_first (inr n) inside = subst (λ l. IsMixedPartAt (suc room) l (Expression e)) (sym (append_assoc ds bs cs))
        (plain_from (suc room) ds (bs ++ cs) e n (subst (λ l. IsExprAt (suc room) l e) (append_assoc ds bs cs) (both (both u p) s)))

comparison_from : (room : ℕ) (sign : Lexeme) (ts us : List Lexeme) (a b : Expr) (r : Relation) → IsExpr room ts a → relation_of (terminal sign) ≡ Some r → IsExpr room us b
    → IsMixedPartAt room (ts ++ sign ∷ us) (Condition (part_of a r b ∷ []))
comparison_from room sign ts us a b r i at j = part_more room a (sign ∷ us) (r, b) (linked at (aloud_expr room us b j)) ts (expr_mixed room ts a (aloud_expr room ts a i))

conds_from : (room : ℕ) → ((ts : List Lexeme) (parts : List Part) → IsPart room ts parts → IsMixedPartAt room ts (Condition parts)) → (ts : List Lexeme) (parts : List Part) → IsCond room ts parts
    → IsThen (IsConditionOf (IsMixedPartAt room)) (IsParts (IsMixedPartAt room)) ts parts
conds_from room part _ _ (g.one_part {ts = ts} {ps = ps} p) = subst (λ l. IsThen (IsConditionOf (IsMixedPartAt room)) (IsParts (IsMixedPartAt room)) l ps) (append-nil ts) (both (part ts ps p) no_more)
conds_from room part _ _ (g.next_part {ts = ts} {us = us} {ps = ps} {qs = qs} also c at p) = more ts (conds_from room part ts ps c)
  where
    more : (ts : List Lexeme) → IsThen (IsConditionOf (IsMixedPartAt room)) (IsParts (IsMixedPartAt room)) ts ps → IsThen (IsConditionOf (IsMixedPartAt room)) (IsParts (IsMixedPartAt room)) (ts ++ also ∷ us) (ps ++ qs)
    more _ (both {ts = vs} {us = ws} f m) = subst (λ l. IsThen (IsConditionOf (IsMixedPartAt room)) (IsParts (IsMixedPartAt room)) l (ps ++ qs)) (sym (append_assoc vs ws (also ∷ us)))
        (both f (many_snoc ws (also ∷ us) m (linked (ap and_of at) (part us qs p))))

cond_in : (room : ℕ) (ts : List Lexeme) (parts : List Part) → IsThen (IsConditionOf (IsMixedPartAt room)) (IsParts (IsMixedPartAt room)) ts parts → IsMixedAt room ts (Condition parts)
cond_in room _ parts (both {us = us} {a = first} f m) = both f (map_of (IsParts (IsMixedPartAt room) first) Condition us parts m)

part_at_limit : (ts : List Lexeme) (parts : List Part) → IsPart zero ts parts → IsMixedPartAt zero ts (Condition parts)
part_at_limit _ _ (g.comparison {ts = ts} {us = us} {a = a} {b = b} {r = r} sign i at j) = comparison_from zero sign ts us a b r i at j

part_inside : (room : ℕ) → ((ts : List Lexeme) (parts : List Part) → IsCond room ts parts → IsMixedAt room ts (Condition parts)) → (ts : List Lexeme) (parts : List Part) → IsPart (suc room) ts parts
    → IsMixedPartAt (suc room) ts (Condition parts)
unfolding paren_at
part_inside room inside _ _ (g.comparison {ts = ts} {us = us} {a = a} {b = b} {r = r} sign i at j) = comparison_from (suc room) sign ts us a b r i at j
part_inside room inside _ _ (g.nested {left = left} {ts = ts} {ps = ps} right at c close) =
    subst (λ l. IsMixedPartAt (suc room) (left ∷ l) (Condition ps)) (append-nil (ts ++ right ∷ [])) (one (token (true_is _ _ at) (both (both (inside ts ps c) (closed close)) nothing)))

cond_from : (room : ℕ) (ts : List Lexeme) (parts : List Part) → IsCond room ts parts → IsMixedAt room ts (Condition parts)
cond_from zero ts parts c = cond_in zero ts parts (conds_from zero part_at_limit ts parts c)
cond_from (suc room) ts parts c = cond_in (suc room) ts parts (conds_from (suc room) (part_inside room (cond_from room)) ts parts c)

cond_goes : (k : Terminal) → condition_goes_on k ≡ has (and_of k) || on_expr k
cond_goes t.And = refl
cond_goes t.Plus = refl
cond_goes t.Minus = refl
cond_goes t.Star = refl
cond_goes t.Slash = refl
cond_goes t.Percent = refl
cond_goes t.Open = refl
cond_goes t.OpenBracket = refl
cond_goes _ = refl

pub read_cond : (room : ℕ) → Exact (spec.cond room) (IsCond room) (IsCond (suc room)) nowhere (λ _. condition_goes_on)
read_cond room = goes_exact (λ _. condition_goes_on) (λ ts a r k. cond_goes k)
    (equal_exact (IsCond room) (IsCond (suc room)) (λ ts parts r. mixed_to room ts (Condition parts) r) (cond_from room) (λ ts parts r. mixed_to (suc room) ts (Condition parts) r) (conditions_exact room))

pub some_cond_at : (room : ℕ) → Some_of (IsCond room)
some_cond_at room = let p = some_part room in (p.0 ++ [], p.1, mixed_to room (p.0 ++ []) (Condition p.1) (both p.2 (both no_more nothing)))
