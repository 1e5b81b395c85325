-- A value that is read of an expression has calls whose symbols count their arguments, up to 255; in few nodes that is how many there are.
use Rattle.std.proofs.Common.{◌≡◌, ℕ, ◌+◌, ◌≤◌, min, Bool, true, false, List, [], ◌∷◌, map, length, refl, sym, ap, ◌∙◌, subst, rules, arith}
use Rattle.std.specs.Prelude.{if◌then◌else◌}
use Rattle.std.specs.List.{AllByRecursion}
use Rattle.std.proofs.lemmas.List.{length-map}
use Rattle.ac_syntax.specs.ValueNodes.{size, size_in}
use Rattle.ac_syntax.specs.declared.tree.Place.{Place}
use Rattle.ac_syntax.specs.declared.tree.Symbol.{Symbol}
use Rattle.ac_syntax.specs.declared.tree.Value.{Value, Row_of-Value, end_of-Value, more_of-Value, items-the_row-Value, the_lemmas as value_lemmas}
use Rattle.ac_syntax.specs.declared.tree.Value.TheVariants as v
use Rattle.ac_syntax.proofs.NodeLemmas.{size_positive}
use Rattle.ac_parse_grammar.specs.declared.tree.Word.{Word}
use Rattle.ac_parse_grammar.specs.declared.tree.Operator.{Operator}
use Rattle.ac_parse_grammar.specs.declared.tree.Expr.{Expr}
use Rattle.ac_parse_exprs.specs.declared.scope.Entry.{Entry}
use Rattle.ac_parse_exprs.specs.declared.scope.Scope.{Scope}
use Rattle.ac_parse_exprs.specs.declared.scope.Meaning.{Meaning}
use Rattle.ac_parse_exprs.specs.Meanings.{meaning}
use Rattle.ac_parse_exprs.specs.Values.{Reading, number, other, reading, value_of, value, placed, access_reading, call_reading, negative_reading, group_reading, applied_values, applied, joined_reading, chained_reading, chain_reading}
use Rattle.ac_parse_exprs.proofs.Absent.{each_map}
use Rattle.ac_parse_exprs.proofs.Readings.{reading-number, reading-decimal, reading-access, reading-call, reading-quotient, reading-negative, reading-group, reading-chain}
use Rattle.ac_parse_exprs.proofs.Trees.{every_expr}
use Rattle.ac_parse.specs.Arities.{count, HasArities, EachHasArities}

-- an arity is the number of arguments, or 255 where there are more
unfoldable mutual
  pub Counts : Value → Type 0
  Counts (v.Number e) = Unit {0}
  Counts (v.Access array subs place) = Unit {0}
  Counts (v.Call' symbol n args place) = (symbol.arity ≡ min (count args) 255) × EachCounts args

  pub EachCounts : {m : _} → Row_of-Value m → Type 0
  EachCounts end_of-Value = Unit {0}
  EachCounts (more_of-Value x rest) = Counts x × EachCounts rest

-- ---- in few nodes

count_within : {m : _} (args : Row_of-Value m) → count args ≤ size_in args
unfolding count size
count_within end_of-Value = omega arith
count_within (more_of-Value x rest) = omega (arith, count_within rest, size_positive x)

few : (a c n : ℕ) → a ≡ min c 255 → c ≤ n → n + 1 ≤ 64 → c ≡ a
few a c n e l b = grind arith

mutual
  unfolding Counts HasArities size

  pub has_arities : (x : Value) → Counts x → size x ≤ 64 → HasArities x
  has_arities (v.Number e) h l = tt
  has_arities (v.Access array subs place) h l = tt
  has_arities (v.Call' symbol n args place) h l = (few symbol.arity (count args) (size_in args) h.0 (count_within args) l, each_has args h.1 (omega (arith, l)))

  each_has : {m : _} (args : Row_of-Value m) → EachCounts args → size_in args ≤ 64 → EachHasArities args
  each_has end_of-Value h l = tt
  each_has (more_of-Value x rest) h l = (has_arities x h.0 (omega (arith, l)), each_has rest h.1 (omega (arith, l, size_positive x)))

-- ---- calls at lists

number_counts : (e : _) → Counts (v.Number e)
unfolding Counts
number_counts e = tt

pub access_counts : (array : _) (subs : _) (place : Place) → Counts (v.Access array subs place)
unfolding Counts
access_counts array subs place = tt

pub count_row : (m : _) (k : Row_of-Value m) → count k ≡ length (items-the_row-Value m k)
unfolding count
count_row m end_of-Value = refl
count_row m (more_of-Value {n = l} x rest) = let r : count rest ≡ length (items-the_row-Value l rest) = count_row l rest in omega (arith, r)

each_row : (m : _) (k : Row_of-Value m) → AllByRecursion Counts (items-the_row-Value m k) → EachCounts k
unfolding Counts
each_row m end_of-Value h = tt
each_row m (more_of-Value {n = l} x rest) h = (h.0, each_row l rest h.1)

of_call_row : (s : Symbol) (m : _) (args : Row_of-Value _) (place : Place) → s.arity ≡ min (length (items-the_row-Value _ args)) 255 → AllByRecursion Counts (items-the_row-Value _ args) → Counts (v.Call' s m args place)
unfolding Counts
of_call_row s m args place e h = (e ∙ ap (λ (n : ℕ). min n 255) (sym (count_row _ args)), each_row _ args h)

call_counts : (s : Symbol) (args : List Value) (place : Place) → s.arity ≡ min (length args) 255 → AllByRecursion Counts args → Counts (v.Call s args place)
call_counts s args place e h = search (rules, value_lemmas, of_call_row, e, h)

placed_counts : (place : Place) (x : Value) → Counts x → Counts (placed place x)
unfolding Counts
placed_counts place (v.Number e) h = tt
placed_counts place (v.Access array subs p) h = tt
placed_counts place (v.Call' s m args p) h = h

-- ---- what is read of an expression

abbrev ReadCounts : Reading → Type 0
ReadCounts (number j) = Unit {0}
ReadCounts (other b x) = Counts x

value_counts : (scope : Scope) (r : Reading) → ReadCounts r → Counts (value_of scope r)
value_counts scope (number j) h = number_counts _
value_counts scope (other b x) h = h

values_count : (scope : Scope) (rs : List Reading) → AllByRecursion ReadCounts rs → AllByRecursion Counts (map (value_of scope) rs)
values_count scope [] h = tt
values_count scope (r ∷ rs) h = (value_counts scope r h.0, values_count scope rs h.1)

access_by : (b : Bool) (j : _) (o : _) (x : Value) → Counts x → ReadCounts (if b then number j else other o x)
access_by true j o x h = tt
access_by false j o x h = h

access_case : (names : List Entry) (scope : Scope) (m : Meaning) (word : Word) (subs : List Expr) → ReadCounts (access_reading names scope m word subs)
access_case names scope m word subs = access_by _ _ _ _ (access_counts _ _ _)

call_case : (scope : Scope) (m : Meaning) (word : Word) (rs : List Reading) (n : ℕ) → n ≡ length rs → AllByRecursion ReadCounts rs → ReadCounts (call_reading scope m word rs)
call_case scope m word rs n e h = call_counts _ _ _ (ap (λ (k : ℕ). min k 255) (sym (length-map rs (value_of scope)))) (values_count scope rs h)

negative_case : (place : Place) (r : Reading) → ReadCounts r → ReadCounts (negative_reading place r)
negative_case place (number j) h = tt
negative_case place (other b x) h = call_counts _ (x ∷ []) _ refl (h, tt)

group_case : (place : Place) (r : Reading) → ReadCounts r → ReadCounts (group_reading place r)
group_case place (number j) h = tt
group_case place (other b x) h = placed_counts place x h

pub applied_counts : (op : Operator) (x y : Value) → Counts x → Counts y → Counts (applied_values op x y)
applied_counts op x y h k = call_counts _ (x ∷ y ∷ []) _ refl (h, (k, tt))

applied_case : (scope : Scope) (op : Operator) (r s : Reading) → ReadCounts r → ReadCounts s → ReadCounts (applied scope op r s)
applied_case scope op r s h k = applied_counts op (value_of scope r) (value_of scope s) (value_counts scope r h) (value_counts scope s k)

joined_case : (scope : Scope) (op : Operator) (r s : Reading) → ReadCounts r → ReadCounts s → ReadCounts (joined_reading scope op r s)
joined_case scope op (number i) (number j) h k = tt
joined_case scope op (number i) (other b y) h k = applied_case scope op (number i) (other b y) h k
joined_case scope op (other b x) s h k = applied_case scope op (other b x) s h k

chained_case : (scope : Scope) (r : Reading) (rs : List Reading) (ops : List Operator) → ReadCounts r → AllByRecursion ReadCounts rs → ReadCounts (chained_reading scope r rs ops)
chained_case scope r [] ops h k = h
chained_case scope r (s ∷ rs) [] h k = h
chained_case scope r (s ∷ rs) (op ∷ ops) h k = chained_case scope (joined_reading scope op r s) rs ops (joined_case scope op r s h k.0) k.1

chain_case : (scope : Scope) (rs : List Reading) (ops : List Operator) → AllByRecursion ReadCounts rs → ReadCounts (chain_reading scope rs ops)
chain_case scope [] ops h = tt
chain_case scope (r ∷ rs) ops h = chained_case scope r rs ops h.0 h.1

module _ (names : List Entry) (scope : Scope) where
  is_read : (e : Expr) → ReadCounts (reading names scope e)
  is_read = every_expr (λ e. ReadCounts (reading names scope e))
      (λ m. subst ReadCounts (sym (reading-number names scope m)) tt)
      (λ word. subst ReadCounts (sym (reading-decimal names scope word)) (call_counts _ [] word.place refl tt))
      (λ name subs h. subst ReadCounts (sym (reading-access names scope name subs)) (access_case names scope (meaning names scope name.name) name subs))
      (λ name args h. subst ReadCounts (sym (reading-call names scope name args)) (call_case scope (meaning names scope name.name) name (map (reading names scope) args) _ refl (each_map (reading names scope) ReadCounts args h)))
      (λ up argument divisor place h. subst ReadCounts (sym (reading-quotient names scope up argument divisor place)) tt)
      (λ operand place h. subst ReadCounts (sym (reading-negative names scope operand place)) (negative_case place (reading names scope operand) h))
      (λ inner place h. subst ReadCounts (sym (reading-group names scope inner place)) (group_case place (reading names scope inner) h))
      (λ operands operators h. subst ReadCounts (sym (reading-chain names scope operands operators)) (chain_case scope (map (reading names scope) operands) operators (each_map (reading names scope) ReadCounts operands h)))

  pub value_read : (e : Expr) → Counts (value names scope e)
  value_read e = value_counts scope (reading names scope e) (is_read e)
