-- A right side that breaks no rule has in the program the term that it has as it is written.
use Rattle.std.proofs.Common.{◌≡◌, ℕ, ℤ, List, [], ◌∷◌, map, length, Bool, true, false, not, cond, ◌&&◌, ◌==◌, refl, sym, ap, subst, ◌∙◌, codes, Option, Some, None}
use Rattle.std.specs.Option.{option_map}
use Rattle.std.specs.List.{AllByRecursion}
use Rattle.std.proofs.lemmas.List.{length-map}
use Rattle.ac_syntax.specs.Algebra.{Cell, value_of}
use Rattle.ac_syntax.specs.Index.{Point, index_value}
use Rattle.ac_syntax.specs.Term.{Term, Num, Apply, terms, free}
use Rattle.ac_syntax.specs.declared.tree.Place.{Place}
use Rattle.ac_syntax.specs.declared.tree.IndexExpr.{IndexExpr}
use Rattle.ac_syntax.specs.declared.tree.Value.{Value}
use Rattle.ac_syntax.specs.declared.tree.Value.TheVariants as v
use Rattle.ac_syntax.proofs.Traces.{value_call}
use Rattle.ac_parse_grammar.specs.declared.tree.Word.{Word}
use Rattle.ac_parse_grammar.specs.declared.tree.Operator.{Operator}
use Rattle.ac_parse_grammar.specs.declared.tree.Expr.{Expr}
use Rattle.ac_parse_grammar.specs.declared.tree.Expr.TheVariants.{Number, Decimal, Access, Call, Quotient, Negative, Group, Chain}
use Rattle.ac_parse_exprs.specs.declared.fault.Rule.{Rule}
use Rattle.ac_parse_exprs.specs.declared.index.Judged.{Judged}
use Rattle.ac_parse_exprs.specs.declared.scope.Entry.{Entry}
use Rattle.ac_parse_exprs.specs.declared.scope.Meaning.{Meaning}
use Rattle.ac_parse_exprs.specs.declared.scope.Meaning.TheVariants as means
use Rattle.ac_parse_exprs.specs.declared.scope.Scope.{Scope}
use Rattle.ac_parse_exprs.specs.FaultOrder.{rule_broken}
use Rattle.ac_parse_exprs.specs.Meanings.{meaning, is_array, read_rule, call_rule, misused_unless}
use Rattle.ac_parse_exprs.specs.IndexExpressions.{judged_name, judged}
use Rattle.ac_parse_exprs.specs.Comparisons.{whole_broken, index_expr, index as index_of, index_broken}
use Rattle.ac_parse_exprs.specs.Values as r
use Rattle.ac_parse_exprs.specs.Values.{Reading, reading, reading_broken, value_of as value_of_reading, symbol, operator_name, array_number, access_broken, read_of, access_reading, call_reading, negative_reading, group_reading, applied_values, joined_reading, chained_reading, chain_reading, placed, value, value_broken, value_place}
use Rattle.ac_parse_exprs.specs.WrittenValues.{meant_integer, integer_of, expression_value}
use Rattle.ac_parse_exprs.specs.WrittenTerms.{Written, index, other, as_term, all_of, applied_to, cell_of, access_written, call_written, negative_written, joined_written, chained_written, chain_written, written}
use Rattle.ac_parse_exprs.specs.FormValues.{AreNumbered, IsPointOf}
use Rattle.ac_parse_exprs.specs.ValueTerms.{ValuesHaveTerms}
use Rattle.ac_parse_exprs.proofs.Absent.{NoneBroken, neither, none_of}
use Rattle.ac_parse_exprs.proofs.Accesses.{rule_holds}
use Rattle.ac_parse_exprs.proofs.FormValues.{Agrees, negative_agrees, form_agrees}
use Rattle.ac_parse_exprs.proofs.Judges.{Judges, judges, number_judges, name_judges, quotient_judges, negative_judges, group_judges, joined_judges, whole_known}
use Rattle.ac_parse_exprs.proofs.NumberedMeanings.{meaning_in}
use Rattle.ac_parse_exprs.proofs.Readings.{reading-number, reading-decimal, reading-access, reading-call, reading-quotient, reading-negative, reading-group, reading-chain}
use Rattle.ac_parse_exprs.proofs.Trees.{every_expr}
use Rattle.ac_parse_exprs.proofs.Unrounded.{unrounded}
use Rattle.ac_parse_exprs.proofs.WrittenExpressions.{quotient_agrees, expressions_agree, number_agrees, name_agrees, known_agrees, the_known, index_is, indices_have_values}
use Rattle.ac_parse_exprs.proofs.WrittenParts.{written-number, written-decimal, written-access, written-call, written-quotient, written-negative, written-group, written-chain}

abbrev pub the_cell : ℕ → List ℤ → Cell
the_cell k at = record { array = k; at = at }

pub map_twice : {A B C : Type 0} (g : B → C) (f : A → B) (xs : List A) → map g (map f xs) ≡ map (λ x. g (f x)) xs
map_twice g f [] = refl
map_twice g f (x ∷ xs) = ap (λ ys. g (f x) ∷ ys) (map_twice g f xs)

-- where each of several is there, so are all
pub all_there : {A B : Type 0} (f : A → Option B) (g : A → B) (xs : List A) → AllByRecursion (λ x. f x ≡ Some (g x)) xs → all_of (map f xs) ≡ Some (map g xs)
all_there f g [] h = refl
all_there f g (x ∷ xs) h = rw (h.0, all_there f g xs h.1) refl

number_term : (p : Point) (state : Cell → Term) (x : IndexExpr) → value_of free p state (v.Number x) ≡ Num (index_value p x)
unfolding value_of
number_term p state x = refl

pub access_term : (p : Point) (state : Cell → Term) (array : ℕ) (subs : List IndexExpr) (place : Place) → value_of free p state (v.Access array subs place) ≡ state (record { array = array; at = map (index_value p) subs })
unfolding value_of
access_term p state array subs place = refl

placed_term : (p : Point) (state : Cell → Term) (place : Place) (x : Value) → value_of free p state (placed place x) ≡ value_of free p state x
unfolding value_of
placed_term p state place (v.Number e) = refl
placed_term p state place (v.Access array subs q) = refl
placed_term p state place (v.Call' s m args q) = refl

applied_term : (p : Point) (state : Cell → Term) (op : Operator) (x y : Value)
    → value_of free p state (applied_values op x y) ≡ Apply (symbol (operator_name op) 2) (terms (value_of free p state x ∷ value_of free p state y ∷ []))
applied_term p state op x y = value_call free p state (symbol (operator_name op) 2) (x ∷ y ∷ []) (value_place x)

-- an operator on two terms
pub both_applied : (p : Point) (state : Cell → Term) (op : Operator) (x y : Value) (t u : Option Term) → t ≡ Some (value_of free p state x) → u ≡ Some (value_of free p state y)
    → applied_to (operator_name op) (t ∷ u ∷ []) ≡ Some (value_of free p state (applied_values op x y))
both_applied p state op x y t u h k = rw (h, k, applied_term p state op x y) refl

not_alone : (b : Bool) → (b && true) ≡ false → misused_unless b ≡ None → {X : Type 0} → X
not_alone true h l = absurd cc
not_alone false h l = absurd cc

pub with_all : (k : ℕ) (o : Option (List ℤ)) (at : List ℤ) (b : Bool) → o ≡ Some at → misused_unless b ≡ None → cond b (option_map (λ at. the_cell k at) o) None ≡ Some (the_cell k at)
with_all k o at true e l = rw e refl
with_all k o at false e l = absurd cc

-- an array with as many subscripts as dimensions
cell_there : (m : Meaning) (subs : List (Option ℤ)) (at : List ℤ) → ((length subs == 0) && not (is_array m)) ≡ false → read_rule m (length subs) ≡ None → all_of subs ≡ Some at
    → cell_of m subs ≡ Some (record { array = array_number m; at = at })
cell_there (means.Parameter k) subs at h l e = not_alone (length subs == 0) h l
cell_there (means.Iterator k) subs at h l e = not_alone (length subs == 0) h l
cell_there (means.Array k dimensions) subs at h l e = with_all k (all_of subs) at (length subs == dimensions) e l
cell_there means.LoopName subs at h l e = absurd cc
cell_there means.OwnStart subs at h l e = absurd cc
cell_there means.Nothing subs at h l e = absurd cc

called_nothing : (m : Meaning) → call_rule m ≡ None → m ≡ means.Nothing
called_nothing (means.Parameter k) h = absurd cc
called_nothing (means.Iterator k) h = absurd cc
called_nothing (means.Array k dimensions) h = absurd cc
called_nothing means.LoopName h = absurd cc
called_nothing means.OwnStart h = absurd cc
called_nothing means.Nothing h = refl

no_rule : (rule : Option Rule) (place : Place) → rule_broken rule place ≡ None → rule ≡ None
no_rule None place h = refl
no_rule (Some rule) place h = absurd cc

module _ (names : List Entry) (scope : Scope) (p : Point) (state : Cell → Term) (a : AreNumbered scope.params names) (o : IsPointOf scope p) where
  abbrev AreJudged : Judged → Type 0
  AreJudged = Judges scope.params (length scope.iterators)

  -- what is read of an expression is what it is as it is written
  abbrev SaysAs : Reading → Written → Type 0
  SaysAs (r.number j) (index z) = AreJudged j × Agrees p j.form z
  SaysAs (r.number j) (other t) = ⊥
  SaysAs (r.other b x) (index z) = ⊥
  SaysAs (r.other b x) (other t) = b ≡ None → t ≡ Some (value_of free p state x)

  number_is : (j : Judged) (z : Option ℤ) → AreJudged j → Agrees p j.form z → whole_broken j ≡ None → option_map Num z ≡ Some (value_of free p state (v.Number (index_expr scope j)))
  number_is j z h k b =
      let f = the_known j.form (whole_known scope.params (length scope.iterators) j h b) in
      let e : z ≡ Some (index_value p (index_expr scope j)) = known_agrees p j.form f.0 z f.1 k ∙ ap (λ z. Some z) (index_is p scope j f.0 f.1 f.2) in
      rw (e, number_term p state (index_expr scope j)) refl

  term_is : (x : Reading) (w : Written) → SaysAs x w → reading_broken x ≡ None → as_term w ≡ Some (value_of free p state (value_of_reading scope x))
  term_is (r.number j) (index z) h b = number_is j z h.0 h.1 b
  term_is (r.number j) (other t) h b = absurd h
  term_is (r.other c x) (index z) h b = absurd h
  term_is (r.other c x) (other t) h b = h b

  -- the subscripts of a read or a target
  subscripts_are : (subs : List Expr) → NoneBroken (map (index_broken names scope) subs)
      → all_of (map (expression_value (integer_of names scope p)) subs) ≡ Some (map (λ e. index_value p (index_of names scope e)) subs)
  subscripts_are subs h = all_there (expression_value (integer_of names scope p)) (λ e. index_value p (index_of names scope e)) subs (each_value subs h)
    where
      each_value : (subs : List Expr) → NoneBroken (map (index_broken names scope) subs) → AllByRecursion (λ e. expression_value (integer_of names scope p) e ≡ Some (index_value p (index_of names scope e))) subs
      each_value [] h = tt
      each_value (e ∷ es) h = (indices_have_values names scope p a o e h.0, each_value es h.1)

  pub subscripts_there : (rule : Option Rule) (word : Word) (subs : List Expr) → access_broken names scope rule word subs ≡ None
      → all_of (map (expression_value (integer_of names scope p)) subs) ≡ Some (map (index_value p) (map (index_of names scope) subs))
  subscripts_there rule word subs h =
      subscripts_are subs (none_of (map (index_broken names scope) subs) (neither _ _ h).1) ∙ ap (λ z. Some z) (sym (map_twice (index_value p) (index_of names scope) subs))

  read_is : (m : Meaning) (word : Word) (subs : List Expr) → ((length subs == 0) && not (is_array m)) ≡ false → access_broken names scope (read_rule m (length subs)) word subs ≡ None
      → option_map state (cell_of m (map (expression_value (integer_of names scope p)) subs)) ≡ Some (value_of free p state (read_of names scope m word subs))
  read_is m word subs h b =
      let e = length-map subs (expression_value (integer_of names scope p)) in
      let c = cell_there m (map (expression_value (integer_of names scope p)) subs) (map (index_value p) (map (index_of names scope) subs))
      (subst (λ n. ((n == 0) && not (is_array m)) ≡ false) (sym e) h) (subst (λ n. read_rule m n ≡ None) (sym e) (rule_holds names scope (read_rule m (length subs)) word subs b)) (subscripts_there (read_rule m (length subs)) word subs b) in
      rw (c, access_term p state (array_number m) (map (index_of names scope) subs) word.place) refl

  both_parts : (b c : Bool) → (b && not c) ≡ true → c ≡ false
  both_parts true true h = absurd cc
  both_parts true false h = refl
  both_parts false c h = absurd cc

  access_case : (m : Meaning) (word : Word) (subs : List Expr) (alone : Bool) → Agrees p (judged_name scope m word).form (meant_integer p m) → ((length subs == 0) && not (is_array m)) ≡ alone
      → SaysAs (cond alone (r.number (judged_name scope m word)) (r.other (access_broken names scope (read_rule m (length subs)) word subs) (read_of names scope m word subs)))
      (cond alone (index (meant_integer p m)) (other (option_map state (cell_of m (map (expression_value (integer_of names scope p)) subs)))))
  access_case m word subs true g h = (name_judges scope m word (both_parts (length subs == 0) (is_array m) h), g)
  access_case m word subs false g h = read_is m word subs h

  access_says : (word : Word) (subs : List Expr)
      → SaysAs (access_reading names scope (meaning names scope word.name) word subs) (access_written p state (meaning names scope word.name) (map (expression_value (integer_of names scope p)) subs))
  access_says word subs =
      let m = meaning names scope word.name in
      let zs = map (expression_value (integer_of names scope p)) subs in
      subst (λ n. SaysAs (access_reading names scope m word subs) (cond ((n == 0) && not (is_array m)) (index (meant_integer p m)) (other (option_map state (cell_of m zs))))) (sym (length-map subs (expression_value (integer_of names scope p))))
      (access_case m word subs ((length subs == 0) && not (is_array m)) (name_agrees p scope o m (meaning_in scope names word.name a)) refl)

  abbrev Good : Expr → Type 0
  Good e = SaysAs (reading names scope e) (written names scope p state e)

  terms_are : (es : List Expr) → AllByRecursion Good es → NoneBroken (map reading_broken (map (reading names scope) es))
      → all_of (map as_term (map (written names scope p state) es)) ≡ Some (map (value_of free p state) (map (value_of_reading scope) (map (reading names scope) es)))
  terms_are [] h b = refl
  terms_are (e ∷ es) h b = rw (term_is (reading names scope e) (written names scope p state e) h.0 b.0, terms_are es h.1 b.1) refl

  call_case : (m : Meaning) (word : Word) (es : List Expr) → AllByRecursion Good es → m ≡ means.Nothing → NoneBroken (map reading_broken (map (reading names scope) es))
      → call_written m word.name (map (written names scope p state) es)
      ≡ Some (value_of free p state (v.Call (symbol word.name (length (map (reading names scope) es))) (map (value_of_reading scope) (map (reading names scope) es)) word.place))
  call_case m word es h e b =
      let l = length-map (map (written names scope p state) es) as_term ∙ length-map es (written names scope p state) in
      let k = length-map es (reading names scope) in
      rw (e, l, k, terms_are es h b, value_call free p state (symbol word.name (length es)) (map (value_of_reading scope) (map (reading names scope) es)) word.place) refl

  call_says : (m : Meaning) (word : Word) (es : List Expr) → AllByRecursion Good es
      → SaysAs (call_reading scope m word (map (reading names scope) es)) (other (call_written m word.name (map (written names scope p state) es)))
  call_says m word es h b =
      let n = neither _ _ b in
      call_case m word es h (called_nothing m (no_rule (call_rule m) word.place n.0)) (none_of (map reading_broken (map (reading names scope) es)) n.1)

  negative_says : (place : Place) (x : Reading) (w : Written) → SaysAs x w → SaysAs (negative_reading place x) (negative_written w)
  negative_says place (r.number j) (index z) h = (negative_judges scope.params (length scope.iterators) place j h.0, negative_agrees p j.form z h.1)
  negative_says place (r.number j) (other t) h = h
  negative_says place (r.other b x) (index z) h = h
  negative_says place (r.other b x) (other t) h = λ e. rw (h e, value_call free p state (symbol (codes "-") 1) (x ∷ []) place) refl

  group_says : (place : Place) (x : Reading) (w : Written) → SaysAs x w → SaysAs (group_reading place x) w
  group_says place (r.number j) (index z) h = (group_judges scope.params (length scope.iterators) place j h.0, h.1)
  group_says place (r.number j) (other t) h = h
  group_says place (r.other b x) (index z) h = h
  group_says place (r.other b x) (other t) h = λ e. h e ∙ ap (λ z. Some z) (sym (placed_term p state place x))

  joined_says : (op : Operator) (x y : Reading) (u w : Written) → SaysAs x u → SaysAs y w → SaysAs (joined_reading scope op x y) (joined_written op u w)
  joined_says op (r.number i) (r.number j) (index z) (index t) h k = (
    joined_judges scope.params (length scope.iterators) op i j h.0 k.0,
    form_agrees p scope.params (length scope.iterators) op i.form j.form z t h.0.0 k.0.0 h.1 k.1,
  )
  joined_says op (r.number i) (r.other c y) (index z) (other t) h k = λ e.
      let n = neither (whole_broken i) c e in
      both_applied p state op (v.Number (index_expr scope i)) y (option_map Num z) t (number_is i z h.0 h.1 n.0) (k n.1)
  joined_says op (r.other b x) y (other t) w h k = λ e.
      let n = neither b (reading_broken y) e in
      both_applied p state op x (value_of_reading scope y) t (as_term w) (h n.0) (term_is y w k n.1)
  joined_says op (r.number i) y (other t) w h k = absurd h
  joined_says op (r.other b x) y (index z) w h k = absurd h
  joined_says op (r.number i) (r.number j) (index z) (other t) h k = absurd k
  joined_says op (r.number i) (r.other c y) (index z) (index t) h k = absurd k

  chained_says : (x : Reading) (w : Written) (es : List Expr) (ops : List Operator) → SaysAs x w → AllByRecursion Good es
      → SaysAs (chained_reading scope x (map (reading names scope) es) ops) (chained_written w (map (written names scope p state) es) ops)
  chained_says x w [] ops h k = h
  chained_says x w (e ∷ es) [] h k = h
  chained_says x w (e ∷ es) (op ∷ ops) h k =
      chained_says (joined_reading scope op x (reading names scope e)) (joined_written op w (written names scope p state e)) es ops
      (joined_says op x (reading names scope e) w (written names scope p state e) h k.0) k.1

  chain_says : (es : List Expr) (ops : List Operator) → AllByRecursion Good es → SaysAs (chain_reading scope (map (reading names scope) es) ops) (chain_written (map (written names scope p state) es) ops)
  chain_says [] ops h = (number_judges scope (record { number = 0; place = record { at = 0 } }), number_agrees p scope (record { number = 0; place = record { at = 0 } }))
  chain_says (e ∷ es) ops h = chained_says (reading names scope e) (written names scope p state e) es ops h.0 h.1

  -- by equations of both sides
  says_by : (e : Expr) (x : Reading) (w : Written) → reading names scope e ≡ x → written names scope p state e ≡ w → SaysAs x w → Good e
  says_by e x w h k g = rw (h, k) g

  says : (e : Expr) → Good e
  says = every_expr Good
      (λ n. says_by (Number n) _ _ (reading-number names scope n) (written-number names scope p state n) (number_judges scope n, number_agrees p scope n))
      (λ word. says_by (Decimal word) _ _ (reading-decimal names scope word) (written-decimal names scope p state word)
      (λ e. ap (λ z. Some z) (sym (value_call free p state (symbol word.name 0) [] word.place))))
      (λ name subs h. says_by (Access name subs) _ _ (reading-access names scope name subs) (written-access names scope p state name subs) (access_says name subs))
      (λ name args h. says_by (Call name args) _ _ (reading-call names scope name args) (written-call names scope p state name args) (call_says (meaning names scope name.name) name args h))
      (λ up argument divisor place h. says_by (Quotient up argument divisor place) _ _ (reading-quotient names scope up argument divisor place) (written-quotient names scope p state up argument divisor place) (
        quotient_judges scope up divisor place (judged names scope argument) (judges names scope argument),
        quotient_agrees p scope up divisor place (judged names scope argument) (expression_value (integer_of names scope p) argument) (unrounded names scope argument) (expressions_agree names scope p a o argument),
      ))
      (λ operand place h. says_by (Negative operand place) _ _ (reading-negative names scope operand place) (written-negative names scope p state operand place)
      (negative_says place (reading names scope operand) (written names scope p state operand) h))
      (λ inner place h. says_by (Group inner place) _ _ (reading-group names scope inner place) (written-group names scope p state inner place)
      (group_says place (reading names scope inner) (written names scope p state inner) h))
      (λ operands operators h. says_by (Chain operands operators) _ _ (reading-chain names scope operands operators) (written-chain names scope p state operands operators) (chain_says operands operators h))

  pub value_says : (e : Expr) → value_broken names scope e ≡ None → as_term (written names scope p state e) ≡ Some (value_of free p state (value names scope e))
  value_says e b = term_is (reading names scope e) (written names scope p state e) (says e) b

pub values_have_terms : ValuesHaveTerms
values_have_terms names scope p state a o e b = value_says names scope p state a o e b
