-- What has a value as it is written reads known names alone.
use Rattle.std.proofs.Common.{◌≡◌, ℕ, zero, suc, ◌+◌, ℤ, neg_ℤ, ◌+ℤ◌, ◌-ℤ◌, ◌*ℤ◌, List, [], ◌∷◌, ◌++◌, map, length, take, Bool, true, false, not, cond, ◌&&◌, ◌||◌, ◌==◌, refl, sym, ap, subst, rules, arith, nat_eq, Option, Some, None}
use Rattle.std.specs.Prelude.{is_some}
use Rattle.std.specs.Option.{option_map, option_and_then}
use Rattle.std.specs.List.{AllByRecursion, flat_map}
use Rattle.std.specs.Cmp.Lexicographic.{pointwise}
use Rattle.std.proofs.lemmas.List.{length-map}
use Rattle.std.proofs.lemmas.Bool.Decides.{nat_tests}
use Rattle.ac_syntax.specs.Algebra.{Cell}
use Rattle.ac_syntax.specs.Index.{Point}
use Rattle.ac_syntax.specs.Term.{Term, Num}
use Rattle.ac_syntax.specs.declared.tree.Place.{Place}
use Rattle.ac_parse_grammar.specs.declared.tree.Word.{Word}
use Rattle.ac_parse_grammar.specs.declared.tree.Numeral.{Numeral}
use Rattle.ac_parse_grammar.specs.declared.tree.Operator.{Operator}
use Rattle.ac_parse_grammar.specs.declared.tree.Operator.TheVariants.{Add, Subtract, Multiply, Divide, Remainder}
use Rattle.ac_parse_grammar.specs.declared.tree.Expr.{Expr, the_lemmas}
use Rattle.ac_parse_grammar.specs.declared.tree.Expr.TheVariants.{Number, Decimal, Access, Call, Quotient, Negative, Group, Chain}
use Rattle.ac_parse_exprs.specs.declared.scope.Entry.{Entry}
use Rattle.ac_parse_exprs.specs.declared.scope.Meaning.{Meaning}
use Rattle.ac_parse_exprs.specs.declared.scope.Meaning.TheVariants as means
use Rattle.ac_parse_exprs.specs.declared.scope.Scope.{Scope}
use Rattle.ac_parse_rules.specs.Declarations.{is_declared}
use Rattle.ac_parse_exprs.specs.Meanings.{declared_meaning, meaning, meaning_behind, iterator_number, is_starting, is_array}
use Rattle.ac_parse_exprs.specs.Values.{operator_name}
use Rattle.ac_parse_exprs.specs.WrittenValues.{meant_integer, integer_of, on_both, operated, operated_all, chain_value, rounded, expression_value}
use Rattle.ac_parse_exprs.specs.WrittenTerms.{Written, index, other, as_term, in_front, all_of, applied_to, cell_of, call_written, negative_written, joined_written, chained_written, chain_written, written}
use Rattle.ac_parse_rules.specs.LawsOfNames.{reads, IsKnown, ReadsKnown}
use Rattle.ac_parse_exprs.proofs.Absent.{both_true, each_append}
use Rattle.ac_parse_exprs.proofs.Trees.{every_expr}
use Rattle.ac_parse_exprs.proofs.WrittenExpressions.{value-access, value-call, value-quotient, value-negative, value-group, value-chain}
use Rattle.ac_parse_exprs.proofs.WrittenParts.{written-access, written-call, written-quotient, written-negative, written-group, written-chain}

flat_all : {A B : Type 0} (f : A → List B) (xs : List A) → flat_map (λ (ys : List B). ys) (map f xs) ≡ flat_map f xs
flat_all f [] = refl
flat_all f (x ∷ xs) = ap (λ ys. f x ++ ys) (flat_all f xs)

flat_taken : {A B : Type 0} (f : A → List B) (n : ℕ) (xs : List A) → flat_map (λ (ys : List B). ys) (take n (map f xs)) ≡ flat_map f (take n xs)
flat_taken f zero xs = refl
flat_taken f (suc n) [] = refl
flat_taken f (suc n) (x ∷ xs) = ap (λ ys. f x ++ ys) (flat_taken f n xs)

reads-number : (n : Numeral) → reads (Number n) ≡ []
unfolding reads
reads-number n = search (rules, the_lemmas)

reads-decimal : (word : Word) → reads (Decimal word) ≡ []
unfolding reads
reads-decimal word = search (rules, the_lemmas)

reads-access : (name : Word) (subs : List Expr) → reads (Access name subs) ≡ name.name ∷ flat_map reads subs
unfolding reads
reads-access name subs = search (rules, the_lemmas, flat_all)

reads-call : (name : Word) (args : List Expr) → reads (Call name args) ≡ flat_map reads args
unfolding reads
reads-call name args = search (rules, the_lemmas, flat_all)

reads-quotient : (up : Bool) (argument : Expr) (divisor : Numeral) (place : Place) → reads (Quotient up argument divisor place) ≡ reads argument
unfolding reads
reads-quotient up argument divisor place = search (rules, the_lemmas)

reads-negative : (operand : Expr) (place : Place) → reads (Negative operand place) ≡ reads operand
unfolding reads
reads-negative operand place = search (rules, the_lemmas)

reads-group : (inner : Expr) (place : Place) → reads (Group inner place) ≡ reads inner
unfolding reads
reads-group inner place = search (rules, the_lemmas)

reads-chain : (operands : List Expr) (operators : List Operator) → reads (Chain operands operators) ≡ flat_map reads (take (length operators + 1) operands)
unfolding reads
reads-chain operands operators = search (rules, the_lemmas, flat_taken)

each_flat : {A B : Type 0} (P : B → Type 0) (f : A → List B) (xs : List A) → AllByRecursion (λ x. AllByRecursion P (f x)) xs → AllByRecursion P (flat_map f xs)
each_flat P f [] h = tt
each_flat P f (x ∷ xs) h = each_append P (f x) (flat_map f xs) h.0 (each_flat P f xs h.1)

-- there is something
abbrev pub IsThere : {A : Type 0} → Option A → Type 0
IsThere {A = A} o = (x : A) × (o ≡ Some x)

nothing_there : {A X : Type 0} → IsThere {A = A} None → X
nothing_there h = absurd (let e = h.1 in cc)

there_before : {A B : Type 0} (g : A → B) (o : Option A) → IsThere (option_map g o) → IsThere o
there_before g None h = nothing_there h
there_before g (Some x) h = (x, refl)

there_behind : {A B : Type 0} (g : A → B) (o : Option A) → IsThere o → IsThere (option_map g o)
there_behind g None h = nothing_there h
there_behind g (Some x) h = (g x, refl)

front_there : {A : Type 0} (o : Option A) (os : Option (List A)) → IsThere (in_front o os) → IsThere o × IsThere os
front_there None os h = nothing_there h
front_there (Some x) None h = nothing_there h
front_there (Some x) (Some xs) h = ((x, refl), (xs, refl))

each_there : {A B : Type 0} (f : A → Option B) (xs : List A) → IsThere (all_of (map f xs)) → AllByRecursion (λ x. IsThere (f x)) xs
each_there f [] h = tt
each_there f (x ∷ xs) h = let t = front_there (f x) (all_of (map f xs)) h in (t.0, each_there f xs t.1)

both_there : (f : ℤ → ℤ → ℤ) (a b : Option ℤ) → IsThere (on_both f a b) → IsThere a × IsThere b
both_there f None b h = nothing_there h
both_there f (Some x) None h = nothing_there h
both_there f (Some x) (Some y) h = ((x, refl), (y, refl))

from_there : {A B : Type 0} (g : A → Option B) (o : Option A) → IsThere (option_and_then g o) → IsThere o
from_there g None h = nothing_there h
from_there g (Some x) h = (x, refl)

remainder_there : (a b : Option ℤ) → IsThere (operated Remainder a b) → IsThere a × IsThere b
remainder_there None b h = nothing_there h
remainder_there (Some x) None h = nothing_there h
remainder_there (Some x) (Some y) h = ((x, refl), (y, refl))

operated_there : (op : Operator) (a b : Option ℤ) → IsThere (operated op a b) → IsThere a × IsThere b
operated_there Add a b h = both_there (λ x y. x +ℤ y) a b h
operated_there Subtract a b h = both_there (λ x y. x -ℤ y) a b h
operated_there Multiply a b h = both_there (λ x y. x *ℤ y) a b h
operated_there Divide a b h = nothing_there h
operated_there Remainder a b h = remainder_there a b h

-- a name that has a value or a cell
abbrev pub IsUsed : Meaning → Type 0
IsUsed (means.Parameter k) = Unit {0}
IsUsed (means.Iterator k) = Unit {0}
IsUsed (means.Array k dimensions) = Unit {0}
IsUsed means.LoopName = ⊥
IsUsed means.OwnStart = ⊥
IsUsed means.Nothing = ⊥

pub used_declared : (names : List Entry) (name : List ℕ) → IsUsed (declared_meaning names name) → is_declared names name ≡ true
used_declared [] name h = absurd h
used_declared (e ∷ es) name h = by (pointwise nat_eq e.name name) (used_declared es name) h
  where
    by : (b : Bool) → (IsUsed (declared_meaning es name) → is_declared es name ≡ true) → IsUsed (cond b e.meaning (declared_meaning es name)) → (b || is_declared es name) ≡ true
    by true again h = refl
    by false again h = again h

pub used_known : (names : List Entry) (scope : Scope) (name : List ℕ) → IsUsed (meaning names scope name) → IsKnown names scope name
used_known names scope name h = by (iterator_number scope.iterators name) (is_starting scope.starting name) h
  where
    by : (k : Option ℕ) (own : Bool) → IsUsed (meaning_behind k own (declared_meaning names name)) → (is_some k || is_declared names name) ≡ true
    by (Some k) own h = refl
    by None true h = absurd h
    by None false h = used_declared names name h

meant_used : (p : Point) (m : Meaning) → IsThere (meant_integer p m) → IsUsed m
meant_used p (means.Parameter k) h = tt
meant_used p (means.Iterator k) h = tt
meant_used p (means.Array k dimensions) h = tt
meant_used p means.LoopName h = nothing_there h
meant_used p means.OwnStart h = nothing_there h
meant_used p means.Nothing h = nothing_there h

abbrev the_cell : ℕ → List ℤ → Cell
the_cell k at = record { array = k; at = at }

subscripts_of : (o : Option (List ℤ)) (k : ℕ) (b : Bool) → IsThere (cond b (option_map (λ at. the_cell k at) o) None) → IsThere o
subscripts_of o k true h = there_before (λ at. the_cell k at) o h
subscripts_of o k false h = nothing_there h

cell_there : (m : Meaning) (zs : List (Option ℤ)) → IsThere (cell_of m zs) → IsUsed m × IsThere (all_of zs)
cell_there (means.Parameter k) zs h = nothing_there h
cell_there (means.Iterator k) zs h = nothing_there h
cell_there (means.Array k dimensions) zs h = (tt, subscripts_of (all_of zs) k (length zs == dimensions) h)
cell_there means.LoopName zs h = nothing_there h
cell_there means.OwnStart zs h = nothing_there h
cell_there means.Nothing zs h = nothing_there h

no_length : {A : Type 0} (xs : List A) → (length xs == 0) ≡ true → xs ≡ []
no_length [] h = refl
no_length (x ∷ xs) h = absurd (grind (arith, nat_tests))

module _ (names : List Entry) (scope : Scope) where
  abbrev Known : Expr → Type 0
  Known e = ReadsKnown names scope e

  -- names of expressions that read known ones
  of_names : (e : Expr) (ns : List (List ℕ)) → reads e ≡ ns → AllByRecursion (IsKnown names scope) ns → Known e
  of_names e ns h k = subst (AllByRecursion (IsKnown names scope)) (sym h) k

  of_flat : (es : List Expr) → AllByRecursion Known es → AllByRecursion (IsKnown names scope) (flat_map reads es)
  of_flat es h = each_flat (IsKnown names scope) reads es h

  -- each that is there reads known names
  of_there : {V : Type 0} (f : Expr → Option V) (es : List Expr) → AllByRecursion (λ e. IsThere (f e) → Known e) es → AllByRecursion (λ e. IsThere (f e)) es → AllByRecursion Known es
  of_there f [] h t = tt
  of_there f (e ∷ es) h t = (h.0 t.0, of_there f es h.1 t.1)

  each_taken : (P : Expr → Type 0) (n : ℕ) (es : List Expr) → AllByRecursion P es → AllByRecursion P (take n es)
  each_taken P zero es h = tt
  each_taken P (suc n) [] h = tt
  each_taken P (suc n) (e ∷ es) h = (h.0, each_taken P n es h.1)

  one_taken : (P : Expr → Type 0) (n : ℕ) (e : Expr) (es : List Expr) → P e → AllByRecursion P (take n es) → AllByRecursion P (take (n + 1) (e ∷ es))
  one_taken P n e es h k = let s : n + 1 ≡ suc n = omega arith in rw s (h, k)

  module _ (p : Point) where
    abbrev val : Expr → Option ℤ
    val e = expression_value (integer_of names scope p) e

    abbrev Tells : Expr → Type 0
    Tells e = IsThere (val e) → Known e

    name_alone : (name : Word) (subs : List Expr) (b : Bool) → (length subs == 0) ≡ b → IsThere (cond b (integer_of names scope p name.name) None) → Known (Access name subs)
    name_alone name subs false e h = nothing_there h
    name_alone name subs true e h =
        let n : subs ≡ [] = no_length subs e in
        of_names (Access name subs) (name.name ∷ flat_map reads subs) (reads-access name subs)
        (used_known names scope name.name (meant_used p (meaning names scope name.name) h), subst (λ es. AllByRecursion (IsKnown names scope) (flat_map reads es)) (sym n) tt)

    operands_there : (a : Option ℤ) (es : List Expr) (ops : List Operator) → IsThere (operated_all a (map val es) ops) → IsThere a × AllByRecursion (λ e. IsThere (val e)) (take (length ops) es)
    operands_there a [] [] h = (h, tt)
    operands_there a [] (op ∷ ops) h = (h, tt)
    operands_there a (e ∷ es) [] h = (h, tt)
    operands_there a (e ∷ es) (op ∷ ops) h =
        let r = operands_there (operated op a (val e)) es ops h in
        let b = operated_there op a (val e) r.0 in (b.0, (b.1, r.1))

    chain_there : (es : List Expr) (ops : List Operator) → IsThere (chain_value (map val es) ops) → AllByRecursion (λ e. IsThere (val e)) (take (length ops + 1) es)
    chain_there [] ops h = each_taken (λ e. IsThere (val e)) (length ops + 1) [] tt
    chain_there (e ∷ es) ops h = let r = operands_there (val e) es ops h in one_taken (λ e. IsThere (val e)) (length ops) e es r.0 r.1

    pub tells : (e : Expr) → Tells e
    tells = every_expr Tells
        (λ n h. of_names (Number n) [] (reads-number n) tt)
        (λ word h. of_names (Decimal word) [] (reads-decimal word) tt)
        (λ name subs g h. name_alone name subs (length subs == 0) refl (subst IsThere (value-access (integer_of names scope p) name subs) h))
        (λ name args g h. nothing_there (subst IsThere (value-call (integer_of names scope p) name args) h))
        (λ up argument divisor place g h. of_names (Quotient up argument divisor place) (reads argument) (reads-quotient up argument divisor place)
        (g (from_there (rounded up divisor.number) (val argument) (subst IsThere (value-quotient (integer_of names scope p) up argument divisor place) h))))
        (λ operand place g h. of_names (Negative operand place) (reads operand) (reads-negative operand place)
        (g (there_before neg_ℤ (val operand) (subst IsThere (value-negative (integer_of names scope p) operand place) h))))
        (λ inner place g h. of_names (Group inner place) (reads inner) (reads-group inner place) (g (subst IsThere (value-group (integer_of names scope p) inner place) h)))
        (λ operands operators g h. of_names (Chain operands operators) (flat_map reads (take (length operators + 1) operands)) (reads-chain operands operators)
        (of_flat (take (length operators + 1) operands) (of_there val (take (length operators + 1) operands) (each_taken (λ e. IsThere (val e) → Known e) (length operators + 1) operands g)
        (chain_there operands operators (subst IsThere (value-chain (integer_of names scope p) operands operators) h)))))

    pub subscripts_tell : (subs : List Expr) → IsThere (all_of (map val subs)) → AllByRecursion Known subs
    subscripts_tell [] h = tt
    subscripts_tell (e ∷ es) h = let t = front_there (val e) (all_of (map val es)) h in (tells e t.0, subscripts_tell es t.1)

    module _ (state : Cell → Term) where
      abbrev term : Expr → Option Term
      term e = as_term (written names scope p state e)

      abbrev Says : Expr → Type 0
      Says e = IsThere (term e) → Known e

      access_case : (name : Word) (subs : List Expr) (b : Bool) → ((length (map val subs) == 0) && not (is_array (meaning names scope name.name))) ≡ b
          → IsThere (as_term (cond b (index (meant_integer p (meaning names scope name.name))) (other (option_map state (cell_of (meaning names scope name.name) (map val subs)))))) → Known (Access name subs)
      access_case name subs true e h =
          let l : (length subs == 0) ≡ true = (both_true (length subs == 0) (not (is_array (meaning names scope name.name))) (subst (λ n. ((n == 0) && not (is_array (meaning names scope name.name))) ≡ true) (length-map subs val) e)).0 in
          name_alone name subs true l (there_before Num (meant_integer p (meaning names scope name.name)) h)
      access_case name subs false e h =
          let c = cell_there (meaning names scope name.name) (map val subs) (there_before state (cell_of (meaning names scope name.name) (map val subs)) h) in
          of_names (Access name subs) (name.name ∷ flat_map reads subs) (reads-access name subs) (used_known names scope name.name c.0, of_flat subs (subscripts_tell subs c.1))

      applied_there : (name : List ℕ) (ts : List (Option Term)) → IsThere (applied_to name ts) → IsThere (all_of ts)
      applied_there name ts h = there_before _ (all_of ts) h

      args_there : (m : Meaning) (name : List ℕ) (ws : List Written) → IsThere (call_written m name ws) → IsThere (all_of (map as_term ws))
      args_there (means.Parameter k) name ws h = nothing_there h
      args_there (means.Iterator k) name ws h = nothing_there h
      args_there (means.Array k dimensions) name ws h = nothing_there h
      args_there means.LoopName name ws h = nothing_there h
      args_there means.OwnStart name ws h = nothing_there h
      args_there means.Nothing name ws h = applied_there name (map as_term ws) h

      terms_of : (es : List Expr) → IsThere (all_of (map as_term (map (written names scope p state) es))) → AllByRecursion (λ e. IsThere (term e)) es
      terms_of [] h = tt
      terms_of (e ∷ es) h = let t = front_there (term e) (all_of (map as_term (map (written names scope p state) es))) h in (t.0, terms_of es t.1)

      pair_there : (name : List ℕ) (t u : Option Term) → IsThere (applied_to name (t ∷ u ∷ [])) → IsThere t × IsThere u
      pair_there name t u h =
          let a = front_there t (all_of (u ∷ [])) (applied_there name (t ∷ u ∷ []) h) in
          (a.0, (front_there u (Some []) a.1).0)

      negative_there : (w : Written) → IsThere (as_term (negative_written w)) → IsThere (as_term w)
      negative_there (index z) h = there_behind Num z (there_before neg_ℤ z (there_before Num (option_map neg_ℤ z) h))
      negative_there (other t) h = (front_there t (Some []) (applied_there _ (t ∷ []) h)).0

      joined_there : (op : Operator) (u w : Written) → IsThere (as_term (joined_written op u w)) → IsThere (as_term u) × IsThere (as_term w)
      joined_there op (index x) (index y) h =
          let b = operated_there op x y (there_before Num (operated op x y) h) in (there_behind Num x b.0, there_behind Num y b.1)
      joined_there op (index x) (other t) h = pair_there (operator_name op) (option_map Num x) t h
      joined_there op (other t) w h = pair_there (operator_name op) t (as_term w) h

      joints_there : (w : Written) (es : List Expr) (ops : List Operator) → IsThere (as_term (chained_written w (map (written names scope p state) es) ops)) → IsThere (as_term w) × AllByRecursion (λ e. IsThere (term e)) (take (length ops) es)
      joints_there w [] [] h = (h, tt)
      joints_there w [] (op ∷ ops) h = (h, tt)
      joints_there w (e ∷ es) [] h = (h, tt)
      joints_there w (e ∷ es) (op ∷ ops) h =
          let r = joints_there (joined_written op w (written names scope p state e)) es ops h in
          let b = joined_there op w (written names scope p state e) r.0 in (b.0, (b.1, r.1))

      links_there : (es : List Expr) (ops : List Operator) → IsThere (as_term (chain_written (map (written names scope p state) es) ops)) → AllByRecursion (λ e. IsThere (term e)) (take (length ops + 1) es)
      links_there [] ops h = each_taken (λ e. IsThere (term e)) (length ops + 1) [] tt
      links_there (e ∷ es) ops h = let r = joints_there (written names scope p state e) es ops h in one_taken (λ e. IsThere (term e)) (length ops) e es r.0 r.1

      of_written : (e : Expr) (w : Written) → written names scope p state e ≡ w → IsThere (term e) → IsThere (as_term w)
      of_written e w h t = subst (λ w. IsThere (as_term w)) h t

      pub says_known : (e : Expr) → Says e
      says_known = every_expr Says
          (λ n h. of_names (Number n) [] (reads-number n) tt)
          (λ word h. of_names (Decimal word) [] (reads-decimal word) tt)
          (λ name subs g h. access_case name subs ((length (map val subs) == 0) && not (is_array (meaning names scope name.name))) refl (of_written (Access name subs) _ (written-access names scope p state name subs) h))
          (λ name args g h. of_names (Call name args) (flat_map reads args) (reads-call name args)
          (of_flat args (of_there term args g (terms_of args (args_there (meaning names scope name.name) name.name (map (written names scope p state) args) (of_written (Call name args) _ (written-call names scope p state name args) h))))))
          (λ up argument divisor place g h. of_names (Quotient up argument divisor place) (reads argument) (reads-quotient up argument divisor place)
          (tells argument (from_there (rounded up divisor.number) (val argument) (there_before Num (option_and_then (rounded up divisor.number) (val argument))
          (of_written (Quotient up argument divisor place) _ (written-quotient names scope p state up argument divisor place) h)))))
          (λ operand place g h. of_names (Negative operand place) (reads operand) (reads-negative operand place)
          (g (negative_there (written names scope p state operand) (of_written (Negative operand place) _ (written-negative names scope p state operand place) h))))
          (λ inner place g h. of_names (Group inner place) (reads inner) (reads-group inner place) (g (of_written (Group inner place) _ (written-group names scope p state inner place) h)))
          (λ operands operators g h. of_names (Chain operands operators) (flat_map reads (take (length operators + 1) operands)) (reads-chain operands operators)
          (of_flat (take (length operators + 1) operands) (of_there term (take (length operators + 1) operands) (each_taken (λ e. IsThere (term e) → Known e) (length operators + 1) operands g)
          (links_there operands operators (of_written (Chain operands operators) _ (written-chain names scope p state operands operators) h)))))
