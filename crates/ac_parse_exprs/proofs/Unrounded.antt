-- An expression in which nothing is rounded has a form without quotients.
use Rattle.std.proofs.Common.{◌≡◌, ℕ, List, [], ◌∷◌, map, length, refl, sym, subst, Bool, true, false, not, ◌&&◌, ◌||◌, ◌==◌, cond, pos}
use Rattle.std.specs.List.{AllByRecursion}
use Rattle.ac_syntax.specs.declared.tree.Quot.{Quot}
use Rattle.ac_parse_grammar.specs.declared.tree.Word.{Word}
use Rattle.ac_parse_grammar.specs.declared.tree.Numeral.{Numeral}
use Rattle.ac_parse_grammar.specs.declared.tree.Operator.{Operator}
use Rattle.ac_parse_grammar.specs.declared.tree.Expr.{Expr}
use Rattle.ac_parse_exprs.specs.declared.form.Collected.{Collected}
use Rattle.ac_parse_exprs.specs.declared.form.Collected.TheVariants.{Known, Large}
use Rattle.ac_parse_exprs.specs.declared.index.Judged.{Judged}
use Rattle.ac_parse_exprs.specs.declared.index.Parts.{Parts}
use Rattle.ac_parse_exprs.specs.declared.scope.Entry.{Entry}
use Rattle.ac_parse_exprs.specs.declared.scope.Meaning.{Meaning}
use Rattle.ac_parse_exprs.specs.declared.scope.Meaning.TheVariants.{Parameter, Iterator, Array, LoopName, OwnStart, Nothing}
use Rattle.ac_parse_exprs.specs.declared.scope.Scope.{Scope}
use Rattle.ac_parse_exprs.specs.Meanings.{meaning, is_array, read_rule}
use Rattle.ac_parse_exprs.specs.AffineForms.{constant_form}
use Rattle.ac_parse_exprs.specs.IndexExpressions.{is_long, judged_number, name_form, judged_name, judged_variable, judged_other, is_remainder, gathered, no_parts, joined, chained, judged_chain, judged}
use Rattle.ac_parse_exprs.proofs.Absent.{each, each_map}
use Rattle.ac_parse_exprs.proofs.Judging.{judged-number, judged-decimal, judged-access, judged-call, judged-quotient, judged-negative, judged-group, judged-chain}
use Rattle.ac_parse_exprs.proofs.QuotientForms.{Hold, hold_form, hold_negative}
use Rattle.ac_parse_exprs.proofs.Trees.{every_expr}

abbrev pub Never : Quot → Type 0
Never q = ⊥

abbrev pub NoQuots : Collected → Type 0
NoQuots = Hold Never (λ q c s h. h)

pub none_left : (qs : List Quot) → AllByRecursion Never qs → qs ≡ []
none_left [] h = refl
none_left (q ∷ qs) h = absurd h.0

or_false : (a b : Bool) → (a || b) ≡ false → (a ≡ false) × (b ≡ false)
or_false true b h = absurd cc
or_false false b h = (refl, h)

abbrev pub IsUnrounded : Judged → Type 0
IsUnrounded j = j.rounds ≡ false → NoQuots j.form

number_by : (ps xs n : ℕ) (b : Bool) → NoQuots (cond b (Large true) (Known (constant_form ps xs (pos n))))
number_by ps xs n true = tt
number_by ps xs n false = tt

number_unrounded : (scope : Scope) (n : Numeral) → IsUnrounded (judged_number scope n)
number_unrounded scope n h = number_by scope.params (length scope.iterators) n.number (is_long n)

name_unrounded : (scope : Scope) (m : Meaning) → NoQuots (name_form scope m)
name_unrounded scope (Parameter k) = tt
name_unrounded scope (Iterator k) = tt
name_unrounded scope (Array number dimensions) = tt
name_unrounded scope LoopName = tt
name_unrounded scope OwnStart = tt
name_unrounded scope Nothing = tt

access_unrounded : (scope : Scope) (m : Meaning) (word : Word) (subs : ℕ) (parts : Parts) (a b : Bool) → IsUnrounded (cond a (judged_variable word) (cond b (judged_name scope m word) (judged_other (read_rule m subs) word parts)))
access_unrounded scope m word subs parts true b h = tt
access_unrounded scope m word subs parts false true h = name_unrounded scope m
access_unrounded scope m word subs parts false false h = tt

joined_unrounded : (op : Operator) (a b : Judged) → IsUnrounded a → IsUnrounded b → IsUnrounded (joined op a b)
joined_unrounded op a b h k r =
    let s = or_false (a.rounds || b.rounds) (is_remainder op) r in
    let t = or_false a.rounds b.rounds s.0 in
    hold_form Never (λ q c s h. h) op a.form b.form (h t.0) (k t.1)

chained_unrounded : (a : Judged) (js : List Judged) (ops : List Operator) → IsUnrounded a → AllByRecursion IsUnrounded js → IsUnrounded (chained a js ops)
chained_unrounded a [] ops h k = h
chained_unrounded a (j ∷ js) [] h k = h
chained_unrounded a (j ∷ js) (op ∷ ops) h k = chained_unrounded (joined op a j) js ops (joined_unrounded op a j h k.0) k.1

chain_unrounded : (scope : Scope) (js : List Judged) (ops : List Operator) → AllByRecursion IsUnrounded js → IsUnrounded (judged_chain scope js ops)
chain_unrounded scope [] ops h = number_unrounded scope (record { number = 0; place = record { at = 0 } })
chain_unrounded scope (j ∷ js) ops h = chained_unrounded j js ops h.0 h.1

module _ (names : List Entry) (scope : Scope) where
  abbrev Good : Judged → Type 0
  Good = IsUnrounded

  pub unrounded : (e : Expr) → IsUnrounded (judged names scope e)
  unrounded = every_expr (λ e. Good (judged names scope e))
      (λ n. subst Good (sym (judged-number names scope n)) (number_unrounded scope n))
      (λ word. subst Good (sym (judged-decimal names scope word)) (λ h. tt))
      (λ name subs h. subst Good (sym (judged-access names scope name subs))
      (access_unrounded scope (meaning names scope name.name) name (length subs) (gathered no_parts (map (judged names scope) subs)) (scope.fixed && is_array (meaning names scope name.name)) ((length subs == 0) && not (is_array (meaning names scope name.name)))))
      (λ name args h. subst Good (sym (judged-call names scope name args)) (λ r. tt))
      (λ up argument divisor place h. subst Good (sym (judged-quotient names scope up argument divisor place)) (λ r. absurd cc))
      (λ operand place h. subst Good (sym (judged-negative names scope operand place)) (λ r. hold_negative Never (λ q c s h. h) (judged names scope operand).form (h r)))
      (λ inner place h. subst Good (sym (judged-group names scope inner place)) h)
      (λ operands operators h. subst Good (sym (judged-chain names scope operands operators)) (chain_unrounded scope (map (judged names scope) operands) operators (each_map (judged names scope) Good operands h)))

  pub chains_unrounded : (es : List Expr) (ops : List Operator) → IsUnrounded (judged_chain scope (map (judged names scope) es) ops)
  chains_unrounded es ops = chain_unrounded scope (map (judged names scope) es) ops (each_map (judged names scope) Good es (each (λ e. Good (judged names scope e)) unrounded es))
