-- What the steps over values make.
use Rattle.std.proofs.Common.{◌≡◌, ℕ, suc, ◌+◌, ◌<◌, ◌≤◌, List, [], ◌∷◌, ◌++◌, length, drop, get_or, true, false, cond, refl, sym, ap, ◌∙◌, append_assoc, append-nil, rules, arith}
use Rattle.std.proofs.lemmas.List.{drop_more, drop_all}
use Rattle.ac_syntax.specs.ValueNodes.{size}
use Rattle.ac_syntax.specs.Outputs.{swaps_of}
use Rattle.ac_syntax.specs.declared.tree.Place.{Place}
use Rattle.ac_syntax.specs.declared.tree.Symbol.{Symbol}
use Rattle.ac_syntax.specs.declared.tree.IndexExpr.{IndexExpr}
use Rattle.ac_syntax.specs.declared.tree.Value.{Value, Row_of-Value, end_of-Value, more_of-Value, items-the_row-Value, the_lemmas}
use Rattle.ac_syntax.specs.declared.tree.Value.TheVariants.{Number, Access, Call, Call'}
use Rattle.ac_assoc_law.specs.OperandChains.{is_binary}
use Rattle.ac_assoc_law.specs.ArrangedPairs.{one_call, arranged, arranged_args, arranged_operands, arranged_operands_in}
use Rattle.ac_assoc.specs.ValueSequences.{arranged_values, brought}

more : {A : Type 0} (xs : List A) (i : ℕ) (x : A) → i < length xs → x ≡ get_or xs i x → drop i xs ≡ x ∷ drop (i + 1) xs
more xs i x l e = drop_more xs i x l ∙ ap (λ y. y ∷ drop (i + 1) xs) (sym e)

args_row : (names : List (List ℕ)) (choice : ℕ → ℕ) (m : _) (k : Row_of-Value m) (at : ℕ) → arranged_args names choice at k ≡ arranged_values names choice at (items-the_row-Value m k)
unfolding arranged
args_row names choice m end_of-Value at = refl
args_row names choice m (more_of-Value {n = n} v rest) at = ap (λ r. arranged names choice at v ∷ r) (args_row names choice n rest (at + size v))

brought_row : (names : List (List ℕ)) (choice : ℕ → ℕ) (f : List ℕ) (m : _) (k : Row_of-Value m) (at : ℕ) → arranged_operands_in names choice f at k ≡ brought names choice f at (items-the_row-Value m k)
unfolding arranged
brought_row names choice f m end_of-Value at = refl
brought_row names choice f m (more_of-Value {n = n} v rest) at = ap (λ r. arranged_operands names choice f at v ++ r) (brought_row names choice f n rest (at + size v))

call_row : (names : List (List ℕ)) (choice : ℕ → ℕ) (at : ℕ) (s : Symbol) (n : _) (args : Row_of-Value _) (place : Place)
    → arranged names choice at (Call' s n args place)
    ≡ cond (swaps_of names s) (one_call s (choice at) (brought names choice s.name (suc at) (items-the_row-Value _ args)) place) (Call s (arranged_values names choice (suc at) (items-the_row-Value _ args)) place)
unfolding arranged
call_row names choice at s n args place =
    λ i. cond (swaps_of names s) (one_call s (choice at) (brought_row names choice s.name _ args (suc at) i) place) (Call s (args_row names choice _ args (suc at) i) place)

pub arranged_call : (names : List (List ℕ)) (choice : ℕ → ℕ) (at : ℕ) (s : Symbol) (args : List Value) (place : Place)
    → arranged names choice at (Call s args place)
    ≡ cond (swaps_of names s) (one_call s (choice at) (brought names choice s.name (suc at) args) place) (Call s (arranged_values names choice (suc at) args) place)
arranged_call names choice at s args place = search (rules, the_lemmas, call_row)

pub arranged_number : (names : List (List ℕ)) (choice : ℕ → ℕ) (at : ℕ) (e : IndexExpr) → arranged names choice at (Number e) ≡ Number e
unfolding arranged
arranged_number names choice at e = refl

pub arranged_access : (names : List (List ℕ)) (choice : ℕ → ℕ) (at : ℕ) (array : ℕ) (subs : List IndexExpr) (place : Place) → arranged names choice at (Access array subs place) ≡ Access array subs place
unfolding arranged
arranged_access names choice at array subs place = refl

pub arranged_joined : (names : List (List ℕ)) (choice : ℕ → ℕ) (at : ℕ) (s : Symbol) (args : List Value) (place : Place) → swaps_of names s ≡ true
    → arranged names choice at (Call s args place) ≡ one_call s (choice at) (brought names choice s.name (suc at) args) place
arranged_joined names choice at s args place h =
    arranged_call names choice at s args place
    ∙ ap (λ b. cond b (one_call s (choice at) (brought names choice s.name (suc at) args) place) (Call s (arranged_values names choice (suc at) args) place)) h

pub arranged_kept : (names : List (List ℕ)) (choice : ℕ → ℕ) (at : ℕ) (s : Symbol) (args : List Value) (place : Place) → swaps_of names s ≡ false
    → arranged names choice at (Call s args place) ≡ Call s (arranged_values names choice (suc at) args) place
arranged_kept names choice at s args place h =
    arranged_call names choice at s args place
    ∙ ap (λ b. cond b (one_call s (choice at) (brought names choice s.name (suc at) args) place) (Call s (arranged_values names choice (suc at) args) place)) h

pub ruleset value_steps = (arranged_number, arranged_access)

-- what a value brings
operands_call_row : (names : List (List ℕ)) (choice : ℕ → ℕ) (f : List ℕ) (at : ℕ) (s : Symbol) (n : _) (args : Row_of-Value _) (place : Place)
    → arranged_operands names choice f at (Call' s n args place) ≡ cond (is_binary f s) (brought names choice f (suc at) (items-the_row-Value _ args)) (arranged names choice at (Call' s n args place) ∷ [])
unfolding arranged
operands_call_row names choice f at s n args place =
    λ i. cond (is_binary f s) (brought_row names choice f _ args (suc at) i) (arranged names choice at (Call' s n args place) ∷ [])

operands_call : (names : List (List ℕ)) (choice : ℕ → ℕ) (f : List ℕ) (at : ℕ) (s : Symbol) (args : List Value) (place : Place)
    → arranged_operands names choice f at (Call s args place) ≡ cond (is_binary f s) (brought names choice f (suc at) args) (arranged names choice at (Call s args place) ∷ [])
operands_call names choice f at s args place = search (rules, the_lemmas, operands_call_row)

pub operands_joined : (names : List (List ℕ)) (choice : ℕ → ℕ) (f : List ℕ) (at : ℕ) (s : Symbol) (args : List Value) (place : Place) → is_binary f s ≡ true
    → arranged_operands names choice f at (Call s args place) ≡ brought names choice f (suc at) args
operands_joined names choice f at s args place h =
    operands_call names choice f at s args place ∙ ap (λ b. cond b (brought names choice f (suc at) args) (arranged names choice at (Call s args place) ∷ [])) h

pub operands_other : (names : List (List ℕ)) (choice : ℕ → ℕ) (f : List ℕ) (at : ℕ) (s : Symbol) (args : List Value) (place : Place) → is_binary f s ≡ false
    → arranged_operands names choice f at (Call s args place) ≡ arranged names choice at (Call s args place) ∷ []
operands_other names choice f at s args place h =
    operands_call names choice f at s args place ∙ ap (λ b. cond b (brought names choice f (suc at) args) (arranged names choice at (Call s args place) ∷ [])) h

pub operands_number : (names : List (List ℕ)) (choice : ℕ → ℕ) (f : List ℕ) (at : ℕ) (e : IndexExpr) → arranged_operands names choice f at (Number e) ≡ arranged names choice at (Number e) ∷ []
unfolding arranged
operands_number names choice f at e = refl

pub operands_access : (names : List (List ℕ)) (choice : ℕ → ℕ) (f : List ℕ) (at : ℕ) (array : ℕ) (subs : List IndexExpr) (place : Place)
    → arranged_operands names choice f at (Access array subs place) ≡ arranged names choice at (Access array subs place) ∷ []
unfolding arranged
operands_access names choice f at array subs place = refl

pub ruleset operand_steps = (operands_number, operands_access)

-- the loops over values
pub record ValuesMade (names : List (List ℕ)) (choice : ℕ → ℕ) (first : ℕ) (vs : List Value) (i : ℕ) (made : List Value) (at : ℕ) : Type 0 where
  pub value : arranged_values names choice first vs ≡ made ++ arranged_values names choice at (drop i vs)

pub values_start : (names : List (List ℕ)) (choice : ℕ → ℕ) (first : ℕ) (vs : List Value) → ValuesMade names choice first vs 0 [] first
values_start names choice first vs = record { value = refl }

pub values_step : (names : List (List ℕ)) (choice : ℕ → ℕ) (first : ℕ) (vs : List Value) (i : ℕ) (made new : List Value) (at next : ℕ) (v made_v : Value) → ValuesMade names choice first vs i made at → i < length vs → v ≡ get_or vs i v
    → made_v ≡ arranged names choice at v → new ≡ made ++ made_v ∷ [] → next ≡ at + size v → ValuesMade names choice first vs (i + 1) new next
values_step names choice first vs i made new at next v w h l e m n s =
    record { value = rw (n, s, m) (h.value ∙ rw (more vs i v l e) (sym (append_assoc made (arranged names choice at v ∷ []) (arranged_values names choice (at + size v) (drop (i + 1) vs))))) }

pub values_end : (names : List (List ℕ)) (choice : ℕ → ℕ) (first : ℕ) (vs : List Value) (i : ℕ) (made : List Value) (at : ℕ) → ValuesMade names choice first vs i made at → length vs ≤ i → made ≡ arranged_values names choice first vs
values_end names choice first vs i made at h l = sym ((h.value ∙ ap (λ r. made ++ arranged_values names choice at r) (drop_all i vs l)) ∙ append-nil made)

pub record Brought (names : List (List ℕ)) (choice : ℕ → ℕ) (f : List ℕ) (first : ℕ) (vs old : List Value) (i : ℕ) (out : List Value) (at : ℕ) : Type 0 where
  pub value : old ++ brought names choice f first vs ≡ out ++ brought names choice f at (drop i vs)

pub brought_start : (names : List (List ℕ)) (choice : ℕ → ℕ) (f : List ℕ) (first : ℕ) (vs old : List Value) → Brought names choice f first vs old 0 old first
brought_start names choice f first vs old = record { value = refl }

pub brought_step : (names : List (List ℕ)) (choice : ℕ → ℕ) (f : List ℕ) (first : ℕ) (vs old : List Value) (i : ℕ) (out new : List Value) (at next : ℕ) (v : Value) → Brought names choice f first vs old i out at → i < length vs → v ≡ get_or vs i v
    → new ≡ out ++ arranged_operands names choice f at v → next ≡ at + size v → Brought names choice f first vs old (i + 1) new next
brought_step names choice f first vs old i out new at next v h l e n s =
    record { value = rw (n, s) (h.value ∙ rw (more vs i v l e) (sym (append_assoc out (arranged_operands names choice f at v) (brought names choice f (at + size v) (drop (i + 1) vs))))) }

pub brought_end : (names : List (List ℕ)) (choice : ℕ → ℕ) (f : List ℕ) (first : ℕ) (vs old : List Value) (i : ℕ) (out : List Value) (at : ℕ) → Brought names choice f first vs old i out at → length vs ≤ i → out ≡ old ++ brought names choice f first vs
brought_end names choice f first vs old i out at h l = sym ((h.value ∙ ap (λ r. out ++ brought names choice f at r) (drop_all i vs l)) ∙ append-nil out)

-- a call
next_is : (at first : ℕ) → first ≡ at + 1 → first ≡ suc at
next_is at first e = omega arith

pub call_joined : (names : List (List ℕ)) (choice : ℕ → ℕ) (at first number : ℕ) (v made : Value) (s : Symbol) (args args2 operands : List Value) (place : Place) → v ≡ Call s args place → args2 ≡ args → first ≡ at + 1 → swaps_of names s ≡ true
    → operands ≡ [] ++ brought names choice s.name first args2 → number ≡ choice at → made ≡ one_call s number operands place → made ≡ arranged names choice at v
call_joined names choice at first number v made s args args2 operands place is a f h o n m =
    m ∙ (λ i. one_call s (n i) ((o ∙ (λ j. brought names choice s.name (next_is at first f j) (a j))) i) place)
    ∙ sym (ap (arranged names choice at) is ∙ arranged_joined names choice at s args place h)

pub call_kept : (names : List (List ℕ)) (choice : ℕ → ℕ) (at first : ℕ) (v : Value) (s copy : Symbol) (args args2 made : List Value) (place : Place) → v ≡ Call s args place → args2 ≡ args → first ≡ at + 1 → swaps_of names s ≡ false
    → copy ≡ s → made ≡ arranged_values names choice first args2 → Call copy made place ≡ arranged names choice at v
call_kept names choice at first v s copy args args2 made place is a f h c m =
    (λ i. Call (c i) ((m ∙ (λ j. arranged_values names choice (next_is at first f j) (a j))) i) place)
    ∙ sym (ap (arranged names choice at) is ∙ arranged_kept names choice at s args place h)

pub bring_joined : (names : List (List ℕ)) (choice : ℕ → ℕ) (f : List ℕ) (at first : ℕ) (v : Value) (s : Symbol) (args args2 old new : List Value) (place : Place) → v ≡ Call s args place → args2 ≡ args → first ≡ at + 1 → is_binary f s ≡ true
    → new ≡ old ++ brought names choice f first args2 → new ≡ old ++ arranged_operands names choice f at v
bring_joined names choice f at first v s args args2 old new place is a e h n =
    n ∙ (λ i. old ++ brought names choice f (next_is at first e i) (a i))
    ∙ ap (λ r. old ++ r) (sym (ap (arranged_operands names choice f at) is ∙ operands_joined names choice f at s args place h))

pub bring_other : (names : List (List ℕ)) (choice : ℕ → ℕ) (f : List ℕ) (at : ℕ) (v made : Value) (s : Symbol) (args old new : List Value) (place : Place) → v ≡ Call s args place → is_binary f s ≡ false
    → made ≡ arranged names choice at v → new ≡ old ++ made ∷ [] → new ≡ old ++ arranged_operands names choice f at v
bring_other names choice f at v made s args old new place is h m n =
    n ∙ (λ i. old ++ (m ∙ ap (arranged names choice at) is) i ∷ [])
    ∙ ap (λ r. old ++ r) (sym (ap (arranged_operands names choice f at) is ∙ operands_other names choice f at s args place h))

pub bring_number : (names : List (List ℕ)) (choice : ℕ → ℕ) (f : List ℕ) (at : ℕ) (v made : Value) (e : IndexExpr) (old new : List Value) → v ≡ Number e
    → made ≡ arranged names choice at v → new ≡ old ++ made ∷ [] → new ≡ old ++ arranged_operands names choice f at v
bring_number names choice f at v made e old new is m n =
    n ∙ (λ i. old ++ (m ∙ ap (arranged names choice at) is) i ∷ [])
    ∙ ap (λ r. old ++ r) (sym (ap (arranged_operands names choice f at) is ∙ operands_number names choice f at e))

pub bring_access : (names : List (List ℕ)) (choice : ℕ → ℕ) (f : List ℕ) (at : ℕ) (v made : Value) (array : ℕ) (subs : List IndexExpr) (place : Place) (old new : List Value) → v ≡ Access array subs place
    → made ≡ arranged names choice at v → new ≡ old ++ made ∷ [] → new ≡ old ++ arranged_operands names choice f at v
bring_access names choice f at v made array subs place old new is m n =
    n ∙ (λ i. old ++ (m ∙ ap (arranged names choice at) is) i ∷ [])
    ∙ ap (λ r. old ++ r) (sym (ap (arranged_operands names choice f at) is ∙ operands_access names choice f at array subs place))
