-- Calls of an arranged pair have as many arguments as their symbols say.
use Rattle.std.proofs.Common.{◌≡◌, ℕ, suc, ◌+◌, List, [], ◌∷◌, ◌++◌, length, map, refl, sym, ap, ◌∙◌, subst, ℤ}
use Rattle.std.specs.List.{AllByRecursion}
use Rattle.std.proofs.lemmas.List.Sorted.{length_permutation}
use Rattle.ac_syntax.specs.Index.{point}
use Rattle.ac_syntax.specs.Source.{Writer, Stands}
use Rattle.ac_syntax.specs.Trace.{Entry, trace_of}
use Rattle.ac_syntax.specs.ExecutedCalls.{HaveArities}
use Rattle.ac_syntax.specs.ValueNodes.{size}
use Rattle.ac_syntax.specs.Outputs.{swaps_of}
use Rattle.ac_syntax.specs.declared.tree.Place.{Place}
use Rattle.ac_syntax.specs.declared.tree.Stmt.{Stmt}
use Rattle.ac_syntax.specs.declared.tree.Symbol.{Symbol}
use Rattle.ac_syntax.specs.declared.tree.Value.{Value, Row_of-Value, end_of-Value, more_of-Value}
use Rattle.ac_syntax.specs.declared.tree.Value.TheVariants.{Number, Access, Call, Call'}
use Rattle.ac_assoc_law.specs.OperandChains.{is_binary}
use Rattle.ac_assoc_law.specs.ArrangedPairs.{permuted, one_call, arranged, arranged_args, arranged_operands, arranged_operands_in, arranged_all}
use Rattle.ac_assoc_law.specs.LawsOfArrangements.{ArrangedPairsHaveArities}
use Rattle.ac_assoc_law.proofs.Sorting.{permuted_same}
use Rattle.ac_assoc_law.proofs.Staying.{all_joined, permuted_all, either}
use Rattle.ac_assoc_law.proofs.Counting.{count, HasCounts, EachHasCounts, call_counts, counts_of_nodes, nodes_of_counts}
use Rattle.ac_assoc_law.proofs.Traced.{arranged_entry, traced_all}

module _ (names : List (List ℕ)) (choice : ℕ → ℕ) where
  one_call_counts : (s : Symbol) (number : ℕ) (vs : List Value) (place : Place) → AllByRecursion HasCounts vs → HasCounts (one_call s number vs place)
  one_call_counts s number vs place h =
      call_counts (record { name = s.name; arity = length vs }) (permuted (length vs) number vs) place (length_permutation vs (permuted (length vs) number vs) (permuted_same (length vs) number vs)) (permuted_all HasCounts (length vs) number vs h)

  args_count : (k : ℕ) {m : _} (args : Row_of-Value m) → length (arranged_args names choice k args) ≡ count args
  unfolding arranged count
  args_count k end_of-Value = refl
  args_count k (more_of-Value v rest) = ap (λ c. suc c) (args_count (k + size v) rest)

  mutual
    unfolding HasCounts arranged

    value_counts : (k : ℕ) (v : Value) → HasCounts v → HasCounts (arranged names choice k v)
    value_counts k (Number e) h = h
    value_counts k (Access array subs place) h = h
    value_counts k (Call' symbol n args place) h =
        either HasCounts (swaps_of names symbol) (one_call symbol (choice k) (arranged_operands_in names choice symbol.name (suc k) args) place) (Call symbol (arranged_args names choice (suc k) args) place)
        (one_call_counts symbol (choice k) _ place (operands_in_count symbol.name (suc k) args h.1)) (call_counts symbol _ place (args_count (suc k) args ∙ h.0) (each_counts (suc k) args h.1))

    each_counts : (k : ℕ) {m : _} (args : Row_of-Value m) → EachHasCounts args → AllByRecursion HasCounts (arranged_args names choice k args)
    each_counts k end_of-Value h = tt
    each_counts k (more_of-Value v rest) h = (value_counts k v h.0, each_counts (k + size v) rest h.1)

    operands_count : (f : List ℕ) (k : ℕ) (v : Value) → HasCounts v → AllByRecursion HasCounts (arranged_operands names choice f k v)
    operands_count f k (Number e) h = (h, tt)
    operands_count f k (Access array subs place) h = (h, tt)
    operands_count f k (Call' symbol n args place) h =
        either (AllByRecursion HasCounts) (is_binary f symbol) _ _ (operands_in_count f (suc k) args h.1) (
          either HasCounts (swaps_of names symbol) (one_call symbol (choice k) (arranged_operands_in names choice symbol.name (suc k) args) place) (Call symbol (arranged_args names choice (suc k) args) place)
              (one_call_counts symbol (choice k) _ place (operands_in_count symbol.name (suc k) args h.1)) (call_counts symbol _ place (args_count (suc k) args ∙ h.0) (each_counts (suc k) args h.1)),
          tt,
        )

    operands_in_count : (f : List ℕ) (k : ℕ) {m : _} (args : Row_of-Value m) → EachHasCounts args → AllByRecursion HasCounts (arranged_operands_in names choice f k args)
    operands_in_count f k end_of-Value h = tt
    operands_in_count f k (more_of-Value v rest) h =
        all_joined HasCounts (arranged_operands names choice f k v) (arranged_operands_in names choice f (k + size v) rest) (operands_count f k v h.0) (operands_in_count f (k + size v) rest h.1)

-- ---- of entries

abbrev pub EntryCounts : Entry → Type 0
EntryCounts e = HasCounts e.value

each_entry : (es : List Entry) → ((w : Writer) → Stands es w → EntryCounts w.entry) → AllByRecursion EntryCounts es
each_entry [] h = tt
each_entry (e ∷ es) h = (
  h (record { earlier = []; entry = e }) (record { later = es; splits = refl }),
  each_entry es (λ w s. h (record { earlier = e ∷ w.earlier; entry = w.entry }) (record { later = s.later; splits = ap (λ l. e ∷ l) s.splits })),
)

at_entry : (before : List Entry) (e : Entry) (behind : List Entry) → AllByRecursion EntryCounts (before ++ e ∷ behind) → EntryCounts e
at_entry [] e behind h = h.0
at_entry (x ∷ xs) e behind h = at_entry xs e behind h.1

pub entries_count : (body : List Stmt) (params : List ℤ) → HaveArities body → AllByRecursion EntryCounts (trace_of body params)
entries_count body params h = each_entry (trace_of body params) (λ w s. counts_of_nodes w.entry.value (h params w s))

arranged_count : (names : List (List ℕ)) (choice : ℕ → ℕ → ℕ) (es : List Entry) → AllByRecursion EntryCounts es → AllByRecursion EntryCounts (map (arranged_entry names choice) es)
arranged_count names choice [] h = tt
arranged_count names choice (e ∷ es) h = (value_counts names (choice e.stmt) 0 e.value h.0, arranged_count names choice es h.1)

have_arities : (names : List (List ℕ)) (choice : ℕ → ℕ → ℕ) (body : List Stmt) → HaveArities body → HaveArities (arranged_all names choice 0 body)
have_arities names choice body h params w stands =
    let all : AllByRecursion EntryCounts (trace_of (arranged_all names choice 0 body) params) =
    subst (AllByRecursion EntryCounts) (sym (traced_all names choice body 0 (point params []) [])) (arranged_count names choice (trace_of body params) (entries_count body params h)) in
    nodes_of_counts w.entry.value (at_entry w.earlier w.entry stands.later (subst (AllByRecursion EntryCounts) stands.splits all))

pub pairs_have_arities : ArrangedPairsHaveArities
pairs_have_arities names choice pair left right = (have_arities names (λ stmt node. 0) pair.left.body left, have_arities names choice pair.right.body right)
