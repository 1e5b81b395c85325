-- What stays where values and statements are arranged.
use Rattle.std.proofs.Common.{ℕ, zero, suc, ◌+◌, ◌/◌, ◌%◌, List, [], ◌∷◌, ◌++◌, length, Bool, true, false, cond, Option, None, Some, slice_get}
use Rattle.std.specs.List.{AllByRecursion}
use Rattle.std.specs.Option.{option_map_or}
use Rattle.ac_syntax.specs.ValueNodes.{size}
use Rattle.ac_syntax.specs.Trace.{assignments, assignments_in}
use Rattle.ac_syntax.specs.ReadyPrograms.{FitsValue, FitValues, Ready, ReadyIn, ReadyAll}
use Rattle.ac_syntax.specs.Outputs.{swaps_of}
use Rattle.ac_syntax.specs.declared.tree.Place.{Place}
use Rattle.ac_syntax.specs.declared.tree.Symbol.{Symbol}
use Rattle.ac_syntax.specs.declared.tree.Value.{Value, Row_of-Value, end_of-Value, more_of-Value}
use Rattle.ac_syntax.specs.declared.tree.Value.TheVariants.{Number, Access, Call, Call'}
use Rattle.ac_syntax.specs.declared.tree.Stmt.{Stmt, Row_of-Stmt, end_of-Stmt, more_of-Stmt}
use Rattle.ac_syntax.specs.declared.tree.Stmt.TheVariants.{For', If', Assign}
use Rattle.ac_syntax.proofs.ReadyAt.{fits_call, for_ready, if_ready, assign_ready}
use Rattle.ac_assoc_law.specs.OperandChains.{is_binary}
use Rattle.ac_assoc_law.specs.ArrangedPairs.{factorial, picks, permuted, one_call, arranged, arranged_args, arranged_operands, arranged_operands_in, arranged_stmt, arranged_body, arranged_all}
use Rattle.ac_assoc_law.specs.LawsOfArrangements.{ArrangedPairsAreReady}
use Rattle.ac_assoc_law.proofs.Permuting.{IfThere, got, all_map}

pub all_joined : {A : Type 0} (P : A → Type 0) (xs ys : List A) → AllByRecursion P xs → AllByRecursion P ys → AllByRecursion P (xs ++ ys)
all_joined P [] ys h g = g
all_joined P (x ∷ xs) ys h g = (h.0, all_joined P xs ys h.1 g)

picks_all : {X : Type 0} (P : X → Type 0) (xs : List X) → AllByRecursion P xs → AllByRecursion (λ q. P q.0 × AllByRecursion P q.1) (picks xs)
unfolding picks
picks_all P [] h = tt
picks_all {X} P (x ∷ xs) h =
    ((h.0, h.1), all_map (λ (q : X × List X). P q.0 × AllByRecursion P q.1) (λ (q : X × List X). P q.0 × AllByRecursion P q.1) (λ (q : X × List X). (q.0, x ∷ q.1)) (λ q g. (g.0, (h.0, g.1))) (picks xs) (picks_all P xs h.1))

pub permuted_all : {X : Type 0} (P : X → Type 0) (n number : ℕ) (xs : List X) → AllByRecursion P xs → AllByRecursion P (permuted n number xs)
unfolding permuted
permuted_all P zero number xs h = h
permuted_all {X} P (suc n) number xs h =
    by (λ ys g. permuted_all P n (number % factorial n) ys g) (slice_get (picks xs) (number / factorial n)) (got (λ (q : X × List X). P q.0 × AllByRecursion P q.1) (picks xs) (number / factorial n) (picks_all P xs h))
  where
    by : ((ys : List X) → AllByRecursion P ys → AllByRecursion P (permuted n (number % factorial n) ys)) → (o : Option (X × List X)) → IfThere (λ (q : X × List X). P q.0 × AllByRecursion P q.1) o
        → AllByRecursion P (option_map_or (λ q. q.0 ∷ permuted n (number % factorial n) q.1) o xs)
    by f None g = h
    by f (Some q) g = (g.0, f q.1 g.1)

pub either : {A : Type 0} (P : A → Type 0) (b : Bool) (x y : A) → P x → P y → P (cond b x y)
either P true x y p q = p
either P false x y p q = q

-- what holds of a call where it holds of its arguments, and of the arguments where it holds of the call
pub record Passes (P : Value → Type 0) (Each : (m : _) → Row_of-Value m → Type 0) : Type 0 where
  pub args : (s : Symbol) (n : _) (args : Row_of-Value _) (place : Place) → P (Call' s n args place) → Each _ args
  pub split : (n : _) (v : Value) (rest : Row_of-Value n) → Each _ (more_of-Value v rest) → P v × Each n rest
  pub call : (s : Symbol) (args : List Value) (place : Place) → AllByRecursion P args → P (Call s args place)

module _ (P : Value → Type 0) (Each : (m : _) → Row_of-Value m → Type 0) (passes : Passes P Each) (names : List (List ℕ)) (choice : ℕ → ℕ) where
  one_call_stays : (s : Symbol) (number : ℕ) (vs : List Value) (place : Place) → AllByRecursion P vs → P (one_call s number vs place)
  one_call_stays s number vs place h = passes.call (record { name = s.name; arity = length vs }) (permuted (length vs) number vs) place (permuted_all P (length vs) number vs h)

  call_stays : (k : ℕ) (s : Symbol) (xs ys : List Value) (place : Place) → AllByRecursion P xs → AllByRecursion P ys → P (cond (swaps_of names s) (one_call s (choice k) xs place) (Call s ys place))
  call_stays k s xs ys place h g = either P (swaps_of names s) (one_call s (choice k) xs place) (Call s ys place) (one_call_stays s (choice k) xs place h) (passes.call s ys place g)

  mutual
    unfolding arranged

    pub value_stays : (k : ℕ) (v : Value) → P v → P (arranged names choice k v)
    value_stays k (Number e) h = h
    value_stays k (Access array subs place) h = h
    value_stays k (Call' symbol n args place) h =
        call_stays k symbol (arranged_operands_in names choice symbol.name (suc k) args) (arranged_args names choice (suc k) args) place
        (operands_in_stay symbol.name (suc k) args (passes.args symbol n args place h)) (args_stay (suc k) args (passes.args symbol n args place h))

    args_stay : (k : ℕ) {m : _} (args : Row_of-Value m) → Each m args → AllByRecursion P (arranged_args names choice k args)
    args_stay k end_of-Value h = tt
    args_stay k (more_of-Value {n = n} v rest) h = (value_stays k v (passes.split n v rest h).0, args_stay (k + size v) rest (passes.split n v rest h).1)

    operands_stay : (f : List ℕ) (k : ℕ) (v : Value) → P v → AllByRecursion P (arranged_operands names choice f k v)
    operands_stay f k (Number e) h = (h, tt)
    operands_stay f k (Access array subs place) h = (h, tt)
    operands_stay f k (Call' symbol n args place) h =
        either (AllByRecursion P) (is_binary f symbol) _ _ (operands_in_stay f (suc k) args (passes.args symbol n args place h)) (
          call_stays k symbol (arranged_operands_in names choice symbol.name (suc k) args) (arranged_args names choice (suc k) args) place
              (operands_in_stay symbol.name (suc k) args (passes.args symbol n args place h)) (args_stay (suc k) args (passes.args symbol n args place h)),
          tt,
        )

    operands_in_stay : (f : List ℕ) (k : ℕ) {m : _} (args : Row_of-Value m) → Each m args → AllByRecursion P (arranged_operands_in names choice f k args)
    operands_in_stay f k end_of-Value h = tt
    operands_in_stay f k (more_of-Value {n = n} v rest) h =
        all_joined P (arranged_operands names choice f k v) (arranged_operands_in names choice f (k + size v) rest) (operands_stay f k v (passes.split n v rest h).0) (operands_in_stay f (k + size v) rest (passes.split n v rest h).1)

fits_pass : (ps xs : ℕ) → Passes (FitsValue ps xs) (λ m k. FitValues ps xs k)
unfolding FitsValue
fits_pass ps xs = record { args = λ s n args place h. h; split = λ n v rest h. h; call = λ s args place h. fits_call ps xs s args place h }

module _ (ps : ℕ) (names : List (List ℕ)) (choice : ℕ → ℕ → ℕ) where
  mutual
    unfolding Ready arranged_stmt

    stmt_stays : (xs first : ℕ) (s : Stmt) → Ready ps xs s → Ready ps xs (arranged_stmt names choice first s)
    stmt_stays xs first (For' iter start c step n body place) h = for_ready ps xs iter start c step (arranged_body names choice first body) place h.0 h.1 h.2 h.3 (body_stays (xs + 1) first body h.4)
    stmt_stays xs first (If' c n taken m other place) h =
        if_ready ps xs c (arranged_body names choice first taken) (arranged_body names choice (first + assignments_in taken) other) place h.0 (body_stays xs first taken h.1) (body_stays xs (first + assignments_in taken) other h.2) h.3
    stmt_stays xs first (Assign array subs value place) h = assign_ready ps xs array subs (arranged names (choice first) 0 value) place h.0 (value_stays (FitsValue ps xs) (λ m k. FitValues ps xs k) (fits_pass ps xs) names (choice first) 0 value h.1)

    body_stays : (xs first : ℕ) {m : _} (body : Row_of-Stmt m) → ReadyIn ps xs body → ReadyAll ps xs (arranged_body names choice first body)
    body_stays xs first end_of-Stmt h = tt
    body_stays xs first (more_of-Stmt s rest) h = (stmt_stays xs first s h.0, body_stays xs (first + assignments s) rest h.1)

  all_stay : (xs first : ℕ) (ss : List Stmt) → ReadyAll ps xs ss → ReadyAll ps xs (arranged_all names choice first ss)
  all_stay xs first [] h = tt
  all_stay xs first (s ∷ ss) h = (stmt_stays xs first s h.0, all_stay xs (first + assignments s) ss h.1)

pub pairs_are_ready : ArrangedPairsAreReady
pairs_are_ready names choice pair left right = (
  record { body = all_stay (length pair.left.params) names (λ stmt node. 0) 0 0 pair.left.body left.body; context = left.context; extents = left.extents },
  record { body = all_stay (length pair.right.params) names choice 0 0 pair.right.body right.body; context = right.context; extents = right.extents },
)
