-- The trace of an arranged body is that of the old one, with each value arranged.
use Rattle.std.proofs.Common.{◌≡◌, ℕ, ◌+◌, List, [], ◌∷◌, ◌++◌, map, Bool, true, false, cond, refl, sym, ap, ◌∙◌, ℤ, pos, sum_by}
use Rattle.std.proofs.lemmas.List.{map-append}
use Rattle.std.proofs.lemmas.List.Sums.{sum_by-cons}
use Rattle.std.specs.List.{flat_map, range_with_len, AllByRecursion}
use Rattle.ac_syntax.specs.Turns.{inside, iterator_at, turns}
use Rattle.ac_syntax.specs.Index.{Point, holds, index_value}
use Rattle.ac_syntax.specs.Trace.{Entry, each_turn, trace, trace_in, trace_all, assignments, assignments_in}
use Rattle.ac_syntax.specs.declared.tree.Cond.{Cond}
use Rattle.ac_syntax.specs.declared.tree.IndexExpr.{IndexExpr}
use Rattle.ac_syntax.specs.declared.tree.Stmt.{Stmt, Row_of-Stmt, end_of-Stmt, more_of-Stmt}
use Rattle.ac_syntax.specs.declared.tree.Stmt.TheVariants.{For', If', Assign}
use Rattle.ac_syntax.proofs.Traces.{trace_for}
use Rattle.ac_syntax.proofs.TraceSteps.{trace_if}
use Rattle.ac_syntax.proofs.Assignments.{assignments_for, assignments_if}
use Rattle.ac_assoc_law.specs.ArrangedPairs.{CanArrange, StmtCanArrange, BodyCanArrange, ProgramCanArrange, arranged, arranged_stmt, arranged_body, arranged_all}

map_flat_map : {A B C : Type 0} (g : B → C) (f : A → List B) (xs : List A) → flat_map (λ x. map g (f x)) xs ≡ map g (flat_map f xs)
map_flat_map g f [] = refl
map_flat_map g f (x ∷ xs) = ap (λ l. map g (f x) ++ l) (map_flat_map g f xs) ∙ sym (map-append g (f x) (flat_map f xs))

turns_map : (g : Entry → Entry) (body : Point → List ℤ → List Entry) (p : Point) (start : IndexExpr) (c : Cond) (step : ℤ) (counters : List ℤ)
    → each_turn (λ q ds. map g (body q ds)) p start c step counters ≡ map g (each_turn body p start c step counters)
unfolding each_turn
turns_map g body p start c step counters =
    map_flat_map g (λ k. body (inside p (iterator_at (index_value p start) step k)) (counters ++ pos k ∷ [])) (range_with_len 0 (turns p start c step))

appended : {A : Type 0} {xs ys zs ws : List A} → xs ≡ zs → ys ≡ ws → xs ++ ys ≡ zs ++ ws
appended p q = λ i. p i ++ q i

added : {a b c d : ℕ} → a ≡ c → b ≡ d → a + b ≡ c + d
added p q = λ i. p i + q i

both_sides : {A B : Type 0} (g : A → B) (b : Bool) {x y : A} {u v : B} → u ≡ g x → v ≡ g y → cond b u v ≡ g (cond b x y)
both_sides g true p q = p
both_sides g false p q = q

module _ (names : List (List ℕ)) (choice : ℕ → ℕ → ℕ) where
  abbrev pub arranged_entry : Entry → Entry
  arranged_entry e = record e { value = arranged names (choice e.stmt) 0 e.value }

  mutual
    unfolding assignments arranged_stmt

    as_many : (first : ℕ) (s : Stmt) → assignments (arranged_stmt names choice first s) ≡ assignments s
    as_many first (For' iter start c step n body place) = assignments_for iter start c step (arranged_body names choice first body) place ∙ as_many_in first body
    as_many first (If' c n taken m other place) =
        assignments_if c (arranged_body names choice first taken) (arranged_body names choice (first + assignments_in taken) other) place
        ∙ added (as_many_in first taken) (as_many_in (first + assignments_in taken) other)
    as_many first (Assign array subs value place) = refl

    as_many_in : (first : ℕ) {m : _} (body : Row_of-Stmt m) → sum_by assignments (arranged_body names choice first body) ≡ assignments_in body
    as_many_in first end_of-Stmt = refl
    as_many_in first (more_of-Stmt s rest) =
        sum_by-cons assignments (arranged_stmt names choice first s) (arranged_body names choice (first + assignments s) rest)
        ∙ added (as_many first s) (as_many_in (first + assignments s) rest)

  mutual
    unfolding trace arranged_stmt

    traced : (s : Stmt) (first : ℕ) (p : Point) (counters : List ℤ) → trace (arranged_stmt names choice first s) first p counters ≡ map arranged_entry (trace s first p counters)
    traced (For' iter start c step n body place) first p counters =
        trace_for iter start c step (arranged_body names choice first body) place first p counters
        ∙ ap (λ (f : Point → List ℤ → List Entry). each_turn f p start c step counters) (λ i q ds. traced_in body first q ds i)
        ∙ turns_map arranged_entry (trace_in body first) p start c step counters
    traced (If' c n taken m other place) first p counters =
        trace_if c (arranged_body names choice first taken) (arranged_body names choice (first + assignments_in taken) other) place first p counters
        ∙ both_sides (map arranged_entry) (holds p c) (traced_in taken first p counters)
        (ap (λ k. trace_all (arranged_body names choice (first + assignments_in taken) other) (first + k) p counters) (as_many_in first taken)
        ∙ traced_in other (first + assignments_in taken) p counters)
    traced (Assign array subs value place) first p counters = refl

    traced_in : {m : _} (body : Row_of-Stmt m) (first : ℕ) (p : Point) (counters : List ℤ) → trace_all (arranged_body names choice first body) first p counters ≡ map arranged_entry (trace_in body first p counters)
    traced_in end_of-Stmt first p counters = refl
    traced_in (more_of-Stmt s rest) first p counters =
        appended (traced s first p counters)
        (ap (λ k. trace_all (arranged_body names choice (first + assignments s) rest) (first + k) p counters) (as_many first s)
        ∙ traced_in rest (first + assignments s) p counters)
        ∙ sym (map-append arranged_entry (trace s first p counters) (trace_in rest (first + assignments s) p counters))

  pub traced_all : (body : List Stmt) (first : ℕ) (p : Point) (counters : List ℤ) → trace_all (arranged_all names choice first body) first p counters ≡ map arranged_entry (trace_all body first p counters)
  traced_all [] first p counters = refl
  traced_all (s ∷ ss) first p counters =
      appended (traced s first p counters)
      (ap (λ k. trace_all (arranged_all names choice (first + assignments s) ss) (first + k) p counters) (as_many first s)
      ∙ traced_all ss (first + assignments s) p counters)
      ∙ sym (map-append arranged_entry (trace s first p counters) (trace_all ss (first + assignments s) p counters))

all_append : {A : Type 0} (P : A → Type 0) (xs ys : List A) → AllByRecursion P xs → AllByRecursion P ys → AllByRecursion P (xs ++ ys)
all_append P [] ys h g = g
all_append P (x ∷ xs) ys h g = (h.0, all_append P xs ys h.1 g)

all_flat_map : {A B : Type 0} (P : B → Type 0) (f : A → List B) (xs : List A) → ((x : A) → AllByRecursion P (f x)) → AllByRecursion P (flat_map f xs)
all_flat_map P f [] h = tt
all_flat_map P f (x ∷ xs) h = all_append P (f x) (flat_map f xs) (h x) (all_flat_map P f xs h)

all_turns : (P : Entry → Type 0) (body : Point → List ℤ → List Entry) (p : Point) (start : IndexExpr) (c : Cond) (step : ℤ) (counters : List ℤ)
    → ((q : Point) (ds : List ℤ) → AllByRecursion P (body q ds)) → AllByRecursion P (each_turn body p start c step counters)
unfolding each_turn
all_turns P body p start c step counters h = all_flat_map P (λ k. body (inside p (iterator_at (index_value p start) step k)) (counters ++ pos k ∷ [])) (range_with_len 0 (turns p start c step)) (λ k. h _ _)

all_either : {A : Type 0} (P : A → Type 0) (b : Bool) (xs ys : List A) → AllByRecursion P xs → AllByRecursion P ys → AllByRecursion P (cond b xs ys)
all_either P true xs ys h g = h
all_either P false xs ys h g = g

module _ (names : List (List ℕ)) where
  abbrev pub EntryCanArrange : Entry → Type 0
  EntryCanArrange e = CanArrange names e.value

  mutual
    unfolding trace StmtCanArrange

    entries_can : (s : Stmt) (first : ℕ) (p : Point) (counters : List ℤ) → StmtCanArrange names s → AllByRecursion EntryCanArrange (trace s first p counters)
    entries_can (For' iter start c step n body place) first p counters h = all_turns EntryCanArrange (trace_in body first) p start c step counters (λ q ds. entries_can_in body first q ds h)
    entries_can (If' c n taken m other place) first p counters h =
        all_either EntryCanArrange (holds p c) _ _ (entries_can_in taken first p counters h.0) (entries_can_in other (first + assignments_in taken) p counters h.1)
    entries_can (Assign array subs value place) first p counters h = (h, tt)

    entries_can_in : {m : _} (body : Row_of-Stmt m) (first : ℕ) (p : Point) (counters : List ℤ) → BodyCanArrange names body → AllByRecursion EntryCanArrange (trace_in body first p counters)
    entries_can_in end_of-Stmt first p counters h = tt
    entries_can_in (more_of-Stmt s rest) first p counters h =
        all_append EntryCanArrange _ _ (entries_can s first p counters h.0) (entries_can_in rest (first + assignments s) p counters h.1)

  pub entries_can_all : (body : List Stmt) (first : ℕ) (p : Point) (counters : List ℤ) → ProgramCanArrange names body → AllByRecursion EntryCanArrange (trace_all body first p counters)
  entries_can_all [] first p counters h = tt
  entries_can_all (s ∷ ss) first p counters h =
      all_append EntryCanArrange _ _ (entries_can s first p counters h.0) (entries_can_all ss (first + assignments s) p counters h.1)
