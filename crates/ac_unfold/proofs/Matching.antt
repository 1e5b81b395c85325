-- Rows that stand at the end of a path, and what the end is then.
use Rattle.std.proofs.Common.{◌≡◌, ℕ, ◌+◌, ◌&&◌, Bool, true, false, cond, List, [], ◌∷◌, ◌++◌, Some, None, sym, ap, ◌∙◌, subst, arith}
use Rattle.std.proofs.lemmas.Bool.Decides.{nat_tests}
use Rattle.std.specs.Prelude.{nat_eq, length, slice_get}
use Rattle.ac_forms.specs.Affine.{Affine}
use Rattle.ac_forms.specs.Renaming.{rows_renaming}
use Rattle.ac_forms.specs.Rows.{IsWellMade}
use Rattle.ac_forms.specs.declared.row.Row.{Row}
use Rattle.ac_poly.specs.Model.{is_input}
use Rattle.ac_claims_paths.specs.PathColumns.{base, columns_of, equal_forms}
use Rattle.ac_claims_paths.specs.PathSteps.{Pairing, at_rows}
use Rattle.ac_claims_paths.specs.ModelPositions.{number_at, initial_cell}
use Rattle.ac_claims_paths.specs.declared.path.Path.{Path}
use Rattle.ac_claims_paths.specs.declared.places.CellForms.{CellForms}
use Rattle.ac_claims.specs.ProofEnds.{equal_cells, equal_numbers}
use Rattle.ac_claims.specs.declared.types.Claim.{Claim}
use Rattle.ac_claims.specs.declared.types.PlanNext.TheVariants.{Hit, SameInitial, SameNumber}
use Rattle.ac_claims_plans.specs.declared.embedding.Embedding.{Embedding}
use Rattle.ac_unfold_plans.specs.PlanEnds.{initial_rows, number_rows, IsClaimAt}
use Rattle.ac_unfold_plans.specs.RowsAlongPaths.{RowsStandAlong}
use Rattle.ac_unfold_plans.proofs.Carrying.{standing_along}
use Rattle.ac_unfold_plans.proofs.Ending.{cells_plans, hits_plans, numbers_plans}
use Rattle.ac_unfold_plans.specs.PlanStops.{positions_at}
use Rattle.ac_claims_plans.specs.DuePlans.{AreNumbered}
use Rattle.ac_unfold_plans.proofs.Heeding.{hits_use_tabled, initial_cells_use_tabled, numbers_use_tabled}
use Rattle.ac_unfold_plans.proofs.Stopping.{hits_stop, initial_cells_stop, numbers_stop}
use Rattle.ac_unfold.specs.KillCuts.{columns_there, IsClaimBehind, IsNumbered, IsTabledBehind}
use Rattle.ac_unfold.specs.PlanResults.{judge_of, AreStanding, EndsWhere, IsEndFor, IsGiven}
use Rattle.ac_unfold.specs.SearchPlanStops.{IsUnclaimed, StopsIn}
use Rattle.ac_unfold.specs.declared.ends.Search.{Search}
use Rattle.ac_unfold.proofs.Stops.{may_go}

pub rows_along : (params : ℕ) (s : Embedding) (q : Path) (rows : List Row) → IsWellMade q.conj → AreStanding q.conj rows → RowsStandAlong params s q rows
rows_along params s q [] w h = tt
rows_along params s q (r ∷ rows) w h = (standing_along params s q r w h.0.0 h.0.1, rows_along params s q rows w h.1)

-- ---- numbers

numbers_end : (search : Search) (q : Path) (form other : Affine) (rows : List Row) → number_at (judge_of search).left q.left.position ≡ Some form → number_at (judge_of search).right q.right.position ≡ Some other
    → Some rows ≡ equal_forms (base (judge_of search).params ++ columns_of q.left) (form ∷ []) (base (judge_of search).params ++ columns_of q.right) (other ∷ []) → EndsWhere search q rows SameNumber
unfolding EndsWhere
numbers_end search q form other rows l r e cs s c t given formed standing end =
    let g = judge_of search in
    let is : number_rows g (at_rows q c) ≡ Some rows = ap (λ o. equal_numbers g (at_rows q c) o (number_at g.right q.right.position)) l ∙ ap (λ o. equal_numbers g (at_rows q c) (Some form) o) r ∙ sym e in
    numbers_plans g cs s (at_rows q c) rows t is (rows_along g.params s (at_rows q c) rows formed.made standing) end

pub number_ends : (search : Search) (q : Path) (form other : Affine) (rows : List Row) → number_at (judge_of search).left q.left.position ≡ Some form → number_at (judge_of search).right q.right.position ≡ Some other
    → Some rows ≡ equal_forms (base (judge_of search).params ++ columns_of q.left) (form ∷ []) (base (judge_of search).params ++ columns_of q.right) (other ∷ []) → IsUnclaimed search q → IsEndFor search q rows SameNumber
unfolding StopsIn
number_ends search q form other rows l r e none = record { ends = numbers_end search q form other rows l r e; stops = λ making. ((λ g at. numbers_stop g (positions_at q) q.gone (may_go search q g at none)), (λ may_use_tabled. numbers_use_tabled (judge_of search) search.tabled.now q (none.passes making may_use_tabled.moduli))) }

-- ---- initial cells

pub cells_are : (g : Pairing) (q : Path) (c d : CellForms) (rows : List Row) → c.array ≡ d.array → is_input (slice_get g.left.kinds c.array) ≡ true
    → Some rows ≡ equal_forms (base g.params ++ columns_of q.left) c.subs (base g.params ++ columns_of q.right) d.subs → equal_cells g q (Some c) (Some d) ≡ Some rows
cells_are g q c d rows e i is = by (nat_eq c.array d.array) (is_input (slice_get g.left.kinds c.array)) (same_array c.array d.array e) i
  where
    same_array : (a b : ℕ) → a ≡ b → nat_eq a b ≡ true
    same_array a b e = grind (arith, nat_tests)

    by : (a b : Bool) → a ≡ true → b ≡ true → cond (a && b) (equal_forms (base g.params ++ columns_of q.left) c.subs (base g.params ++ columns_of q.right) d.subs) None ≡ Some rows
    by true true e f = sym is
    by true false e f = absurd cc
    by false b e f = absurd cc

initials_end : (search : Search) (q : Path) (c d : CellForms) (rows : List Row) → initial_cell (judge_of search).left q.left.position ≡ Some c → initial_cell (judge_of search).right q.right.position ≡ Some d → c.array ≡ d.array
    → is_input (slice_get (judge_of search).left.kinds c.array) ≡ true → Some rows ≡ equal_forms (base (judge_of search).params ++ columns_of q.left) c.subs (base (judge_of search).params ++ columns_of q.right) d.subs → EndsWhere search q rows SameInitial
unfolding EndsWhere
initials_end search q c d rows l r same input e cs s k t given formed standing end =
    let g = judge_of search in
    let v = at_rows q k in
    let is : initial_rows g v ≡ Some rows = ap (λ o. equal_cells g v o (initial_cell g.right q.right.position)) l ∙ ap (λ o. equal_cells g v (Some c) o) r ∙ cells_are g v c d rows same input e in
    cells_plans g cs s v rows t is (rows_along g.params s v rows formed.made standing) end

pub initial_ends : (search : Search) (q : Path) (c d : CellForms) (rows : List Row) → initial_cell (judge_of search).left q.left.position ≡ Some c → initial_cell (judge_of search).right q.right.position ≡ Some d → c.array ≡ d.array
    → is_input (slice_get (judge_of search).left.kinds c.array) ≡ true → Some rows ≡ equal_forms (base (judge_of search).params ++ columns_of q.left) c.subs (base (judge_of search).params ++ columns_of q.right) d.subs → IsUnclaimed search q → IsEndFor search q rows SameInitial
unfolding StopsIn
initial_ends search q c d rows l r same input e none = record { ends = initials_end search q c d rows l r same input e; stops = λ making. ((λ g at. initial_cells_stop g (positions_at q) q.gone (may_go search q g at none)), (λ may_use_tabled. initial_cells_use_tabled (judge_of search) search.tabled.now q (none.passes making may_use_tabled.moduli))) }

-- the same forms over the same columns
pub forms_same : (q : Path) (n m : ℕ) (fs gs xs ys : List Affine) → n ≡ m → fs ≡ xs → gs ≡ ys → equal_forms (base n ++ columns_of q.left) fs (base n ++ columns_of q.right) gs ≡ equal_forms (base m ++ columns_of q.left) xs (base m ++ columns_of q.right) ys
forms_same q n m fs gs xs ys e f g =
    ap (λ (k : ℕ). equal_forms (base k ++ columns_of q.left) fs (base k ++ columns_of q.right) gs) e ∙ ap (λ (zs : List Affine). equal_forms (base m ++ columns_of q.left) zs (base m ++ columns_of q.right) gs) f
    ∙ ap (λ (zs : List Affine). equal_forms (base m ++ columns_of q.left) xs (base m ++ columns_of q.right) zs) g

-- ---- claims

-- a hit on a claim of the pair of a question behind a step, numbered so among all claims
numbered_end : (search : Search) (q : Path) (first : ℕ) (claims : List Claim) (number : ℕ) (claim : Claim) (rows : List Row) → q.gone ≡ true → IsNumbered claims q.left.position q.right.position number → slice_get claims number ≡ Some claim
    → Some rows ≡ rows_renaming (columns_there search q) claim.rows → ((cs : List Claim) → IsGiven search cs → AreNumbered first claims cs) → EndsWhere search q rows (Hit (first + number))
unfolding EndsWhere
numbered_end search q first claims number claim rows gone there is e numbered cs s c t given formed standing end =
    let g = judge_of search in
    let same : there.claim ≡ claim = some_is there.claim claim (sym there.is ∙ is) in
    let v = at_rows q c in
    let at : IsClaimAt g.params v claim rows = subst (λ (x : Claim). IsClaimAt g.params v x rows) same (record {
      gone = gone;
      left = there.left_is;
      right = there.right_is;
      rows = ap (λ (x : Claim). rows_renaming (base g.params ++ (columns_of q.left ++ columns_of q.right)) x.rows) same ∙ sym e;
    }) in
    hits_plans g cs s v claim (first + number) rows t at (numbered cs given number claim is) (rows_along g.params s v rows formed.made standing) end
  where
    some_is : (x y : Claim) → Some x ≡ Some y → x ≡ y
    some_is x y e = cc

pub claim_ends : (search : Search) (q : Path) (number : ℕ) (claim : Claim) (rows : List Row) → IsClaimBehind search q number → slice_get search.claims.now number ≡ Some claim
    → Some rows ≡ rows_renaming (columns_there search q) claim.rows → IsEndFor search q rows (Hit (search.base + number))
unfolding StopsIn
claim_ends search q number claim rows there is e = record {
  ends = numbered_end search q search.base search.claims.now number claim rows there.gone there.at is e (λ cs given. given.numbered);
  stops = λ making. ((λ g at. hits_stop g (positions_at q) q.gone (search.base + number) (at.part number claim is)), (λ may_use_tabled p z formed follows. hits_use_tabled (search.base + number) (judge_of search) search.tabled.now p));
}

pub tabled_ends : (search : Search) (q : Path) (number : ℕ) (claim : Claim) (rows : List Row) → IsTabledBehind search q number → slice_get search.tabled.now number ≡ Some claim
    → Some rows ≡ rows_renaming (columns_there search q) claim.rows → IsEndFor search q rows (Hit (search.base + length search.claims.now + number))
unfolding StopsIn
tabled_ends search q number claim rows there is e = record {
  ends = numbered_end search q (search.base + length search.claims.now) search.tabled.now number claim rows there.gone there.at is e (λ cs given. given.tabled);
  stops = λ making. (
    (λ g at. hits_stop g (positions_at q) q.gone (search.base + length search.claims.now + number) (at.tabled_part number claim is)),
    (λ may_use_tabled p z formed follows. hits_use_tabled (search.base + length search.claims.now + number) (judge_of search) search.tabled.now p),
  );
}
