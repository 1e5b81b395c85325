-- A loop's scope, from what the steps on the way to it make.
use Rattle.std.proofs.Common.{◌≡◌, ℕ, ◌+◌, List, [], ◌∷◌, ◌++◌, map, refl, ap, ◌∙◌, ℤ, subst, Result}
use Rattle.std.specs.List.{AllByRecursion, flat_map}
use Rattle.ac_forms.specs.Affine.{Affine, CanAddTimes, column_form}
use Rattle.ac_forms.specs.FormStops.{MadeIff}
use Rattle.ac_forms.specs.declared.row.Row.{Row}
use Rattle.ac_forms.specs.declared.row.Row.TheVariants.{Ge}
use Rattle.ac_forms.specs.declared.stop.FormStop.{FormStop}
use Rattle.ac_forms.proofs.Scales.{made_as}
use Rattle.ac_syntax.specs.declared.tree.Comparison.{Comparison}
use Rattle.ac_syntax.specs.declared.tree.Cond.{Cond}
use Rattle.ac_syntax.specs.declared.tree.IndexExpr.{IndexExpr}
use Rattle.ac_syntax.specs.declared.tree.Quot.{Quot}
use Rattle.ac_poly_quotients.specs.QuotientScopes.{column_count, with_quots, lowered_in, part_quots, rows_of, with_counter, turned, in_loop}
use Rattle.ac_poly_quotients.specs.ScopeRange.{CanNote, CanLower, CanRow, CanTurn, CanEnter}
use Rattle.ac_poly_quotients.specs.declared.types.Scope.{Scope}

-- the rows of a loop, whose counter stands in the column k
abbrev turn_rows : Scope → ℕ → List Affine → List Comparison → List Row
turn_rows c k first parts = Ge (column_form (k + 1) k) ∷ (rows_of c first parts ++ rows_of c c.iters parts)

-- one step behind the other, each from what the one before has made
turned_step : (a b c : Scope) (number : ℕ) (s : Affine) (cond : Cond) (step : ℤ) (rows : List Row) (pieces : List (List Row))
    → CanAddTimes s step (column_form (column_count a + 1) (column_count a)) × (b ≡ with_counter a number s step)
    → CanNote b.iters (flat_map part_quots cond.parts) × (c ≡ with_quots b (flat_map part_quots cond.parts))
    → (AllByRecursion (CanRow c (a.iters ++ s ∷ [])) cond.parts × AllByRecursion (CanRow c c.iters) cond.parts) × (rows ≡ turn_rows c (column_count a) (a.iters ++ s ∷ []) cond.parts)
    → pieces ≡ map (λ q. q ++ rows) a.pieces
    → CanTurn a number s cond step × (record c { pieces = pieces } ≡ turned a number s cond step)
turned_step a b c number s cond step rows pieces counted noted tested placed =
    let qs : List Quot = flat_map part_quots cond.parts in
    let first : List Affine = a.iters ++ s ∷ [] in
    let inside : Scope = with_counter a number s step in
    let whole : Scope = with_quots inside qs in
    let c_is : c ≡ whole = noted.1 ∙ ap (λ (x : Scope). with_quots x qs) counted.1 in
    let rows_are : rows ≡ turn_rows whole (column_count a) first cond.parts = tested.1 ∙ ap (λ (x : Scope). turn_rows x (column_count a) first cond.parts) c_is in
    let pieces_are : pieces ≡ map (λ q. q ++ turn_rows whole (column_count a) first cond.parts) a.pieces = placed ∙ ap (λ (r : List Row). map (λ q. q ++ r) a.pieces) rows_are in (
      (
        counted.0,
        subst (λ (x : Scope). CanNote x.iters qs) counted.1 noted.0,
        subst (λ (x : Scope). AllByRecursion (CanRow x first) cond.parts) c_is tested.0.0,
        subst (λ (x : Scope). AllByRecursion (CanRow x x.iters) cond.parts) c_is tested.0.1,
      ),
      ap (λ (x : Scope). record x { pieces = pieces }) c_is ∙ ap (λ (p : List (List Row)). record whole { pieces = p }) pieces_are,
    )

-- the same with the names of the code: a copy of the scope and of the start, slices, and the step as it is handed on
pub turned_made : (a made b c : Scope) (number k : ℕ) (s copied : Affine) (cond : Cond) (t step : ℤ) (parts : List Comparison) (its forms first : List Affine) (rows lines : List Row) (old pieces : List (List Row))
    → parts ≡ cond.parts → copied ≡ s → its ≡ a.iters → forms ≡ its ++ copied ∷ [] → first ≡ forms → k ≡ column_count a → made ≡ a → t ≡ step
    → CanAddTimes s t (column_form (column_count made + 1) (column_count made)) × (b ≡ with_counter made number s t)
    → CanNote b.iters (flat_map part_quots parts) × (c ≡ with_quots b (flat_map part_quots parts))
    → (AllByRecursion (CanRow c first) parts × AllByRecursion (CanRow c c.iters) parts) × (rows ≡ turn_rows c k first parts)
    → lines ≡ rows → old ≡ a.pieces → pieces ≡ map (λ q. q ++ lines) old
    → CanTurn a number s cond step × (record c { pieces = pieces } ≡ turned a number s cond step)
turned_made a made b c number k s copied cond t step parts its forms first rows lines old pieces parts_are copied_is its_are forms_are first_is k_is made_is t_is counted noted tested lines_are old_are placed =
    let first_are : first ≡ a.iters ++ s ∷ [] = first_is ∙ (forms_are ∙ (ap (λ (l : List Affine). l ++ copied ∷ []) its_are ∙ ap (λ (f : Affine). a.iters ++ f ∷ []) copied_is)) in
    let counted1 = subst (λ (x : Scope). CanAddTimes s t (column_form (column_count x + 1) (column_count x)) × (b ≡ with_counter x number s t)) made_is counted in
    let counted2 = subst (λ (z : ℤ). CanAddTimes s z (column_form (column_count a + 1) (column_count a)) × (b ≡ with_counter a number s z)) t_is counted1 in
    let noted1 = subst (λ (l : List Comparison). CanNote b.iters (flat_map part_quots l) × (c ≡ with_quots b (flat_map part_quots l))) parts_are noted in
    let tested1 = subst (λ (l : List Comparison). (AllByRecursion (CanRow c first) l × AllByRecursion (CanRow c c.iters) l) × (rows ≡ turn_rows c k first l)) parts_are tested in
    let tested2 = subst (λ (n : ℕ). (AllByRecursion (CanRow c first) cond.parts × AllByRecursion (CanRow c c.iters) cond.parts) × (rows ≡ turn_rows c n first cond.parts)) k_is tested1 in
    let tested3 = subst (λ (l : List Affine). (AllByRecursion (CanRow c l) cond.parts × AllByRecursion (CanRow c c.iters) cond.parts) × (rows ≡ turn_rows c (column_count a) l cond.parts)) first_are tested2 in
    let placed1 : pieces ≡ map (λ q. q ++ rows) a.pieces = placed ∙ (ap (λ (l : List Row). map (λ q. q ++ l) old) lines_are ∙ ap (map (λ (q : List Row). q ++ rows)) old_are) in
    turned_step a b c number s cond step rows pieces counted2 noted1 tested3 placed1

-- a loop, whose start has been lowered
entered_step : (r : Result Scope FormStop) (sc a : Scope) (number : ℕ) (start : IndexExpr) (s : Affine) (cond : Cond) (step : ℤ)
    → CanNote sc.iters start.quots × (a ≡ with_quots sc start.quots) → CanLower a a.iters start × (s ≡ lowered_in a a.iters start)
    → MadeIff r (CanTurn a number s cond step) (turned a number s cond step) → MadeIff r (CanEnter sc number start cond step) (in_loop sc number start cond step)
entered_step r sc a number start s cond step noted lowered made =
    let whole : Scope = with_quots sc start.quots in
    let form : Affine = lowered_in whole whole.iters start in
    let low : CanLower whole whole.iters start = subst (λ (x : Scope). CanLower x x.iters start) noted.1 lowered.0 in
    let s_is : s ≡ form = lowered.1 ∙ ap (λ (x : Scope). lowered_in x x.iters start) noted.1 in
    let made1 = subst (λ (f : Affine). MadeIff r (CanTurn a number f cond step) (turned a number f cond step)) s_is made in
    let made2 = subst (λ (x : Scope). MadeIff r (CanTurn x number form cond step) (turned x number form cond step)) noted.1 made1 in
    made_as r (λ can. (noted.0, low, can), λ can. can.2) refl made2

-- the same with the names of the code
pub entered_made : (r : Result Scope FormStop) (sc a : Scope) (number : ℕ) (start : IndexExpr) (s : Affine) (cond : Cond) (t step : ℤ) (quots : List Quot) (its : List Affine)
    → quots ≡ start.quots → its ≡ a.iters → t ≡ step
    → CanNote sc.iters quots × (a ≡ with_quots sc quots) → CanLower a its start × (s ≡ lowered_in a its start)
    → MadeIff r (CanTurn a number s cond t) (turned a number s cond t) → MadeIff r (CanEnter sc number start cond step) (in_loop sc number start cond step)
entered_made r sc a number start s cond t step quots its quots_are its_are t_is noted lowered made =
    let noted1 = subst (λ (l : List Quot). CanNote sc.iters l × (a ≡ with_quots sc l)) quots_are noted in
    let lowered1 = subst (λ (l : List Affine). CanLower a l start × (s ≡ lowered_in a l start)) its_are lowered in
    let made1 = subst (λ (z : ℤ). MadeIff r (CanTurn a number s cond z) (turned a number s cond z)) t_is made in
    entered_step r sc a number start s cond step noted1 lowered1 made1
