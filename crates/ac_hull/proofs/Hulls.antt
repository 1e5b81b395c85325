-- What a hull keeps, as it begins and grows.
use Rattle.std.proofs.Common.{◌≡◌, ℕ, ◌<◌, ◌↔◌, Some, ℤ, pos, neg_ℤ, List, [], ◌∷◌, ◌++◌, length, true, refl, ap, sym, ◌∙◌, arith}
use Rattle.std.specs.Prelude.{slice_get}
use Rattle.std.proofs.lemmas.List.{map-append}
use Rattle.ac_base.specs.Gcd.{content}
use Rattle.ac_forms.specs.Affine.{Affine}
use Rattle.ac_widen.specs.Combinations.{Each, InHull}
use Rattle.ac_widen.proofs.Combining.{first_of_some}
use Rattle.ac_hull.specs.FractionFreeElimination.{pivot_of, minus, next_line, next_content, IsZero, Eliminates, none, more}
use Rattle.ac_hull.specs.Equalities.{is_free, coefs_of, equalities_below}
use Rattle.ac_hull.specs.Hulls.{differences, lines_from, lines_of}
use Rattle.ac_hull.specs.HullInternals.Keeping.{IsHull, IsGrowth, IsExtension, equalities_behind}
use Rattle.ac_hull.specs.EliminationRange.{AllCross, CanNext, CanAdd, CanGrow}
use Rattle.ac_hull.specs.declared.line.Line.{Line}
use Rattle.ac_hull.proofs.Facts.{LineOver, facts_of, next_positive, each_snoc}
use Rattle.ac_widen.proofs.Combining.{each_map}
use Rattle.ac_hull.proofs.Frees.{true_free}
use Rattle.ac_hull.proofs.Lines.{length_mix}
use Rattle.ac_hull.proofs.Clearing.{free_content}
use Rattle.ac_hull.proofs.Reading.{hull_is_zero}

pub lines_snoc : (ls : List Line) (f : List ℤ) (ps : List (List ℤ)) (p : List ℤ) → lines_from ls f (ps ++ p ∷ []) ≡ lines_from ls f ps ++ next_line (lines_from ls f ps) (minus p f) ∷ []
lines_snoc ls f [] p = refl
lines_snoc ls f (q ∷ ps) p = lines_snoc (ls ++ next_line ls (minus q f) ∷ []) f ps p

-- the forms of free columns are not all 0
pub eliminates_some : (columns : ℕ) (ds : List (List ℤ)) (ls : List Line) → Eliminates columns ds ls → (z : ℕ) → z < columns → is_free ls z ≡ true → 0 < content (coefs_of columns ls z)
eliminates_some columns ds ls e z h free =
    free_content columns ls z (true_free ls z free) (each_map (LineOver columns ds) (λ l. ¬ (pivot_of l ≡ pos 0)) ls (λ l o. o.pivot) (facts_of e).over)

pub eliminates_lengths : (columns : ℕ) (ds : List (List ℤ)) (ls : List Line) → Eliminates columns ds ls → Each (λ l. length l.coords ≡ columns) ls
eliminates_lengths columns ds ls e = each_map (LineOver columns ds) (λ l. length l.coords ≡ columns) ls (λ l o. o.coords) (facts_of e).over

pub begun_lines : (columns : ℕ) (ms : List (List ℤ)) (ls : List Line) (es : List Affine) → IsHull columns ms ls es → ms ≡ [] → ls ≡ []
begun_lines columns [] ls es h e = h.0
begun_lines columns (f ∷ ps) ls es h e = absurd cc

pub begun_some : (columns : ℕ) (ms : List (List ℤ)) (ls : List Line) (es : List Affine) → IsHull columns ms ls es → ms ≡ [] → (z : ℕ) → z < columns → is_free ls z ≡ true → 0 < content (coefs_of columns ls z)
begun_some columns ms ls es h e z l free =
    let g = begun_lines columns ms ls es h e in
    eliminates_some columns [] ls (rw g none) z l free

pub begun_hull : (columns : ℕ) (ms new : List (List ℤ)) (ls : List Line) (es made : List Affine) (p : List ℤ) → IsHull columns ms ls es → ms ≡ [] → length p ≡ columns → new ≡ ms ++ p ∷ [] → made ≡ equalities_below columns ls p columns → IsHull columns new ls made
begun_hull columns ms new ls es made p h e l is eq =
    let g = begun_lines columns ms ls es h e in
    let n : new ≡ p ∷ [] = is ∙ ap (λ t. t ++ p ∷ []) e in
    rw n (l, tt, g, rw g none, eq)

pub extension_eliminates : (columns : ℕ) (ls : List Line) (ms : List (List ℤ)) (l : Line) → IsExtension columns ls ms l → (ds : List (List ℤ)) × Eliminates columns ds (ls ++ l ∷ [])
extension_eliminates columns ls [] l x = absurd x
extension_eliminates columns ls (f ∷ ps) l x = x.2

pub extension_lengths : (columns : ℕ) (ls new : List Line) (ms : List (List ℤ)) (l : Line) → IsExtension columns ls ms l → new ≡ ls ++ l ∷ [] → Each (λ l. length l.coords ≡ columns) new
extension_lengths columns ls new ms l x e = let d = extension_eliminates columns ls ms l x in rw e (eliminates_lengths columns d.0 (ls ++ l ∷ []) d.1)

pub extension_some : (columns : ℕ) (ls new : List Line) (ms : List (List ℤ)) (l : Line) → IsExtension columns ls ms l → new ≡ ls ++ l ∷ [] → (z : ℕ) → z < columns → is_free new z ≡ true → 0 < content (coefs_of columns new z)
extension_some columns ls new ms l x e = let d = extension_eliminates columns ls ms l x in rw e (eliminates_some columns d.0 (ls ++ l ∷ []) d.1)

pub growth_extension : (columns : ℕ) (ms : List (List ℤ)) (ls : List Line) (es : List Affine) (p : List ℤ) (l : Line) → IsHull columns ms ls es → IsGrowth columns ms p l → IsExtension columns ls ms l
growth_extension columns [] ls es p l h g = absurd g
growth_extension columns (f ∷ ps) ls es p l h g =
    let d : length (minus p f) ≡ columns = length_mix (pos 1) p (neg_ℤ (pos 1)) f columns g.2 (omega (arith, h.0)) in
    let is : l ≡ next_line ls (minus p f) = g.0 ∙ ap (λ t. next_line t (minus p f)) (sym h.2) in
    let n : ¬ (IsZero (next_line ls (minus p f)).coords) = rw is at g.1 in
    (h.0, h.2, (differences f ps ++ minus p f ∷ [], rw is (more (differences f ps) ls (minus p f) h.3 d n)))

pub grown_hull : (columns : ℕ) (ms new : List (List ℤ)) (ls grown : List Line) (es made : List Affine) (p : List ℤ) (l : Line) → IsHull columns ms ls es → IsGrowth columns ms p l
    → new ≡ ms ++ p ∷ [] → grown ≡ ls ++ l ∷ [] → made ≡ equalities_behind columns ms l → IsHull columns new grown made
grown_hull columns [] new ls grown es made p l h g e s eq = absurd g
grown_hull columns (f ∷ ps) new ls grown es made p l h g e s eq =
    let x = growth_extension columns (f ∷ ps) ls es p l h g in
    let d : length (minus p f) ≡ columns = length_mix (pos 1) p (neg_ℤ (pos 1)) f columns g.2 (omega (arith, h.0)) in
    let is : l ≡ next_line ls (minus p f) = g.0 ∙ ap (λ t. next_line t (minus p f)) (sym h.2) in
    let n : ¬ (IsZero (next_line ls (minus p f)).coords) = rw is at g.1 in
    let all : grown ≡ lines_of f ps ++ l ∷ [] = s ∙ ap (λ t. t ++ l ∷ []) h.2 in
    let lines : grown ≡ lines_of f (ps ++ p ∷ []) = all ∙ ap (λ t. lines_of f ps ++ t ∷ []) g.0 ∙ sym (lines_snoc [] f ps p) in
    let step : Eliminates columns (differences f ps ++ minus p f ∷ []) (ls ++ next_line ls (minus p f) ∷ []) = more (differences f ps) ls (minus p f) h.3 d n in
    let whole : Eliminates columns (differences f (ps ++ p ∷ [])) grown = rw (map-append (λ q. minus q f) ps (p ∷ []), s, is) step in
    rw e (h.0, each_snoc (λ q. length q ≡ columns) ps p h.1 g.2, lines, whole, eq ∙ ap (λ t. equalities_below columns t f columns) (sym all))

-- a hull with a first member
first_of : (ms : List (List ℤ)) (f : List ℤ) → slice_get ms 0 ≡ Some f → (ps : List (List ℤ)) × (ms ≡ f ∷ ps)
first_of [] f e = absurd cc
first_of (g ∷ ps) f e = (ps, (cc))

pub hull_content : (columns : ℕ) (ms : List (List ℤ)) (ls : List Line) (es : List Affine) (f p : List ℤ) → IsHull columns ms ls es → slice_get ms 0 ≡ Some f → length p ≡ columns → 0 < next_content ls (minus p f)
hull_content columns [] ls es f p h e l = absurd cc
hull_content columns (g ∷ ps) ls es f p h e l =
    let is : g ≡ f = cc in
    rw (← is) (next_positive columns (differences g ps) (minus p g) (length_mix (pos 1) p (neg_ℤ (pos 1)) g columns l (omega (arith, h.0))) ls (facts_of h.3))

-- the row of a point comes to 0 exactly where it is in the hull
pub hull_row : (columns : ℕ) (ms : List (List ℤ)) (ls : List Line) (es : List Affine) (f p : List ℤ) → IsHull columns ms ls es → slice_get ms 0 ≡ Some f → length p ≡ columns
    → InHull ms p ↔ IsZero (next_line ls (minus p f)).coords
hull_row columns [] ls es f p h e l = absurd cc
hull_row columns (g ∷ ps) ls es f p h e l = let is : g ≡ f = cc in rw (← is) (hull_is_zero columns g ps ls h.3 h.0 h.1 p l)

pub hull_growth : (columns : ℕ) (ms : List (List ℤ)) (ls : List Line) (es : List Affine) (f p : List ℤ) (l : Line) → IsHull columns ms ls es → slice_get ms 0 ≡ Some f → length p ≡ columns
    → l ≡ next_line ls (minus p f) → ¬ (IsZero l.coords) → IsGrowth columns ms p l
hull_growth columns [] ls es f p l h e n is z = absurd cc
hull_growth columns (g ∷ ps) ls es f p l h e n is z = let i : g ≡ f = cc in (is ∙ (rw (← i, h.2) refl), z, n)

pub none_in : (p : List ℤ) → ¬ (InHull [] p)
none_in p h = first_of_some p h.0 h.1 h.2

pub hull_can_row : (columns : ℕ) (ms : List (List ℤ)) (ls : List Line) (es : List Affine) (f p : List ℤ) → IsHull columns ms ls es → slice_get ms 0 ≡ Some f
    → CanAdd columns ms p → AllCross (pos 1) p (pos 1) f × CanNext ls (minus p f)
hull_can_row columns [] ls es f p h e c = absurd cc
hull_can_row columns (g ∷ ps) ls es f p h e c = let i : g ≡ f = cc in rw (← i, h.2) c.0

pub hull_can_grow : (columns : ℕ) (ms : List (List ℤ)) (ls : List Line) (es : List Affine) (f p : List ℤ) (l : Line) → IsHull columns ms ls es → slice_get ms 0 ≡ Some f
    → l ≡ next_line ls (minus p f) → ¬ (IsZero l.coords) → CanAdd columns ms p → CanGrow columns ms l
hull_can_grow columns [] ls es f p l h e is z c = absurd cc
hull_can_grow columns (g ∷ ps) ls es f p l h e is z c =
    let i : g ≡ f = cc in
    let s : l ≡ next_line (lines_of g ps) (minus p g) = is ∙ (rw (← i, h.2) refl) in
    let n : ¬ (IsZero (next_line (lines_of g ps) (minus p g)).coords) = rw s at z in
    rw s (c.1 n)

pub hull_can_add : (columns : ℕ) (ms : List (List ℤ)) (ls : List Line) (es : List Affine) (f p : List ℤ) → IsHull columns ms ls es → slice_get ms 0 ≡ Some f
    → AllCross (pos 1) p (pos 1) f × CanNext ls (minus p f) → (¬ (IsZero (next_line ls (minus p f)).coords) → CanGrow columns ms (next_line ls (minus p f))) → CanAdd columns ms p
hull_can_add columns [] ls es f p h e a b = absurd cc
hull_can_add columns (g ∷ ps) ls es f p h e a b = let i : g ≡ f = cc in (rw (h.2, ← i) at a, rw (h.2, ← i) at b)
