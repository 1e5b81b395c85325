-- Forms, rows and pieces among their last columns.
use Rattle.std.proofs.Common.{◌≡◌, ◌↔◌, ◌⊎◌, inl, inr, ℕ, ◌+◌, ◌≤◌, ℤ, List, [], ◌∷◌, ◌++◌, length, take, drop, map, refl, sym, ap, ◌∙◌, subst, arith, length-append, append_assoc, append-nil}
use Rattle.std.specs.List.{AllByRecursion, range_with_len}
use Rattle.std.proofs.lemmas.List.{length-map}
use Rattle.std.proofs.Math.ListN.{take-append-drop, length-take, length-drop}
use Rattle.ac_forms.specs.Affine.{Affine, value_at}
use Rattle.ac_forms.specs.PieceMembership.{IsInSome, IsInOneAtMost}
use Rattle.ac_forms.specs.Renaming.{renamed, renamed_row, picked}
use Rattle.ac_forms.specs.Rows.{Meets, HaveModuli, AreRowsOver}
use Rattle.ac_forms.specs.declared.row.Row.{Row}
use Rattle.ac_forms.proofs.Distinct.{distinct-fits}
use Rattle.ac_forms.proofs.InPieces.{none-or, none-of}
use Rattle.ac_forms.proofs.Renamings.{value-renamed, meets-renamed, rows-over}
use Rattle.ac_poly_quotients.proofs.NarrowRows.{NarrowRows, NarrowPieces}
use Rattle.ac_poly_quotients.proofs.HeldRows.{meets_append}
use Rattle.ac_poly_quotients.specs.QuotientRows.{rounded_at, quotients_at, quotient_rows}
use Rattle.ac_poly_quotients.specs.FilledColumns.{counters, quots_of, filled, ColumnsAreMade}
use Rattle.ac_poly_quotients.specs.LawsOfColumns.{NeverWide, ColumnsAreWoven, RowsAreFilled, FormsMove, PiecesMove}
use Rattle.ac_poly_quotients.specs.LastColumns.{final_columns, weave, moved_quotient, finals, placed_rows, placed_pieces}
use Rattle.ac_poly_quotients.specs.declared.types.Rounded.{Rounded}
use Rattle.ac_poly_quotients.specs.declared.types.Column.{Column}
use Rattle.ac_poly_quotients.specs.declared.types.Column.TheVariants.{Counter, Quotient}
use Rattle.ac_poly_quotients.proofs.QuotientRows.{quotient_rows_hold, quotient_rows-over, length-quotients}
use Rattle.ac_poly_quotients.proofs.FilledColumns.{steady_rounded}
use Rattle.ac_poly_quotients.proofs.LastColumns.{picked_is, rows_are_filled, finals_made, final-columns, final-distinct, final-plain, row-same}

length-quots : (ks : List ℕ) (ss : List Column) → length (finals ks ss) ≡ length (quots_of ss)
length-quots ks ss = length-map (quots_of ss) _

-- the rows of the quotients hold exactly at their values behind the counters
at_values : (params depth : ℕ) (ss : List Column) (ps zs qs : List ℤ) → length ps ≡ params → length zs ≡ depth → length zs ≡ counters ss → length qs ≡ length (quots_of ss) → ColumnsAreMade params ss
    → Meets (quotient_rows (params + depth) (finals (final_columns params depth ss) ss)) (ps ++ (zs ++ qs)) ↔ (qs ≡ quotients_at (finals (final_columns params depth ss) ss) (ps ++ zs))
at_values params depth ss ps zs qs e d l m h =
    let quots : List Rounded = finals (final_columns params depth ss) ss in
    let n : length (ps ++ zs) ≡ params + depth = omega (arith, length-append ps zs, e, d) in
    let long : length qs ≡ length quots = m ∙ sym (length-quots (final_columns params depth ss) ss) in
    let a = quotient_rows_hold (params + depth) quots (ps ++ zs) qs n long (finals_made params depth ss (omega (arith, d, l)) h) in
    subst (λ (p : List ℤ). Meets (quotient_rows (params + depth) quots) p ↔ (qs ≡ quotients_at quots (ps ++ zs))) (append_assoc ps zs qs) a

-- then the point, read in the order in which the columns came, is the filled one
pub read_as_filled : (params depth : ℕ) (ss : List Column) (ps zs qs : List ℤ) → length ps ≡ params → length zs ≡ depth → length zs ≡ counters ss → length qs ≡ length (quots_of ss) → ColumnsAreMade params ss
    → qs ≡ quotients_at (finals (final_columns params depth ss) ss) (ps ++ zs) → picked (final_columns params depth ss) (ps ++ (zs ++ qs)) ≡ filled ss ps zs
read_as_filled params depth ss ps zs qs e d l m h v =
    picked_is params depth ss ps zs qs e d l m ∙ (rows_are_filled params depth ss ps zs qs e d l m h).0 ((at_values params depth ss ps zs qs e d l m h).1 v)

-- a moved form has its value
pub placed_value : (params depth : ℕ) (ss : List Column) (f : Affine) (ps zs qs : List ℤ) → length ps ≡ params → length zs ≡ depth → length zs ≡ counters ss → length qs ≡ length (quots_of ss) → ColumnsAreMade params ss
    → qs ≡ quotients_at (finals (final_columns params depth ss) ss) (ps ++ zs) → value_at (renamed (final_columns params depth ss) f) (ps ++ (zs ++ qs)) ≡ value_at f (filled ss ps zs)
placed_value params depth ss f ps zs qs e d l m h v =
    value-renamed (final_columns params depth ss) f (ps ++ (zs ++ qs)) ∙ ap (value_at f) (read_as_filled params depth ss ps zs qs e d l m h v)

-- placed rows hold exactly where the rows do at the filled point, and the quotients have their values
pub placed_meets : (params depth : ℕ) (ss : List Column) (rows : List Row) (ps zs qs : List ℤ) → length ps ≡ params → length zs ≡ depth → length zs ≡ counters ss → length qs ≡ length (quots_of ss) → ColumnsAreMade params ss
    → Meets (placed_rows params depth ss rows) (ps ++ (zs ++ qs)) ↔ (Meets rows (filled ss ps zs) × (qs ≡ quotients_at (finals (final_columns params depth ss) ss) (ps ++ zs)))
placed_meets params depth ss rows ps zs qs e d l m h =
    let ks = final_columns params depth ss in
    let p : List ℤ = ps ++ (zs ++ qs) in
    let both = meets_append (map (renamed_row ks) rows) (quotient_rows (params + depth) (finals ks ss)) p in
    let moved = meets-renamed ks rows p in
    let values = at_values params depth ss ps zs qs e d l m h in (
      (λ t.
          let v = values.0 (both.0 t).1 in
          (subst (Meets rows) (read_as_filled params depth ss ps zs qs e d l m h v) (moved.0 (both.0 t).0), v)),
      (λ t. both.1 (moved.1 (subst (Meets rows) (sym (read_as_filled params depth ss ps zs qs e d l m h t.1)) t.0), values.1 t.1)),
    )

pub one_or_more : {A B C D V : Type 0} → A ↔ (C × V) → B ↔ (D × V) → (A ⊎ B) ↔ ((C ⊎ D) × V)
one_or_more {A} {B} {C} {D} {V} a b = (to, (λ t. from t.0 t.1))
  where
    to : A ⊎ B → (C ⊎ D) × V
    to (inl t) = let r = a.0 t in (inl r.0, r.1)
    to (inr t) = let r = b.0 t in (inr r.0, r.1)

    from : C ⊎ D → V → A ⊎ B
    from (inl t) v = inl (a.1 (t, v))
    from (inr t) v = inr (b.1 (t, v))

pub placed_points : (params depth : ℕ) (ss : List Column) (pieces : List (List Row)) (ps zs qs : List ℤ) → length ps ≡ params → length zs ≡ depth → length zs ≡ counters ss → length qs ≡ length (quots_of ss) → ColumnsAreMade params ss
    → IsInSome Meets (placed_pieces params depth ss pieces) (ps ++ (zs ++ qs)) ↔ (IsInSome Meets pieces (filled ss ps zs) × (qs ≡ quotients_at (finals (final_columns params depth ss) ss) (ps ++ zs)))
placed_points params depth ss [] ps zs qs e d l m h = ((λ s. absurd s), (λ s. absurd s.0))
placed_points params depth ss (rows ∷ pieces) ps zs qs e d l m h =
    one_or_more (placed_meets params depth ss rows ps zs qs e d l m h) (placed_points params depth ss pieces ps zs qs e d l m h)

-- ---- the values of the quotients, one by one

one_longer : (p : List ℤ) (z : ℤ) (k : ℕ) → length p ≡ k → length (p ++ z ∷ []) ≡ k + 1
one_longer p z k e = length-append p (z ∷ []) ∙ ap (λ n. n + 1) e

woven_values : (ss : List Column) (k : ℕ) (p zs full : List ℤ) → length p ≡ k → length zs ≡ counters ss → ColumnsAreMade k ss → full ≡ filled ss p zs
    → p ++ weave ss zs (map (λ (r : Rounded). rounded_at r full) (quots_of ss)) ≡ full
woven_values [] k p zs full e l h i = append-nil p ∙ sym i
woven_values (Counter ∷ ss) k p [] full e l h i = absurd (omega arith)
woven_values (Counter ∷ ss) k p (z ∷ zs) full e l h i =
    sym (append_assoc p (z ∷ []) (weave ss zs (map (λ (r : Rounded). rounded_at r full) (quots_of ss)))) ∙ woven_values ss (k + 1) (p ++ z ∷ []) zs full (one_longer p z k e) (omega arith) h i
woven_values (Quotient r ∷ ss) k p zs full e l h i =
    let rest : List ℤ = weave ss zs (map (λ (r : Rounded). rounded_at r full) (quots_of ss)) in
    let value : rounded_at r full ≡ rounded_at r p = ap (rounded_at r) i ∙ steady_rounded r (Quotient r ∷ ss) p zs (omega (arith, h.0, e)) in
    ap (λ (x : ℤ). p ++ x ∷ rest) value ∙ sym (append_assoc p (rounded_at r p ∷ []) rest)
    ∙ woven_values ss (k + 1) (p ++ rounded_at r p ∷ []) zs full (one_longer p (rounded_at r p) k e) l h.2 i

-- the quotients of a model have the values that the columns have
pub values_of_columns : (params depth : ℕ) (ss : List Column) (ps zs : List ℤ) → length ps ≡ params → length zs ≡ depth → length zs ≡ counters ss → ColumnsAreMade params ss
    → quotients_at (finals (final_columns params depth ss) ss) (ps ++ zs) ≡ map (λ (r : Rounded). rounded_at r (filled ss ps zs)) (quots_of ss)
values_of_columns params depth ss ps zs e d l h =
    let qs : List ℤ = map (λ (r : Rounded). rounded_at r (filled ss ps zs)) (quots_of ss) in
    let m : length qs ≡ length (quots_of ss) = length-map (quots_of ss) _ in
    sym ((at_values params depth ss ps zs qs e d l m h).0 ((rows_are_filled params depth ss ps zs qs e d l m h).1 (woven_values ss params ps zs (filled ss ps zs) e l h refl)))

-- ---- no point in two pieces

moved_some : (params depth : ℕ) (ss : List Column) (pieces : List (List Row)) (p : List ℤ) → IsInSome Meets (placed_pieces params depth ss pieces) p → IsInSome Meets pieces (picked (final_columns params depth ss) p)
moved_some params depth ss [] p s = s
moved_some params depth ss (rows ∷ pieces) p (inl t) = inl ((meets-renamed (final_columns params depth ss) rows p).0 ((meets_append (map (renamed_row (final_columns params depth ss)) rows) _ p).0 t).0)
moved_some params depth ss (rows ∷ pieces) p (inr s) = inr (moved_some params depth ss pieces p s)

pub placed_once : (params depth : ℕ) (ss : List Column) (pieces : List (List Row)) (p : List ℤ) → IsInOneAtMost Meets pieces (picked (final_columns params depth ss) p) → IsInOneAtMost Meets (placed_pieces params depth ss pieces) p
placed_once params depth ss [] p a = tt
placed_once params depth ss (rows ∷ pieces) p a = (
  (λ t.
      let m = (meets-renamed (final_columns params depth ss) rows p).0 ((meets_append (map (renamed_row (final_columns params depth ss)) rows) _ p).0 t).0 in
      none-of Meets (placed_pieces params depth ss pieces) p (λ s. none-or Meets pieces (picked (final_columns params depth ss) p) (a.0 m) (moved_some params depth ss pieces p s))),
  placed_once params depth ss pieces p a.1,
)

-- ---- the columns of placed pieces

over-append : (n : ℕ) (xs ys : List Row) → AreRowsOver n xs → AreRowsOver n ys → AreRowsOver n (xs ++ ys)
over-append n [] ys h g = g
over-append n (x ∷ xs) ys h g = (h.0, over-append n xs ys h.1 g)

pub placed_over : (params depth n : ℕ) (ss : List Column) (pieces : List (List Row)) → counters ss ≤ depth → params + (depth + length (quots_of ss)) ≤ n → ColumnsAreMade params ss → AllByRecursion HaveModuli pieces
    → AllByRecursion (AreRowsOver n) (placed_pieces params depth ss pieces)
placed_over params depth n ss [] b g h i = tt
placed_over params depth n ss (rows ∷ pieces) b g h i =
    let ks = final_columns params depth ss in (
      over-append n (map (renamed_row ks) rows) (quotient_rows (params + depth) (finals ks ss)) (rows-over ks rows n (final-columns params depth n ss b g) i.0)
          (quotient_rows-over (params + depth) n (finals ks ss) (omega (arith, length-quots ks ss, g)) (finals_made params depth ss b h)),
      placed_over params depth n ss pieces b g h i.1,
    )

-- ---- without quotients the pieces are the same

rows-same : (n : ℕ) (rows : List Row) → NarrowRows n rows → map (renamed_row (range_with_len 0 n)) rows ++ [] ≡ rows
rows-same n [] h = refl
rows-same n (r ∷ rows) h = let first = row-same n r h.0 in let rest = rows-same n rows h.1 in λ i. first i ∷ rest i

no_quotients : (ks : List ℕ) (ss : List Column) (k : ℕ) → quots_of ss ≡ [] → quotient_rows k (finals ks ss) ≡ []
no_quotients ks ss k e = ap (λ (qs : List Rounded). quotient_rows k (map (moved_quotient ks) qs)) e

pub placed_plain : (params depth : ℕ) (ss : List Column) (pieces : List (List Row)) → quots_of ss ≡ [] → NarrowPieces (params + length ss) pieces → placed_pieces params depth ss pieces ≡ pieces
placed_plain params depth ss [] e h = refl
placed_plain params depth ss (rows ∷ pieces) e h =
    let ks : final_columns params depth ss ≡ range_with_len 0 (params + length ss) = final-plain params depth ss e in
    let none = no_quotients (final_columns params depth ss) ss (params + depth) e in
    let first : placed_rows params depth ss rows ≡ rows = (λ i. map (renamed_row (ks i)) rows ++ none i) ∙ rows-same (params + length ss) rows h.0 in
    let rest = placed_plain params depth ss pieces e h.1 in
    λ i. first i ∷ rest i

-- ---- instances: whatever they are, if the pieces tell them at filled points, the placed pieces do by counters and quotients

pub instances_placed : (params depth : ℕ) (ss : List Column) (pieces : List (List Row)) (ps : List ℤ) (I : List ℤ → Type 0) → length ps ≡ params → counters ss ≡ depth → ColumnsAreMade params ss
    → ((zs : List ℤ) → length zs ≡ depth → IsInSome Meets pieces (filled ss ps zs) ↔ I zs) → (at : List ℤ) → length at ≡ depth + length (quots_of ss)
    → IsInSome Meets (placed_pieces params depth ss pieces) (ps ++ at) ↔ ((zs : List ℤ) × (length zs ≡ depth) × I zs × (zs ++ quotients_at (finals (final_columns params depth ss) ss) (ps ++ zs) ≡ at))
instances_placed params depth ss pieces ps I e c h tells at l = (to, (λ t. from t.0 t.1 t.2 t.3))
  where
    to : IsInSome Meets (placed_pieces params depth ss pieces) (ps ++ at) → (zs : List ℤ) × (length zs ≡ depth) × I zs × (zs ++ quotients_at (finals (final_columns params depth ss) ss) (ps ++ zs) ≡ at)
    to s =
        let zs : List ℤ = take depth at in
        let qs : List ℤ = drop depth at in
        let whole : zs ++ qs ≡ at = take-append-drop depth at in
        let d : length zs ≡ depth = omega (arith, length-take depth at, l) in
        let m : length qs ≡ length (quots_of ss) = omega (arith, length-drop depth at, l) in
        let r = (placed_points params depth ss pieces ps zs qs e d (d ∙ sym c) m h).0 (subst (λ (x : List ℤ). IsInSome Meets (placed_pieces params depth ss pieces) (ps ++ x)) (sym whole) s) in
        (zs, d, (tells zs d).0 r.0, ap (λ (x : List ℤ). zs ++ x) (sym r.1) ∙ whole)

    from : (zs : List ℤ) → length zs ≡ depth → I zs → zs ++ quotients_at (finals (final_columns params depth ss) ss) (ps ++ zs) ≡ at → IsInSome Meets (placed_pieces params depth ss pieces) (ps ++ at)
    from zs d i w =
        let qs : List ℤ = quotients_at (finals (final_columns params depth ss) ss) (ps ++ zs) in
        let m : length qs ≡ length (quots_of ss) = length-quotients (finals (final_columns params depth ss) ss) (ps ++ zs) ∙ length-quots (final_columns params depth ss) ss in
        subst (λ (x : List ℤ). IsInSome Meets (placed_pieces params depth ss pieces) (ps ++ x)) w ((placed_points params depth ss pieces ps zs qs e d (d ∙ sym c) m h).1 ((tells zs d).1 i, refl))

-- ---- moving is never wide

pub never_wide : NeverWide
never_wide params depth ss f h fits = distinct-fits (final_columns params depth ss) f.coefs (final-distinct params depth ss h) fits.0

-- ---- as laws say it

pub columns_are_woven : ColumnsAreWoven
columns_are_woven params depth ss ps zs qs a = picked_is params depth ss ps zs qs a.valuation a.around a.counted a.divided

pub rows_filled : RowsAreFilled
rows_filled params depth ss ps zs qs a h = rows_are_filled params depth ss ps zs qs a.valuation a.around a.counted a.divided h

pub forms_move : FormsMove
forms_move params depth ss f ps zs qs a h v = placed_value params depth ss f ps zs qs a.valuation a.around a.counted a.divided h v

pub pieces_move : PiecesMove
pieces_move params depth ss pieces ps zs qs a h = placed_points params depth ss pieces ps zs qs a.valuation a.around a.counted a.divided h
