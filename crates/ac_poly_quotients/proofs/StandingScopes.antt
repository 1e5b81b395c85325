-- What a scope with columns says at a point: its iterators and quotients have their values, also with one column more.
use Rattle.std.proofs.Common.{◌≡◌, ◌↔◌, inl, inr, ℕ, zero, suc, ◌+◌, ◌<◌, ◌≤◌, List, [], ◌∷◌, ◌++◌, length, map, Bool, true, false, get_or, refl, sym, ap, ◌∙◌, subst, arith, ℤ, pos, ◌+ℤ◌, ◌*ℤ◌, ◌≤ℤ◌, length-append, append-nil}
use Rattle.std.specs.Int.{int_div_euclid}
use Rattle.std.specs.Prelude.{◌||◌, if◌then◌else◌}
use Rattle.std.specs.List.{AllByRecursion, list_all, list_any, flat_map}
use Rattle.std.proofs.lemmas.Int.{ints}
use Rattle.std.proofs.lemmas.List.{map-append}
use Rattle.std.proofs.Math.Seq.{get_or-append_seam}
use Rattle.ac_base.specs.Dot.{dot}
use Rattle.ac_base.proofs.Dot.{dot-append}
use Rattle.ac_forms.specs.Affine.{Affine, value_at, column_form}
use Rattle.ac_forms.specs.ListMembers.{IsAmong}
use Rattle.ac_forms.specs.PieceMembership.{IsInSome}
use Rattle.ac_forms.specs.Renaming.{picked}
use Rattle.ac_forms.specs.Rows.{Meets}
use Rattle.ac_forms.specs.declared.row.Row.{Row}
use Rattle.ac_forms.specs.declared.row.Row.TheVariants.{Ge}
use Rattle.ac_syntax.specs.Index.{Point, quot_value}
use Rattle.ac_syntax.specs.Turns.{inside}
use Rattle.ac_syntax.specs.declared.tree.IndexExpr.{IndexExpr}
use Rattle.ac_syntax.specs.declared.tree.Quot.{Quot}
use Rattle.ac_poly_quotients.specs.ComparisonWays.{Decides, row_of, failing_by}
use Rattle.ac_poly_quotients.specs.FilledColumns.{counters, quots_of, filled, filling, ColumnsAreMade}
use Rattle.ac_poly_quotients.specs.LoweredForms.{among, lowered, argument_form, lowered_with, stepping}
use Rattle.ac_poly_quotients.specs.QuotientRows.{rounded_at}
use Rattle.ac_poly_quotients.specs.QuotientScopes.{outermost, column_count, with_new, with_counter, column_of, IsKnown}
use Rattle.ac_poly_quotients.specs.declared.types.Column.{Column}
use Rattle.ac_poly_quotients.specs.declared.types.Column.TheVariants.{Counter, Quotient}
use Rattle.ac_poly_quotients.specs.declared.types.QuotColumn.{QuotColumn}
use Rattle.ac_poly_quotients.specs.declared.types.Rounded.{Rounded}
use Rattle.ac_poly_quotients.specs.declared.types.Scope.{Scope}
use Rattle.ac_poly_quotients.specs.declared.types.Way.{Way}
use Rattle.ac_poly_quotients.proofs.ComparisonWays.{ways_meet, pieces_fail}
use Rattle.ac_poly_quotients.proofs.FilledColumns.{quots-append, filled_is, filled_counter, filled_quotient, length-filled, counters-append, made-append}
use Rattle.ac_poly_quotients.proofs.FormValues.{worth, Narrow, column-value, value-replaced, value-among, value-narrow, value-stepping, worth-narrow, narrow-column, narrow-combined, narrow-replaced}
use Rattle.ac_poly_quotients.proofs.HeldRows.{meets_append, somewhere_with}
use Rattle.ac_poly_quotients.proofs.NarrowRows.{NarrowRows, NarrowPieces, narrow-among, somewhere-narrow, all_append, all_wider}
use Rattle.ac_poly_quotients.proofs.QuotientRows.{rounded-append}

-- the point of a scope: parameters, and then its columns
abbrev pub now : Point → List ℤ → Scope → List ℤ
now p zs sc = filled sc.columns p.params zs

pub record Stands (p : Point) (zs : List ℤ) (sc : Scope) : Type 0 where
  pub params : sc.params ≡ length p.params
  pub counters : length zs ≡ counters sc.columns
  pub values : worth (now p zs sc) sc.iters ≡ p.iters
  pub narrow : AllByRecursion (Narrow (column_count sc)) sc.iters
  pub made : ColumnsAreMade sc.params sc.columns
  pub known : AllByRecursion (IsKnown p (column_count sc) (now p zs sc)) sc.quots
  pub told : map (λ r. rounded_at r (now p zs sc)) (quots_of sc.columns) ≡ map (λ q. quot_value p q.quot) sc.quots
  pub pieces : NarrowPieces (column_count sc) sc.pieces

pub columns_are : (p : Point) (zs : List ℤ) (sc : Scope) → Stands p zs sc → length (now p zs sc) ≡ column_count sc
columns_are p zs sc h = length-filled sc.columns p.params zs ∙ ap (λ n. n + length sc.columns) (sym h.params)

-- ---- values

-- a sum among iterators with these values
pub among_at : (p : Point) (zs : List ℤ) (sc : Scope) (its : List Affine) (is : List ℤ) (konst : ℤ) (params iters : List ℤ) → worth (now p zs sc) its ≡ is → length params ≡ length p.params
    → value_at (among its konst params iters) (now p zs sc) ≡ konst +ℤ (dot params p.params +ℤ dot iters is)
among_at p zs sc its is konst params iters v f =
    let whole = filled_is sc.columns p.params zs in
    ap (value_at (among its konst params iters)) whole ∙ value-among p.params (filling sc.columns p.params zs) its konst params iters f
    ∙ ap (λ (is : List ℤ). konst +ℤ (dot params p.params +ℤ dot iters is)) (ap (λ (x : List ℤ). worth x its) (sym whole) ∙ v)

column_values : (ks : List ℕ) (full : List ℤ) → worth full (map (λ (k : ℕ). column_form (k + 1) k) ks) ≡ picked ks full
column_values [] full = refl
column_values (k ∷ ks) full = let first = column-value k full in let rest = column_values ks full in λ i. first i ∷ rest i

behind_all : (k a b c : ℤ) → (k +ℤ (a +ℤ b)) +ℤ c ≡ k +ℤ (a +ℤ (b +ℤ c))
behind_all k a b c = omega (arith, ints)

-- with quotients: each adds its coefficient times the number in its column
pub lowered_with_at : (p : Point) (zs : List ℤ) (sc : Scope) (its : List Affine) (is : List ℤ) (e : IndexExpr) (cs : List ℤ) (ks : List ℕ) → worth (now p zs sc) its ≡ is → length e.params ≡ length p.params
    → value_at (lowered_with its e cs ks) (now p zs sc) ≡ e.konst +ℤ (dot e.params p.params +ℤ (dot e.iters is +ℤ dot cs (picked ks (now p zs sc))))
lowered_with_at p zs sc its is e cs ks v f =
    value-replaced (lowered its e) cs (map (λ (k : ℕ). column_form (k + 1) k) ks) (now p zs sc)
    ∙ (λ i. among_at p zs sc its is e.konst e.params e.iters v f i +ℤ dot cs (column_values ks (now p zs sc) i))
    ∙ behind_all e.konst (dot e.params p.params) (dot e.iters is) (dot cs (picked ks (now p zs sc)))

narrow_columns : (n : ℕ) (ks : List ℕ) → AllByRecursion (λ (k : ℕ). k < n) ks → AllByRecursion (Narrow n) (map (λ (k : ℕ). column_form (k + 1) k) ks)
narrow_columns n [] h = tt
narrow_columns n (k ∷ ks) h = (let w = narrow-column k in omega (arith, w, h.0), narrow_columns n ks h.1)

pub narrow-lowered_with : (n ps : ℕ) (its : List Affine) (e : IndexExpr) (cs : List ℤ) (ks : List ℕ) → ps ≤ n → length e.params ≡ ps → AllByRecursion (Narrow n) its → AllByRecursion (λ (k : ℕ). k < n) ks → Narrow n (lowered_with its e cs ks)
narrow-lowered_with n ps its e cs ks h f i g = narrow-replaced n (lowered its e) cs _ (narrow-among n ps its e.konst e.params e.iters h f i) (narrow_columns n ks g)

-- a quotient that has a column
pub named_value : (p : Point) (n : ℕ) (full : List ℤ) (names : List QuotColumn) (q : QuotColumn) → AllByRecursion (IsKnown p n full) names → IsAmong q names → IsKnown p n full q
named_value p n full [] q h i = absurd i
named_value p n full (x ∷ names) q h (inl e) = subst (IsKnown p n full) (sym e) h.0
named_value p n full (x ∷ names) q h (inr i) = named_value p n full names q h.1 i

-- ---- one column more

before_seam : (xs ys : List ℤ) (k : ℕ) → k < length xs → get_or (xs ++ ys) k (pos 0) ≡ get_or xs k (pos 0)
before_seam [] ys k h = absurd (omega arith)
before_seam (x ∷ xs) ys zero h = refl
before_seam (x ∷ xs) ys (suc k) h = before_seam xs ys k (omega arith)

at_seam : (xs : List ℤ) (z : ℤ) (k : ℕ) → length xs ≡ k → get_or (xs ++ z ∷ []) k (pos 0) ≡ z
at_seam xs z k e = subst (λ (n : ℕ). get_or (xs ++ z ∷ []) n (pos 0) ≡ z) e (get_or-append_seam xs z [] (pos 0))

wider_pieces : (n m : ℕ) → n ≤ m → (qs : List (List Row)) → NarrowPieces n qs → NarrowPieces m qs
wider_pieces n m l qs h = all_wider (NarrowRows n) (NarrowRows m) (λ q h. all_wider _ _ (λ r h. omega arith) q h) qs h

wider_forms : (n m : ℕ) → n ≤ m → (fs : List Affine) → AllByRecursion (Narrow n) fs → AllByRecursion (Narrow m) fs
wider_forms n m l fs h = all_wider (Narrow n) (Narrow m) (λ f h. omega arith) fs h

known_more : (p : Point) (n m : ℕ) (full : List ℤ) (z : ℤ) (names : List QuotColumn) → length full ≡ n → m ≡ n + 1 → AllByRecursion (IsKnown p n full) names → AllByRecursion (IsKnown p m (full ++ z ∷ [])) names
known_more p n m full z names l e h = all_wider (IsKnown p n full) (IsKnown p m (full ++ z ∷ [])) (λ q k. record {
  within = omega (arith, k.within, e);
  value = before_seam full (z ∷ []) q.column (omega (arith, k.within, l)) ∙ k.value;
  iters = k.iters;
}) names h

-- the quotients that were there are the same behind one number more
same_rounded : (ss : List Column) (k : ℕ) (full more : List ℤ) → ColumnsAreMade k ss → k + length ss ≤ length full → map (λ (r : Rounded). rounded_at r (full ++ more)) (quots_of ss) ≡ map (λ (r : Rounded). rounded_at r full) (quots_of ss)
same_rounded [] k full more h l = refl
same_rounded (Counter ∷ ss) k full more h l = same_rounded ss (k + 1) full more h (omega arith)
same_rounded (Quotient r ∷ ss) k full more h l =
    let first = rounded-append r full more (omega (arith, h.0)) in
    let rest = same_rounded ss (k + 1) full more h.2 (omega arith) in
    λ i. first i ∷ rest i

one_column : (a : ℕ) (b : ℕ) → a + (b + 1) ≡ a + b + 1
one_column a b = omega arith

pub stands_quotient : (p : Point) (zs : List ℤ) (sc : Scope) (q : Quot) → Stands p zs sc → length q.params ≡ length p.params → length q.iters ≤ length p.iters → pos 1 ≤ℤ q.div → Stands p zs (with_new sc q)
stands_quotient p zs sc q h f g b =
    let r : Rounded = record { form = argument_form sc.iters q; div = q.div } in
    let n = column_count sc in
    let old : List ℤ = now p zs sc in
    let long = columns_are p zs sc h in
    let grown : now p zs (with_new sc q) ≡ old ++ rounded_at r old ∷ [] = filled_quotient sc.columns r p.params zs h.counters in
    let more : column_count (with_new sc q) ≡ n + 1 = ap (λ k. sc.params + k) (length-append sc.columns (Quotient r ∷ [])) ∙ one_column sc.params (length sc.columns) in
    let narrow : AllByRecursion (Narrow (length old)) sc.iters = subst (λ (k : ℕ). AllByRecursion (Narrow k) sc.iters) (sym long) h.narrow in
    let value : rounded_at r old ≡ quot_value p q = ap (λ (z : ℤ). int_div_euclid z q.div) (among_at p zs sc sc.iters p.iters q.konst q.params q.iters h.values f) in
    let form : Narrow n (argument_form sc.iters q) = narrow-among n (length p.params) sc.iters q.konst q.params q.iters (omega (arith, h.params)) f h.narrow in
    let new : IsKnown p (n + 1) (old ++ rounded_at r old ∷ []) (record { quot = q; column = n }) = record { within = omega arith; value = at_seam old (rounded_at r old) n long ∙ value; iters = g } in
    let all : List ℤ = old ++ rounded_at r old ∷ [] in
    let before = same_rounded sc.columns sc.params old (rounded_at r old ∷ []) h.made (omega (arith, long)) ∙ h.told in
    let last : rounded_at r all ≡ quot_value p q = rounded-append r old (rounded_at r old ∷ []) (omega (arith, form, long)) ∙ value in
    let told : map (λ (r : Rounded). rounded_at r all) (quots_of (with_new sc q).columns) ≡ map (λ (x : QuotColumn). quot_value p x.quot) (with_new sc q).quots =
    ap (map (λ (r : Rounded). rounded_at r all)) (quots-append sc.columns (Quotient r ∷ []))
    ∙ map-append (λ (r : Rounded). rounded_at r all) (quots_of sc.columns) (r ∷ [])
    ∙ (λ i. before i ++ last i ∷ [])
    ∙ sym (map-append (λ (x : QuotColumn). quot_value p x.quot) sc.quots (record { quot = q; column = n } ∷ [])) in
    let known : AllByRecursion (IsKnown p (n + 1) (old ++ rounded_at r old ∷ [])) (with_new sc q).quots = all_append _ sc.quots _ (known_more p n (n + 1) old (rounded_at r old) sc.quots long refl h.known) (new, tt) in
    record {
      params = h.params;
      counters = h.counters ∙ sym (counters-append sc.columns (Quotient r ∷ []) ∙ plus_none (counters sc.columns));
      values = ap (λ (x : List ℤ). worth x sc.iters) grown ∙ worth-narrow sc.iters old (rounded_at r old ∷ []) narrow ∙ h.values;
      narrow = wider_forms n (column_count (with_new sc q)) (omega (arith, more)) sc.iters h.narrow;
      made = made-append sc.columns (Quotient r ∷ []) sc.params h.made (form, b, tt);
      known = subst (λ (k : ℕ). AllByRecursion (IsKnown p k (now p zs (with_new sc q))) (with_new sc q).quots) (sym more) (subst (λ (x : List ℤ). AllByRecursion (IsKnown p (n + 1) x) (with_new sc q).quots) (sym grown) known);
      told = subst (λ (x : List ℤ). map (λ (r : Rounded). rounded_at r x) (quots_of (with_new sc q).columns) ≡ map (λ (x : QuotColumn). quot_value p x.quot) (with_new sc q).quots) (sym grown) told;
      pieces = wider_pieces n (column_count (with_new sc q)) (omega (arith, more)) sc.pieces h.pieces;
    }
  where
    plus_none : (n : ℕ) → n + 0 ≡ n
    plus_none n = omega arith

-- a quotient without the innermost iterator doesn't see it
value_around : (p : Point) (q : Quot) (x : ℤ) → length q.iters ≤ length p.iters → quot_value (inside p x) q ≡ quot_value p q
value_around p q x h = ap (λ (z : ℤ). int_div_euclid (q.konst +ℤ (dot q.params p.params +ℤ z)) q.div) (dot-append q.iters p.iters (x ∷ []) h)

known_inside : (p : Point) (x : ℤ) (n : ℕ) (full : List ℤ) (names : List QuotColumn) → AllByRecursion (IsKnown p n full) names → AllByRecursion (IsKnown (inside p x) n full) names
known_inside p x n full names h = all_wider (IsKnown p n full) (IsKnown (inside p x) n full) (λ q k. record {
  within = k.within;
  value = k.value ∙ sym (value_around p q.quot x k.iters);
  iters = omega (arith, k.iters, length-append p.iters (x ∷ []));
}) names h

values_inside : (p : Point) (x : ℤ) (n : ℕ) (full : List ℤ) (names : List QuotColumn) → AllByRecursion (IsKnown p n full) names → map (λ (x : QuotColumn). quot_value p x.quot) names ≡ map (λ (y : QuotColumn). quot_value (inside p x) y.quot) names
values_inside p x n full [] h = refl
values_inside p x n full (q ∷ names) h =
    let first : quot_value p q.quot ≡ quot_value (inside p x) q.quot = sym (value_around p q.quot x h.0.iters) in
    let rest = values_inside p x n full names h.1 in
    λ i. first i ∷ rest i

worth-append : (p : List ℤ) (fs gs : List Affine) → worth p (fs ++ gs) ≡ worth p fs ++ worth p gs
worth-append p [] gs = refl
worth-append p (f ∷ fs) gs = ap (λ (r : List ℤ). value_at f p ∷ r) (worth-append p fs gs)

pub stands_counter : (p : Point) (zs : List ℤ) (sc : Scope) (number : ℕ) (start : Affine) (step s z : ℤ) → Stands p zs sc → Narrow (column_count sc) start → value_at start (now p zs sc) ≡ s
    → Stands (inside p (s +ℤ (step *ℤ z))) (zs ++ z ∷ []) (with_counter sc number start step)
stands_counter p zs sc number start step s z h w v =
    let x = s +ℤ (step *ℤ z) in
    let n = column_count sc in
    let old : List ℤ = now p zs sc in
    let long = columns_are p zs sc h in
    let grown : now (inside p x) (zs ++ z ∷ []) (with_counter sc number start step) ≡ old ++ z ∷ [] = filled_counter sc.columns p.params zs z h.counters in
    let more : column_count (with_counter sc number start step) ≡ n + 1 = ap (λ k. sc.params + k) (length-append sc.columns (Counter ∷ [])) ∙ one_column sc.params (length sc.columns) in
    let narrow : AllByRecursion (Narrow (length old)) sc.iters = subst (λ (k : ℕ). AllByRecursion (Narrow k) sc.iters) (sym long) h.narrow in
    let it : Affine = stepping start step n in
    let next : value_at it (old ++ z ∷ []) ≡ x = value-stepping start step n old z long w ∙ ap (λ (y : ℤ). y +ℤ step *ℤ z) v in
    let values : worth (old ++ z ∷ []) (sc.iters ++ it ∷ []) ≡ p.iters ++ x ∷ [] =
    worth-append (old ++ z ∷ []) sc.iters (it ∷ []) ∙ (λ i. (worth-narrow sc.iters old (z ∷ []) narrow ∙ h.values) i ++ next i ∷ []) in
    let wide : Narrow (n + 1) it = narrow-combined (n + 1) (pos 1) start step (column_form (n + 1) n) (omega (arith, w)) (narrow-column n) in
    let its : AllByRecursion (Narrow (n + 1)) (sc.iters ++ it ∷ []) = all_append (Narrow (n + 1)) sc.iters (it ∷ []) (wider_forms n (n + 1) (omega arith) sc.iters h.narrow) (wide, tt) in
    let around : map (λ (x : QuotColumn). quot_value p x.quot) sc.quots ≡ map (λ (y : QuotColumn). quot_value (inside p x) y.quot) sc.quots = values_inside p x n old sc.quots h.known in
    let told : map (λ (r : Rounded). rounded_at r (old ++ z ∷ [])) (quots_of (with_counter sc number start step).columns) ≡ map (λ (y : QuotColumn). quot_value (inside p x) y.quot) sc.quots =
    ap (map (λ (r : Rounded). rounded_at r (old ++ z ∷ []))) (quots-append sc.columns (Counter ∷ []) ∙ append-nil (quots_of sc.columns))
    ∙ same_rounded sc.columns sc.params old (z ∷ []) h.made (omega (arith, long)) ∙ h.told ∙ around in
    let known : AllByRecursion (IsKnown (inside p x) (n + 1) (old ++ z ∷ [])) sc.quots = known_inside p x (n + 1) (old ++ z ∷ []) sc.quots (known_more p n (n + 1) old z sc.quots long refl h.known) in
    record {
      params = h.params;
      counters = length-append zs (z ∷ []) ∙ ap (λ k. k + 1) h.counters ∙ sym (counters-append sc.columns (Counter ∷ []));
      values = ap (λ (y : List ℤ). worth y (sc.iters ++ it ∷ [])) grown ∙ values;
      narrow = subst (λ (k : ℕ). AllByRecursion (Narrow k) (sc.iters ++ it ∷ [])) (sym more) its;
      made = made-append sc.columns (Counter ∷ []) sc.params h.made tt;
      known = subst (λ (k : ℕ). AllByRecursion (IsKnown (inside p x) k (now (inside p x) (zs ++ z ∷ []) (with_counter sc number start step))) sc.quots) (sym more) (subst (λ (y : List ℤ). AllByRecursion (IsKnown (inside p x) (n + 1) y) sc.quots) (sym grown) known);
      told = subst (λ (y : List ℤ). map (λ (r : Rounded). rounded_at r y) (quots_of (with_counter sc number start step).columns) ≡ map (λ (y : QuotColumn). quot_value (inside p x) y.quot) sc.quots) (sym grown) told;
      pieces = wider_pieces n (column_count (with_counter sc number start step)) (omega (arith, more)) sc.pieces h.pieces;
    }

-- the iterators in turn 0, seen from any turn: the last is the start
pub first_turn : (p : Point) (zs : List ℤ) (sc : Scope) (start : Affine) (s : ℤ) (more : List ℤ) → Stands p zs sc → Narrow (column_count sc) start → value_at start (now p zs sc) ≡ s
    → worth (now p zs sc ++ more) (sc.iters ++ start ∷ []) ≡ p.iters ++ s ∷ []
first_turn p zs sc start s more h w v =
    let old : List ℤ = now p zs sc in
    let long = columns_are p zs sc h in
    let narrow : AllByRecursion (Narrow (length old)) sc.iters = subst (λ (k : ℕ). AllByRecursion (Narrow k) sc.iters) (sym long) h.narrow in
    worth-append (old ++ more) sc.iters (start ∷ [])
    ∙ (λ i. (worth-narrow sc.iters old more narrow ∙ h.values) i ++ (value-narrow start old more (omega (arith, w, long)) ∙ v) i ∷ [])

-- ---- pieces, behind which further columns may have come

-- where a condition holds
pub taken_meets : {C : Type 0} (way : C → Way) (test : C → Bool) (cs : List C) (qs : List (List Row)) (old more : List ℤ) → NarrowPieces (length old) qs → AllByRecursion (λ c. Decides (way c) (test c) (old ++ more)) cs
    → IsInSome Meets (map (λ (q : List Row). q ++ map (λ c. row_of (way c)) cs) qs) (old ++ more) ↔ (IsInSome Meets qs old × (list_all test cs ≡ true))
taken_meets way test cs qs old more h d =
    let a = somewhere_with qs (map (λ c. row_of (way c)) cs) (old ++ more) in
    let b = ways_meet way test cs (old ++ more) d in
    let s = somewhere-narrow qs old more h in
    ((λ m. let i = a.0 m in (rw s at i.0, b.0 i.1)), (λ m. a.1 (rw s m.0, b.1 m.1)))

-- where it fails
pub other_meets : {C : Type 0} (way : C → Way) (test : C → Bool) (cs : List C) (qs : List (List Row)) (old more : List ℤ) → NarrowPieces (length old) qs → AllByRecursion (λ c. Decides (way c) (test c) (old ++ more)) cs
    → IsInSome Meets (flat_map (failing_by (map way cs)) qs) (old ++ more) ↔ (IsInSome Meets qs old × (list_all test cs ≡ false))
other_meets way test cs qs old more h d =
    let a = pieces_fail way test cs qs (old ++ more) d in
    let s = somewhere-narrow qs old more h in
    ((λ m. let i = a.0 m in (rw s at i.0, i.1)), (λ m. a.1 (rw s m.0, m.1)))

-- inside a loop: the counter is not negative, the condition holds in turn 0 and in the turn of the counter
pub loop_meets : {C : Type 0} (way0 way1 : C → Way) (test0 test1 : C → Bool) (cs : List C) (qs : List (List Row)) (n : ℕ) (old : List ℤ) (z : ℤ) (more : List ℤ) → length old ≡ n → NarrowPieces (length old) qs
    → AllByRecursion (λ c. Decides (way0 c) (test0 c) (old ++ z ∷ more)) cs → AllByRecursion (λ c. Decides (way1 c) (test1 c) (old ++ z ∷ more)) cs
    → IsInSome Meets (map (λ (q : List Row). q ++ Ge (column_form (n + 1) n) ∷ (map (λ c. row_of (way0 c)) cs ++ map (λ c. row_of (way1 c)) cs)) qs) (old ++ z ∷ more)
    ↔ (IsInSome Meets qs old × (pos 0 ≤ℤ z) × (list_all test0 cs ≡ true) × (list_all test1 cs ≡ true))
loop_meets way0 way1 test0 test1 cs qs n old z more l h d0 d1 =
    let full : List ℤ = old ++ z ∷ more in
    let a = somewhere_with qs (Ge (column_form (n + 1) n) ∷ (map (λ c. row_of (way0 c)) cs ++ map (λ c. row_of (way1 c)) cs)) full in
    let m = meets_append (map (λ c. row_of (way0 c)) cs) (map (λ c. row_of (way1 c)) cs) full in
    let b0 = ways_meet way0 test0 cs full d0 in
    let b1 = ways_meet way1 test1 cs full d1 in
    let s = somewhere-narrow qs old (z ∷ more) h in
    let here : get_or full n (pos 0) ≡ z = subst (λ (k : ℕ). get_or full k (pos 0) ≡ z) l (get_or-append_seam old z more (pos 0)) in
    let v : value_at (column_form (n + 1) n) full ≡ z = column-value n full ∙ here in (
      (λ t. let i = a.0 t in let j = m.0 i.1.1 in (rw s at i.0, rw v at i.1.0, b0.0 j.0, b1.0 j.1)),
      (λ t. a.1 (rw s t.0, (rw v t.1, m.1 (b0.1 t.2, b1.1 t.3)))),
    )

-- ---- the scope outside all loops

pub stands_outermost : (ps : List ℤ) → Stands (record { params = ps; iters = [] }) [] (outermost (length ps))
stands_outermost ps = record { params = refl; counters = refl; values = refl; narrow = tt; made = tt; known = tt; told = refl; pieces = (tt, tt) }

-- one of the quotients passes the test, and this is its column
pub record Found (test : QuotColumn → Bool) (names : List QuotColumn) (column : ℕ) : Type 0 where
  pub which : QuotColumn
  pub among : IsAmong which names
  pub passes : test which ≡ true
  pub is : which.column ≡ column

found_here : (test : QuotColumn → Bool) (q : QuotColumn) (names : List QuotColumn) (b : Bool) → test q ≡ b → (b || list_any test names) ≡ true → (list_any test names ≡ true → Found test names (column_of test names))
    → Found test (q ∷ names) (if b then q.column else column_of test names)
found_here test q names true e h again = record { which = q; among = inl refl; passes = e; is = refl }
found_here test q names false e h again = let f = again h in record { which = f.which; among = inr f.among; passes = f.passes; is = f.is }

still_here : (b : Bool) (c : ℕ) (any : Bool) (x y : ℕ) → (b || any) ≡ true → (any ≡ true → x ≡ y) → (if b then c else x) ≡ (if b then c else y)
still_here true c any x y h again = refl
still_here false c any x y h again = again h

-- ---- the first quotient that passes a test

pub found : (test : QuotColumn → Bool) (names : List QuotColumn) → list_any test names ≡ true → Found test names (column_of test names)
found test [] h = absurd (let k : false ≡ true = h in cc)
found test (q ∷ names) h = found_here test q names (test q) refl h (found test names)

pub still_found : (test : QuotColumn → Bool) (names more : List QuotColumn) → list_any test names ≡ true → column_of test (names ++ more) ≡ column_of test names
still_found test [] more h = absurd (let k : false ≡ true = h in cc)
still_found test (q ∷ names) more h = still_here (test q) q.column (list_any test names) (column_of test (names ++ more)) (column_of test names) h (still_found test names more)
