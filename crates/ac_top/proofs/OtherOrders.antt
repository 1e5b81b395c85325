-- A scope that gets the same quotients in another order: what fits in `i128` fits there too.
use Rattle.std.proofs.Common.{◌≡◌, inl, inr, ℕ, suc, ◌+◌, ◌<◌, ◌≤◌, ℤ, pos, List, [], ◌∷◌, ◌++◌, ◌||◌, length, map, Bool, true, false, refl, sym, ap, ◌∙◌, subst, arith, length-append, append_assoc}
use Rattle.std.specs.List.{AllByRecursion, list_any, range_with_len}
use Rattle.std.proofs.lemmas.List.{map-append, length-map}
use Rattle.std.proofs.lemmas.List.Folds.{list_any-append}
use Rattle.std.proofs.lemmas.List.FromFn.{length-range_with_len}
use Rattle.ac_forms.specs.Affine.{Affine, coef}
use Rattle.ac_forms.specs.Fits.{Fits}
use Rattle.ac_forms.specs.ListMembers.{IsAmong}
use Rattle.ac_forms.specs.Renaming.{add_at, renamed_coefs, IsApartFrom, AreDistinct, AreColumns}
use Rattle.ac_forms.proofs.Renamings.{form-within}
use Rattle.ac_syntax.specs.FittingForms.{FitsQuot}
use Rattle.ac_syntax.specs.Quotients.{same_quot}
use Rattle.ac_syntax.specs.declared.tree.IndexExpr.{IndexExpr}
use Rattle.ac_syntax.specs.declared.tree.Quot.{Quot}
use Rattle.ac_poly_quotients.specs.FilledColumns.{counters, quots_of}
use Rattle.ac_poly_quotients.specs.LastColumns.{last_columns, final_columns, places, moved_quotient, finals}
use Rattle.ac_poly_quotients.specs.LastRange.{CanTell}
use Rattle.ac_poly_quotients.specs.LoweredForms.{lowered}
use Rattle.ac_poly_quotients.specs.QuotientScopes.{column_count, is_named, with_quots, column_of, column_for}
use Rattle.ac_poly_quotients.specs.ScopeRange.{CanLower}
use Rattle.ac_poly_quotients.specs.declared.types.Column.{Column}
use Rattle.ac_poly_quotients.specs.declared.types.Column.TheVariants.{Counter, Quotient}
use Rattle.ac_poly_quotients.specs.declared.types.QuotColumn.{QuotColumn}
use Rattle.ac_poly_quotients.specs.declared.types.Rounded.{Rounded}
use Rattle.ac_poly_quotients.specs.declared.types.Scope.{Scope}
use Rattle.ac_poly_quotients.proofs.FilledColumns.{counters-append, quots-append}
use Rattle.ac_poly_quotients.proofs.FormValues.{Narrow}
use Rattle.ac_poly_quotients.proofs.LastColumns.{final-columns}
use Rattle.ac_poly_quotients.proofs.NarrowRows.{all_append, narrow-among}
use Rattle.ac_poly_quotients.proofs.NotedColumns.{AreNamed}
use Rattle.ac_poly_quotients.proofs.StandingScopes.{found, still_found}
use Rattle.ac_top.proofs.ColumnSums.{Fits_0}
use Rattle.ac_top.proofs.FreshQuots.{fresh, rounded, column_of_quot, numbered, Gains, gains, all_fresh, AreNew, fresh_are_new, not_before, column_behind, counted, divided}
use Rattle.ac_top.proofs.OrderedScopes.{IsOrdered, column_in, column_within, ordered_quots, have_params}
use Rattle.ac_top.proofs.QuotientsFit.{past, tell_front, tell_joined, told_others}
use Rattle.ac_top.proofs.RenumberedSums.{Stays, Moves, all_move}
use Rattle.ac_top.proofs.SameQuots.{same_back, same_on, alike, Alike}

-- the quotient has a column
abbrev Named : Scope → Quot → Type 0
Named c q = list_any (is_named q) c.quots ≡ true

-- ---- one column, one quotient

apart_from : (k : ℕ) (xs : List QuotColumn) (y : QuotColumn) → IsApartFrom k (map column_in xs) → IsAmong y xs → k ≡ y.column → ⊥
apart_from k [] y h i e = i
apart_from k (x ∷ xs) y h (inl s) e = h.0 (e ∙ ap column_in s)
apart_from k (x ∷ xs) y h (inr i) e = apart_from k xs y h.1 i e

one_column : (xs : List QuotColumn) (x y : QuotColumn) → AreDistinct (map column_in xs) → IsAmong x xs → IsAmong y xs → x.column ≡ y.column → x ≡ y
one_column [] x y d i j e = absurd i
one_column (z ∷ xs) x y d (inl s) (inl t) e = s ∙ sym t
one_column (z ∷ xs) x y d (inl s) (inr j) e = absurd (apart_from z.column xs y d.0 j (ap column_in (sym s) ∙ e))
one_column (z ∷ xs) x y d (inr i) (inl t) e = absurd (apart_from z.column xs x d.0 i (ap column_in (sym t) ∙ sym e))
one_column (z ∷ xs) x y d (inr i) (inr j) e = one_column xs x y d.1 i j e

one_quot : (ps : ℕ) (c : Scope) (q r : Quot) → IsOrdered ps c → Named c q → Named c r → column_for c q ≡ column_for c r → same_quot q r ≡ true
one_quot ps c q r h k l e =
    let f = found (is_named q) c.quots k in
    let g = found (is_named r) c.quots l in
    let same : f.which ≡ g.which = one_column c.quots f.which g.which h.distinct f.among g.among (f.is ∙ e ∙ sym g.is) in
    same_on q g.which.quot r (subst (λ (x : QuotColumn). same_quot q x.quot ≡ true) same f.passes) (same_back r g.which.quot g.passes)

if_both : (a b : Bool) → (a ≡ true → b ≡ true) → (b ≡ true → a ≡ true) → a ≡ b
if_both true b f g = sym (f refl)
if_both false true f g = g refl
if_both false false f g = refl

one_test : (q r : Quot) → same_quot q r ≡ true → is_named q ≡ is_named r
one_test q r h = λ i x. if_both (same_quot q x.quot) (same_quot r x.quot) (same_on r q x.quot (same_back q r h)) (same_on q r x.quot h) i

shared : (c : Scope) (q r : Quot) → same_quot q r ≡ true → column_for c q ≡ column_for c r
shared c q r h = ap (λ test. column_of test c.quots) (one_test q r h)

-- ---- last places

last_join : (i j : ℕ) (ss more : List Column) → last_columns i j (ss ++ more) ≡ last_columns i j ss ++ last_columns (i + counters ss) (j + length (quots_of ss)) more
last_join i j [] more = let a : i + 0 ≡ i = omega arith in let b : j + 0 ≡ j = omega arith in rw (a, b) refl
last_join i j (Counter ∷ ss) more =
    let a : i + suc (counters ss) ≡ (i + 1) + counters ss = omega arith in
    ap (λ ks. i ∷ ks) (last_join (i + 1) j ss more ∙ ap (λ k. last_columns (i + 1) j ss ++ last_columns k (j + length (quots_of ss)) more) (sym a))
last_join i j (Quotient r ∷ ss) more =
    let a : j + suc (length (quots_of ss)) ≡ (j + 1) + length (quots_of ss) = omega arith in
    ap (λ ks. j ∷ ks) (last_join i (j + 1) ss more ∙ ap (λ k. last_columns i (j + 1) ss ++ last_columns (i + counters ss) k more) (sym a))

length-last : (i j : ℕ) (ss : List Column) → length (last_columns i j ss) ≡ length ss
length-last i j [] = refl
length-last i j (Counter ∷ ss) = ap suc (length-last (i + 1) j ss)
length-last i j (Quotient r ∷ ss) = ap suc (length-last i (j + 1) ss)

length-places : (sc : Scope) → length (places sc) ≡ column_count sc
length-places sc =
    length-append (range_with_len 0 sc.params) (last_columns sc.params (sc.params + counters sc.columns) sc.columns)
    ∙ (λ i. length-range_with_len 0 sc.params i + length-last sc.params (sc.params + counters sc.columns) sc.columns i)

no_coefs : (ks : List ℕ) → renamed_coefs ks [] ≡ []
no_coefs [] = refl
no_coefs (k ∷ ks) = refl

renamed-front : (ks ls : List ℕ) (cs : List ℤ) → length cs ≤ length ks → renamed_coefs (ks ++ ls) cs ≡ renamed_coefs ks cs
renamed-front [] ls [] h = no_coefs ls
renamed-front [] ls (c ∷ cs) h = absurd (omega arith)
renamed-front (k ∷ ks) ls [] h = refl
renamed-front (k ∷ ks) ls (c ∷ cs) h = ap (add_at k c) (renamed-front ks ls cs (omega arith))

moved_front : (ks ls : List ℕ) (rs : List Rounded) → AllByRecursion (λ r. Narrow (length ks) r.form) rs → map (moved_quotient (ks ++ ls)) rs ≡ map (moved_quotient ks) rs
moved_front ks ls [] h = refl
moved_front ks ls (r ∷ rs) h =
    let first : moved_quotient (ks ++ ls) r ≡ moved_quotient ks r = ap (λ cs. record { form = record { konst = r.form.konst; coefs = cs }; div = r.div }) (renamed-front ks ls r.form.coefs h.0) in
    let rest = moved_front ks ls rs h.1 in
    λ i. first i ∷ rest i

-- ---- the last form of an own quotient

abbrev own : Scope → Quot → Rounded
own sc q = moved_quotient (places sc) (rounded sc.iters q)

-- the first column of own quotients, among the last
abbrev first_own : Scope → ℕ
first_own sc = sc.params + counters sc.columns + length (finals (places sc) sc.columns)

abbrev own_quotients : Scope → List Quot → List Rounded
own_quotients sc qs = map (own sc) (fresh sc qs)

mapped : (ks : List ℕ) (its : List Affine) (qs : List Quot) → map (moved_quotient ks) (map (rounded its) qs) ≡ map (λ q. moved_quotient ks (rounded its q)) qs
mapped ks its [] = refl
mapped ks its (q ∷ qs) = ap (λ rs. moved_quotient ks (rounded its q) ∷ rs) (mapped ks its qs)

narrow_own : (ps : ℕ) (sc : Scope) (qs : List Quot) → IsOrdered ps sc → AllByRecursion (λ q. length q.params ≡ ps) qs → AllByRecursion (λ r. Narrow (column_count sc) r.form) (map (rounded sc.iters) qs)
narrow_own ps sc [] h f = tt
narrow_own ps sc (q ∷ qs) h f = (narrow-among (column_count sc) ps sc.iters q.konst q.params q.iters (omega (arith, h.params)) f.0 h.iters, narrow_own ps sc qs h f.1)

places_are : (sc c : Scope) (qs : List Quot) → Gains sc c qs → (rest : List ℕ) × (places c ≡ places sc ++ rest) × (counters c.columns ≡ counters sc.columns)
places_are sc c qs g =
    let more = map (column_of_quot sc.iters) qs in
    let n : counters c.columns ≡ counters sc.columns = ap counters g.columns ∙ counters-append sc.columns more ∙ ap (λ k. counters sc.columns + k) (counted sc.iters qs) ∙ (let e : counters sc.columns + 0 ≡ counters sc.columns = omega arith in e) in
    let ks = last_columns (sc.params + counters sc.columns) (sc.params + counters sc.columns + length (quots_of sc.columns)) more in
    let i = sc.params in
    let j = sc.params + counters sc.columns in (
      ks,
      (λ t. final_columns (g.params t) (n t) (g.columns t))
          ∙ ap (λ ls. range_with_len 0 i ++ ls) (last_join i j sc.columns more)
          ∙ sym (append_assoc (range_with_len 0 i) (last_columns i j sc.columns) ks),
      n,
    )

finals_are : (ps : ℕ) (sc c : Scope) (qs : List Quot) → IsOrdered ps sc → AllByRecursion (λ q. length q.params ≡ ps) qs → Gains sc c qs → finals (places c) c.columns ≡ finals (places sc) sc.columns ++ map (own sc) qs
finals_are ps sc c qs h f g =
    let p = places_are sc c qs g in
    let all = quots_of sc.columns ++ map (rounded sc.iters) qs in
    let quots : quots_of c.columns ≡ all = ap quots_of g.columns ∙ quots-append sc.columns (map (column_of_quot sc.iters) qs) ∙ ap (λ rs. quots_of sc.columns ++ rs) (divided sc.iters qs) in
    let narrow = all_append (λ r. Narrow (column_count sc) r.form) (quots_of sc.columns) (map (rounded sc.iters) qs) h.quotients (narrow_own ps sc qs h f) in
    (λ i. map (moved_quotient (p.1 i)) (quots i))
    ∙ moved_front (places sc) p.0 all (subst (λ k. AllByRecursion (λ r. Narrow k r.form) all) (sym (length-places sc)) narrow)
    ∙ map-append (moved_quotient (places sc)) (quots_of sc.columns) (map (rounded sc.iters) qs)
    ∙ ap (λ rs. finals (places sc) sc.columns ++ rs) (mapped (places sc) sc.iters qs)

-- an own quotient is over the columns before all of them
places_before : (sc : Scope) → AreColumns (first_own sc) (places sc)
places_before sc =
    let l : length (finals (places sc) sc.columns) ≡ length (quots_of sc.columns) = length-map (quots_of sc.columns) (moved_quotient (places sc)) in
    final-columns sc.params (counters sc.columns) (first_own sc) sc.columns (omega arith) (omega (arith, l))

own_narrow : (sc : Scope) (q : Quot) → Narrow (first_own sc) (own sc q).form
own_narrow sc q = form-within (places sc) (rounded sc.iters q).form (first_own sc) (places_before sc)

all_narrow : (sc : Scope) (qs : List Quot) → AllByRecursion (λ r. Narrow (first_own sc) r.form) (map (own sc) qs)
all_narrow sc [] = tt
all_narrow sc (q ∷ qs) = (own_narrow sc q, all_narrow sc qs)

-- ---- own quotients of one scope among those of another

one_own : (sc : Scope) (q r : Quot) → Alike q r → own sc q ≡ own sc r
one_own sc q r a = λ i. moved_quotient (places sc) (rounded sc.iters (record { coef = pos 0; konst = a.konst i; params = a.params i; iters = a.iters i; div = a.div i; place = q.place }))

own_among : (ps xs : ℕ) (sc : Scope) (r : Quot) (qs : List Quot) (k : ℕ) → FitsQuot ps xs r → AllByRecursion (FitsQuot ps xs) qs → list_any (is_named r) (numbered k qs) ≡ true → IsAmong (own sc r) (map (own sc) qs)
own_among ps xs sc r [] k f g h = absurd (let e : false ≡ true = h in cc)
own_among ps xs sc r (q ∷ qs) k f g h = by (same_quot r q) refl h (own_among ps xs sc r qs (k + 1) f g.1)
  where
    by : (b : Bool) → same_quot r q ≡ b → (b || list_any (is_named r) (numbered (k + 1) qs)) ≡ true → (list_any (is_named r) (numbered (k + 1) qs) ≡ true → IsAmong (own sc r) (map (own sc) qs)) → IsAmong (own sc r) (map (own sc) (q ∷ qs))
    by true e n again = inl (one_own sc r q (alike r q e (f.iters ∙ sym g.0.iters)))
    by false e n again = inr (again n)

-- the quotients qs on one side and rs on the other, where each of rs is one of qs
module _ (ps xs : ℕ) (sc : Scope) (h : IsOrdered ps sc) (qs rs : List Quot) (fq : AllByRecursion (FitsQuot ps xs) qs) (fr : AllByRecursion (FitsQuot ps xs) rs) (named : AreNamed (with_quots sc qs) rs) where
  among_all : (zs : List Quot) → AllByRecursion (FitsQuot ps xs) zs → AreNamed (with_quots sc qs) zs → AreNew sc zs
      → AllByRecursion (λ r. Narrow (first_own sc) r.form × IsAmong r (own_quotients sc qs)) (map (own sc) zs)
  among_all [] f n w = tt
  among_all (z ∷ zs) f n w =
      let g = gains sc qs in
      let all : (list_any (is_named z) sc.quots || list_any (is_named z) (numbered (column_count sc) (fresh sc qs))) ≡ true =
      sym (list_any-append (is_named z) sc.quots (numbered (column_count sc) (fresh sc qs))) ∙ ap (list_any (is_named z)) (sym g.quots) ∙ n.0 in
      let new : list_any (is_named z) (numbered (column_count sc) (fresh sc qs)) ≡ true = subst (λ b. (b || list_any (is_named z) (numbered (column_count sc) (fresh sc qs))) ≡ true) w.0 all in
      ((own_narrow sc z, own_among ps xs sc z (fresh sc qs) (column_count sc) f.0 (all_fresh (FitsQuot ps xs) sc qs fq) new), among_all zs f.1 n.1 w.1)

  pub tell_others : CanTell ((with_quots sc qs).params + counters (with_quots sc qs).columns) (finals (places (with_quots sc qs)) (with_quots sc qs).columns)
      → CanTell ((with_quots sc rs).params + counters (with_quots sc rs).columns) (finals (places (with_quots sc rs)) (with_quots sc rs).columns)
  tell_others can =
      let n = sc.params + counters sc.columns in
      let old = finals (places sc) sc.columns in
      let front : (ys : List Quot) → AllByRecursion (FitsQuot ps xs) ys → CanTell ((with_quots sc ys).params + counters (with_quots sc ys).columns) (finals (places (with_quots sc ys)) (with_quots sc ys).columns) ≡ CanTell n (old ++ own_quotients sc ys) =
      λ ys f. let g = gains sc ys in let p = places_are sc (with_quots sc ys) (fresh sc ys) g in
      λ i. CanTell (g.params i + p.2 i) (finals_are ps sc (with_quots sc ys) (fresh sc ys) h (all_fresh (λ q. length q.params ≡ ps) sc ys (have_params ps xs ys f)) g i) in
      let a = tell_front n old (own_quotients sc qs) (subst (λ (T : Type 0). T) (front qs fq) can) in
      subst (λ (T : Type 0). T) (sym (front rs fr))
      (tell_joined n old (own_quotients sc rs) a.0
      (told_others (first_own sc) (first_own sc) (first_own sc) (own_quotients sc qs) (own_quotients sc rs) (all_narrow sc (fresh sc qs))
      (among_all (fresh sc rs) (all_fresh (FitsQuot ps xs) sc rs fr) (all_fresh (Named (with_quots sc qs)) sc rs named) (fresh_are_new sc rs)) (omega arith) (omega arith) a.1))

  -- ---- forms

  abbrev Both : Quot → Type 0
  Both q = Named (with_quots sc qs) q × Named (with_quots sc rs) q

  column_before : (ys : List Quot) (q : Quot) → list_any (is_named q) sc.quots ≡ true → column_for (with_quots sc ys) q ≡ column_for sc q
  column_before ys q e = ap (column_of (is_named q)) (gains sc ys).quots ∙ still_found (is_named q) sc.quots (numbered (column_count sc) (fresh sc ys)) e

  column_after : (ys : List Quot) (q : Quot) → list_any (is_named q) sc.quots ≡ false → Named (with_quots sc ys) q → column_count sc ≤ column_for (with_quots sc ys) q
  column_after ys q e n =
      let g = gains sc ys in
      let mine = numbered (column_count sc) (fresh sc ys) in
      let all : (list_any (is_named q) sc.quots || list_any (is_named q) mine) ≡ true = sym (list_any-append (is_named q) sc.quots mine) ∙ ap (list_any (is_named q)) (sym g.quots) ∙ n in
      let new : list_any (is_named q) mine ≡ true = subst (λ b. (b || list_any (is_named q) mine) ≡ true) e all in
      let is : column_for (with_quots sc ys) q ≡ column_of (is_named q) mine = ap (column_of (is_named q)) g.quots ∙ not_before (is_named q) sc.quots mine e in
      subst (λ k. column_count sc ≤ k) (sym is) (column_behind (is_named q) (column_count sc) (column_count sc) (fresh sc ys) (omega arith) new)

  stays_if : (b : Bool) (q : Quot) → list_any (is_named q) sc.quots ≡ b → Both q → Stays (column_count sc) (column_for (with_quots sc qs) q) (column_for (with_quots sc rs) q)
  stays_if true q e n = inl (subst (λ k. k < column_count sc) (sym (column_before qs q e)) (column_within ps sc q h e), column_before qs q e ∙ sym (column_before rs q e))
  stays_if false q e n = inr (column_after qs q e n.0, column_after rs q e n.1)

  stays : (q : Quot) → Both q → Stays (column_count sc) (column_for (with_quots sc qs) q) (column_for (with_quots sc rs) q)
  stays q n = stays_if (list_any (is_named q) sc.quots) q refl n

  together : (q r : Quot) → Both q → Both r
      → (column_for (with_quots sc qs) q ≡ column_for (with_quots sc qs) r → column_for (with_quots sc rs) q ≡ column_for (with_quots sc rs) r)
      × (column_for (with_quots sc rs) q ≡ column_for (with_quots sc rs) r → column_for (with_quots sc qs) q ≡ column_for (with_quots sc qs) r)
  together q r n m = (
    (λ e. shared (with_quots sc rs) q r (one_quot ps (with_quots sc qs) q r (ordered_quots ps sc qs h (have_params ps xs qs fq)) n.0 m.0 e)),
    (λ e. shared (with_quots sc qs) q r (one_quot ps (with_quots sc rs) q r (ordered_quots ps sc rs h (have_params ps xs rs fr)) n.1 m.1 e)),
  )

  alike_columns : (f : Affine) (k l : ℕ) → Narrow (column_count sc) f → Stays (column_count sc) k l → coef k f ≡ coef l f
  alike_columns f k l w (inl s) = ap (λ i. coef i f) s.1
  alike_columns f k l w (inr s) = past f (column_count sc) k w s.0 ∙ sym (past f (column_count sc) l w s.1)

  starts : (f : Affine) → Narrow (column_count sc) f → Moves (column_count sc) Both (column_for (with_quots sc qs)) (column_for (with_quots sc rs)) stays together f f
  starts f w = record {
    around = λ i less. refl;
    own = λ q n. alike_columns f (column_for (with_quots sc qs) q) (column_for (with_quots sc rs) q) w (stays q n);
    fits = λ i more. subst Fits (sym (past f (column_count sc) i w more)) Fits_0;
    konst = refl;
  }

  pub forms_fit : (e : IndexExpr) → length e.params ≡ ps → AllByRecursion Both e.quots → CanLower (with_quots sc qs) (with_quots sc qs).iters e → CanLower (with_quots sc rs) (with_quots sc rs).iters e
  forms_fit e f n can =
      let g = subst (λ its. CanLower (with_quots sc qs) its e) (gains sc qs).iters can in
      let w = narrow-among (column_count sc) ps sc.iters e.konst e.params e.iters (omega (arith, h.params)) f h.iters in
      subst (λ its. CanLower (with_quots sc rs) its e) (sym (gains sc rs).iters)
      (g.0, all_move (column_count sc) Both (column_for (with_quots sc qs)) (column_for (with_quots sc rs)) stays together e.quots (lowered sc.iters e) (lowered sc.iters e) n (starts (lowered sc.iters e) w) g.1)
