-- Rows of a model over the columns of a question, and over those of a path that follows it.
use Rattle.std.proofs.Common.{◌≡◌, ℕ, zero, suc, ◌+◌, ℤ, pos, negsuc, ◌+ℤ◌, List, [], ◌∷◌, ◌++◌, append_assoc, length, length-append, get_or, Option, Some, None, Bool, true, false, cond, nat_eq, slice_get, eq-eqb, refl, sym, ap, ◌∙◌, subst, arith}
use Rattle.std.specs.Prelude.{option_and_then, option_map}
use Rattle.std.specs.List.{range_with_len}
use Rattle.std.proofs.lemmas.Bool.{ne_eqb}
use Rattle.std.proofs.lemmas.Bool.Decides.{Decides-eqb}
use Rattle.ac_forms.specs.Affine.{Affine}
use Rattle.ac_forms.specs.Renaming.{add_at, renamed_coefs, renamed, with_form, sums_fit, renaming, row_renaming, rows_renaming}
use Rattle.ac_forms.specs.Rows.{form_of}
use Rattle.ac_forms.specs.declared.row.Row.{Row}
use Rattle.ac_forms.specs.declared.row.Row.TheVariants.{Eq, Div, Ge}
use Rattle.ac_omega_steps.specs.Combination.{combination}
use Rattle.ac_base.proofs.Options.{bind-some, map-some, if-some, some-is}
use Rattle.ac_claims_paths.specs.PathColumns.{appended, difference, equal_forms}
use Rattle.ac_claims_plans.proofs.Forms.{get-added, get-beside}
use Rattle.ac_claims_plans.proofs.Named.{place_of, AreNames, coef_of, Renames}
use Rattle.ac_claims_plans.proofs.Numbers.{get-past}
use Rattle.ac_claims_plans.proofs.Renamings.{Made, moved-combination}
use Rattle.ac_claims_plans.specs.QuestionPaths.{ArePlaced}

-- ---- places

get-more : (xs ys : List ℕ) (k l : ℕ) → slice_get xs k ≡ Some l → slice_get (xs ++ ys) k ≡ Some l
get-more [] ys k l e = absurd cc
get-more (x ∷ xs) ys zero l e = e
get-more (x ∷ xs) ys (suc k) l e = get-more xs ys k l e

get-next : (xs ys : List ℕ) (x k : ℕ) → length xs ≡ k → slice_get (xs ++ x ∷ ys) k ≡ Some x
get-next [] ys x zero e = refl
get-next [] ys x (suc k) e = absurd (omega (arith, e))
get-next (y ∷ xs) ys x zero e = absurd (omega (arith, e))
get-next (y ∷ xs) ys x (suc k) e = get-next xs ys x k (omega (arith, e))

-- further places change none of the first ones
pub placed-more : (xs ys ks ls : List ℕ) → ArePlaced xs ks ls → ArePlaced (xs ++ ys) ks ls
placed-more xs ys [] [] a = tt
placed-more xs ys [] (l ∷ ls) a = absurd a
placed-more xs ys (k ∷ ks) [] a = absurd a
placed-more xs ys (k ∷ ks) (l ∷ ls) a = (get-more xs ys k l a.0, placed-more xs ys ks ls a.1)

-- the next columns have the next places
pub placed-next : (w : ℕ) (xs : List ℕ) (n m : ℕ) → length xs ≡ n → ArePlaced (xs ++ range_with_len m w) (range_with_len n w) (range_with_len m w)
placed-next zero xs n m e = tt
placed-next (suc w) xs n m e =
    let long : length (xs ++ m ∷ []) ≡ n + 1 = omega (arith, e, length-append xs (m ∷ [])) in
    (get-next xs (range_with_len (m + 1) w) m n e, subst (λ (ys : List ℕ). ArePlaced ys (range_with_len (n + 1) w) (range_with_len (m + 1) w)) (append_assoc xs (m ∷ []) (range_with_len (m + 1) w)) (placed-next w (xs ++ m ∷ []) (n + 1) (m + 1) long))

pub placed-both : (xs ks ls js is : List ℕ) → ArePlaced xs ks ls → ArePlaced xs js is → ArePlaced xs (ks ++ js) (ls ++ is)
placed-both xs [] [] js is a b = b
placed-both xs [] (l ∷ ls) js is a b = absurd a
placed-both xs (k ∷ ks) [] js is a b = absurd a
placed-both xs (k ∷ ks) (l ∷ ls) js is a b = (a.0, placed-both xs ks ls js is a.1 b)

place-at : (n : ℕ) (xs : List ℕ) (k l : ℕ) → AreNames n xs → slice_get xs k ≡ Some l → place_of l xs ≡ Some k
place-at n [] k l a e = absurd cc
place-at n (x ∷ xs) zero l a e = rw (eq-eqb x l (some-is x l e)) refl
place-at n (x ∷ xs) (suc k) l a e =
    let h = place-at n xs k l a.2 e in
    rw (ne_eqb x l (λ f. by x f a.1 h), h) refl
  where
    by : (x : ℕ) → x ≡ l → place_of x xs ≡ None → place_of l xs ≡ Some k → ⊥
    by x f none some = let g : None ≡ Some k = sym none ∙ ap (λ y. place_of y xs) f ∙ some in absurd cc

at-place : (xs : List ℕ) (j i : ℕ) → place_of j xs ≡ Some i → slice_get xs i ≡ Some j
at-place [] j i e = absurd cc
at-place (x ∷ xs) j i e = by (nat_eq x j) refl e (λ k h. at-place xs j k h)
  where
    by : (b : Bool) → nat_eq x j ≡ b → cond b (Some 0) (option_map (λ k. suc k) (place_of j xs)) ≡ Some i → ((k : ℕ) → place_of j xs ≡ Some k → slice_get xs k ≡ Some j) → slice_get (x ∷ xs) i ≡ Some j
    by true q f on = let z : 0 ≡ i = some-is 0 i f in rw (← z) (ap Some ((Decides-eqb x j).0 q))
    by false q f on = let m = map-some (place_of j xs) (λ k. suc k) i f in rw m.2 (on m.0 m.1)

-- ---- forms

abbrev without_constant : List ℤ → Affine
without_constant cs = record { konst = pos 0; coefs = cs }

get-along : (n : ℕ) (xs : List ℕ) → AreNames n xs → (ks ls : List ℕ) → ArePlaced xs ks ls → (cs : List ℤ) (j : ℕ) → get_or (renamed_coefs ls cs) j (pos 0) ≡ coef_of (place_of j xs) (without_constant (renamed_coefs ks cs))
get-along n xs names [] [] on cs j = get-past [] j (omega arith) ∙ by (place_of j xs)
  where
    by : (o : Option ℕ) → pos 0 ≡ coef_of o (without_constant [])
    by None = refl
    by (Some i) = sym (get-past [] i (omega arith))
get-along n xs names [] (l ∷ ls) on cs j = absurd on
get-along n xs names (k ∷ ks) [] on cs j = absurd on
get-along n xs names (k ∷ ks) (l ∷ ls) on [] j = get-past [] j (omega arith) ∙ by (place_of j xs)
  where
    by : (o : Option ℕ) → pos 0 ≡ coef_of o (without_constant [])
    by None = refl
    by (Some i) = sym (get-past [] i (omega arith))
get-along n xs names (k ∷ ks) (l ∷ ls) on (c ∷ cs) j = by (nat_eq j l) refl (get-along n xs names ks ls on.1 cs j)
  where
    beside : (o : Option ℕ) → place_of j xs ≡ o → (j ≡ l → ⊥) → coef_of o (without_constant (renamed_coefs ks cs)) ≡ coef_of o (without_constant (add_at k c (renamed_coefs ks cs)))
    beside None q other = refl
    beside (Some i) q other = sym (get-beside k c (renamed_coefs ks cs) i (λ m. other (some-is j l (sym (at-place xs j i q) ∙ ap (slice_get xs) m ∙ on.0))))

    by : (b : Bool) → nat_eq j l ≡ b → get_or (renamed_coefs ls cs) j (pos 0) ≡ coef_of (place_of j xs) (without_constant (renamed_coefs ks cs)) → get_or (add_at l c (renamed_coefs ls cs)) j (pos 0) ≡ coef_of (place_of j xs) (without_constant (add_at k c (renamed_coefs ks cs)))
    by true t again =
        let same : j ≡ l = (Decides-eqb j l).0 t in
        let found : place_of j xs ≡ Some k = ap (λ (x : ℕ). place_of x xs) same ∙ place-at n xs k l names on.0 in
        ap (λ (x : ℕ). get_or (add_at x c (renamed_coefs ls cs)) j (pos 0)) (sym same) ∙ get-added j c (renamed_coefs ls cs)
        ∙ ap (λ z. z +ℤ c) (again ∙ ap (λ (o : Option ℕ). coef_of o (without_constant (renamed_coefs ks cs))) found)
        ∙ sym (get-added k c (renamed_coefs ks cs)) ∙ ap (λ (o : Option ℕ). coef_of o (without_constant (add_at k c (renamed_coefs ks cs)))) (sym found)
    by false t again = get-beside l c (renamed_coefs ls cs) j (λ m. differ m) ∙ again ∙ beside (place_of j xs) refl (λ m. differ m)
      where
        differ : j ≡ l → ⊥
        differ m = let u = eq-eqb j l m in absurd cc

-- a number more fits there where it fits here
fits-along : (n : ℕ) (xs : List ℕ) → AreNames n xs → (ks ls : List ℕ) → ArePlaced xs ks ls → (cs : List ℤ) → sums_fit ls cs ≡ sums_fit ks cs
fits-along n xs names [] [] on cs = refl
fits-along n xs names [] (l ∷ ls) on cs = absurd on
fits-along n xs names (k ∷ ks) [] on cs = absurd on
fits-along n xs names (k ∷ ks) (l ∷ ls) on [] = refl
fits-along n xs names (k ∷ ks) (l ∷ ls) on (c ∷ cs) =
    let same : get_or (renamed_coefs ls cs) l (pos 0) ≡ get_or (renamed_coefs ks cs) k (pos 0) =
    get-along n xs names ks ls on.1 cs l ∙ ap (λ (o : Option ℕ). coef_of o (without_constant (renamed_coefs ks cs))) (place-at n xs k l names on.0) in
    rw (fits-along n xs names ks ls on.1 cs, same) refl

renames-along : (n : ℕ) (xs : List ℕ) → AreNames n xs → (ks ls : List ℕ) → ArePlaced xs ks ls → (f : Affine) → Renames (λ j. place_of j xs) (renamed ks f) (renamed ls f)
renames-along n xs names ks ls on f = record { konst = refl; coefs = λ j. get-along n xs names ks ls on f.coefs j ∙ by (place_of j xs) }
  where
    by : (o : Option ℕ) → coef_of o (without_constant (renamed_coefs ks f.coefs)) ≡ coef_of o (renamed ks f)
    by None = refl
    by (Some i) = refl

pub form-along : (n : ℕ) (xs : List ℕ) → AreNames n xs → (ks ls : List ℕ) → ArePlaced xs ks ls → (f a : Affine) → renaming ks f ≡ Some a → Made (λ j. place_of j xs) a (renaming ls f)
form-along n xs names ks ls on f a e =
    let b = if-some (sums_fit ks f.coefs) (Some (renamed ks f)) a e in
    let fit : sums_fit ls f.coefs ≡ true = fits-along n xs names ks ls on f.coefs ∙ b.0 in
    record { form = renamed ls f; is = rw fit refl; renames = subst (λ (z : Affine). Renames (λ j. place_of j xs) z (renamed ls f)) (some-is (renamed ks f) a b.1) (renames-along n xs names ks ls on f) }

-- ---- rows

pub record IsAlong (names : ℕ → Option ℕ) (r s : Row) : Type 0 where
  pub form : Affine
  pub with : s ≡ with_form r form
  pub renames : Renames names (form_of r) form

-- rows with the forms of the given ones, under the names of their columns
abbrev pub AreAlong : (ℕ → Option ℕ) → List Row → List Row → Type 0
AreAlong names [] [] = Unit {0}
AreAlong names (r ∷ rs) (s ∷ ss) = IsAlong names r s × AreAlong names rs ss
AreAlong names _ _ = ⊥

-- rows that are made there, along the given ones
pub record RowsMade (names : ℕ → Option ℕ) (made : List Row) (o : Option (List Row)) : Type 0 where
  pub rows : List Row
  pub is : o ≡ Some rows
  pub along : AreAlong names made rows

record RowMade (names : ℕ → Option ℕ) (a : Row) (o : Option Row) : Type 0 where
  pub row : Row
  pub is : o ≡ Some row
  pub along : IsAlong names a row

form-with : (r : Row) (f : Affine) → form_of (with_form r f) ≡ f
form-with (Eq e) f = refl
form-with (Div m e) f = refl
form-with (Ge e) f = refl

with-again : (r : Row) (f g : Affine) → with_form (with_form r f) g ≡ with_form r g
with-again (Eq e) f g = refl
with-again (Div m e) f g = refl
with-again (Ge e) f g = refl

row-along : (n : ℕ) (xs : List ℕ) → AreNames n xs → (ks ls : List ℕ) → ArePlaced xs ks ls → (r a : Row) → row_renaming ks r ≡ Some a → RowMade (λ j. place_of j xs) a (row_renaming ls r)
row-along n xs names ks ls on r a e =
    let b = map-some (renaming ks (form_of r)) (with_form r) a e in
    let m = form-along n xs names ks ls on (form_of r) b.0 b.1 in
    rw b.2 (record {
      row = with_form r m.form;
      is = rw m.is refl;
      along = record { form = m.form; with = sym (with-again r b.0 m.form); renames = subst (λ (z : Affine). Renames (λ j. place_of j xs) z m.form) (sym (form-with r b.0)) m.renames };
    })

pub rows-along : (n : ℕ) (xs : List ℕ) → AreNames n xs → (ks ls : List ℕ) → ArePlaced xs ks ls → (rs made : List Row) → rows_renaming ks rs ≡ Some made → RowsMade (λ j. place_of j xs) made (rows_renaming ls rs)
rows-along n xs names ks ls on [] made e = rw (sym (some-is [] made e)) (record { rows = []; is = refl; along = tt })
rows-along n xs names ks ls on (r ∷ rs) made e =
    let b = bind-some (row_renaming ks r) (λ s. option_map (λ ss. s ∷ ss) (rows_renaming ks rs)) made e in
    let c = map-some (rows_renaming ks rs) (λ ss. b.0 ∷ ss) made b.2 in
    let m = row-along n xs names ks ls on r b.0 b.1 in
    let rest = rows-along n xs names ks ls on rs c.0 c.1 in
    rw c.2 (record { rows = m.row ∷ rest.rows; is = rw (m.is, rest.is) refl; along = (m.along, rest.along) })

difference-along : (n : ℕ) (xs : List ℕ) → AreNames n xs → (ks ls js is : List ℕ) → ArePlaced xs ks ls → ArePlaced xs js is → (f g a : Affine) → difference ks f js g ≡ Some a → Made (λ j. place_of j xs) a (difference ls f is g)
difference-along n xs names ks ls js is on too f g a e =
    let b = bind-some (renaming ks f) (λ x. option_and_then (λ y. combination (pos 1) x (negsuc 0) y) (renaming js g)) a e in
    let c = bind-some (renaming js g) (λ y. combination (pos 1) b.0 (negsuc 0) y) a b.2 in
    let p = form-along n xs names ks ls on f b.0 b.1 in
    let q = form-along n xs names js is too g c.0 c.1 in
    let m = moved-combination (λ j. place_of j xs) (pos 1) b.0 (negsuc 0) c.0 a p.form q.form p.renames q.renames c.2 in
    record { form = m.form; is = rw (p.is, q.is) m.is; renames = m.renames }

pub equal-along : (n : ℕ) (xs : List ℕ) → AreNames n xs → (ks ls js is : List ℕ) → ArePlaced xs ks ls → ArePlaced xs js is → (fs gs : List Affine) (made : List Row) → equal_forms ks fs js gs ≡ Some made → RowsMade (λ j. place_of j xs) made (equal_forms ls fs is gs)
equal-along n xs names ks ls js is on too [] [] made e = rw (sym (some-is [] made e)) (record { rows = []; is = refl; along = tt })
equal-along n xs names ks ls js is on too [] (g ∷ gs) made e = absurd cc
equal-along n xs names ks ls js is on too (f ∷ fs) [] made e = absurd cc
equal-along n xs names ks ls js is on too (f ∷ fs) (g ∷ gs) made e =
    let b = bind-some (difference ks f js g) (λ x. option_map (λ rows. Eq x ∷ rows) (equal_forms ks fs js gs)) made e in
    let c = map-some (equal_forms ks fs js gs) (λ rows. Eq b.0 ∷ rows) made b.2 in
    let m = difference-along n xs names ks ls js is on too f g b.0 b.1 in
    let rest = equal-along n xs names ks ls js is on too fs gs c.0 c.1 in
    rw c.2 (record { rows = Eq m.form ∷ rest.rows; is = rw (m.is, rest.is) refl; along = (record { form = m.form; with = refl; renames = m.renames }, rest.along) })

along-both : (names : ℕ → Option ℕ) (made bs qs rs : List Row) → AreAlong names made qs → AreAlong names bs rs → AreAlong names (made ++ bs) (qs ++ rs)
along-both names [] bs [] rs a b = b
along-both names [] bs (q ∷ qs) rs a b = absurd a
along-both names (r ∷ made) bs [] rs a b = absurd a
along-both names (r ∷ made) bs (q ∷ qs) rs a b = (a.0, along-both names made bs qs rs a.1 b)

pub appended-along : (names : ℕ → Option ℕ) (o p o' p' : Option (List Row)) (made : List Row) → ((xs : List Row) → o ≡ Some xs → RowsMade names xs o') → ((xs : List Row) → p ≡ Some xs → RowsMade names xs p') → appended o p ≡ Some made → RowsMade names made (appended o' p')
appended-along names o p o' p' made first second e =
    let b = bind-some o (λ x. option_map (λ y. x ++ y) p) made e in
    let c = map-some p (λ y. b.0 ++ y) made b.2 in
    let m = first b.0 b.1 in
    let n = second c.0 c.1 in
    rw c.2 (record { rows = m.rows ++ n.rows; is = rw (m.is, n.is) refl; along = along-both names b.0 c.0 m.rows n.rows m.along n.along })
