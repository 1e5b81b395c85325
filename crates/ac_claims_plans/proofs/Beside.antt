-- The rows of a question stand behind a branch on a further row, and so does the row or the part of its negation.
use Rattle.std.proofs.Common.{◌≡◌, ℕ, zero, suc, ◌+◌, ◌<◌, ◌≤◌, ℤ, pos, negsuc, neg_ℤ, ◌-ℤ◌, ◌*ℤ◌, List, [], ◌∷◌, ◌++◌, append_assoc, append-nil, length, length-append, get_or, Option, Some, slice_get, refl, sym, ap, ◌∙◌, arith}
use Rattle.std.proofs.lemmas.List.{length-map}
use Rattle.ac_forms.specs.Affine.{Affine, shifted}
use Rattle.ac_forms.specs.Negation.{opposite, above, below, with_column}
use Rattle.ac_forms.specs.Renaming.{with_form}
use Rattle.ac_forms.specs.Rows.{form_of, IsWellMade}
use Rattle.ac_forms.specs.declared.conj.Conj.{Conj}
use Rattle.ac_forms.specs.declared.row.Row.{Row}
use Rattle.ac_forms.specs.declared.row.Row.TheVariants.{Eq, Div, Ge}
use Rattle.ac_cert.specs.Apart.{IsOnto}
use Rattle.ac_cert.specs.RowBranches.{with_floor, behind, under, over_zero, with_rest}
use Rattle.ac_cert.specs.Rules.{with_row, with_column_row}
use Rattle.ac_cert.specs.StepRows.{IsAt}
use Rattle.ac_claims_plans.specs.Embeddings.{moved_form}
use Rattle.ac_claims_plans.specs.BranchSides.{side_of, on_side, one_row, rest_side}
use Rattle.ac_claims_plans.specs.QuestionEmbedding.{StandsAt, StandsOn}
use Rattle.ac_claims_plans.specs.declared.embedding.Embedding.{Embedding}
use Rattle.ac_claims_plans.proofs.Forms.{renames-moved, moved-within, renames-listed, listed-renames, place-there, place-is}
use Rattle.ac_claims_plans.proofs.Grown.{columns-wider, columns-both, distinct-further, form-more, stands-more, view-side}
use Rattle.ac_claims_plans.proofs.Named.{place_of, AreNames, Renames}
use Rattle.ac_claims_plans.proofs.Renamings.{IsNext, renames-scaled, renames-shifted, renames-column}
use Rattle.ac_claims_plans.proofs.Views.{names-of, embedding-names, renames-fewer}

-- ---- forms

-- the moved form, as it stands
pub record Moved (s : Embedding) (d : Conj) (f g : Affine) : Type 0 where
  pub names : AreNames s.next_column s.columns
  pub renames : Renames (λ j. place_of j s.columns) f g
  pub short : length f.coefs ≤ length s.columns
  pub within : length g.coefs ≤ d.columns

pub moved-there : (s : Embedding) (c d : Conj) (f : Affine) → StandsOn s c d → length f.coefs ≤ c.columns → Moved s d f (moved_form s f)
moved-there s c d f v l =
    let names = embedding-names s c d v in
    let short : length f.coefs ≤ length s.columns = omega (arith, l, v.columns) in
    record {
      names = names;
      renames = renames-fewer s f (moved_form s f) names short (renames-moved s f names);
      short = short;
      within = omega (arith, moved-within s f 0 names (omega (arith, short)), v.path_columns);
    }

pub renames-opposite : (names : ℕ → Option ℕ) (f g : Affine) → Renames names f g → Renames names (opposite f) (opposite g)
renames-opposite names f g r = renames-scaled names (negsuc 0) f g r

pub renames-below : (names : ℕ → Option ℕ) (f g : Affine) → Renames names f g → Renames names (below f) (below g)
renames-below names f g r = renames-shifted names (negsuc 0) (opposite f) (opposite g) (renames-opposite names f g r)

opposite-long : (f : Affine) → length (opposite f).coefs ≡ length f.coefs
opposite-long f = length-map f.coefs (λ c. negsuc 0 *ℤ c)

-- ---- rows at the end of the path

get-last : {X : Type 0} (xs : List X) (x : X) (n : ℕ) → length xs ≡ n → slice_get (xs ++ x ∷ []) n ≡ Some x
get-last [] x zero e = refl
get-last [] x (suc n) e = absurd (omega (arith, e))
get-last (y ∷ xs) x zero e = absurd (omega (arith, e))
get-last (y ∷ xs) x (suc n) e = get-last xs x n (omega (arith, e))

get-before : {X : Type 0} (xs : List X) (x y : X) (n : ℕ) → slice_get xs n ≡ Some y → slice_get (xs ++ x ∷ []) n ≡ Some y
get-before [] x y n e = absurd cc
get-before (z ∷ xs) x y zero e = e
get-before (z ∷ xs) x y (suc n) e = get-before xs x y n e

onto-row : (c : Conj) (r : Row) → IsOnto c (with_row c r)
onto-row c r = record { more = r ∷ []; rows = refl; columns = omega arith }

onto-self : (c : Conj) → IsOnto c c
onto-self c = record { more = []; rows = sym (append-nil c.rows); columns = omega arith }

onto-column : (c : Conj) (r : Row) → IsOnto c (with_column_row c r)
onto-column c r = record { more = r ∷ []; rows = refl; columns = omega arith }

onto-again : (b c d : Conj) → IsOnto b c → IsOnto c d → IsOnto b d
onto-again b c d x y = record {
  more = x.more ++ y.more;
  rows = y.rows ∙ ap (λ (r : List Row). r ++ y.more) x.rows ∙ append_assoc b.rows x.more y.more;
  columns = omega (arith, x.columns, y.columns);
}

count-row : (c : Conj) (r : Row) (n : ℕ) → length c.rows ≡ n → length (with_row c r).rows ≡ n + 1
count-row c r n e = omega (arith, length-append c.rows (r ∷ []), e)

-- ---- a side with one row

pub view-one : (s : Embedding) (c d e : Conj) (r : Row) (g : Affine) (place columns rows : ℕ) → IsWellMade c → StandsOn s c d → IsOnto d e → e.columns ≡ s.next_column + columns → length e.rows ≡ s.next_row + rows
    → length (form_of r).coefs ≤ length s.columns → IsAt e (s.next_row + place) (with_form r g) → Renames (λ j. place_of j s.columns) (form_of r) g → StandsOn (on_side s (one_row r place columns rows)) (side_of c (one_row r place columns rows)) e
view-one s c d e r g place columns rows w v o n m l at a =
    let stands : StandsAt s.columns e (s.next_row + place) r = record { form = g; at = at; is = listed-renames s.next_column s.columns (form_of r) g (embedding-names s c d v) a } in
    view-side s (one_row r place columns rows) c d e w v o n m (omega arith) (stands-more s.columns [] e e (s.next_row + place) r (onto-self e) l stands, tt)

pub view-under : (s : Embedding) (c d : Conj) (f g : Affine) → IsWellMade c → StandsOn s c d → Moved s d f g → StandsOn (on_side s (one_row (Ge (below f)) 0 0 1)) (side_of c (one_row (Ge (below f)) 0 0 1)) (under d g)
view-under s c d f g w v m =
    view-one s c d (under d g) (Ge (below f)) (below g) 0 0 1 w v (onto-row d (Ge (below g))) (omega (arith, v.path_columns)) (count-row d (Ge (below g)) s.next_row v.path_rows)
    (omega (arith, m.short, opposite-long f)) (get-last d.rows (Ge (below g)) (s.next_row + 0) (omega (arith, v.path_rows))) (renames-below (λ j. place_of j s.columns) f g m.renames)

pub view-over : (s : Embedding) (c d : Conj) (f g : Affine) → IsWellMade c → StandsOn s c d → Moved s d f g → StandsOn (on_side s (one_row (Ge (above f)) 1 0 2)) (side_of c (one_row (Ge (above f)) 1 0 2)) (over_zero d g)
view-over s c d f g w v m =
    let first = with_row d (Ge g) in
    let one = count-row d (Ge g) s.next_row v.path_rows in
    let two = count-row first (Ge (above g)) (s.next_row + 1) one in
    view-one s c d (over_zero d g) (Ge (above f)) (above g) 1 0 2 w v (onto-again d first (over_zero d g) (onto-row d (Ge g)) (onto-row first (Ge (above g)))) (omega (arith, v.path_columns)) (omega (arith, two))
    m.short (get-last first.rows (Ge (above g)) (s.next_row + 1) one) (renames-shifted (λ j. place_of j s.columns) (negsuc 0) f g m.renames)

-- a row that is added alone
pub view-row : (s : Embedding) (c d : Conj) (r : Row) (g : Affine) → IsWellMade c → StandsOn s c d → length (form_of r).coefs ≤ length s.columns → Renames (λ j. place_of j s.columns) (form_of r) g → StandsOn (on_side s (one_row r 0 0 1)) (side_of c (one_row r 0 0 1)) (with_row d (with_form r g))
view-row s c d r g w v l a =
    view-one s c d (with_row d (with_form r g)) r g 0 0 1 w v (onto-row d (with_form r g)) (omega (arith, v.path_columns)) (count-row d (with_form r g) s.next_row v.path_rows) l
    (get-last d.rows (with_form r g) (s.next_row + 0) (omega (arith, v.path_rows))) a

pub view-behind_eq : (s : Embedding) (c d : Conj) (f g : Affine) → IsWellMade c → StandsOn s c d → Moved s d f g → StandsOn (on_side s (one_row (Eq f) 2 0 3)) (side_of c (one_row (Eq f) 2 0 3)) (behind d (Eq g))
view-behind_eq s c d f g w v m =
    let a = with_row d (Ge g) in
    let b = with_row a (Ge (opposite g)) in
    let one = count-row d (Ge g) s.next_row v.path_rows in
    let two = count-row a (Ge (opposite g)) (s.next_row + 1) one in
    let three = count-row b (Eq g) (s.next_row + 1 + 1) two in
    view-one s c d (with_row b (Eq g)) (Eq f) g 2 0 3 w v (onto-again d a (with_row b (Eq g)) (onto-row d (Ge g)) (onto-again a b (with_row b (Eq g)) (onto-row a (Ge (opposite g))) (onto-row b (Eq g)))) (omega (arith, v.path_columns)) (omega (arith, three))
    m.short (get-last b.rows (Eq g) (s.next_row + 2) (omega (arith, two))) m.renames

-- ---- a quotient's rows

floor-onto : (d : Conj) (m : ℤ) (g : Affine) → IsOnto d (with_floor d m g)
floor-onto d m g =
    let a = with_column_row d (Ge (with_column d.columns (neg_ℤ m) g)) in
    onto-again d a (with_floor d m g) (onto-column d (Ge (with_column d.columns (neg_ℤ m) g))) (onto-row a (Ge (with_column d.columns m (shifted (opposite g) (m -ℤ pos 1)))))

floor-count : (d : Conj) (m : ℤ) (g : Affine) (n : ℕ) → length d.rows ≡ n → length (with_floor d m g).rows ≡ n + 2
floor-count d m g n e =
    let a = with_column_row d (Ge (with_column d.columns (neg_ℤ m) g)) in
    let one : length a.rows ≡ n + 1 = omega (arith, length-append d.rows (Ge (with_column d.columns (neg_ℤ m) g) ∷ []), e) in
    omega (arith, count-row a (Ge (with_column d.columns m (shifted (opposite g) (m -ℤ pos 1)))) (n + 1) one)

pub view-behind_div : (s : Embedding) (c d : Conj) (m : ℤ) (f g : Affine) → IsWellMade c → StandsOn s c d → Moved s d f g → StandsOn (on_side s (one_row (Div m f) 5 1 6)) (side_of c (one_row (Div m f) 5 1 6)) (behind d (Div m g))
view-behind_div s c d m f g w v moved =
    let low = with_column d.columns (neg_ℤ m) g in
    let a = with_floor d m g in
    let b = with_row a (Ge (with_column d.columns m (opposite g))) in
    let e = with_row b (Eq low) in
    let h = with_row e (Div m low) in
    let two = floor-count d m g s.next_row v.path_rows in
    let three = count-row a (Ge (with_column d.columns m (opposite g))) (s.next_row + 2) two in
    let four = count-row b (Eq low) (s.next_row + 2 + 1) three in
    let five = count-row e (Div m low) (s.next_row + 2 + 1 + 1) four in
    let six = count-row h (Div m g) (s.next_row + 2 + 1 + 1 + 1) five in
    let onto = onto-again d a (with_row h (Div m g)) (floor-onto d m g) (onto-again a b (with_row h (Div m g)) (onto-row a (Ge (with_column d.columns m (opposite g)))) (onto-again b e (with_row h (Div m g)) (onto-row b (Eq low)) (onto-again e h (with_row h (Div m g)) (onto-row e (Div m low)) (onto-row h (Div m g))))) in
    view-one s c d (with_row h (Div m g)) (Div m f) g 5 1 6 w v onto (omega (arith, v.path_columns)) (omega (arith, six)) moved.short (get-last h.rows (Div m g) (s.next_row + 5) (omega (arith, five))) moved.renames

-- ---- the remainder's rows, over a further column

some-same : (x y : ℕ) → Some x ≡ Some y → x ≡ y
some-same x y e = cc

-- the next name stands behind the others
get-or_last : (xs : List ℕ) (x : ℕ) → get_or (xs ++ x ∷ []) (length xs) 0 ≡ x
get-or_last [] x = refl
get-or_last (y ∷ xs) x = get-or_last xs x

next-name : (n : ℕ) (xs : List ℕ) (x : ℕ) → AreNames n (xs ++ x ∷ []) → IsNext (λ j. place_of j (xs ++ x ∷ [])) (length xs) x
next-name n xs x a =
    let l : length xs < length (xs ++ x ∷ []) = omega (arith, length-append xs (x ∷ [])) in
    record {
      here = ap (λ (j : ℕ). place_of j (xs ++ x ∷ [])) (sym (get-or_last xs x)) ∙ place-is n (xs ++ x ∷ []) (length xs) a l;
      alone = λ j h. sym (place-there j (xs ++ x ∷ []) (length xs) h).1 ∙ get-or_last xs x;
    }

renames-more : (m n : ℕ) (xs ys : List ℕ) (f g : Affine) → AreNames m xs → AreNames n (xs ++ ys) → length f.coefs ≤ length xs → Renames (λ j. place_of j xs) f g → Renames (λ j. place_of j (xs ++ ys)) f g
renames-more m n xs ys f g a b l r = renames-listed n (xs ++ ys) f g b (listed-renames m xs f g a r ∙ form-more xs ys f l)

pub view-rest : (s : Embedding) (c d : Conj) (m : ℤ) (f g : Affine) → IsWellMade c → StandsOn s c d → Moved s d f g → StandsOn (on_side s (rest_side c.columns m f)) (side_of c (rest_side c.columns m f)) (with_rest d m g)
view-rest s c d m f g w v moved =
    let e = with_rest d m g in
    let x = s.next_column in
    let xs = s.columns ++ x ∷ [] in
    let low = Ge (with_column d.columns (neg_ℤ m) (above g)) in
    let high = Ge (with_column d.columns m (shifted (opposite g) (m -ℤ pos 1))) in
    let two = floor-count d m g s.next_row v.path_rows in
    let three = count-row (with_floor d m g) low (s.next_row + 2) two in
    let onto = onto-again d (with_floor d m g) e (floor-onto d m g) (onto-row (with_floor d m g) low) in
    let all : AreNames (x + 1) xs = names-of (x + 1) xs (columns-both (x + 1) s.columns (x ∷ []) (columns-wider x (x + 1) s.columns (omega arith) v.among) (omega arith, tt)) (distinct-further x s.columns 1 v.among v.distinct) in
    let names = λ (j : ℕ). place_of j xs in
    let next = next-name (x + 1) s.columns x all in
    let base = renames-more x (x + 1) s.columns (x ∷ []) f g moved.names all moved.short moved.renames in
    let there : Renames names (with_column c.columns (neg_ℤ m) (above f)) (with_column d.columns (neg_ℤ m) (above g)) = rw (← v.columns, v.path_columns) (renames-column names (length s.columns) x (neg_ℤ m) (above f) (above g) next moved.short (omega (arith, moved.within, v.path_columns)) (renames-shifted names (negsuc 0) f g base)) in
    let turned = renames-shifted names (m -ℤ pos 1) (opposite f) (opposite g) (renames-opposite names f g base) in
    let up : Renames names (with_column c.columns m (shifted (opposite f) (m -ℤ pos 1))) (with_column d.columns m (shifted (opposite g) (m -ℤ pos 1))) = rw (← v.columns, v.path_columns) (renames-column names (length s.columns) x m (shifted (opposite f) (m -ℤ pos 1)) (shifted (opposite g) (m -ℤ pos 1)) next (omega (arith, moved.short, opposite-long f)) (omega (arith, moved.within, v.path_columns, opposite-long g)) turned) in
    let a = with_column_row d (Ge (with_column d.columns (neg_ℤ m) g)) in
    let one : length a.rows ≡ s.next_row + 1 = omega (arith, length-append d.rows (Ge (with_column d.columns (neg_ℤ m) g) ∷ []), v.path_rows) in
    view-side s (rest_side c.columns m f) c d e w v onto (omega (arith, v.path_columns)) (omega (arith, three)) (omega arith) (
      record { form = with_column d.columns (neg_ℤ m) (above g); at = get-last (with_floor d m g).rows low (s.next_row + 2) two; is = listed-renames (x + 1) xs (with_column c.columns (neg_ℤ m) (above f)) (with_column d.columns (neg_ℤ m) (above g)) all there },
      (record { form = with_column d.columns m (shifted (opposite g) (m -ℤ pos 1)); at = get-before (with_floor d m g).rows low high (s.next_row + 1) (get-last a.rows high (s.next_row + 1) one); is = listed-renames (x + 1) xs (with_column c.columns m (shifted (opposite f) (m -ℤ pos 1))) (with_column d.columns m (shifted (opposite g) (m -ℤ pos 1))) all up }, tt),
    )
