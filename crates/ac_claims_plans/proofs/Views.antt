-- Rows that stand on a path begin a certificate that is moved there; and they stand on when the path goes on.
use Rattle.std.proofs.Common.{◌≡◌, ℕ, zero, suc, ◌+◌, ◌-◌, ◌<◌, ◌≤◌, List, [], ◌∷◌, length, get_or, Some, None, Bool, true, false, cond, nat_eq, nat_le, nat_lt, slice_get, refl, sym, ap, ◌∙◌, subst, arith}
use Rattle.std.specs.Prelude.{slice_index_or}
use Rattle.ac_forms.specs.Affine.{Affine}
use Rattle.ac_forms.specs.Renaming.{AreColumns, IsApartFrom, AreDistinct}
use Rattle.ac_forms.specs.Rows.{form_of, IsWellMade}
use Rattle.ac_forms.specs.declared.conj.Conj.{Conj}
use Rattle.ac_forms.specs.declared.row.Row.{Row}
use Rattle.ac_omega_steps.proofs.Keeping.{row-made}
use Rattle.ac_claims_plans.specs.Embeddings.{row_on}
use Rattle.ac_claims_plans.specs.QuestionEmbedding.{StandsAt, Stand, StandsOn}
use Rattle.ac_claims_plans.specs.declared.embedding.Embedding.{Embedding}
use Rattle.ac_claims_plans.proofs.Forms.{renames-listed}
use Rattle.ac_claims_plans.proofs.Named.{place_of, AreNames, named, coef_of, Renames, IsShifted}
use Rattle.ac_claims_plans.proofs.Numbers.{get-past}

-- ---- names

apart-none : (j : ℕ) (ks : List ℕ) → IsApartFrom j ks → place_of j ks ≡ None
apart-none j [] a = refl
apart-none j (k ∷ ks) a = rw (other (nat_eq k j) refl, apart-none j ks a.1) refl
  where
    other : (b : Bool) → nat_eq k j ≡ b → nat_eq k j ≡ false
    other false e = e
    other true e = let same : j ≡ k = grind (arith, e) in absurd (a.0 same)

pub names-of : (n : ℕ) (ks : List ℕ) → AreColumns n ks → AreDistinct ks → AreNames n ks
names-of n [] a d = tt
names-of n (k ∷ ks) a d = (a.0, apart-none k ks d.0, names-of n ks a.1 d.1)

pub embedding-names : (s : Embedding) (c d : Conj) → StandsOn s c d → AreNames s.next_column s.columns
embedding-names s c d v = names-of s.next_column s.columns v.among v.distinct

-- a name is one of the path's columns
pub place-beyond : (n j : ℕ) (xs : List ℕ) → AreNames n xs → n ≤ j → place_of j xs ≡ None
place-beyond n j [] a l = refl
place-beyond n j (x ∷ xs) a l = rw (other x a.0, place-beyond n j xs a.2 l) refl
  where
    other : (x : ℕ) → x < n → nat_eq x j ≡ false
    other x m = grind arith

-- the next columns have coefficients 0
pub renames-further : (s : Embedding) (f g : Affine) → AreNames s.next_column s.columns → length f.coefs ≤ length s.columns → Renames (λ j. place_of j s.columns) f g → Renames (named s) f g
renames-further s f g a l r = record { konst = r.konst; coefs = λ j. r.coefs j ∙ by j (nat_le s.next_column j) refl }
  where
    by : (j : ℕ) (b : Bool) → nat_le s.next_column j ≡ b → coef_of (place_of j s.columns) f ≡ coef_of (cond b (Some (length s.columns + (j - s.next_column))) (place_of j s.columns)) f
    by j false e = refl
    by j true e =
        let far : s.next_column ≤ j = grind (arith, e) in
        rw (place-beyond s.next_column j s.columns a far) (sym (get-past f.coefs (length s.columns + (j - s.next_column)) (omega (arith, l))))

-- a form under the names of its columns, where it has no others
pub renames-fewer : (s : Embedding) (f g : Affine) → AreNames s.next_column s.columns → length f.coefs ≤ length s.columns → Renames (named s) f g → Renames (λ j. place_of j s.columns) f g
renames-fewer s f g a l r = record { konst = r.konst; coefs = λ j. r.coefs j ∙ by j (nat_le s.next_column j) refl }
  where
    by : (j : ℕ) (b : Bool) → nat_le s.next_column j ≡ b → coef_of (cond b (Some (length s.columns + (j - s.next_column))) (place_of j s.columns)) f ≡ coef_of (place_of j s.columns) f
    by j false e = refl
    by j true e =
        let far : s.next_column ≤ j = grind (arith, e) in
        rw (place-beyond s.next_column j s.columns a far) (get-past f.coefs (length s.columns + (j - s.next_column)) (omega (arith, l)))

-- ---- a certificate begins

pub stand-long : (ns : List ℕ) (d : Conj) (rs : List Row) (is : List ℕ) → Stand ns d rs is → length rs ≡ length is
stand-long ns d [] [] h = refl
stand-long ns d [] (i ∷ is) h = absurd h
stand-long ns d (r ∷ rs) [] h = absurd h
stand-long ns d (r ∷ rs) (i ∷ is) h = ap (λ (n : ℕ). suc n) (stand-long ns d rs is h.1)

stand-at : (ns : List ℕ) (d : Conj) (rs : List Row) (is : List ℕ) (k : ℕ) (r : Row) → Stand ns d rs is → slice_get rs k ≡ Some r → StandsAt ns d (get_or is k 0) r
stand-at ns d [] is k r h e = absurd cc
stand-at ns d (q ∷ rs) [] k r h e = absurd h
stand-at ns d (q ∷ rs) (i ∷ is) zero r h e = let same : q ≡ r = cc in subst (λ (x : Row). StandsAt ns d i x) same h.0
stand-at ns d (q ∷ rs) (i ∷ is) (suc k) r h e = stand-at ns d rs is k r h.1 e

get-below : {X : Type 0} (xs : List X) (i : ℕ) (x : X) → slice_get xs i ≡ Some x → i < length xs
get-below [] i x e = absurd cc
get-below (y ∷ xs) zero x e = omega arith
get-below (y ∷ xs) (suc i) x e = omega (arith, get-below xs i x e)

row-first : (s : Embedding) (i : ℕ) → i < length s.rows → row_on s i ≡ get_or s.rows i 0
row-first s i l = by (nat_lt i (length s.rows)) (grind (arith, l))
  where
    by : (b : Bool) → b ≡ true → cond b (slice_index_or s.rows i 0) (s.next_row + (i - length s.rows)) ≡ get_or s.rows i 0
    by true e = refl
    by false e = absurd cc

pub view-shifted : (s : Embedding) (c d : Conj) → IsWellMade c → StandsOn s c d → IsShifted s c d
view-shifted s c d w v =
    let names = embedding-names s c d v in
    let long = stand-long s.columns d c.rows s.rows v.rows in
    record {
      names = names;
      wider = 0;
      columns = omega (arith, v.columns);
      path_columns = omega (arith, v.path_columns);
      longer = 0;
      count = omega (arith, long);
      path_count = omega (arith, v.path_rows);
      rows = λ i r e.
          let at = stand-at s.columns d c.rows s.rows i r v.rows e in
          let l : i < length s.rows = omega (arith, get-below c.rows i r e, long) in
          let short : length (form_of r).coefs ≤ length s.columns = omega (arith, (row-made c.columns c.rows i r w e).0, v.columns) in
          record { form = at.form; at = rw (row-first s i l) at.at; renames = renames-further s (form_of r) at.form names short (renames-listed s.next_column s.columns (form_of r) at.form names at.is) };
    }
