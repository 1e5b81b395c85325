-- What is left of rows, one after the other, on the path.
use Rattle.std.proofs.Common.{◌≡◌, ℕ, zero, suc, ◌+◌, ◌<◌, ◌≤◌, List, [], ◌∷◌, ◌++◌, length, map, take, get_or, Option, Some, None, true, false, slice_get, refl, sym, ap, ◌∙◌, subst, arith}
use Rattle.std.proofs.lemmas.List.{take_all}
use Rattle.ac_forms.specs.NormalRows.{normal_row}
use Rattle.ac_forms.specs.Rows.{HasModulus, AreRowsOver}
use Rattle.ac_forms.specs.RangeTests.{normal_fits, rows_fit}
use Rattle.ac_forms.specs.declared.conj.Conj.{Conj}
use Rattle.ac_forms.specs.declared.row.Row.{Row}
use Rattle.ac_forms.specs.declared.row.Row.TheVariants.{Ge}
use Rattle.ac_forms.specs.declared.normal.NormalRow.{NormalRow}
use Rattle.ac_forms.specs.declared.normal.NormalRow.TheVariants.{Kept, Dropped, Absurd}
use Rattle.ac_forms.proofs.Joining.{both_of}
use Rattle.ac_cert.specs.AcceptedTrees.{after_steps}
use Rattle.ac_cert.specs.AbsurdEnd.{is_absurd}
use Rattle.ac_omega_certify.specs.Descents.{AreNames, StandOn, Carries, base_of, IsRowUpTo2To122, AreRowsUpTo2To122}
use Rattle.ac_omega_certify.specs.RowRemainders.{LeftsStand, CarriesLefts}
use Rattle.ac_omega_certify.specs.TreePathRows.{StandsAt, Stand, HasOne, Reaches, Shows, IsSameBase, LeftStands, IsOnto, one_form}
use Rattle.ac_omega_certify.specs.declared.left.Left.{Left}
use Rattle.ac_omega_certify.specs.declared.path.TreePath.{TreePath}
use Rattle.ac_omega_certify.proofs.Paths.{stands-on, stand-on, get-appended}

-- what stands at a place
pub stand_at : (names : List ℕ) (c : Conj) (rs : List Row) (is : List ℕ) (i x : ℕ) (r : Row) → Stand names c rs is → i < length rs → r ≡ get_or rs i r → x ≡ get_or is i 0 → StandsAt names c x r
stand_at names c [] is i x r s l e f = absurd (omega arith)
stand_at names c (y ∷ rs) [] i x r s l e f = absurd s
stand_at names c (y ∷ rs) (j ∷ is) zero x r s l e f = rw (e, f) s.0
stand_at names c (y ∷ rs) (j ∷ is) (suc i) x r s l e f = stand_at names c rs is i x r s.1 (omega arith) e f

pub modulus_at : (n : ℕ) (rs : List Row) (i : ℕ) (r : Row) → AreRowsOver n rs → i < length rs → r ≡ get_or rs i r → HasModulus r
modulus_at n [] i r h l e = absurd (omega arith)
modulus_at n (x ∷ rs) zero r h l e = rw e h.0.1
modulus_at n (x ∷ rs) (suc i) r h l e = modulus_at n rs i r h.1 (omega arith) e

pub fits_at : (rs : List Row) (i : ℕ) (r : Row) → rows_fit rs ≡ true → i < length rs → r ≡ get_or rs i r → normal_fits r ≡ true
fits_at [] i r h l e = absurd (omega arith)
fits_at (x ∷ rs) zero r h l e = ap normal_fits e ∙ (both_of (normal_fits x) (rows_fit rs) h).0
fits_at (x ∷ rs) (suc i) r h l e = fits_at rs i r (both_of (normal_fits x) (rows_fit rs) h).1 (omega arith) e

pub calm_at : (rs : List Row) (i : ℕ) (r : Row) → AreRowsUpTo2To122 rs → i < length rs → r ≡ get_or rs i r → IsRowUpTo2To122 r
calm_at [] i r h l e = absurd (omega arith)
calm_at (x ∷ rs) zero r h l e = subst IsRowUpTo2To122 (sym e) h.0
calm_at (x ∷ rs) (suc i) r h l e = calm_at rs i r h.1 (omega arith) e

-- what is left stands still behind further rows
absurd-on : (c d : Conj) (i : ℕ) → IsOnto c d → is_absurd (slice_get c.rows i) ≡ true → is_absurd (slice_get d.rows i) ≡ true
absurd-on c d i o e = by (slice_get c.rows i) refl
  where
    by : (r : Option Row) → slice_get c.rows i ≡ r → is_absurd (slice_get d.rows i) ≡ true
    by None f = absurd (none (rw f at e))
      where
        none : false ≡ true → ⊥
        none z = cc
    by (Some r) f = rw (o.rows, get-appended c.rows o.more i r f) (rw f at e)

left-on : (names : List ℕ) (c d : Conj) (i : ℕ) (r : NormalRow) → IsOnto c d → LeftStands names c i r → LeftStands names d i r
left-on names c d i (Kept r) o s = stands-on names c d i r o s
left-on names c d i Dropped o s = tt
left-on names c d i Absurd o s = absurd-on c d i o s

lefts-on : (names : List ℕ) (c d : Conj) (ls : List Left) → IsOnto c d → LeftsStand names c ls → LeftsStand names d ls
lefts-on names c d [] o s = tt
lefts-on names c d (l ∷ ls) o s = (left-on names c d l.place l.row o s.0, lefts-on names c d ls o s.1)

lefts-last : (names : List ℕ) (c : Conj) (ls : List Left) (l : Left) → LeftsStand names c ls → LeftStands names c l.place l.row → LeftsStand names c (ls ++ l ∷ [])
lefts-last names c [] l s t = (t, tt)
lefts-last names c (x ∷ ls) l s t = (s.0, lefts-last names c ls l s.1 t)

-- the path on which rows stand is one that the tree path reaches
pub stand_reaches : (t : TreePath) (start c : Conj) (names : List ℕ) (rs : List Row) (is : List ℕ) → after_steps t.steps start ≡ Some c → StandOn (base_of t) names rs is c → Reaches t start c
stand_reaches t start c names rs is e s = record { steps = e; columns = s.columns; rows = s.rows }

-- and behind further rows they stand still
pub stand_further : (t u : TreePath) (start c d : Conj) (names : List ℕ) (rs : List Row) (is : List ℕ) → IsSameBase t u → IsOnto c d → Reaches u start d → StandOn (base_of t) names rs is c → StandOn (base_of u) names rs is d
stand_further t u start c d names rs is same o r s = record {
  columns = r.columns;
  rows = r.rows;
  one = rw same.one (stands-on [] c d t.one (Ge one_form) o s.one);
  names = rw same.columns s.names;
  stand = stand-on names c d rs is o s.stand;
}

-- the call for one row: what is left of it stands
abbrev pub ShowsLeft : TreePath → TreePath → List ℕ → ℕ → Row → ℕ → Type 0
ShowsLeft t u names x r i = (start path : Conj) → Reaches t start path → HasOne t path → AreNames path.columns names → StandsAt names path x r → Shows u start path names i (normal_row r)

carries_more : (t u : TreePath) (start : Conj) (names : List ℕ) (rs : List Row) (is : List ℕ) (ls : List Left) (i x : ℕ) (r : Row) (l : Left) → IsSameBase t u → i < length rs → r ≡ get_or rs i r → x ≡ get_or is i 0
    → l.row ≡ normal_row r → ShowsLeft t u names x r l.place → CarriesLefts t start names rs is ls → CarriesLefts u start names rs is (ls ++ l ∷ [])
carries_more t u start names rs is ls i x r l same less er ex el shows c =
    let named : AreNames c.path.columns names = rw c.stand.columns c.stand.names in
    let s = shows start c.path (stand_reaches t start c.path names rs is c.steps c.stand) c.stand.one named (stand_at names c.path rs is i x r c.stand.stand less er ex) in
    record {
      path = s.further;
      steps = s.reaches.steps;
      stand = stand_further t u start c.path s.further names rs is same s.onto s.reaches c.stand;
      lefts = lefts-last names s.further ls l (lefts-on names c.path s.further ls s.onto c.lefts) (rw el s.stands);
    }

-- before row i: what is left of the rows so far stands behind the tree path
pub record LeftHalfway (t u : TreePath) (names : List ℕ) (rs : List Row) (is : List ℕ) (ls : List Left) (i : ℕ) : Type 0 where
  pub room : i ≤ length rs
  pub rows : map (λ l. l.row) ls ≡ map normal_row (take i rs)
  pub carries : (start : Conj) → Carries t start names rs is → CarriesLefts u start names rs is ls

pub left_start : (t : TreePath) (names : List ℕ) (rs : List Row) (is : List ℕ) → LeftHalfway t t names rs is [] 0
left_start t names rs is = record {
  room = omega arith;
  rows = refl;
  carries = λ start c. record { path = c.path; steps = c.steps; stand = c.stand; lefts = tt };
}

map-append : (f : Left → NormalRow) (ls : List Left) (l : Left) → map f (ls ++ l ∷ []) ≡ map f ls ++ f l ∷ []
map-append f [] l = refl
map-append f (x ∷ ls) l = ap (λ (ys : List NormalRow). f x ∷ ys) (map-append f ls l)

map-next : (rs : List Row) (i : ℕ) (r : Row) → i < length rs → r ≡ get_or rs i r → map normal_row (take (i + 1) rs) ≡ map normal_row (take i rs) ++ normal_row r ∷ []
map-next rs i r less e = by rs i (omega arith) less e
  where
    next : (rs : List Row) (i : ℕ) → i < length rs → r ≡ get_or rs i r → map normal_row (take (suc i) rs) ≡ map normal_row (take i rs) ++ normal_row r ∷ []
    next [] i l e = absurd (omega arith)
    next (x ∷ rs) zero l e = ap (λ (y : Row). normal_row y ∷ []) (sym e)
    next (x ∷ rs) (suc i) l e = ap (λ (ys : List NormalRow). normal_row x ∷ ys) (next rs i (omega arith) e)

    by : (rs : List Row) (i : ℕ) → i + 1 ≡ suc i → i < length rs → r ≡ get_or rs i r → map normal_row (take (i + 1) rs) ≡ map normal_row (take i rs) ++ normal_row r ∷ []
    by rs i s l e = rw s (next rs i l e)

pub left_more : (t u v : TreePath) (names : List ℕ) (rs : List Row) (is : List ℕ) (ls new : List Left) (i x : ℕ) (r : Row) (l : Left) → LeftHalfway t u names rs is ls i → IsSameBase u v → i < length rs → r ≡ get_or rs i r → x ≡ get_or is i 0
    → l.row ≡ normal_row r → ShowsLeft u v names x r l.place → new ≡ ls ++ l ∷ [] → LeftHalfway t v names rs is new (i + 1)
left_more t u v names rs is ls new i x r l h same less er ex el shows e = rw e (record {
  room = omega arith;
  rows = map-append (λ l. l.row) ls l ∙ rw (h.rows, el) (sym (map-next rs i r less er));
  carries = λ start c. carries_more u v start names rs is ls i x r l same less er ex el shows (h.carries start c);
})

pub left_end : (t u : TreePath) (names : List ℕ) (rs : List Row) (is : List ℕ) (ls : List Left) (i : ℕ) → LeftHalfway t u names rs is ls i → length rs ≤ i → map (λ l. l.row) ls ≡ map normal_row rs
left_end t u names rs is ls i h l = rw (take_all i rs l) at h.rows

pub ruleset left_steps = (left_start, left_more, left_end, modulus_at, fits_at, calm_at)
