-- The rows that a residue leaves, one after the other.
use Rattle.std.proofs.Common.{◌≡◌, ℕ, zero, suc, ◌+◌, ◌^◌, ◌<◌, ◌≤◌, ℤ, List, [], ◌∷◌, ◌++◌, length, map, take, set, get_or, Bool, true, false, ◌&&◌, unsigned_abs, refl, sym, ap, ◌∙◌, arith}
use Rattle.std.proofs.lemmas.List.{take_more, map-append}
use Rattle.std.proofs.Math.Seq.{take-length}
use Rattle.ac_forms.specs.Affine.{Affine, coef}
use Rattle.ac_forms.specs.Rows.{form_of, AreRowsOver}
use Rattle.ac_forms.specs.declared.conj.Conj.{Conj}
use Rattle.ac_forms.specs.declared.row.Row.{Row}
use Rattle.ac_forms.specs.declared.row.Row.TheVariants.{Eq, Div, Ge}
use Rattle.ac_omega_steps.specs.ChoiceFits.{spread_row_fits, all_spread_fit}
use Rattle.ac_omega_steps.specs.Choices.{substitute_residue_row}
use Rattle.ac_omega_certify.specs.declared.path.TreePath.{TreePath}
use Rattle.ac_omega_certify.specs.Descents.{AreNames, Carries, column_less}
use Rattle.ac_omega_certify.specs.Residues.{quotient_form, less_times, AreSmall, CanTake, AllCanTake, LeadsAll}
use Rattle.ac_omega_certify.specs.TreePathRows.{StandsAt, Stand, Reaches, Leads, IsSameBase, one_form}
use Rattle.ac_omega_certify.proofs.Paths.{stands-on, stand-on, onto-self, onto-again}
use Rattle.ac_omega_certify.proofs.Places.{new-names}
use Rattle.ac_omega_certify.proofs.Spreading.{renames-wide, renames-substitute_residue}

-- ---- rows at places

both-left : (a b : Bool) → (a && b) ≡ true → a ≡ true
both-left true b e = refl
both-left false b e = absurd cc

both-right : (a b : Bool) → (a && b) ≡ true → b ≡ true
both-right true b e = e
both-right false b e = absurd cc

pub fits-at : (z : ℕ) (m r : ℤ) (rs : List Row) (k : ℕ) (x : Row) → all_spread_fit z m r rs ≡ true → k < length rs → x ≡ get_or rs k x → spread_row_fits z m r x ≡ true
fits-at z m r [] k x h l e = absurd (omega (arith, l))
fits-at z m r (y ∷ rs) zero x h l e = rw e (both-left (spread_row_fits z m r y) (all_spread_fit z m r rs) h)
fits-at z m r (y ∷ rs) (suc k) x h l e = fits-at z m r rs k x (both-right (spread_row_fits z m r y) (all_spread_fit z m r rs) h) (omega (arith, l)) e

pub small-at : (z : ℕ) (rs : List Row) (k : ℕ) (x : Row) → AreSmall z rs → k < length rs → x ≡ get_or rs k x → unsigned_abs (coef z (form_of x)) ≤ 2 ^ 120
small-at z [] k x h l e = absurd (omega (arith, l))
small-at z (y ∷ rs) zero x h l e = rw e h.0
small-at z (y ∷ rs) (suc k) x h l e = small-at z rs k x h.1 (omega (arith, l)) e

take-at : (z : ℕ) (e : Affine) (rs : List Row) (k : ℕ) (x : Row) → AllCanTake z e rs → k < length rs → x ≡ get_or rs k x → CanTake z e x
take-at z e [] k x h l is = absurd (omega (arith, l))
take-at z e (y ∷ rs) zero x h l is = rw is h.0
take-at z e (y ∷ rs) (suc k) x h l is = take-at z e rs k x h.1 (omega (arith, l)) is

stand-at : (names : List ℕ) (c : Conj) (rs : List Row) (is : List ℕ) (k : ℕ) (x : Row) → Stand names c rs is → k < length rs → x ≡ get_or rs k x → StandsAt names c (get_or is k 0) x
stand-at names c [] is k x h l e = absurd (omega (arith, l))
stand-at names c (y ∷ rs) [] k x h l e = absurd h
stand-at names c (y ∷ rs) (i ∷ is) zero x h l e = rw e h.0
stand-at names c (y ∷ rs) (i ∷ is) (suc k) x h l e = stand-at names c rs is k x h.1 (omega (arith, l)) e

stand-more : (names : List ℕ) (c : Conj) (rs : List Row) (is : List ℕ) (r : Row) (i : ℕ) → Stand names c rs is → StandsAt names c i r → Stand names c (rs ++ r ∷ []) (is ++ i ∷ [])
stand-more names c [] [] r i h s = (s, tt)
stand-more names c [] (j ∷ is) r i h s = absurd h
stand-more names c (x ∷ rs) [] r i h s = absurd h
stand-more names c (x ∷ rs) (j ∷ is) r i h s = (h.0, stand-more names c rs is r i h.1 s)

-- ---- loops over rows

pub map-more : (f : Row → Row) (rs : List Row) (i : ℕ) (r : Row) → i < length rs → r ≡ get_or rs i r → map f (take (i + 1) rs) ≡ map f (take i rs) ++ f r ∷ []
map-more f rs i r l e = ap (map f) (take_more rs i r l) ∙ map-append f (take i rs) (get_or rs i r ∷ []) ∙ ap (λ (x : Row). map f (take i rs) ++ f x ∷ []) (sym e)

pub map-whole : (f : Row → Row) (rs : List Row) (i : ℕ) → i ≤ length rs → length rs ≤ i → map f (take i rs) ≡ map f rs
map-whole f rs i a b =
    let e : i ≡ length rs = omega arith in
    ap (map f) (ap (λ (n : ℕ). take n rs) e ∙ take-length rs)

pub none-led : (t : TreePath) (start path : Conj) (names : List ℕ) → Reaches t start path → LeadsAll t start path names [] []
none-led t start path names h = record { further = path; reaches = h; onto = onto-self path; stand = tt }

pub more-led : (t u : TreePath) (start path : Conj) (names : List ℕ) (z equality i k : ℕ) (e : Affine) (rows : List Row) (places made : List ℕ) (r : Row) → k < length rows → r ≡ get_or rows k r
    → ((start path : Conj) (names : List ℕ) (e : Affine) → Reaches t start path → StandsAt names path (get_or places k 0) r → StandsAt names path equality (Eq e) → CanTake z e r → Leads u start path names i (less_times z e r))
    → Stand names path rows places → StandsAt names path equality (Eq e) → AllCanTake z e rows
    → LeadsAll t start path names (map (less_times z e) (take k rows)) made → LeadsAll u start path names (map (less_times z e) (take (k + 1) rows)) (made ++ i ∷ [])
more-led t u start path names z equality i k e rows places made r l is lead stand eq can h =
    let s = lead start h.further names e h.reaches (stands-on names path h.further (get_or places k 0) r h.onto (stand-at names path rows places k r stand l is)) (stands-on names path h.further equality (Eq e) h.onto eq) (take-at z e rows k r can l is) in
    record {
      further = s.further;
      reaches = s.reaches;
      onto = onto-again path h.further s.further h.onto s.onto;
      stand = rw (map-more (less_times z e) rows k r l is) (stand-more names s.further (map (less_times z e) (take k rows)) made (less_times z e r) i (stand-on names h.further s.further (map (less_times z e) (take k rows)) made s.onto h.stand) s.stands);
    }

-- ---- names of the rows

stand-wide : (names : List ℕ) (z q : ℕ) (c : Conj) (rs : List Row) (is : List ℕ) → AreNames q names → z < length names → AreRowsOver (length names) rs → Stand names c rs is → Stand (names ++ q ∷ []) c rs is
stand-wide names z q c [] [] ns l a h = tt
stand-wide names z q c [] (i ∷ is) ns l a h = absurd h
stand-wide names z q c (r ∷ rs) [] ns l a h = absurd h
stand-wide names z q c (r ∷ rs) (i ∷ is) ns l a h = (record { form = h.0.form; at = h.0.at; renames = renames-wide names z q (form_of r) h.0.form ns l a.0.0 h.0.renames }, stand-wide names z q c rs is ns l a.1 h.1)

substitute_residue-stands : (names : List ℕ) (z q : ℕ) (m d : ℤ) (c : Conj) (r : Row) (i : ℕ) → AreNames q names → z < length names → length (form_of r).coefs ≤ length names
    → StandsAt (names ++ q ∷ []) c i (less_times z (quotient_form (length names) z m d) r) → StandsAt (set names z q) c i (substitute_residue_row z m d r)
substitute_residue-stands names z q m d c (Eq f) i ns l a s = record { form = s.form; at = s.at; renames = renames-substitute_residue names z q m d f s.form ns l a s.renames }
substitute_residue-stands names z q m d c (Div n f) i ns l a s = record { form = s.form; at = s.at; renames = renames-substitute_residue names z q m d f s.form ns l a s.renames }
substitute_residue-stands names z q m d c (Ge f) i ns l a s = record { form = s.form; at = s.at; renames = renames-substitute_residue names z q m d f s.form ns l a s.renames }

stand-substitute_residue : (names : List ℕ) (z q : ℕ) (m d : ℤ) (c : Conj) (rs : List Row) (is : List ℕ) → AreNames q names → z < length names → AreRowsOver (length names) rs
    → Stand (names ++ q ∷ []) c (map (less_times z (quotient_form (length names) z m d)) rs) is → Stand (set names z q) c (map (substitute_residue_row z m d) rs) is
stand-substitute_residue names z q m d c [] [] ns l a h = tt
stand-substitute_residue names z q m d c [] (i ∷ is) ns l a h = absurd h
stand-substitute_residue names z q m d c (r ∷ rs) [] ns l a h = absurd h
stand-substitute_residue names z q m d c (r ∷ rs) (i ∷ is) ns l a h = (substitute_residue-stands names z q m d c r i ns l a.0.0 h.0, stand-substitute_residue names z q m d c rs is ns l a.1 h.1)

-- ---- from the class to the rows that are left

pub residue-carries : (t u v : TreePath) (start : Conj) (names : List ℕ) (z class equality : ℕ) (m d : ℤ) (rows : List Row) (places made : List ℕ) → z < length names → AreRowsOver (length names) rows → AllCanTake z (quotient_form (length names) z m d) rows
    → u.columns ≡ t.columns + 1 → u.one ≡ t.one → IsSameBase u v
    → ((start path : Conj) → Reaches t start path → AreNames t.columns names → StandsAt names path class (Div m (column_less (length names) z d)) → Leads u start path (names ++ t.columns ∷ []) equality (Eq (quotient_form (length names) z m d)))
    → ((start path : Conj) (names : List ℕ) (e : Affine) → Reaches u start path → Stand names path rows places → StandsAt names path equality (Eq e) → AllCanTake z e rows → LeadsAll v start path names (map (less_times z e) rows) made)
    → Carries t start names (Div m (column_less (length names) z d) ∷ rows) (class ∷ places) → Carries v start (set names z t.columns) (map (substitute_residue_row z m d) rows) made
residue-carries t u v start names z class equality m d rows places made l over can more one base quot each h =
    let e = quotient_form (length names) z m d in
    let first : Reaches t start h.path = record { steps = h.steps; columns = h.stand.columns; rows = h.stand.rows } in
    let s = quot start h.path first h.stand.names h.stand.stand.0 in
    let wide = stand-wide names z t.columns s.further rows places h.stand.names l over (stand-on names h.path s.further rows places s.onto h.stand.stand.1) in
    let a = each start s.further (names ++ t.columns ∷ []) e s.reaches wide s.stands can in
    let columns : v.columns ≡ t.columns + 1 = base.columns ∙ more in
    let place : v.one ≡ t.one = base.one ∙ one in
    record {
      path = a.further;
      steps = a.reaches.steps;
      stand = record {
        columns = a.reaches.columns;
        rows = a.reaches.rows;
        one = rw place (stands-on [] h.path a.further t.one (Ge one_form) (onto-again h.path s.further a.further s.onto a.onto) h.stand.one);
        names = rw columns (new-names names z t.columns h.stand.names l);
        stand = stand-substitute_residue names z t.columns m d a.further rows made h.stand.names l over a.stand;
      };
    }
