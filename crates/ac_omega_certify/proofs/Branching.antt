-- Where the rows that a choice leaves stand: behind tree paths without steps, behind a class, behind raised rows, and behind splinters.
use Rattle.std.proofs.Common.{◌≡◌, ℕ, zero, suc, ◌+◌, ℤ, pos, neg_ℤ, ◌+ℤ◌, true, false, cond, List, [], ◌∷◌, ◌++◌, length, take, Option, Some, None, slice_get, refl, sym, ap, subst, ◌∙◌, arith, append_assoc, length-append}
use Rattle.std.specs.Prelude.{Result, Ok, Err, IfOk}
use Rattle.std.proofs.lemmas.Int.{ints}
use Rattle.ac_forms.specs.Affine.{Affine, column_form, shifted}
use Rattle.ac_forms.specs.Rows.{form_of}
use Rattle.ac_forms.specs.declared.conj.Conj.{Conj}
use Rattle.ac_forms.specs.declared.row.Row.{Row}
use Rattle.ac_forms.specs.declared.row.Row.TheVariants.{Eq, Div, Ge}
use Rattle.ac_omega_steps.specs.declared.choose.Choice.{Choice}
use Rattle.ac_omega_steps.specs.Bounds.{is_low}
use Rattle.ac_omega_steps.specs.Choices.{is_lower_row}
use Rattle.ac_cert.specs.Rules.{class_row}
use Rattle.ac_omega_certify.specs.ChoiceBranches.{lift_count, lifts, raised_places, IsAlong, AreAlong, with_rows, Stage, IsOn, IsClass, IsRaised, worth, IsSplintered, IsBranch}
use Rattle.ac_omega_certify.specs.Descents.{StandOn, Carries, base_of, column_less, raised_rows}
use Rattle.ac_omega_certify.specs.Leaves.{less}
use Rattle.ac_omega_certify.specs.TreePathRows.{place_of, coef_of, Renames, StandsAt, Stand, IsOnto}
use Rattle.ac_omega_certify.specs.declared.branch.Branch.{Branch}
use Rattle.ac_omega_certify.specs.declared.descent.Base.{Base}
use Rattle.ac_omega_certify.specs.declared.path.TreePath.{TreePath}
use Rattle.ac_omega_certify.proofs.Paths.{stands-on, stand-on}

pub carries-behind : (t : TreePath) (b : Base) (c : Conj) (ns : List ℕ) (rs : List Row) (ps : List ℕ) → t.steps ≡ [] → base_of t ≡ b → StandOn b ns rs ps c → Carries t c ns rs ps
carries-behind t b c ns rs ps e f s = record { path = c; steps = rw e refl; stand = subst (λ (x : Base). StandOn x ns rs ps c) (sym f) s }

-- ---- further rows

abbrev pub base_with : Base → ℕ → Base
base_with b n = record { columns = b.columns; rows = n; one = b.one }

pub onto-rows : (c : Conj) (more : List Row) → IsOnto c (with_rows c more)
onto-rows c more = record { more = more; rows = refl; columns = omega arith }

pub stand-further : (b : Base) (c : Conj) (ns : List ℕ) (rs : List Row) (ps : List ℕ) (more : List Row) (n : ℕ) → n ≡ b.rows + length more → StandOn b ns rs ps c → StandOn (base_with b n) ns rs ps (with_rows c more)
stand-further b c ns rs ps more n e s = record {
  columns = s.columns;
  rows = omega (arith, length-append c.rows more, s.rows, e);
  one = stands-on [] c (with_rows c more) b.one _ (onto-rows c more) s.one;
  names = s.names;
  stand = stand-on ns c (with_rows c more) rs ps (onto-rows c more) s.stand;
}

pub stand-append : (ns : List ℕ) (c : Conj) (rs : List Row) (ps : List ℕ) (ss : List Row) (qs : List ℕ) → Stand ns c rs ps → Stand ns c ss qs → Stand ns c (rs ++ ss) (ps ++ qs)
stand-append ns c [] [] ss qs h g = g
stand-append ns c [] (p ∷ ps) ss qs h g = absurd h
stand-append ns c (r ∷ rs) [] ss qs h g = absurd h
stand-append ns c (r ∷ rs) (p ∷ ps) ss qs h g = (h.0, stand-append ns c rs ps ss qs h.1 g)

pub at-front : (xs ys : List Row) (x : Row) (n : ℕ) → length xs ≡ n → slice_get (xs ++ x ∷ ys) n ≡ Some x
at-front [] ys x zero e = refl
at-front [] ys x (suc n) e = absurd (omega (arith, e))
at-front (y ∷ xs) ys x zero e = absurd (omega (arith, e))
at-front (y ∷ xs) ys x (suc n) e = at-front xs ys x n (omega (arith, e))

-- ---- behind a class

shifted-coef : (o : Option ℕ) (f : Affine) (k : ℤ) → coef_of o (shifted f k) ≡ coef_of o f
shifted-coef None f k = refl
shifted-coef (Some i) f k = refl

pub renames-shifted : (ns : List ℕ) (f g : Affine) (k : ℤ) → Renames ns f g → Renames ns (shifted f k) (shifted g k)
renames-shifted ns f g k h = record { konst = ap (λ (x : ℤ). x +ℤ k) h.konst; coefs = λ j. h.coefs j ∙ sym (shifted-coef (place_of j ns) f k) }

pub stand-class : (b : Base) (c d : Conj) (ns : List ℕ) (rs : List Row) (ps : List ℕ) (z n : ℕ) (m r : ℤ) → n ≡ b.rows + 1 → StandOn b ns rs ps c → IsClass ns z m r c d → StandOn (base_with b n) ns (Div m (column_less (length ns) z r) ∷ rs) (b.rows ∷ ps) d
stand-class b c d ns rs ps z n m r e s h =
    let row = class_row m h.form r in
    let t : StandOn (base_with b n) ns rs ps (with_rows c (row ∷ [])) = stand-further b c ns rs ps (row ∷ []) n e s in
    let new : StandsAt ns (with_rows c (row ∷ [])) b.rows (Div m (column_less (length ns) z r)) = record {
      form = shifted h.form (neg_ℤ r);
      at = at-front c.rows [] row b.rows s.rows;
      renames = renames-shifted ns (column_form (length ns) z) h.form (neg_ℤ r) h.renames;
    } in
    subst (λ (x : Conj). StandOn (base_with b n) ns (Div m (column_less (length ns) z r) ∷ rs) (b.rows ∷ ps) x) (sym h.is)
    (record { columns = t.columns; rows = t.rows; one = t.one; names = t.names; stand = (new, t.stand) })

-- ---- behind raised rows

pub along-length : (ns : List ℕ) (rs ss : List Row) → AreAlong ns rs ss → length ss ≡ length rs
along-length ns [] [] h = refl
along-length ns [] (s ∷ ss) h = absurd h
along-length ns (r ∷ rs) [] h = absurd h
along-length ns (r ∷ rs) (s ∷ ss) h = ap (λ (n : ℕ). suc n) (along-length ns rs ss h.1)

pub lifts-length : (i : ℕ) (rs : List Row) (ns : List ℕ) → length ns ≡ length rs → length (lifts (take i rs) ns) ≡ lift_count (take i ns)
lifts-length zero rs ns e = refl
lifts-length (suc i) [] [] e = refl
lifts-length (suc i) [] (n ∷ ns) e = absurd (omega (arith, e))
lifts-length (suc i) (r ∷ rs) [] e = absurd (omega (arith, e))
lifts-length (suc i) (r ∷ rs) (zero ∷ ns) e = lifts-length i rs ns (omega (arith, e))
lifts-length (suc i) (r ∷ rs) (suc n ∷ ns) e = ap (λ (k : ℕ). suc k) (lifts-length i rs ns (omega (arith, e)))

pub all-lifts-length : (rs : List Row) (ns : List ℕ) → length ns ≡ length rs → length (lifts rs ns) ≡ lift_count ns
all-lifts-length [] [] e = refl
all-lifts-length [] (n ∷ ns) e = absurd (omega (arith, e))
all-lifts-length (r ∷ rs) [] e = absurd (omega (arith, e))
all-lifts-length (r ∷ rs) (zero ∷ ns) e = all-lifts-length rs ns (omega (arith, e))
all-lifts-length (r ∷ rs) (suc n ∷ ns) e = ap (λ (k : ℕ). suc k) (all-lifts-length rs ns (omega (arith, e)))

less-nothing : (o : Option ℕ) (f : Affine) → coef_of o (less f 0) ≡ coef_of o f
less-nothing o f = shifted-coef o f (neg_ℤ (pos 0))

stands-less : (ns : List ℕ) (c : Conj) (i : ℕ) (f : Affine) → StandsAt ns c i (Ge f) → StandsAt ns c i (Ge (less f 0))
stands-less ns c i f h = record {
  form = h.form;
  at = h.at;
  renames = record { konst = h.renames.konst ∙ none f.konst; coefs = λ j. h.renames.coefs j ∙ sym (less-nothing (place_of j ns) f) };
}
  where
    none : (k : ℤ) → k ≡ k +ℤ neg_ℤ (pos 0)
    none k = omega (arith, ints)

along-stands : (ns : List ℕ) (d : Conj) (front rest : List Row) (r s : Row) (n : ℕ) → d.rows ≡ front ++ s ∷ rest → length front ≡ n → IsAlong ns r s → StandsAt ns d n r
along-stands ns d front rest r s n e l h = record {
  form = h.form;
  at = rw e (at-front front rest s n l ∙ ap (λ (x : Row). Some x) h.is);
  renames = h.renames;
}

-- a row more, at the place where it stands if it is a lower one
with-lower : (ns : List ℕ) (d : Conj) (z : ℕ) (r : Row) (rs : List Row) (n : ℕ) (counts : List ℕ) (place : ℕ) (places : List ℕ) → ((f : Affine) → r ≡ Ge f → StandsAt ns d place (Ge (less f n))) → Stand ns d (raised_rows z rs counts) places
    → Stand ns d (raised_rows z (r ∷ rs) (n ∷ counts)) (cond (is_lower_row z (Some r)) (place ∷ places) places)
with-lower ns d z (Eq f) rs n counts place places here rest = rest
with-lower ns d z (Div m f) rs n counts place places here rest = rest
with-lower ns d z (Ge f) rs n counts place places here rest =
    elim (is_low z f) as (λ t. Stand ns d (cond t (Ge (less f n) ∷ raised_rows z rs counts) (raised_rows z rs counts)) (cond t (place ∷ places) places)) [
      | true ↦ (here f refl, rest)
      | false ↦ rest
    ]

-- the lower rows stand at their places behind their splinters
stand-raised : (ns : List ℕ) (d : Conj) (z : ℕ) (rs : List Row) (counts ps : List ℕ) (front more : List Row) (next : ℕ) → Stand ns d rs ps → AreAlong ns (lifts rs counts) more → d.rows ≡ front ++ more → length front ≡ next
    → Stand ns d (raised_rows z rs counts) (raised_places z rs counts ps next)
stand-raised ns d z [] counts ps front more next h g e l = tt
stand-raised ns d z (r ∷ rs) [] ps front more next h g e l = tt
stand-raised ns d z (r ∷ rs) (n ∷ counts) [] front more next h g e l = absurd h
stand-raised ns d z (r ∷ rs) (zero ∷ counts) (p ∷ ps) front more next h g e l =
    with-lower ns d z r rs 0 counts p (raised_places z rs counts ps next) (λ f is. stands-less ns d p f (subst (StandsAt ns d p) is h.0)) (stand-raised ns d z rs counts ps front more next h.1 g e l)
stand-raised ns d z (r ∷ rs) (suc n ∷ counts) (p ∷ ps) front [] next h g e l = absurd g
stand-raised ns d z (r ∷ rs) (suc n ∷ counts) (p ∷ ps) front (s ∷ more) next h g e l =
    let far : d.rows ≡ (front ++ s ∷ []) ++ more = e ∙ sym (append_assoc front (s ∷ []) more) in
    let long : length (front ++ s ∷ []) ≡ next + 1 = omega (arith, length-append front (s ∷ []), l) in
    let here : StandsAt ns d next (Ge (less (form_of r) (suc n))) = along-stands ns d front more (Ge (less (form_of r) (suc n))) s next e l g.0 in
    with-lower ns d z r rs (suc n) counts next (raised_places z rs counts ps (next + 1)) (λ f is. subst (λ (x : Row). StandsAt ns d next (Ge (less (form_of x) (suc n)))) is here)
    (stand-raised ns d z rs counts ps (front ++ s ∷ []) more (next + 1) h.1 g.1 far long)

pub stand-shadow : (b : Base) (c d : Conj) (ns : List ℕ) (rs : List Row) (ps counts : List ℕ) (z n : ℕ) → length counts ≡ length rs → n ≡ b.rows + lift_count counts → StandOn b ns rs ps c → IsRaised ns rs counts c d
    → StandOn (base_with b n) ns (rs ++ raised_rows z rs counts) (ps ++ raised_places z rs counts ps b.rows) d
stand-shadow b c d ns rs ps counts z n long e s h =
    let size : n ≡ b.rows + length h.more = omega (arith, e, along-length ns (lifts rs counts) h.more h.along, all-lifts-length rs counts long) in
    let t : StandOn (base_with b n) ns rs ps (with_rows c h.more) = stand-further b c ns rs ps h.more n size s in
    let up = stand-raised ns (with_rows c h.more) z rs counts ps c.rows h.more b.rows t.stand h.along refl s.rows in
    subst (λ (x : Conj). StandOn (base_with b n) ns (rs ++ raised_rows z rs counts) (ps ++ raised_places z rs counts ps b.rows) x) (sym h.is)
    (record { columns = t.columns; rows = t.rows; one = t.one; names = t.names; stand = stand-append ns (with_rows c h.more) rs ps (raised_rows z rs counts) (raised_places z rs counts ps b.rows) t.stand up })

-- ---- behind splinters

pub record OnSplinter (s : Stage) (i : ℕ) (k : ℤ) (place n : ℕ) (f : Affine) (d : Conj) : Type 0 where
  pub stand : StandOn (base_with s.base n) s.names s.rows s.places d
  pub worth-row : StandsAt s.names d place (Eq (worth k f))

pub stand-splinter : (s : Stage) (i : ℕ) (k : ℤ) (place n : ℕ) (f : Affine) (c d : Conj) → length s.counts ≡ length s.rows → place ≡ s.base.rows + lift_count (take i s.counts) + s.depth + 1 → n ≡ place + 1 → slice_get s.rows i ≡ Some (Ge f) → IsOn s c → IsSplintered s i k c d
    → OnSplinter s i k place n f d
stand-splinter s i k place n f c d long p e at o h =
    let last = Eq h.form in
    let more = h.raised ++ (h.between ++ last ∷ []) in
    let one : length h.raised ≡ lift_count (take i s.counts) = along-length s.names (lifts (take i s.rows) s.counts) h.raised h.along ∙ lifts-length i s.rows s.counts long in
    let size : n ≡ s.base.rows + length more = omega (arith, length-append h.raised (h.between ++ last ∷ []), length-append h.between (last ∷ []), one, h.long, p, e) in
    let t : StandOn (base_with s.base n) s.names s.rows s.places (with_rows c more) = stand-further s.base c s.names s.rows s.places more n size o in
    let front : c.rows ++ more ≡ ((c.rows ++ h.raised) ++ h.between) ++ last ∷ [] = sym (append_assoc c.rows h.raised (h.between ++ last ∷ [])) ∙ sym (append_assoc (c.rows ++ h.raised) h.between (last ∷ [])) in
    let before : length ((c.rows ++ h.raised) ++ h.between) ≡ place = omega (arith, length-append (c.rows ++ h.raised) h.between, length-append c.rows h.raised, one, h.long, p, o.rows) in
    let new : StandsAt s.names (with_rows c more) place (Eq (worth k f)) = record {
      form = h.form;
      at = rw front (at-front ((c.rows ++ h.raised) ++ h.between) [] last place before);
      renames = h.renames f at;
    } in
    let made : OnSplinter s i k place n f (with_rows c more) = record { stand = t; worth-row = new } in
    subst (OnSplinter s i k place n f) (sym h.is) made

-- ---- results

pub ok-as : {A : Type 0} {E : Type 0} (P Q : A → Type 0) (r : Result A E) → ((a : A) → P a → Q a) → IfOk r P → IfOk r Q
ok-as P Q (Ok a) f h = f a h
ok-as P Q (Err e) f h = tt

-- the branch of a choice that is the same
pub branch-as : (s : Stage) (h h' : Choice) {E : Type 0} (r : Result Branch E) → h' ≡ h → IfOk r (λ x. IsBranch s h x) → IfOk r (λ x. IsBranch s h' x)
branch-as s h h' r e k = subst (λ (g : Choice). IfOk r (λ x. IsBranch s g x)) (sym e) k
