-- The rows in which an equality replaces a column, one after the other.
use Rattle.std.proofs.Common.{◌≡◌, ℕ, zero, suc, ◌+◌, ◌<◌, ◌≤◌, List, [], ◌∷◌, ◌++◌, length, map, take, drop, get_or, slice_get, Some, append_assoc, arith, refl, sym, ap, ◌∙◌}
use Rattle.std.proofs.lemmas.List.{drop_all, append-nil}
use Rattle.std.proofs.lemmas.Option.{slice_get_read}
use Rattle.ac_forms.specs.Affine.{Affine}
use Rattle.ac_forms.specs.declared.conj.Conj.{Conj}
use Rattle.ac_forms.specs.declared.row.Row.{Row}
use Rattle.ac_forms.specs.declared.row.Row.TheVariants.{Eq}
use Rattle.ac_omega_steps.specs.Choices.{replaced_row}
use Rattle.ac_omega_steps.proofs.Parts.{drop-at}
use Rattle.ac_omega_certify.specs.declared.path.TreePath.{TreePath}
use Rattle.ac_omega_certify.specs.TreePathRows.{StandsAt, Stand, Reaches, IsSameBase}
use Rattle.ac_omega_certify.specs.Descents.{AreNames}
use Rattle.ac_omega_certify.specs.Replacements.{CanReplace, CanReplaceAll, LeadsAll}
use Rattle.ac_omega_certify.proofs.Paths.{stands-on, stand-on, onto-self, onto-again}
use Rattle.ac_omega_certify.proofs.StandingLists.{stand-at, stand-take, stand-drop}

pub can-replace-at : (z : ℕ) (g : Affine) (rows : List Row) (i : ℕ) (r : Row) → CanReplaceAll z g rows → i < length rows → r ≡ get_or rows i r → CanReplace z g r
can-replace-at z g [] i r c h e = absurd (omega arith)
can-replace-at z g (x ∷ rows) zero r c h e = rw e c.0
can-replace-at z g (x ∷ rows) (suc i) r c h e = can-replace-at z g rows i r c.1 (omega arith) e

-- those before place i, behind the rows that stood first
pub record ReplacedSoFar (t u : TreePath) (z : ℕ) (g : Affine) (at i : ℕ) (rows : List Row) (places : List ℕ) (first : List Row) (first_places : List ℕ) (made : List Row) (made_places : List ℕ) : Type 0 where
  pub base : IsSameBase t u
  pub rest : first ++ map (replaced_row z g) rows ≡ made ++ map (replaced_row z g) (drop i rows)
  pub long : length made_places ≡ length made
  pub leads : (start path : Conj) (names : List ℕ) → Reaches t start path → Stand names path rows places → StandsAt names path at (Eq g) → Stand names path first first_places → LeadsAll u start path names made made_places

pub replaced-start : (t : TreePath) (z : ℕ) (g : Affine) (at : ℕ) (rows : List Row) (places : List ℕ) (first : List Row) (first_places : List ℕ) → length first_places ≡ length first → ReplacedSoFar t t z g at 0 rows places first first_places first first_places
replaced-start t z g at rows places first first_places l = record {
  base = record { columns = refl; one = refl };
  rest = refl;
  long = l;
  leads = λ start path names h a b k. record { further = path; reaches = h; onto = onto-self path; stand = k };
}

pub replaced-more : (t u v : TreePath) (z : ℕ) (g : Affine) (at i : ℕ) (rows : List Row) (places : List ℕ) (first : List Row) (first_places : List ℕ) (made : List Row) (made_places : List ℕ) (r : Row) (made2 : List Row) (made_places2 : List ℕ)
    → ReplacedSoFar t u z g at i rows places first first_places made made_places → i < length rows → r ≡ get_or rows i r
    → IsSameBase u v → made2 ≡ made ++ replaced_row z g r ∷ [] → (length made_places ≡ length made → length made_places2 ≡ length made2)
    → ((start path : Conj) (names : List ℕ) → Reaches u start path → StandsAt names path (get_or places i 0) r → StandsAt names path at (Eq g) → Stand names path made made_places → LeadsAll v start path names made2 made_places2)
    → ReplacedSoFar t v z g at (i + 1) rows places first first_places made2 made_places2
replaced-more t u v z g at i rows places first first_places made made_places r made2 made_places2 s h e b m l k = record {
  base = record { columns = b.columns ∙ s.base.columns; one = b.one ∙ s.base.one };
  rest = s.rest ∙ ap (λ (xs : List Row). made ++ map (replaced_row z g) xs) (drop-at rows i r h e) ∙ sym (append_assoc made (replaced_row z g r ∷ []) (map (replaced_row z g) (drop (i + 1) rows))) ∙ ap (λ (xs : List Row). xs ++ map (replaced_row z g) (drop (i + 1) rows)) (sym m);
  long = l s.long;
  leads = λ start path names a st eq fi.
      let x = s.leads start path names a st eq fi in
      let here = stand-at names path rows places i r st (slice_get_read rows (length rows) i r refl h e) in
      let y = k start x.further names x.reaches (stands-on names path x.further (get_or places i 0) r x.onto here) (stands-on names path x.further at (Eq g) x.onto eq) x.stand in
      record { further = y.further; reaches = y.reaches; onto = onto-again path x.further y.further x.onto y.onto; stand = y.stand };
}

pub replaced-rows : (t u : TreePath) (z : ℕ) (g : Affine) (at i : ℕ) (rows : List Row) (places : List ℕ) (first : List Row) (first_places : List ℕ) (made : List Row) (made_places : List ℕ)
    → ReplacedSoFar t u z g at i rows places first first_places made made_places → length rows ≤ i → made ≡ first ++ map (replaced_row z g) rows
replaced-rows t u z g at i rows places first first_places made made_places s h = sym (s.rest ∙ ap (λ (xs : List Row). made ++ map (replaced_row z g) xs) (drop_all i rows h) ∙ append-nil made)

-- parts of the rows
pub can-take : (z : ℕ) (g : Affine) (rows : List Row) (n : ℕ) → CanReplaceAll z g rows → CanReplaceAll z g (take n rows)
can-take z g [] zero c = tt
can-take z g [] (suc n) c = tt
can-take z g (x ∷ rows) zero c = tt
can-take z g (x ∷ rows) (suc n) c = (c.0, can-take z g rows n c.1)

pub can-drop : (z : ℕ) (g : Affine) (rows : List Row) (n : ℕ) → CanReplaceAll z g rows → CanReplaceAll z g (drop n rows)
can-drop z g [] zero c = tt
can-drop z g [] (suc n) c = tt
can-drop z g (x ∷ rows) zero c = c
can-drop z g (x ∷ rows) (suc n) c = can-drop z g rows n c.1

-- first the rows before the equality, then those behind it, then the row of its column's coefficient
pub three-lead : (t u v w : TreePath) (start path : Conj) (names : List ℕ) (z i at : ℕ) (g : Affine) (rows : List Row) (places : List ℕ) (fs : List Row) (fp : List ℕ) (ls : List Row) (lp : List ℕ)
    (r0 : List Row) (p0 : List ℕ) (r1 : List Row) (p1 : List ℕ) (r2 : List Row) (p2 : List ℕ) (r3 : List Row) (p3 : List ℕ)
    → fs ≡ take i rows → fp ≡ take i places → ls ≡ drop (i + 1) rows → lp ≡ drop (i + 1) places → r0 ≡ [] → p0 ≡ [] → at ≡ get_or places i 0 → IsSameBase t u → IsSameBase u v
    → ((start path : Conj) (names : List ℕ) → Reaches t start path → Stand names path fs fp → StandsAt names path at (Eq g) → Stand names path r0 p0 → LeadsAll u start path names r1 p1)
    → ((start path : Conj) (names : List ℕ) → Reaches u start path → Stand names path ls lp → StandsAt names path at (Eq g) → Stand names path r1 p1 → LeadsAll v start path names r2 p2)
    → ((start path : Conj) → Reaches v start path → AreNames v.columns names → StandsAt names path at (Eq g) → Stand names path r2 p2 → LeadsAll w start path names r3 p3)
    → Reaches t start path → AreNames t.columns names → Stand names path rows places → slice_get rows i ≡ Some (Eq g) → LeadsAll w start path names r3 p3
three-lead t u v w start path names z i at g rows places fs fp ls lp r0 p0 r1 p1 r2 p2 r3 p3 ef ep el em er eq ea b c one two three h n st e =
    let here : StandsAt names path at (Eq g) = rw ea (stand-at names path rows places i (Eq g) st e) in
    let x = one start path names h (rw (ef, ep) (stand-take names path rows places i st)) here (rw (er, eq) tt) in
    let y = two start x.further names x.reaches (stand-on names path x.further ls lp x.onto (rw (el, em) (stand-drop names path rows places (i + 1) st))) (stands-on names path x.further at (Eq g) x.onto here) x.stand in
    let o = onto-again path x.further y.further x.onto y.onto in
    let k = three start y.further y.reaches (rw (c.columns, b.columns) n) (stands-on names path y.further at (Eq g) o here) y.stand in
    record { further = k.further; reaches = k.reaches; onto = onto-again path y.further k.further o k.onto; stand = k.stand }
