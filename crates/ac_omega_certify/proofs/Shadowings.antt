-- Shadows that are shown one after the other.
use Rattle.std.proofs.Common.{◌≡◌, ℕ, zero, suc, ◌+◌, ◌<◌, ◌≤◌, ℤ, pos, neg_ℤ, Bool, true, false, cond, List, [], ◌∷◌, ◌++◌, length, get_or, drop, arith, refl, sym, ap, ◌∙◌}
use Rattle.std.proofs.lemmas.List.{append-nil, at_drop_all, drop_more}
use Rattle.std.proofs.lemmas.Option.{slice_get_read}
use Rattle.std.proofs.Math.Seq.{drop-nil}
use Rattle.ac_forms.specs.Affine.{Affine, shifted}
use Rattle.ac_forms.specs.declared.conj.Conj.{Conj}
use Rattle.ac_forms.specs.declared.row.Row.{Row}
use Rattle.ac_forms.specs.declared.row.Row.TheVariants.{Eq, Div, Ge}
use Rattle.ac_omega_steps.specs.declared.column.Bound.{Bound}
use Rattle.ac_omega_steps.specs.Bounds.{is_low, low_bound, lows, highs}
use Rattle.ac_omega_steps.proofs.Parts.{drop-at}
use Rattle.ac_omega_certify.specs.Descents.{raised_rows}
use Rattle.ac_omega_certify.specs.Leaves.{less}
use Rattle.ac_omega_certify.specs.ShadowSteps.{IsBeside, ShowsAll, Continues}
use Rattle.ac_omega_certify.specs.ShadowRows.{shown_with, shown_rows}
use Rattle.ac_omega_certify.specs.TreePathRows.{StandsAt, Stand, Reaches, Leads, HasOne, IsOnto, IsSameBase, one_form}
use Rattle.ac_omega_certify.specs.declared.descent.Standing.{Standing}
use Rattle.ac_omega_certify.specs.declared.path.TreePath.{TreePath}
use Rattle.ac_omega_certify.proofs.Bounding.{rows-more, shown-cons, lower-shown, lows-length}
use Rattle.ac_omega_certify.proofs.StandingLists.{stand-push, stand-at}
use Rattle.ac_omega_certify.proofs.Paths.{stands-on, stand-on, onto-self, onto-again}

-- one row more
pub shows-one : (t u : TreePath) (start path : Conj) (names : List ℕ) (i : ℕ) (r : Row) (made more : Standing) → IsSameBase t u → HasOne t path → Stand names path made.rows.items made.places.items → Leads u start path names i r
    → more.rows.items ≡ made.rows.items ++ r ∷ [] → more.places.items ≡ made.places.items ++ i ∷ [] → ShowsAll u start path names more
shows-one t u start path names i r made more b o s l er ep = record {
  further = l.further;
  reaches = l.reaches;
  onto = l.onto;
  one = rw b.one (stands-on [] path l.further t.one (Ge one_form) l.onto o);
  stand = rw (er, ep) (stand-push names l.further made.rows.items made.places.items r i (stand-on names path l.further made.rows.items made.places.items l.onto s) l.stands);
}

-- nothing more
pub shows-same : (t : TreePath) (start path : Conj) (names : List ℕ) (made : Standing) → Reaches t start path → HasOne t path → Stand names path made.rows.items made.places.items → ShowsAll t start path names made
shows-same t start path names made h o s = record { further = path; reaches = h; onto = onto-self path; one = o; stand = s }

-- first some, then others
pub shows-again : (t u v : TreePath) (made more most : Standing) (holds : List ℕ → Conj → Type 0) → ((names : List ℕ) (c d : Conj) → IsOnto c d → holds names c → holds names d)
    → Continues t u made more holds → Continues u v more most holds → Continues t v made most holds
shows-again t u v made more most holds on first then = λ start path names h o k s.
    let a = first start path names h o k s in
    let b = then start a.further names a.reaches a.one (on names path a.further a.onto k) a.stand in
    record { further = b.further; reaches = b.reaches; onto = onto-again path a.further b.further a.onto b.onto; one = b.one; stand = b.stand }

row-at : (names : List ℕ) (c : Conj) (rs : List Row) (is : List ℕ) (k : ℕ) (r : Row) (i : ℕ) → Stand names c rs is → k < length rs → r ≡ get_or rs k r → i ≡ get_or is k 0 → StandsAt names c i r
row-at names c rs is k r i s l e f = rw f (stand-at names c rs is k r s (slice_get_read rs (length rs) k r refl l e))

beside-on : (f : Affine) (n : ℤ) (x own : ℕ) (rs : List Row) (is : List ℕ) (names : List ℕ) (c d : Conj) → IsOnto c d → IsBeside f n x own rs is names c → IsBeside f n x own rs is names d
beside-on f n x own rs is names c d o h = record { less = stands-on names c d x (Ge (shifted f (neg_ℤ n))) o h.less; whole = stands-on names c d own (Ge f) o h.whole; all = stand-on names c d rs is o h.all }

-- the rows of a lower row beside the first rows
pub record UppersSoFar (z : ℕ) (f : Affine) (n : ℤ) (x own : ℕ) (rs : List Row) (is : List ℕ) (t u : TreePath) (made more : Standing) (left : List Row) : Type 0 where
  pub rows : made.rows.items ++ shown_with n (low_bound z f) (highs z rs) ≡ more.rows.items ++ shown_with n (low_bound z f) (highs z left)
  pub long : length made.places.items ≡ length made.rows.items → length more.places.items ≡ length more.rows.items
  pub shows : Continues t u made more (IsBeside f n x own rs is)

pub uppers-start : (z : ℕ) (f : Affine) (n : ℤ) (x own : ℕ) (rs : List Row) (is : List ℕ) (t : TreePath) (made : Standing) → UppersSoFar z f n x own rs is t t made made rs
uppers-start z f n x own rs is t made = record { rows = refl; long = λ e. e; shows = λ start path names h o k s. shows-same t start path names made h o s }

pub uppers-more : (z : ℕ) (f : Affine) (n : ℤ) (x own : ℕ) (rs : List Row) (is : List ℕ) (t u v : TreePath) (made more most : Standing) (i : ℕ) (r : Row) (p : ℕ)
    → UppersSoFar z f n x own rs is t u made more (drop i rs) → i < length rs → r ≡ get_or rs i r → p ≡ get_or is i 0
    → most.rows.items ≡ more.rows.items ++ shown_with n (low_bound z f) (highs z (r ∷ [])) → (length more.places.items ≡ length more.rows.items → length most.places.items ≡ length most.rows.items)
    → Continues u v more most (λ names path. IsBeside f n x own rs is names path × StandsAt names path p r)
    → UppersSoFar z f n x own rs is t v made most (drop (i + 1) rs)
uppers-more z f n x own rs is t u v made more most i r p s l e d rows long shows = record {
  rows = rows-more more.rows.items most.rows.items (shown_with n (low_bound z f) (highs z (r ∷ []))) (shown_with n (low_bound z f) (highs z (drop (i + 1) rs))) (shown_with n (low_bound z f) (highs z (drop i rs))) _
      (ap (λ (ls : List Row). shown_with n (low_bound z f) (highs z ls)) (drop-at rs i r l e) ∙ shown-cons z n (low_bound z f) r (drop (i + 1) rs)) s.rows rows;
  long = λ h. long (s.long h);
  shows = shows-again t u v made more most (IsBeside f n x own rs is) (beside-on f n x own rs is) s.shows (λ start path names h o k w. shows start path names h o (k, row-at names path rs is i r p k.all l e d) w);
}

nothing-left : (z : ℕ) (n : ℤ) (low : Bound) (rs : List Row) (i : ℕ) (done : List Row) → length rs ≤ i → done ++ shown_with n low (highs z (drop i rs)) ≡ done
nothing-left z n low rs i done l = at_drop_all (λ (ls : List Row). done ++ shown_with n low (highs z ls)) rs i l ∙ append-nil done

pub uppers-end : (z : ℕ) (f : Affine) (n : ℤ) (x own : ℕ) (rs : List Row) (is : List ℕ) (t u : TreePath) (made more : Standing) (i : ℕ) → UppersSoFar z f n x own rs is t u made more (drop i rs) → length rs ≤ i
    → more.rows.items ≡ made.rows.items ++ shown_with n (low_bound z f) (highs z rs)
uppers-end z f n x own rs is t u made more i s l = sym (s.rows ∙ nothing-left z n (low_bound z f) rs i more.rows.items l)

-- a lower row's place is the first of those that are left
pub raised-here : (z : ℕ) (f : Affine) (n : ℕ) (m : ℤ) (rest : List Row) (ns ps : List ℕ) (k p : ℕ) (names : List ℕ) (c : Conj) → is_low z f ≡ true → m ≡ pos n → k < length ps → p ≡ get_or ps k 0
    → Stand names c (raised_rows z (Ge f ∷ rest) (n ∷ ns)) (drop k ps) → StandsAt names c p (Ge (shifted f (neg_ℤ m)))
raised-here z f n m rest ns ps k p names c h is l e s =
    let t = rw (h, drop_more ps k 0 l) at s in
    rw (is, e) t.0

-- and the others are behind it
raised-left : (z : ℕ) (r : Row) (rest : List Row) (n : ℕ) (ns ps : List ℕ) (names : List ℕ) (c : Conj) → Stand names c (raised_rows z (r ∷ rest) (n ∷ ns)) ps → Stand names c (raised_rows z rest ns) (drop (length (lows z (r ∷ []))) ps)
raised-left z (Eq f) rest n ns ps names c s = s
raised-left z (Div m f) rest n ns ps names c s = s
raised-left z (Ge f) rest n ns ps names c s = by (is_low z f) ps s
  where
    by : (t : Bool) (ps : List ℕ) → Stand names c (cond t (Ge (less f n) ∷ raised_rows z rest ns) (raised_rows z rest ns)) ps → Stand names c (raised_rows z rest ns) (drop (length (cond t (low_bound z f ∷ []) [])) ps)
    by true [] s = absurd s
    by true (p ∷ ps) s = s.1
    by false ps s = s

drop-drop : (ps : List ℕ) (k n m : ℕ) → m ≡ k + n → drop n (drop k ps) ≡ drop m ps
drop-drop [] k n m e = ap (λ (l : List ℕ). drop n l) (drop-nil k) ∙ drop-nil n ∙ sym (drop-nil m)
drop-drop (p ∷ ps) zero n m e = ap (λ (x : ℕ). drop x (p ∷ ps)) (omega (arith, e))
drop-drop (p ∷ ps) (suc k) n zero e = absurd (omega (arith, e))
drop-drop (p ∷ ps) (suc k) n (suc m) e = drop-drop ps k n m (omega (arith, e))

raised-after : (z : ℕ) (r : Row) (rest : List Row) (count : ℕ) (ns ps : List ℕ) (k n : ℕ) (names : List ℕ) (c : Conj) → n ≡ k + length (lows z (r ∷ [])) → Stand names c (raised_rows z (r ∷ rest) (count ∷ ns)) (drop k ps) → Stand names c (raised_rows z rest ns) (drop n ps)
raised-after z r rest count ns ps k n names c e s =
    rw (← (drop-drop ps k (length (lows z (r ∷ []))) n e)) (raised-left z r rest count ns (drop k ps) names c s)

pub one-low : (z : ℕ) (f : Affine) (k m : ℕ) → is_low z f ≡ true → k + length (lows z (Ge f ∷ [])) ≤ m → k < m
one-low z f k m h l = let t = rw h at l in omega arith

-- the rows that are shown for the first rows
pub record LowersSoFar (z : ℕ) (rs : List Row) (is ns ps : List ℕ) (t u : TreePath) (made more : Standing) (used : ℕ) (left : List Row) (numbers : List ℕ) : Type 0 where
  pub rows : made.rows.items ++ shown_rows z rs rs ns ≡ more.rows.items ++ shown_rows z rs left numbers
  pub long : length made.places.items ≡ length made.rows.items → length more.places.items ≡ length more.rows.items
  pub count : used + length (lows z left) ≡ length ps
  pub onward : (names : List ℕ) (c : Conj) → Stand names c (raised_rows z rs ns) ps → Stand names c (raised_rows z left numbers) (drop used ps)
  pub shows : Continues t u made more (λ names c. Stand names c (raised_rows z rs ns) ps × Stand names c rs is)

pub lowers-start : (z : ℕ) (rs : List Row) (is ns ps : List ℕ) (t : TreePath) (made : Standing) → length ps ≡ length (lows z rs) → LowersSoFar z rs is ns ps t t made made 0 rs ns
lowers-start z rs is ns ps t made e = record {
  rows = refl;
  long = λ h. h;
  count = omega (arith, e);
  onward = λ names c s. s;
  shows = λ start path names h o k s. shows-same t start path names made h o s;
}

both-on : (names : List ℕ) (c d : Conj) (xs ys : List Row) (ps is : List ℕ) → IsOnto c d → Stand names c xs ps × Stand names c ys is → Stand names d xs ps × Stand names d ys is
both-on names c d xs ys ps is o h = (stand-on names c d xs ps o h.0, stand-on names c d ys is o h.1)

pub lowers-more : (z : ℕ) (rs : List Row) (is ns ps : List ℕ) (t u v : TreePath) (made more most : Standing) (used next i : ℕ) (r : Row) (own n : ℕ)
    → LowersSoFar z rs is ns ps t u made more used (drop i rs) (drop i ns) → length ns ≡ length rs → i < length rs → r ≡ get_or rs i r → own ≡ get_or is i 0 → n ≡ get_or ns i 0 → next ≡ used + length (lows z (r ∷ []))
    → most.rows.items ≡ more.rows.items ++ shown_rows z rs (r ∷ []) (n ∷ []) → (length more.places.items ≡ length more.rows.items → length most.places.items ≡ length most.rows.items)
    → ((rest : List Row) (counts : List ℕ) → Continues u v more most (λ names path. Stand names path (raised_rows z (r ∷ rest) (n ∷ counts)) (drop used ps) × StandsAt names path own r × Stand names path rs is))
    → LowersSoFar z rs is ns ps t v made most next (drop (i + 1) rs) (drop (i + 1) ns)
lowers-more z rs is ns ps t u v made more most used next i r own n s long-ns l e at_own at_n by rows long shows =
    let d = drop-at rs i r l e in
    let b : drop i ns ≡ n ∷ drop (i + 1) ns = drop_more ns i 0 (omega (arith, l, long-ns)) ∙ ap (λ (k : ℕ). k ∷ drop (i + 1) ns) (sym at_n) in
    let c = lows-length z r (drop (i + 1) rs) in
    let count = rw d at s.count in
    record {
      rows = rows-more more.rows.items most.rows.items (shown_rows z rs (r ∷ []) (n ∷ [])) (shown_rows z rs (drop (i + 1) rs) (drop (i + 1) ns)) (shown_rows z rs (drop i rs) (drop i ns)) _
          (ap (λ (ls : List Row). shown_rows z rs ls (drop i ns)) d ∙ ap (λ (ks : List ℕ). shown_rows z rs (r ∷ drop (i + 1) rs) ks) b ∙ lower-shown z rs r (drop (i + 1) rs) n (drop (i + 1) ns)) s.rows rows;
      long = λ h. long (s.long h);
      count = omega (arith, count, c, by);
      onward = λ names c h. raised-after z r (drop (i + 1) rs) n (drop (i + 1) ns) ps used next names c by (rw (d, b) at (s.onward names c h));
      shows = shows-again t u v made more most (λ names c. Stand names c (raised_rows z rs ns) ps × Stand names c rs is) (λ names c d o h. both-on names c d (raised_rows z rs ns) rs ps is o h) s.shows
          (λ start path names h o k w. shows (drop (i + 1) rs) (drop (i + 1) ns) start path names h o (rw (d, b) at (s.onward names path k.0), row-at names path rs is i r own k.1 l e at_own, k.1) w);
    }

pub lowers-end : (z : ℕ) (rs : List Row) (is ns ps : List ℕ) (t u : TreePath) (made more : Standing) (used i : ℕ) → LowersSoFar z rs is ns ps t u made more used (drop i rs) (drop i ns) → length rs ≤ i
    → more.rows.items ≡ made.rows.items ++ shown_rows z rs rs ns
lowers-end z rs is ns ps t u made more used i s l = sym (s.rows ∙ at_drop_all (λ (ls : List Row). more.rows.items ++ shown_rows z rs ls (drop i ns)) rs i l ∙ append-nil more.rows.items)

pub lowers-within : (z : ℕ) (rs : List Row) (ps : List ℕ) (used i : ℕ) (r : Row) → used + length (lows z (drop i rs)) ≡ length ps → i < length rs → r ≡ get_or rs i r → used + length (lows z (r ∷ [])) ≤ length ps
lowers-within z rs ps used i r count l e =
    let c = rw (drop-at rs i r l e) at count in
    let d = lows-length z r (drop (i + 1) rs) in
    omega (arith, c, d)
