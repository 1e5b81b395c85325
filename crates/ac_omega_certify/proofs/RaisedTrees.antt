-- A lower row that is raised beyond its splinters: the trees behind it, and the path in front of it.
use Rattle.std.proofs.Common.{◌≡◌, ℕ, zero, suc, ◌+◌, ◌*◌, ◌<◌, ◌≤◌, ◌^◌, ℤ, pos, negsuc, neg_ℤ, ◌+ℤ◌, ◌-ℤ◌, ◌*ℤ◌, ◌≤ℤ◌, Bool, true, false, List, [], ◌∷◌, ◌++◌, length, map, take, drop, get_or, Option, Some, None, slice_get, refl, sym, ap, subst, ◌∙◌, arith, lit<, append_assoc, length-append}
use Rattle.std.specs.Prelude.{unsigned_abs, Result, IfOk}
use Rattle.std.specs.Int.Signed.{lt_z}
use Rattle.std.proofs.lemmas.Int.{ints}
use Rattle.std.proofs.Math.Nat.{mul-le-mul_right}
use Rattle.ac_forms.specs.Affine.{Affine, coef}
use Rattle.ac_forms.specs.Fits.{Fits, AllFit}
use Rattle.ac_forms.specs.Rows.{form_of}
use Rattle.ac_forms.specs.declared.conj.Conj.{Conj}
use Rattle.ac_forms.specs.declared.row.Row.{Row}
use Rattle.ac_forms.specs.declared.row.Row.TheVariants.{Eq, Div, Ge}
use Rattle.ac_omega_steps.specs.declared.choose.Choice.{Choice}
use Rattle.ac_cert.specs.declared.ends.Absurd.{Absurd}
use Rattle.ac_cert.specs.declared.types.Tree.{Tree}
use Rattle.ac_cert.specs.AcceptedTrees.{Accepts, absurd_refusals}
use Rattle.ac_omega_steps.specs.Bounds.{is_low}
use Rattle.ac_cert.specs.Rules.{with_row}
use Rattle.ac_omega_certify.specs.ChoiceBranches.{lift_count, lifts, IsAlong, AreAlong, with_rows, Stage, IsOn, IsRaised, worth, IsSplintered, AreRefutedBy, ServeLeaves, splinter_choices, leaf_choices}
use Rattle.ac_omega_certify.specs.Leaves.{less, under, HasRoom, GoesOn, IsLikeAt, AcceptsFrom}
use Rattle.ac_omega_certify.specs.Refutations.{IsFormWithin, IsRowWithin, AreRowsWithin, AreWithin2To120}
use Rattle.ac_omega_certify.specs.TreePathRows.{place_of, coef_of, Renames, Alike, StandsAt, Stand}
use Rattle.ac_omega_certify.specs.SplinterCounts.{SufficesAt, Suffice}
use Rattle.ac_omega_certify.proofs.Branching.{ok-as, onto-rows, along-length, lifts-length}
use Rattle.ac_omega_certify.proofs.Enough.{suffices-long}
use Rattle.ac_omega_certify.proofs.Leaves.{fits-between}
use Rattle.ac_omega_certify.proofs.Paths.{stands-on}
use Rattle.ac_omega_certify.proofs.Renaming.{alike-renames}

-- ---- trees in turn

pub serve-front : (s : Stage) (hs gs : List Choice) (ts us : List (Tree Absurd)) → length ts ≤ length hs → AreRefutedBy s (hs ++ gs) (ts ++ us) → AreRefutedBy s hs ts
serve-front s hs gs [] us l h = tt
serve-front s [] gs (t ∷ ts) us l h = absurd (omega arith)
serve-front s (x ∷ hs) gs (t ∷ ts) us l h = (h.0, serve-front s hs gs ts us (omega arith) h.1)

pub serve-back : (s : Stage) (hs gs : List Choice) (ts us : List (Tree Absurd)) → length ts ≡ length hs → AreRefutedBy s (hs ++ gs) (ts ++ us) → AreRefutedBy s gs us
serve-back s [] gs [] us l h = h
serve-back s [] gs (t ∷ ts) us l h = absurd (omega (arith, l))
serve-back s (x ∷ hs) gs [] us l h = absurd (omega (arith, l))
serve-back s (x ∷ hs) gs (t ∷ ts) us l h = serve-back s hs gs ts us (omega (arith, l)) h.1

splinters-long : (n z i k : ℕ) → length (splinter_choices n z i k) ≡ n
splinters-long zero z i k = refl
splinters-long (suc n) z i k = ap (λ (j : ℕ). suc j) (splinters-long n z i (suc k))

-- ---- the rows

-- a row that has splinters is a lower one
pub record IsLower (r : Row) : Type 0 where
  pub form : Affine
  pub is : r ≡ Ge form
  pub column : ℕ
  pub low : is_low column form ≡ true

row-lower : (z : ℕ) (all : List Row) (r : Row) (n : ℕ) → SufficesAt z all r n → 0 < n → IsLower r
row-lower z all (Eq f) n s h = absurd (omega (arith, s))
row-lower z all (Div m f) n s h = absurd (omega (arith, s))
row-lower z all (Ge f) n s h = by (is_low z f) refl
  where
    by : (t : Bool) → is_low z f ≡ t → IsLower (Ge f)
    by true e = record { form = f; is = refl; column = z; low = e }
    by false e = absurd (let none = s.1 e in omega (arith, none))

lower-at : (z : ℕ) (all rs : List Row) (ns : List ℕ) (i : ℕ) (r : Row) → Suffice z all rs ns → i < length rs → r ≡ get_or rs i r → 0 < get_or ns i 0 → IsLower r
lower-at z all [] ns i r s l e h = absurd (omega arith)
lower-at z all (x ∷ rs) [] i r s l e h = absurd s
lower-at z all (x ∷ rs) (n ∷ ns) zero r s l e h = rw e (row-lower z all x n s.0 h)
lower-at z all (x ∷ rs) (n ∷ ns) (suc i) r s l e h = lower-at z all rs ns i r s.1 (omega arith) e h

pub row-at : (rs : List Row) (i : ℕ) (r : Row) → i < length rs → r ≡ get_or rs i r → slice_get rs i ≡ Some r
row-at [] i r l e = absurd (omega arith)
row-at (x ∷ rs) zero r l e = ap (λ (y : Row). Some y) (sym e)
row-at (x ∷ rs) (suc i) r l e = row-at rs i r (omega arith) e

-- ---- one row further

lifts-none : (rs : List Row) (ns : List ℕ) (i : ℕ) → length ns ≡ length rs → get_or ns i 0 ≡ 0 → lifts (take (suc i) rs) ns ≡ lifts (take i rs) ns
lifts-none [] ns zero l e = refl
lifts-none [] ns (suc i) l e = refl
lifts-none (r ∷ rs) [] i l e = absurd (omega (arith, l))
lifts-none (r ∷ rs) (zero ∷ ns) zero l e = refl
lifts-none (r ∷ rs) (suc n ∷ ns) zero l e = absurd (omega arith)
lifts-none (r ∷ rs) (zero ∷ ns) (suc i) l e = lifts-none rs ns i (omega (arith, l)) e
lifts-none (r ∷ rs) (suc n ∷ ns) (suc i) l e = ap (λ (xs : List Row). Ge (less (form_of r) (suc n)) ∷ xs) (lifts-none rs ns i (omega (arith, l)) e)

lifts-one : (rs : List Row) (ns : List ℕ) (i : ℕ) (r : Row) → length ns ≡ length rs → i < length rs → r ≡ get_or rs i r → 0 < get_or ns i 0 → lifts (take (suc i) rs) ns ≡ lifts (take i rs) ns ++ Ge (less (form_of r) (get_or ns i 0)) ∷ []
lifts-one [] ns i r l h e p = absurd (omega arith)
lifts-one (x ∷ rs) [] i r l h e p = absurd (omega (arith, l))
lifts-one (x ∷ rs) (zero ∷ ns) zero r l h e p = absurd (omega arith)
lifts-one (x ∷ rs) (suc n ∷ ns) zero r l h e p = ap (λ (y : Row). Ge (less (form_of y) (suc n)) ∷ []) (sym e)
lifts-one (x ∷ rs) (zero ∷ ns) (suc i) r l h e p = lifts-one rs ns i r (omega (arith, l)) (omega arith) e p
lifts-one (x ∷ rs) (suc n ∷ ns) (suc i) r l h e p = ap (λ (xs : List Row). Ge (less (form_of x) (suc n)) ∷ xs) (lifts-one rs ns i r (omega (arith, l)) (omega arith) e p)

pub raised-same : (ns : List ℕ) (rs : List Row) (counts : List ℕ) (i : ℕ) (c d : Conj) → length counts ≡ length rs → get_or counts i 0 ≡ 0 → IsRaised ns (take i rs) counts c d → IsRaised ns (take (i + 1) rs) counts c d
raised-same ns rs counts i c d l e h =
    let s : i + 1 ≡ suc i = omega arith in
    record { more = h.more; along = rw (s, lifts-none rs counts i l e) h.along; is = h.is }

along-more : (ns : List ℕ) (rs ss : List Row) (r s : Row) → AreAlong ns rs ss → IsAlong ns r s → AreAlong ns (rs ++ r ∷ []) (ss ++ s ∷ [])
along-more ns [] [] r s h g = (g, tt)
along-more ns [] (y ∷ ss) r s h g = absurd h
along-more ns (x ∷ rs) [] r s h g = absurd h
along-more ns (x ∷ rs) (y ∷ ss) r s h g = (h.0, along-more ns rs ss r s h.1 g)

less-coef : (o : Option ℕ) (f : Affine) (n : ℕ) → coef_of o (less f n) ≡ coef_of o f
less-coef None f n = refl
less-coef (Some k) f n = refl

renames-less : (ns : List ℕ) (f g : Affine) (n : ℕ) → Renames ns f g → Renames ns (less f n) (less g n)
renames-less ns f g n h = record { konst = ap (λ (k : ℤ). k +ℤ neg_ℤ (pos n)) h.konst; coefs = λ j. h.coefs j ∙ sym (less-coef (place_of j ns) f n) }

pub raised-more : (ns : List ℕ) (rs : List Row) (counts : List ℕ) (i : ℕ) (r : Row) (g : Affine) (c d : Conj) → length counts ≡ length rs → i < length rs → r ≡ get_or rs i r → 0 < get_or counts i 0 → Renames ns (form_of r) g → IsRaised ns (take i rs) counts c d
    → IsRaised ns (take (i + 1) rs) counts c (with_row d (Ge (less g (get_or counts i 0))))
raised-more ns rs counts i r g c d l w e p x h =
    let n = get_or counts i 0 in
    let s : i + 1 ≡ suc i = omega arith in
    let row : IsAlong ns (Ge (less (form_of r) n)) (Ge (less g n)) = record { form = less g n; is = refl; renames = renames-less ns (form_of r) g n x } in
    record {
      more = h.more ++ Ge (less g n) ∷ [];
      along = rw (s, lifts-one rs counts i r l w e p) (along-more ns (lifts (take i rs) counts) h.more (Ge (less (form_of r) n)) (Ge (less g n)) h.along row);
      is = ap (λ (q : Conj). with_row q (Ge (less g n))) h.is ∙ ap (λ (q : List Row). record { columns = c.columns; rows = q }) (append_assoc c.rows h.more (Ge (less g n) ∷ []));
    }

pub raised-whole : (ns : List ℕ) (rs : List Row) (counts : List ℕ) (i : ℕ) (c d : Conj) → i ≡ length rs → IsRaised ns (take i rs) counts c d → IsRaised ns rs counts c d
raised-whole ns rs counts i c d e h = subst (λ (q : List Row). IsRaised ns q counts c d) (whole rs i e) h
  where
    whole : (rs : List Row) (i : ℕ) → i ≡ length rs → take i rs ≡ rs
    whole [] zero e = refl
    whole [] (suc i) e = absurd (omega (arith, e))
    whole (r ∷ rs) zero e = absurd (omega (arith, e))
    whole (r ∷ rs) (suc i) e = ap (λ (xs : List Row). r ∷ xs) (whole rs i (omega (arith, e)))

pub raised-nothing : (ns : List ℕ) (rs : List Row) (counts : List ℕ) (c : Conj) → IsRaised ns (take 0 rs) counts c c
raised-nothing ns rs counts c = record { more = []; along = tt; is = ap (λ (q : List Row). record { columns = c.columns; rows = q }) (sym (none c.rows)) }
  where
    none : (xs : List Row) → xs ++ [] ≡ xs
    none [] = refl
    none (x ∷ xs) = ap (λ (ys : List Row). x ∷ ys) (none xs)

-- ---- the counts

pub counts-front : (ns : List ℕ) (i : ℕ) → i < length ns → drop i ns ≡ get_or ns i 0 ∷ drop (i + 1) ns
counts-front [] i h = absurd (omega arith)
counts-front (x ∷ xs) zero h = refl
counts-front (x ∷ xs) (suc i) h = counts-front xs i (omega arith) ∙ ap (λ (k : ℕ). get_or xs i 0 ∷ drop k (x ∷ xs)) (more i)
  where
    more : (i : ℕ) → suc (i + 1) ≡ suc i + 1
    more i = omega arith

pub leaves-front : (z i : ℕ) (ns : List ℕ) → i < length ns → leaf_choices z i (drop i ns) ≡ splinter_choices (get_or ns i 0) z i 0 ++ leaf_choices z (i + 1) (drop (i + 1) ns)
leaves-front z i ns h =
    let s : suc i ≡ i + 1 = omega arith in
    ap (leaf_choices z i) (counts-front ns i h) ∙ ap (λ (j : ℕ). splinter_choices (get_or ns i 0) z i 0 ++ leaf_choices z j (drop (i + 1) ns)) s

pub counts-long : (rs : List Row) (counts : List ℕ) → ((z : ℕ) × Suffice z rs rs counts) → length counts ≡ length rs
counts-long rs counts h = suffices-long h.0 rs rs counts h.1

-- what serves the later rows
pub serves-same : (s : Stage) (i : ℕ) (ts : List (Tree Absurd)) → i < length s.counts → get_or s.counts i 0 ≡ 0 → ServeLeaves s i ts → ServeLeaves s (i + 1) ts
serves-same s i ts l e h =
    let front : leaf_choices h.column i (drop i s.counts) ≡ leaf_choices h.column (i + 1) (drop (i + 1) s.counts) =
    leaves-front h.column i s.counts l ∙ ap (λ (n : ℕ). splinter_choices n h.column i 0 ++ leaf_choices h.column (i + 1) (drop (i + 1) s.counts)) e in
    record { column = h.column; served = subst (λ (hs : List Choice). AreRefutedBy s hs ts) front h.served; long = h.long ∙ ap length front }

pub record Served (s : Stage) (i : ℕ) (ts front back : List (Tree Absurd)) : Type 0 where
  pub column : ℕ
  pub here : AreRefutedBy s (splinter_choices (get_or s.counts i 0) column i 0) front
  pub later : ServeLeaves s (i + 1) back
  pub front-long : length front ≡ get_or s.counts i 0
  pub back-long : length back ≤ length ts

pub leaves-long : (s : Stage) (i : ℕ) (ts : List (Tree Absurd)) → i < length s.counts → ServeLeaves s i ts → get_or s.counts i 0 ≤ length ts
leaves-long s i ts l h =
    let n0 = get_or s.counts i 0 in
    omega (arith, h.long, ap length (leaves-front h.column i s.counts l), length-append (splinter_choices n0 h.column i 0) (leaf_choices h.column (i + 1) (drop (i + 1) s.counts)), splinters-long n0 h.column i 0)

pub serves-parts : (s : Stage) (i : ℕ) (ts front back : List (Tree Absurd)) → i < length s.counts → front ≡ take (get_or s.counts i 0) ts → back ≡ drop (get_or s.counts i 0) ts → ServeLeaves s i ts → Served s i ts front back
serves-parts s i ts front back l ef eb h =
    let n0 = get_or s.counts i 0 in
    let here = splinter_choices n0 h.column i 0 in
    let later = leaf_choices h.column (i + 1) (drop (i + 1) s.counts) in
    let within : n0 ≤ length ts = leaves-long s i ts l h in
    let whole : ts ≡ front ++ back = sym (rw (ef, eb) (parts n0 ts)) in
    let size : length front ≡ n0 = ap length ef ∙ front-size n0 ts within in
    let long : length front ≡ length here = size ∙ sym (splinters-long n0 h.column i 0) in
    let all : AreRefutedBy s (here ++ later) (front ++ back) = subst (λ (us : List (Tree Absurd)). AreRefutedBy s (here ++ later) us) whole (subst (λ (hs : List Choice). AreRefutedBy s hs ts) (leaves-front h.column i s.counts l) h.served) in
    let rest : length back ≡ length later =
    omega (arith, h.long, ap length (leaves-front h.column i s.counts l), length-append here later, long, ap length whole, length-append front back) in
    record {
      column = h.column;
      here = serve-front s here later front back (omega (arith, long)) all;
      later = record { column = h.column; served = serve-back s here later front back long all; long = rest };
      front-long = size;
      back-long = omega (arith, ap length whole, length-append front back);
    }
  where
    parts : (n : ℕ) (xs : List (Tree Absurd)) → take n xs ++ drop n xs ≡ xs
    parts zero xs = refl
    parts (suc n) [] = refl
    parts (suc n) (x ∷ xs) = ap (λ (ys : List (Tree Absurd)). x ∷ ys) (parts n xs)

    front-size : (n : ℕ) (xs : List (Tree Absurd)) → n ≤ length xs → length (take n xs) ≡ n
    front-size zero xs l = refl
    front-size (suc n) [] l = absurd (omega arith)
    front-size (suc n) (x ∷ xs) l = ap (λ (k : ℕ). suc k) (front-size n xs (omega arith))

-- ---- the leaves

less-next : (f : Affine) (k : ℕ) → less (less f k) 1 ≡ less f (suc k)
less-next f k = ap (λ (x : ℤ). record { konst = x; coefs = f.coefs }) (next f.konst k)
  where
    next : (x : ℤ) (k : ℕ) → (x +ℤ neg_ℤ (pos k)) +ℤ neg_ℤ (pos 1) ≡ x +ℤ neg_ℤ (pos (suc k))
    next x k = omega (arith, ints)

less-zero : (f : Affine) → less f 0 ≡ f
less-zero f = ap (λ (x : ℤ). record { konst = x; coefs = f.coefs }) (none f.konst)
  where
    none : (x : ℤ) → x +ℤ neg_ℤ (pos 0) ≡ x
    none x = omega (arith, ints)

worth-less : (ns : List ℕ) (f g : Affine) (k : ℕ) → Renames ns f g → Renames ns (worth (pos k) f) (less g k)
worth-less ns f g k h = record { konst = ap (λ (x : ℤ). x +ℤ neg_ℤ (pos k)) h.konst ∙ same f.konst k; coefs = λ j. h.coefs j ∙ sym (worth-coef (place_of j ns)) }
  where
    same : (x : ℤ) (k : ℕ) → x +ℤ neg_ℤ (pos k) ≡ x -ℤ pos k
    same x k = omega (arith, ints)

    worth-coef : (o : Option ℕ) → coef_of o (worth (pos k) f) ≡ coef_of o f
    worth-coef None = refl
    worth-coef (Some j) = refl

-- each leaf is accepted behind the row that says that the row's form is less than the number of leaves
leaves-from : (s : Stage) (z i n k : ℕ) (f g u : Affine) (c d : Conj) (ts : List (Tree Absurd)) → IsOn s c → IsRaised s.names (take i s.rows) s.counts c d → slice_get s.rows i ≡ Some (Ge f) → Renames s.names f g → AreRefutedBy s (splinter_choices n z i k) ts
    → AcceptsFrom ts (less g k) s.depth (with_row d (Ge u))
leaves-from s z i n k f g u c d [] on up at x h = tt
leaves-from s z i zero k f g u c d (t ∷ ts) on up at x h = absurd h
leaves-from s z i (suc n) k f g u c d (t ∷ ts) on up at x h = (
  (λ e goes v alike. h.0 c (with_row e (Eq v)) on (behind e goes v alike)),
  subst (λ (y : Affine). AcceptsFrom ts y s.depth (with_row d (Ge u))) (sym (less-next g k)) (leaves-from s z i n (suc k) f g u c d ts on up at x h.1),
)
  where
    only : (f' : Affine) → slice_get s.rows i ≡ Some (Ge f') → f' ≡ f
    only f' e = cc

    behind : (e : Conj) → GoesOn s.depth (with_row d (Ge u)) e → (v : Affine) → Alike (less g k) v → IsSplintered s i (pos k) c (with_row e (Eq v))
    behind e goes v alike =
        let last = Eq v ∷ [] in
        let rest = Ge u ∷ goes.more in
        let rows : (((c.rows ++ up.more) ++ Ge u ∷ []) ++ goes.more) ++ last ≡ c.rows ++ (up.more ++ (rest ++ last)) =
        ap (λ (q : List Row). q ++ last) (append_assoc (c.rows ++ up.more) (Ge u ∷ []) goes.more) ∙ append_assoc (c.rows ++ up.more) rest last ∙ append_assoc c.rows up.more (rest ++ last) in
        let first : e ≡ record { columns = c.columns; rows = ((c.rows ++ up.more) ++ Ge u ∷ []) ++ goes.more } = goes.is ∙ ap (λ (q : Conj). record { columns = q.columns; rows = (q.rows ++ Ge u ∷ []) ++ goes.more }) up.is in
        record {
          raised = up.more;
          between = rest;
          form = v;
          along = up.along;
          long = omega (arith, goes.long);
          renames = λ f' e'. rw (only f' e') (alike-renames s.names (worth (pos k) f) (less g k) v (worth-less s.names f g k x) alike);
          is = ap (λ (q : Conj). with_row q (Eq v)) first ∙ ap (λ (q : List Row). record { columns = c.columns; rows = q }) rows;
        }

-- ---- the row on the path

alike-of : (ns : List ℕ) (f g h : Affine) → Renames ns f g → Renames ns f h → Alike g h
alike-of ns f g h x y = record { konst = y.konst ∙ sym x.konst; coefs = λ j. y.coefs j ∙ sym (x.coefs j) }

stand-at : (ns : List ℕ) (c : Conj) (rs : List Row) (ps : List ℕ) (i : ℕ) (r : Row) → Stand ns c rs ps → i < length rs → r ≡ get_or rs i r → StandsAt ns c (get_or ps i 0) r
stand-at ns c [] ps i r h l e = absurd (omega arith)
stand-at ns c (x ∷ rs) [] i r h l e = absurd h
stand-at ns c (x ∷ rs) (p ∷ ps) zero r h l e = rw e h.0
stand-at ns c (x ∷ rs) (p ∷ ps) (suc i) r h l e = stand-at ns c rs ps i r h.1 (omega arith) e

like-at : (s : Stage) (i : ℕ) (f g : Affine) (c d : Conj) (more : List Row) → IsOn s c → d ≡ with_rows c more → i < length s.rows → Ge f ≡ get_or s.rows i (Ge f) → Renames s.names f g → IsLikeAt d (get_or s.places i 0) g
like-at s i f g c d more on is l e x =
    let at : StandsAt s.names c (get_or s.places i 0) (Ge f) = stand-at s.names c s.rows s.places i (Ge f) on.stand l e in
    let there : StandsAt s.names (with_rows c more) (get_or s.places i 0) (Ge f) = stands-on s.names c (with_rows c more) (get_or s.places i 0) (Ge f) (onto-rows c more) at in
    rw is (there.form, there.at, alike-of s.names f g there.form x there.renames)

-- ---- numbers

all-fit : (cs : List ℤ) → ((j : ℕ) → Fits (get_or cs j (pos 0))) → AllFit cs
all-fit [] h = tt
all-fit (c ∷ cs) h = (h 0, all-fit cs (λ j. h (suc j)))

small-fits : (x : ℤ) → unsigned_abs x ≤ 2 ^ 120 → Fits x
small-fits (pos n) h = record { sfits = omega (arith, ints, h) }
small-fits (negsuc n) h = record { sfits = omega (arith, ints, h) }

turned-fits : (x : ℤ) → unsigned_abs x ≤ 2 ^ 120 → Fits (negsuc 0 *ℤ x)
turned-fits x h = rw (turned x) (small-fits (neg_ℤ x) (size x h))
  where
    turned : (x : ℤ) → negsuc 0 *ℤ x ≡ neg_ℤ x
    turned x = omega (arith, ints)

    size : (x : ℤ) → unsigned_abs x ≤ 2 ^ 120 → unsigned_abs (neg_ℤ x) ≤ 2 ^ 120
    size x h = omega (arith, ints, h)

low-fits : (x : ℤ) (n : ℕ) → unsigned_abs x ≤ 2 ^ 120 → n < 2 ^ 64 → Fits (x -ℤ pos n)
low-fits x n h l = fits-between (negsuc (2 ^ 122)) (pos (2 ^ 122)) (x -ℤ pos n) (record { sfits = lit< tt }) (record { sfits = lit< tt }) (above x h) (below x h)
  where
    above : (x : ℤ) → unsigned_abs x ≤ 2 ^ 120 → negsuc (2 ^ 122) ≤ℤ (x -ℤ pos n)
    above x h = omega (arith, ints, h, l)

    below : (x : ℤ) → unsigned_abs x ≤ 2 ^ 120 → (x -ℤ pos n) ≤ℤ pos (2 ^ 122)
    below x h = omega (arith, ints, h, l)

high-fits : (x : ℤ) (n : ℕ) → unsigned_abs x ≤ 2 ^ 120 → n < 2 ^ 64 → Fits (negsuc 0 *ℤ x +ℤ pos n)
high-fits x n h l = fits-between (negsuc (2 ^ 122)) (pos (2 ^ 122)) (negsuc 0 *ℤ x +ℤ pos n) (record { sfits = lit< tt }) (record { sfits = lit< tt }) (above x h) (below x h)
  where
    above : (x : ℤ) → unsigned_abs x ≤ 2 ^ 120 → negsuc (2 ^ 122) ≤ℤ (negsuc 0 *ℤ x +ℤ pos n)
    above x h = omega (arith, ints, h, l)

    below : (x : ℤ) → unsigned_abs x ≤ 2 ^ 120 → (negsuc 0 *ℤ x +ℤ pos n) ≤ℤ pos (2 ^ 122)
    below x h = omega (arith, ints, h, l)

turned-all : (cs : List ℤ) → ((j : ℕ) → unsigned_abs (get_or cs j (pos 0)) ≤ 2 ^ 120) → AllFit (map (λ (c : ℤ). negsuc 0 *ℤ c) cs)
turned-all [] h = tt
turned-all (c ∷ cs) h = (turned-fits c (h 0), turned-all cs (λ j. h (suc j)))

room-of : (f : Affine) (n : ℕ) → ((j : ℕ) → unsigned_abs (coef j f) ≤ 2 ^ 120) → unsigned_abs f.konst ≤ 2 ^ 120 → n < 2 ^ 64 → HasRoom f n
room-of f n cs k l = record {
  form = (all-fit f.coefs (λ j. small-fits (coef j f) (cs j)), small-fits f.konst k);
  turned = (turned-all f.coefs cs, turned-fits f.konst k);
  low = low-fits f.konst n k l;
  high = high-fits f.konst n k l;
}

within-at : (factor number : ℕ) (rs : List Row) (i : ℕ) (r : Row) → AreRowsWithin factor number rs → i < length rs → r ≡ get_or rs i r → IsRowWithin factor number r
within-at factor number [] i r h l e = absurd (omega arith)
within-at factor number (x ∷ rs) zero r h l e = subst (IsRowWithin factor number) (sym e) h.0
within-at factor number (x ∷ rs) (suc i) r h l e = within-at factor number rs i r h.1 (omega arith) e

low-size : (k : ℤ) → lt_z (pos 0) k ≡ true → 1 ≤ unsigned_abs k
low-size (pos zero) e = absurd cc
low-size (pos (suc n)) e = omega (arith, ints)
low-size (negsuc n) e = absurd cc

number-small : (a b : ℕ) → 1 ≤ a → a * b ≤ 2 ^ 120 → b ≤ 2 ^ 120
number-small zero b h l = absurd (omega arith)
number-small (suc a) b h l = omega (arith, mul-le-mul_right b (one-more a))
  where
    one-more : (a : ℕ) → 1 ≤ suc a
    one-more a = omega arith

-- the form of a lower row on the path has room for as many numbers as there may be trees
pub lower-room : (rs : List Row) (i : ℕ) (r : Row) (g : Affine) (n : ℕ) → AreWithin2To120 rs [] → i < length rs → r ≡ get_or rs i r → IsLower r → g.konst ≡ (form_of r).konst → ((b : ℕ) → ((j : ℕ) → unsigned_abs (coef j (form_of r)) ≤ b) → (j : ℕ) → unsigned_abs (coef j g) ≤ b) → n < 2 ^ 64
    → HasRoom g n
lower-room rs i r g n m l e w k s small =
    let h : IsFormWithin m.factor m.number w.form = subst (IsRowWithin m.factor m.number) w.is (within-at m.factor m.number rs i r m.rows l e) in
    let one : 1 ≤ m.factor = omega (arith, low-size (coef w.column w.form) w.low, h.factors w.column) in
    let most : m.number ≤ 2 ^ 120 = number-small m.factor m.number one m.product in
    let form : form_of r ≡ w.form = ap form_of w.is in
    let coefs : (j : ℕ) → unsigned_abs (coef j (form_of r)) ≤ 2 ^ 120 = λ j. rw form (omega (arith, h.coefs j, most)) in
    room-of g n (s (2 ^ 120) coefs) (rw (k, form) (omega (arith, h.konst, most))) small

-- ---- the tree of a row

pub record Behind (s : Stage) (i : ℕ) (r : Row) (g : Affine) (leaves : List (Tree Absurd)) (onward : Tree Absurd) (end : ℕ) : Type 0 where
  pub within : i < length s.rows
  pub long : length s.counts ≡ length s.rows
  pub row : r ≡ get_or s.rows i r
  pub lower : IsLower r
  pub some : 0 < get_or s.counts i 0
  pub count : length leaves ≡ get_or s.counts i 0
  pub column : ℕ
  pub served : AreRefutedBy s (splinter_choices (get_or s.counts i 0) column i 0) leaves
  pub ends : end ≡ s.base.rows + lift_count (take i s.counts)
  pub short : length g.coefs ≤ s.base.columns

pub raised-behind : (s : Stage) (i end : ℕ) (r : Row) (g : Affine) (leaves : List (Tree Absurd)) (onward t : Tree Absurd) → Behind s i r g leaves onward end → ((c : Conj) → IsOn s c → Renames s.names (form_of r) g)
    → ((c d : Conj) → IsOn s c → IsRaised s.names (take (i + 1) s.rows) s.counts c d → Accepts onward absurd_refusals d)
    → ((c : Conj) → length g.coefs ≤ c.columns → length c.rows ≡ end → IsLikeAt c (get_or s.places i 0) g → Accepts onward absurd_refusals (with_row c (Ge (less g (length leaves)))) → AcceptsFrom leaves g s.depth (with_row c (Ge (under g (length leaves)))) → Accepts t absurd_refusals c)
    → (c d : Conj) → IsOn s c → IsRaised s.names (take i s.rows) s.counts c d → Accepts t absurd_refusals d
raised-behind s i end r g leaves onward t b named go make c d on up =
    let x : Renames s.names (form_of r) g = named c on in
    let f = b.lower.form in
    let form : form_of r ≡ f = ap form_of b.lower.is in
    let xf : Renames s.names f g = subst (λ (y : Affine). Renames s.names y g) form x in
    let at : slice_get s.rows i ≡ Some (Ge f) = row-at s.rows i r b.within b.row ∙ ap (λ (y : Row). Some y) b.lower.is in
    let own : Ge f ≡ get_or s.rows i (Ge f) = subst (λ (y : Row). y ≡ get_or s.rows i y) b.lower.is b.row in
    let columns : d.columns ≡ s.base.columns = ap (λ (q : Conj). q.columns) up.is ∙ on.columns in
    let short : length g.coefs ≤ d.columns = omega (arith, b.short, columns) in
    let size : length up.more ≡ lift_count (take i s.counts) = along-length s.names (lifts (take i s.rows) s.counts) up.more up.along ∙ lifts-length i s.rows s.counts b.long in
    let long : length d.rows ≡ end = ap (λ (q : Conj). length q.rows) up.is ∙ omega (arith, length-append c.rows up.more, on.rows, size, b.ends) in
    let next = raised-more s.names s.rows s.counts i r g c d b.long b.within b.row b.some x up in
    let further : Accepts onward absurd_refusals (with_row d (Ge (less g (length leaves)))) = subst (λ (n : ℕ). Accepts onward absurd_refusals (with_row d (Ge (less g n)))) (sym b.count) (go c (with_row d (Ge (less g (get_or s.counts i 0)))) on next) in
    let from : AcceptsFrom leaves (less g 0) s.depth (with_row d (Ge (under g (length leaves)))) = leaves-from s b.column i (get_or s.counts i 0) 0 f g (under g (length leaves)) c d leaves on up at xf b.served in
    make d short long (like-at s i f g c d up.more on up.is b.within own xf) further (subst (λ (y : Affine). AcceptsFrom leaves y s.depth (with_row d (Ge (under g (length leaves))))) (less-zero g) from)

pub raised-by : {E : Type 0} (s : Stage) (i end : ℕ) (r : Row) (g : Affine) (leaves : List (Tree Absurd)) (onward : Tree Absurd) (res : Result (Tree Absurd) E) → Behind s i r g leaves onward end → ((c : Conj) → IsOn s c → Renames s.names (form_of r) g)
    → ((c d : Conj) → IsOn s c → IsRaised s.names (take (i + 1) s.rows) s.counts c d → Accepts onward absurd_refusals d)
    → IfOk res (λ t. (c : Conj) → length g.coefs ≤ c.columns → length c.rows ≡ end → IsLikeAt c (get_or s.places i 0) g → Accepts onward absurd_refusals (with_row c (Ge (less g (length leaves)))) → AcceptsFrom leaves g s.depth (with_row c (Ge (under g (length leaves)))) → Accepts t absurd_refusals c)
    → IfOk res (λ t. (c d : Conj) → IsOn s c → IsRaised s.names (take i s.rows) s.counts c d → Accepts t absurd_refusals d)
raised-by s i end r g leaves onward res b named go k =
    ok-as (λ (t : Tree Absurd). (c : Conj) → length g.coefs ≤ c.columns → length c.rows ≡ end → IsLikeAt c (get_or s.places i 0) g → Accepts onward absurd_refusals (with_row c (Ge (less g (length leaves)))) → AcceptsFrom leaves g s.depth (with_row c (Ge (under g (length leaves)))) → Accepts t absurd_refusals c)
    (λ (t : Tree Absurd). (c d : Conj) → IsOn s c → IsRaised s.names (take i s.rows) s.counts c d → Accepts t absurd_refusals d) res
    (λ t make. raised-behind s i end r g leaves onward t b named go make) k

pub raised-past : {E : Type 0} (s : Stage) (i : ℕ) (res : Result (Tree Absurd) E) → length s.counts ≡ length s.rows → get_or s.counts i 0 ≡ 0
    → IfOk res (λ t. (c d : Conj) → IsOn s c → IsRaised s.names (take (i + 1) s.rows) s.counts c d → Accepts t absurd_refusals d)
    → IfOk res (λ t. (c d : Conj) → IsOn s c → IsRaised s.names (take i s.rows) s.counts c d → Accepts t absurd_refusals d)
raised-past s i res l e k =
    ok-as (λ (t : Tree Absurd). (c d : Conj) → IsOn s c → IsRaised s.names (take (i + 1) s.rows) s.counts c d → Accepts t absurd_refusals d)
    (λ (t : Tree Absurd). (c d : Conj) → IsOn s c → IsRaised s.names (take i s.rows) s.counts c d → Accepts t absurd_refusals d) res
    (λ t h c d on up. h c d on (raised-same s.names s.rows s.counts i c d l e up)) k

pub lower-row : (rs : List Row) (counts : List ℕ) (i : ℕ) (r : Row) → ((z : ℕ) × Suffice z rs rs counts) → i < length rs → r ≡ get_or rs i r → 0 < get_or counts i 0 → IsLower r
lower-row rs counts i r h l e p = lower-at h.0 rs rs counts i r h.1 l e p
