-- Rows that come together part by part, and are brought into normal form on the way.
use Rattle.std.proofs.Common.{◌≡◌, ◌↔◌, ℤ, ℕ, zero, suc, arith, ◌+◌, ◌<◌, ◌≤◌, List, [], ◌∷◌, ◌++◌, length, get_or, drop, map, append_assoc, Option, Some, None, Bool, true, false, ◌&&◌, cond, refl, sym, ap, ◌∙◌, subst}
use Rattle.std.specs.Prelude.{IfSome}
use Rattle.ac_forms.specs.NormalForm.{normal_form, normal_conj}
use Rattle.ac_forms.specs.Rows.{AreRowsOver, HaveModuli, IsWellMade, Meets}
use Rattle.ac_forms.specs.RangeTests.{rows_fit}
use Rattle.ac_forms.specs.declared.conj.Conj.{Conj}
use Rattle.ac_forms.specs.declared.row.Row.{Row}
use Rattle.ac_forms.proofs.Joining.{form_keeps}
use Rattle.ac_forms.proofs.Passes.{moduli_of}
use Rattle.ac_omega_steps.specs.declared.column.Bound.{Bound}
use Rattle.ac_omega_steps.specs.declared.choose.Choice.{Choice}
use Rattle.ac_omega_steps.specs.declared.choose.Choice.TheVariants as choice
use Rattle.ac_omega_steps.specs.Bounds.{lows, highs, rows_without}
use Rattle.ac_omega_steps.specs.Choices.{shadows_with, shadows, substitute_residue_row, is_legal, left_by}
use Rattle.ac_omega_steps.specs.ChoiceFits.{sizes_fit, all_spread_fit, ArePositive, shadows_fit_with, shadows_fit, after_choice, raw, choice_fits}
use Rattle.ac_omega_steps.specs.LeftRows.{normal_of, with_more, AreBoundsOver}
use Rattle.ac_omega_steps.proofs.Composing.{fit_parts, form_parts, form_fit_parts}
use Rattle.ac_omega_steps.proofs.LeftMade.{rows_without-made, append-made, lows-made, highs-made, shadows_with-made, raw_made}
use Rattle.ac_omega_steps.proofs.Parts.{drop-at, lows_positive, highs_positive}

-- ---- rows within the room

made_of : {A : Type 0} (b : Bool) (x y : A) → Some x ≡ cond b (Some y) None → (b ≡ true) × (x ≡ y)
made_of true x y e = (refl, cc)
made_of false x y e = absurd cc

none_of : {A : Type 0} (b : Bool) (y : A) → None ≡ cond b (Some y) None → b ≡ false
none_of true y e = absurd cc
none_of false y e = refl

wide_parts : (xs ys : List Row) → rows_fit xs ≡ false → None ≡ normal_of (Some (xs ++ ys))
wide_parts xs ys e = ap (λ (b : Bool). cond b (Some (normal_form (xs ++ ys))) None) (sym (fit_parts xs ys ∙ ap (λ (b : Bool). b && rows_fit ys) e))

normal_parts : (xs ys : List Row) → HaveModuli xs → rows_fit xs ≡ true → normal_of (Some (normal_form xs ++ ys)) ≡ normal_of (Some (xs ++ ys))
normal_parts xs ys m f =
    ap (λ (b : Bool). cond b (Some (normal_form (normal_form xs ++ ys))) None) (form_fit_parts xs ys f)
    ∙ ap (λ (rs : List Row). cond (rows_fit (xs ++ ys)) (Some rs) None) (form_parts xs ys m)

pub within_none : (c : Conj) (o : Option Conj) (more : List Row) → o ≡ cond (rows_fit c.rows) (Some (normal_conj c)) None → o ≡ None → None ≡ normal_of (Some (c.rows ++ more))
within_none c o more e n = wide_parts c.rows more (none_of (rows_fit c.rows) (normal_conj c) (sym n ∙ e))

pub within_some : (c d : Conj) (o : Option Conj) (more : List Row) → AreRowsOver c.columns c.rows → o ≡ cond (rows_fit c.rows) (Some (normal_conj c)) None → o ≡ Some d → normal_of (Some (d.rows ++ more)) ≡ normal_of (Some (c.rows ++ more))
within_some c d o more w e s =
    let t = made_of (rows_fit c.rows) d (normal_conj c) (sym s ∙ e) in
    ap (λ (x : Conj). normal_of (Some (x.rows ++ more))) t.1 ∙ normal_parts c.rows more (moduli_of c.columns c.rows w) t.0

-- ---- the shadows of one lower row after the other

-- what is made so far stands for the shadows of the lower rows so far
pub record ShadowsSoFar (columns : ℕ) (lows highs : List Bound) (start made : List Row) (i : ℕ) : Type 0 where
  pub same : normal_of (cond (shadows_fit (drop i lows) highs) (Some (made ++ shadows (drop i lows) highs)) None) ≡ normal_of (cond (shadows_fit lows highs) (Some (start ++ shadows lows highs)) None)
  pub over : AreRowsOver columns made

bound_over : (n : ℕ) (bs : List Bound) (i : ℕ) (b : Bound) → AreBoundsOver n bs → i < length bs → b ≡ get_or bs i b → length b.rest.coefs ≤ n
bound_over n [] i b h m e = absurd (omega (arith, m))
bound_over n (x ∷ bs) zero b h m e = subst (λ (y : Bound). length y.rest.coefs ≤ n) (sym e) h.0
bound_over n (x ∷ bs) (suc i) b h m e = bound_over n bs i b h.1 (omega (arith, m)) e

-- the shadows of one lower row more are made
pub record NextShadows (columns : ℕ) (lows highs : List Bound) (start more : List Row) (i : ℕ) : Type 0 where
  pub same : normal_of (cond (shadows_fit (drop (i + 1) lows) highs) (Some (more ++ shadows (drop (i + 1) lows) highs)) None) ≡ normal_of (cond (shadows_fit lows highs) (Some (start ++ shadows lows highs)) None)
  pub over : AreRowsOver columns more

pub next_shadows : (n : ℕ) (lows highs : List Bound) (start made more : List Row) (i : ℕ) (low : Bound) (o : Option (List Row)) → AreBoundsOver n lows → AreBoundsOver n highs → ShadowsSoFar n lows highs start made i
    → i < length lows → low ≡ get_or lows i low → o ≡ cond (shadows_fit_with low highs) (Some (made ++ shadows_with low highs)) None → o ≡ Some more → NextShadows n lows highs start more i
next_shadows n lows highs start made more i low o wl wh s l e m k =
    let t = made_of (shadows_fit_with low highs) more (made ++ shadows_with low highs) (sym k ∙ m) in
    let d = drop-at lows i low l e in
    let rest = shadows (drop (i + 1) lows) highs in
    let fit : shadows_fit (drop i lows) highs ≡ shadows_fit (drop (i + 1) lows) highs = ap (λ (ls : List Bound). shadows_fit ls highs) d ∙ ap (λ (b : Bool). b && shadows_fit (drop (i + 1) lows) highs) t.0 in
    let rows : made ++ shadows (drop i lows) highs ≡ more ++ rest =
    ap (λ (ls : List Bound). made ++ shadows ls highs) d ∙ sym (append_assoc made (shadows_with low highs) rest) ∙ ap (λ (rs : List Row). rs ++ rest) (sym t.1) in
    record {
      same = sym (ap (λ (b : Bool). normal_of (cond b (Some (made ++ shadows (drop i lows) highs)) None)) fit ∙ ap (λ (rs : List Row). normal_of (cond (shadows_fit (drop (i + 1) lows) highs) (Some rs) None)) rows) ∙ s.same;
      over = subst (λ (rs : List Row). AreRowsOver n rs) (sym t.1) (append-made n made (shadows_with low highs) s.over (shadows_with-made n low highs (bound_over n lows i low wl l e) wh));
    }

pub shadows_step : (n : ℕ) (lows highs : List Bound) (start more left : List Row) (i : ℕ) (o : Option (List Row)) → NextShadows n lows highs start more i → ((rs : List Row) → normal_of (with_more o rs) ≡ normal_of (Some (more ++ rs)))
    → o ≡ Some left → AreRowsOver n left → ShadowsSoFar n lows highs start left (i + 1)
shadows_step n lows highs start more left i o s h e w =
    let rest = shadows (drop (i + 1) lows) highs in
    let same : normal_of (Some (left ++ rest)) ≡ normal_of (Some (more ++ rest)) = ap (λ (p : Option (List Row)). normal_of (with_more p rest)) (sym e) ∙ h rest in
    record { same = by (shadows_fit (drop (i + 1) lows) highs) (left ++ rest) (more ++ rest) same ∙ s.same; over = w }
  where
    by : (b : Bool) (xs ys : List Row) → normal_of (Some xs) ≡ normal_of (Some ys) → normal_of (cond b (Some xs) None) ≡ normal_of (cond b (Some ys) None)
    by true xs ys g = g
    by false xs ys g = refl

pub shadows_wide : (n : ℕ) (lows highs : List Bound) (start more : List Row) (i : ℕ) (o : Option (List Row)) → NextShadows n lows highs start more i → ((rs : List Row) → normal_of (with_more o rs) ≡ normal_of (Some (more ++ rs)))
    → o ≡ None → None ≡ normal_of (cond (shadows_fit lows highs) (Some (start ++ shadows lows highs)) None)
shadows_wide n lows highs start more i o s h e =
    let rest = shadows (drop (i + 1) lows) highs in
    let none : None ≡ normal_of (Some (more ++ rest)) = ap (λ (p : Option (List Row)). normal_of (with_more p rest)) (sym e) ∙ h rest in
    by (shadows_fit (drop (i + 1) lows) highs) (more ++ rest) none ∙ s.same
  where
    by : (b : Bool) (ys : List Row) → None ≡ normal_of (Some ys) → None ≡ normal_of (cond b (Some ys) None)
    by true ys g = g
    by false ys g = refl

-- ---- what is asked of the bounds

pub lows_asked : (n z : ℕ) (rows given : List Row) (made seen : List Bound) → AreRowsOver n rows → given ≡ rows → made ≡ lows z given → seen ≡ made → ArePositive seen × AreBoundsOver n seen
lows_asked n z rows given made seen w g m s = rw (s, m, g) (lows_positive z rows, lows-made n z rows w)

pub highs_asked : (n z : ℕ) (rows given : List Row) (o : Option (List Bound)) (made seen : List Bound) → AreRowsOver n rows → given ≡ rows → o ≡ cond (sizes_fit (highs z given)) (Some (highs z given)) None → o ≡ Some made → seen ≡ made
    → ArePositive seen × AreBoundsOver n seen
highs_asked n z rows given o made seen w g m k s =
    let t = made_of (sizes_fit (highs z given)) made (highs z given) (sym k ∙ m) in
    rw (s, t.1, g) (highs_positive z rows, highs-made n z rows w)

pub front_asked : (n z : ℕ) (rows given made : List Row) → AreRowsOver n rows → given ≡ rows → made ≡ rows_without z given → AreRowsOver n made
front_asked n z rows given made w g m = rw (m, g) (rows_without-made n z rows w)

-- ---- what is left

-- the normal form over the same columns
over_columns : ℕ → Option (List Row) → Option Conj
over_columns n (Some rows) = Some (record { columns = n; rows = rows })
over_columns n None = None

over_cond : (n : ℕ) (b : Bool) (rows : List Row) → over_columns n (cond b (Some rows) None) ≡ cond b (Some (record { columns = n; rows = rows })) None
unfolding over_columns
over_cond n true rows = refl
over_cond n false rows = refl

over_normal : (n : ℕ) (f : Bool) (rows : List Row) → over_columns n (normal_of (cond f (Some rows) None)) ≡ cond (f && rows_fit rows) (Some (record { columns = n; rows = normal_form rows })) None
unfolding over_columns
over_normal n true rows = over_cond n (rows_fit rows) (normal_form rows)
over_normal n false rows = refl

over_after : (h : Choice) (c : Conj) (o : Option (List Row)) → normal_of o ≡ normal_of (cond (choice_fits h c.rows) (Some (left_by h c.rows)) None) → over_columns c.columns (normal_of o) ≡ after_choice h c
unfolding after_choice
over_after h c o e = ap (over_columns c.columns) e ∙ over_normal c.columns (choice_fits h c.rows) (left_by h c.rows)

pub after_is : (h : Choice) (c : Conj) (o : Option (List Row)) (left : List Row) (made : Option Conj) → normal_of o ≡ normal_of (cond (choice_fits h c.rows) (Some (left_by h c.rows)) None) → o ≡ Some left
    → made ≡ cond (rows_fit left) (Some (record { columns = c.columns; rows = normal_form left })) None → made ≡ after_choice h c
after_is h c o left made e s m =
    m ∙ sym (over_cond c.columns (rows_fit left) (normal_form left)) ∙ ap (λ (p : Option (List Row)). over_columns c.columns (normal_of p)) (sym s) ∙ over_after h c o e

pub after_none : (h : Choice) (c : Conj) (o : Option (List Row)) → normal_of o ≡ normal_of (cond (choice_fits h c.rows) (Some (left_by h c.rows)) None) → o ≡ None → None ≡ after_choice h c
unfolding over_columns
after_none h c o e n = ap (λ (p : Option (List Row)). over_columns c.columns (normal_of p)) (sym n) ∙ over_after h c o e

-- the points of what a choice leaves are those of its normal form
pub left_points : (h : Choice) (c : Conj) (o : Option Conj) → is_legal h c ≡ true → IsWellMade c → o ≡ after_choice h c → IfSome o (λ d. (p : List ℤ) → Meets d.rows p ↔ Meets (left_by h c.rows) p)
unfolding after_choice
left_points h c o l w e =
    subst (λ (q : Option Conj). IfSome q (λ d. (p : List ℤ) → Meets d.rows p ↔ Meets (left_by h c.rows) p)) (sym e) (by (choice_fits h c.rows && rows_fit (left_by h c.rows)))
  where
    by : (b : Bool) → IfSome (cond b (Some (normal_conj (raw h c))) None) (λ d. (p : List ℤ) → Meets d.rows p ↔ Meets (left_by h c.rows) p)
    by true = λ p. form_keeps c.columns (left_by h c.rows) p (raw_made h c l w)
    by false = tt

pub residue_rows : (h : Choice) (z : ℕ) (m r : ℤ) (rows given : List Row) (o : Option (List Row)) → h ≡ choice.Residue z m r → given ≡ rows
    → o ≡ cond (all_spread_fit z m r given) (Some (map (substitute_residue_row z m r) given)) None → o ≡ cond (choice_fits h rows) (Some (left_by h rows)) None
residue_rows h z m r rows given o e g s =
    subst (λ (x : Choice). o ≡ cond (choice_fits x rows) (Some (left_by x rows)) None) (sym e) (subst (λ (rs : List Row). o ≡ cond (all_spread_fit z m r rs) (Some (map (substitute_residue_row z m r) rs)) None) g s)
