-- What the loop that replaces iterators keeps.
use Rattle.std.proofs.Common.{◌≡◌, ℕ, ◌+◌, ◌<◌, ◌≤◌, List, [], ◌∷◌, length, drop, get_or, refl, sym, ap, ◌∙◌, ℤ, pos, subst, to_z, of_z, FitsSigned, w64, Result, Ok, Err}
use Rattle.std.proofs.lemmas.List.{drop_more, drop_all, get_or_default}
use Rattle.std.proofs.lemmas.Int.{to_z-of_z}
use Rattle.std.specs.Result.{IsErrAnd}
use Rattle.ac_forms.specs.FormStops.{IfWide, MadeIff}
use Rattle.ac_forms.specs.declared.stop.FormStop.{FormStop}
use Rattle.ac_forms.specs.declared.stop.FormStop.TheVariants.{Wide, Memory}
use Rattle.ac_forms.specs.Affine.{Affine, combined, CanAddTimes}
use Rattle.ac_poly_quotients.specs.LoweredForms.{replaced}
use Rattle.ac_poly_quotients.specs.ScopeRange.{CanReplace}

-- after i iterators: what is left to add and to test
pub record Replacing (f0 : Affine) (cs : List ℤ) (gs : List Affine) (f : Affine) (i : ℕ) : Type 0 where
  pub onward : CanReplace f0 cs gs → CanReplace f (drop i cs) (drop i gs)
  pub back : CanReplace f (drop i cs) (drop i gs) → CanReplace f0 cs gs
  pub value : replaced f0 cs gs ≡ replaced f (drop i cs) (drop i gs)

pub replacing_start : (f : Affine) (cs : List ℤ) (gs : List Affine) → Replacing f cs gs f 0
replacing_start f cs gs = record { onward = λ h. h; back = λ h. h; value = refl }

at_both : (cs : List ℤ) (gs : List Affine) (i : ℕ) (c : ℤ) (g : Affine) → i < length cs → i < length gs → c ≡ get_or cs i c → g ≡ get_or gs i g
    → (drop i cs ≡ c ∷ drop (i + 1) cs) × (drop i gs ≡ g ∷ drop (i + 1) gs)
at_both cs gs i c g h k d e = (drop_more cs i c h ∙ ap (λ x. x ∷ drop (i + 1) cs) (sym d), drop_more gs i g k ∙ ap (λ x. x ∷ drop (i + 1) gs) (sym e))

pub replacing_fits : (f0 : Affine) (cs : List ℤ) (gs : List Affine) (f : Affine) (i : ℕ) (c : ℤ) (g : Affine) → Replacing f0 cs gs f i → i < length cs → i < length gs → c ≡ get_or cs i c → g ≡ get_or gs i g
    → CanReplace f0 cs gs → CanAddTimes f c g
replacing_fits f0 cs gs f i c g r h k d e can =
    let b = at_both cs gs i c g h k d e in
    (rw (b.0, b.1) at (r.onward can)).0

pub replacing_step : (f0 : Affine) (cs : List ℤ) (gs : List Affine) (f new : Affine) (i : ℕ) (c : ℤ) (g : Affine) → Replacing f0 cs gs f i → i < length cs → i < length gs → c ≡ get_or cs i c → g ≡ get_or gs i g
    → CanAddTimes f c g × (new ≡ combined (pos 1) f c g) → Replacing f0 cs gs new (i + 1)
replacing_step f0 cs gs f new i c g r h k d e made =
    let b = at_both cs gs i c g h k d e in
    rw made.1
    (record {
      onward = λ all. (rw (b.0, b.1) at (r.onward all)).1;
      back = λ rest. r.back (rw (b.0, b.1) (made.0, rest));
      value = rw (b.0, b.1) at r.value;
    })

got : (cs : List ℤ) (i : ℕ) (d : ℤ) → i < length cs → get_or cs i d ≡ get_or cs i (get_or cs i d)
got cs i d h = get_or_default cs i d (get_or cs i d) h

no_forms : (f : Affine) (cs : List ℤ) → CanReplace f cs [] × (f ≡ replaced f cs [])
no_forms f [] = (tt, refl)
no_forms f (c ∷ cs) = (tt, refl)

over : (f : Affine) (cs : List ℤ) (gs : List Affine) (i : ℕ) → length cs ≤ i → CanReplace f (drop i cs) (drop i gs) × (f ≡ replaced f (drop i cs) (drop i gs))
over f cs gs i h = rw (drop_all i cs h) (tt, refl)

over_forms : (f : Affine) (cs : List ℤ) (gs : List Affine) (i : ℕ) → length gs ≤ i → CanReplace f (drop i cs) (drop i gs) × (f ≡ replaced f (drop i cs) (drop i gs))
over_forms f cs gs i h = rw (drop_all i gs h) (no_forms f (drop i cs))

ended : (f0 : Affine) (cs : List ℤ) (gs : List Affine) (f : Affine) (i : ℕ) → Replacing f0 cs gs f i → CanReplace f (drop i cs) (drop i gs) × (f ≡ replaced f (drop i cs) (drop i gs)) → CanReplace f0 cs gs × (f ≡ replaced f0 cs gs)
ended f0 cs gs f i r h = (r.back h.0, h.1 ∙ sym r.value)

pub replacing_end : (f0 : Affine) (cs : List ℤ) (gs : List Affine) (f : Affine) (i : ℕ) → Replacing f0 cs gs f i → length cs ≤ i → CanReplace f0 cs gs × (f ≡ replaced f0 cs gs)
replacing_end f0 cs gs f i r h = ended f0 cs gs f i r (over f cs gs i h)

pub replacing_end_forms : (f0 : Affine) (cs : List ℤ) (gs : List Affine) (f : Affine) (i : ℕ) → Replacing f0 cs gs f i → length gs ≤ i → CanReplace f0 cs gs × (f ≡ replaced f0 cs gs)
replacing_end_forms f0 cs gs f i r h = ended f0 cs gs f i r (over_forms f cs gs i h)

abbrev again : ℤ → ℤ
again z = to_z w64 (of_z w64 z)

-- the step, with the coefficient as the code hands it on
pub replacing_made : (f0 : Affine) (cs : List ℤ) (gs : List Affine) (f : Affine) (i : ℕ) (g new : Affine) → Replacing f0 cs gs f i → i < length cs → i < length gs → g ≡ get_or gs i g → FitsSigned w64 (get_or cs i (pos 0))
    → CanAddTimes f (again (get_or cs i (pos 0))) g × (new ≡ combined (pos 1) f (again (get_or cs i (pos 0))) g) → Replacing f0 cs gs new (i + 1)
replacing_made f0 cs gs f i g new r h k e z made =
    let m = rw (to_z-of_z w64 (get_or cs i (pos 0)) z) at made in
    replacing_step f0 cs gs f new i (get_or cs i (pos 0)) g r h k (got cs i (pos 0) h) e m

replacing_stops : (f0 : Affine) (cs : List ℤ) (gs : List Affine) (f : Affine) (i : ℕ) (g : Affine) (stop : FormStop) → Replacing f0 cs gs f i → i < length cs → i < length gs → g ≡ get_or gs i g → FitsSigned w64 (get_or cs i (pos 0))
    → IfWide stop (¬ (CanAddTimes f (again (get_or cs i (pos 0))) g)) → IfWide stop (¬ (CanReplace f0 cs gs))
replacing_stops f0 cs gs f i g Wide r h k e z made =
    λ can. (rw (to_z-of_z w64 (get_or cs i (pos 0)) z) at made) (replacing_fits f0 cs gs f i (get_or cs i (pos 0)) g r h k (got cs i (pos 0) h) e can)
replacing_stops f0 cs gs f i g (Memory m) r h k e z made = tt

pub replacing_err : (r : Result Affine FormStop) (f0 : Affine) (es cs : List ℤ) (gs : List Affine) (f : Affine) (i : ℕ) (g w : Affine) (stop : FormStop) → Replacing f0 cs gs f i → cs ≡ es → i < length cs → i < length gs → g ≡ get_or gs i g → FitsSigned w64 (get_or cs i (pos 0))
    → IfWide stop (¬ (CanAddTimes f (again (get_or cs i (pos 0))) g)) → IsErrAnd r (λ e. e ≡ stop) → MadeIff r (CanReplace f0 es gs) w
replacing_err (Ok x) f0 es cs gs f i g w stop r c h k e z made is = absurd is
replacing_err (Err x) f0 es cs gs f i g w stop r c h k e z made is =
    let P : FormStop → Type 0 = λ s. IfWide s (¬ (CanReplace f0 es gs)) in
    subst P (sym is) (subst (λ l. IfWide stop (¬ (CanReplace f0 l gs))) c (replacing_stops f0 cs gs f i g stop r h k e z made))

pub ruleset replacing = (replacing_start, replacing_end, replacing_end_forms)
