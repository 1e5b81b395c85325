-- The rows behind steps that stand, and how the check goes on there.
use Rattle.std.proofs.Common.{◌≡◌, ℕ, suc, ◌-◌, ◌^◌, ◌≤◌, List, [], ◌∷◌, ◌++◌, append_assoc, append-nil, length, Option, Some, None, slice_get, ℤ, pos, ◌-ℤ◌, refl, sym, ap, ◌∙◌, subst, arith}
use Rattle.std.specs.Prelude.{◌≢◌, option_and_then, option_map}
use Rattle.ac_forms.specs.Affine.{Affine}
use Rattle.ac_forms.specs.Negation.{with_column}
use Rattle.ac_forms.specs.Rows.{IsWellMade}
use Rattle.ac_forms.specs.declared.conj.Conj.{Conj}
use Rattle.ac_forms.specs.declared.row.Row.{Row}
use Rattle.ac_forms.specs.declared.row.Row.TheVariants.{Eq, Div, Ge}
use Rattle.ac_base.proofs.Options.{bind-some, map-some, some-is}
use Rattle.ac_cert.specs.declared.types.Rule.{Rule}
use Rattle.ac_cert.specs.declared.types.Step.{Step}
use Rattle.ac_cert.specs.declared.types.Step.TheVariants.{Add, Cut, DivScale, DivAdd, DivMod, DivEq, Quot, Floor, EqCut}
use Rattle.ac_cert.specs.AcceptedTrees.{after_steps}
use Rattle.ac_cert.specs.CertificateFaults.{Fault, Onward, later, step_fault, path_fault}
use Rattle.ac_cert.specs.PointExtension.{Keeps}
use Rattle.ac_cert.specs.Rules.{with_row, with_column_row, less_column, rest_of, quotient, floor_of, after_step, rule_of}
use Rattle.ac_cert.proofs.StepRules.{step-keeps}
use Rattle.ac_cert.proofs.Soundness.{Extends-again}

-- the second conjunction has the rows of the first and further ones, over as many columns or more
pub record Onto (c d : Conj) : Type 0 where
  pub more : List Row
  pub rows : d.rows ≡ c.rows ++ more
  pub columns : c.columns ≤ d.columns

row-onto : (c d : Conj) (o : Option Row) → option_map (with_row c) o ≡ Some d → Onto c d
row-onto c d o e =
    let s = map-some o (with_row c) d e in
    rw s.2 (record { more = s.0 ∷ []; rows = refl; columns = omega arith })

quotient-onto : (c d : Conj) (o : Option Row) → quotient c o ≡ Some d → Onto c d
quotient-onto c d None e = absurd cc
quotient-onto c d (Some (Eq f)) e = absurd cc
quotient-onto c d (Some (Ge f)) e = absurd cc
quotient-onto c d (Some (Div m f)) e =
    let s = map-some (less_column c.columns m f) (λ g. with_column_row c (Eq g)) d e in
    rw s.2 (record { more = Eq s.0 ∷ []; rows = refl; columns = omega arith })

floor-onto : (c d : Conj) (m : ℤ) (f : Affine) → floor_of c m f ≡ Some d → Onto c d
unfolding floor_of
floor-onto c d m f e =
    let a = bind-some (less_column c.columns m f) (λ low. option_map (λ high. with_row (with_column_row c (Ge low)) (Ge (with_column c.columns m high))) (rest_of (m -ℤ pos 1) f)) d e in
    let s = map-some (rest_of (m -ℤ pos 1) f) (λ high. with_row (with_column_row c (Ge a.0)) (Ge (with_column c.columns m high))) d a.2 in
    rw s.2 (record { more = Ge a.0 ∷ Ge (with_column c.columns m s.0) ∷ []; rows = append_assoc c.rows (Ge a.0 ∷ []) (Ge (with_column c.columns m s.0) ∷ []); columns = omega arith })

pub step-onto : (s : Step) (c d : Conj) → after_step s c ≡ Some d → Onto c d
unfolding after_step
step-onto (Add ts) c d e = row-onto c d _ e
step-onto (Cut i g) c d e = row-onto c d _ e
step-onto (DivScale i k) c d e = row-onto c d _ e
step-onto (DivAdd i k j l) c d e = row-onto c d _ e
step-onto (DivMod i g n f) c d e = row-onto c d _ e
step-onto (DivEq i n) c d e = row-onto c d _ e
step-onto (Quot i) c d e = quotient-onto c d (slice_get c.rows i) e
step-onto (Floor m f) c d e = floor-onto c d m f e
step-onto (EqCut i j) c d e = row-onto c d _ e

onto-again : (b c d : Conj) → Onto b c → Onto c d → Onto b d
onto-again b c d x y = record {
  more = x.more ++ y.more;
  rows = y.rows ∙ ap (λ (r : List Row). r ++ y.more) x.rows ∙ append_assoc b.rows x.more y.more;
  columns = omega (arith, x.columns, y.columns);
}

pub steps-onto : (steps : List Step) (c d : Conj) → after_steps steps c ≡ Some d → Onto c d
steps-onto [] c d e = subst (λ (x : Conj). Onto c x) (some-is c d e) (record { more = []; rows = sym (append-nil c.rows); columns = omega arith })
steps-onto (s ∷ steps) c d e =
    let t = bind-some (after_step s c) (after_steps steps) d e in
    onto-again c t.0 d (step-onto s c t.0 t.1) (steps-onto steps t.0 d t.2)

keeps-self : (c : Conj) → IsWellMade c → Keeps c c
keeps-self c w = record { made = w; goes_on = λ p at. (p, ([], sym (append-nil p)), at) }

keeps-again : (b c d : Conj) → Keeps b c → Keeps c d → Keeps b d
keeps-again b c d x y = record {
  made = y.made;
  goes_on = λ p at.
      let one = x.goes_on p at in
      let two = y.goes_on one.0 one.2 in
      (two.0, Extends-again p one.0 two.0 one.1 two.1, two.2);
}

pub steps-keep : (steps : List Step) (c d : Conj) → after_steps steps c ≡ Some d → IsWellMade c → Keeps c d
steps-keep [] c d e w = subst (λ (x : Conj). Keeps c x) (some-is c d e) (keeps-self c w)
steps-keep (s ∷ steps) c d e w =
    let t = bind-some (after_step s c) (after_steps steps) d e in
    let k = step-keeps s c t.0 t.1 w in
    keeps-again c t.0 d k (steps-keep steps t.0 d t.2 k.made)

-- the check of steps that all stand goes on behind them
pub path-along : (steps : List Step) (go : Onward) (c d : Conj) (k : ℕ) → k ≤ 2 ^ 64 - 1 → after_steps steps c ≡ Some d → path_fault steps go c k ≡ go d (later k (length steps))
path-along [] go c d k l e =
    let n : k ≡ later k 0 = omega (arith, l) in
    ap (λ (x : Conj). go x k) (some-is c d e) ∙ ap (λ (j : ℕ). go d j) n
path-along (s ∷ steps) go c d k l e =
    let t = bind-some (after_step s c) (after_steps steps) d e in
    let n : later (later k 1) (length steps) ≡ later k (suc (length steps)) = omega arith in
    rw t.1 (path-along steps go t.0 d (later k 1) (omega arith) t.2 ∙ ap (λ (j : ℕ). go d j) n)

step-refused : (o : Option Conj) (steps : List Step) (r : Rule) (k : ℕ) (go : Conj → Fault) → option_and_then (after_steps steps) o ≡ None → ((d : Conj) → after_steps steps d ≡ None → go d ≢ None) → step_fault o r k go ≢ None
step-refused None steps r k go e h = λ f. absurd cc
step-refused (Some d) steps r k go e h = h d e

-- a step that is refused is a fault
pub path-refused : (steps : List Step) (go : Onward) (c : Conj) (k : ℕ) → after_steps steps c ≡ None → path_fault steps go c k ≢ None
path-refused [] go c k e = absurd cc
path-refused (s ∷ steps) go c k e = step-refused (after_step s c) steps (rule_of s) k (λ d. path_fault steps go d (later k 1)) e (λ d f. path-refused steps go d (later k 1) f)
