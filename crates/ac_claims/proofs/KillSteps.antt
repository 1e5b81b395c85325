-- A copy with choices to come.
use Rattle.std.proofs.Common.{◌≡◌, ℕ, zero, suc, ◌<◌, ◌≤◌, List, ◌∷◌, ◌++◌, Bool, refl, sym, ap, ◌∙◌, subst, arith}
use Rattle.ac_forms.specs.Rows.{HaveModuli, IsWellMade}
use Rattle.ac_forms.specs.declared.conj.Conj.{Conj}
use Rattle.ac_forms.specs.declared.row.Row.{Row}
use Rattle.ac_omega_steps.specs.declared.choose.Choice.{Choice}
use Rattle.ac_cert.specs.declared.types.Rule.TheVariants as rule
use Rattle.ac_claims_paths.specs.CopyKills.{is_killed}
use Rattle.ac_claims_paths.specs.declared.path.Assumed.{Assumed}
use Rattle.ac_claims_paths.specs.declared.path.Path.{Path}
use Rattle.ac_claims_paths.proofs.Moduli.{conj_moduli}
use Rattle.ac_claims.specs.StackEntries.{due_at}
use Rattle.ac_claims.specs.Machine.{Due, Choices, Onto, onto_if, settled, choose}
use Rattle.ac_claims.specs.declared.entry.Awaited.TheVariants as awaited
use Rattle.ac_claims.specs.declared.entry.Choosing.{Choosing}
use Rattle.ac_claims.specs.declared.item.Item.{Item}
use Rattle.ac_claims.specs.declared.item.Item.TheVariants as item

settled_more : (params first n : ℕ) (h : Path) (a : Assumed) (c : Conj) (due : List Due) → 0 < n → settled params first n h a c due ≡ Onto (Choices first n h a c ∷ due)
settled_more params first zero h a c due l = absurd (omega (arith, l))
settled_more params first (suc n) h a c due l = refl

pub settled_some : (params : ℕ) (h : Path) (x : Choosing) (due : List Due) → 0 < x.left → settled params x.line x.left h x.assumed x.copy due ≡ Onto (due_at h (awaited.Choosing x) ++ due)
settled_some params h x due l = settled_more params x.line x.left h x.assumed x.copy due l

settled_last : (params first n : ℕ) (h : Path) (a : Assumed) (c : Conj) (due : List Due) → n ≤ 0 → onto_if (is_killed params h.conj.rows a c) first rule.Killed due ≡ settled params first n h a c due
settled_last params first zero h a c due l = refl
settled_last params first (suc n) h a c due l = absurd (omega (arith, l))

pub settled_none : (params : ℕ) (h : Path) (x : Choosing) (due : List Due) (rows : List Row) (killed : Bool) → x.left ≤ 0 → rows ≡ h.conj.rows → killed ≡ is_killed params rows x.assumed x.copy
    → settled params x.line x.left h x.assumed x.copy due ≡ onto_if killed x.line rule.Killed due
settled_none params h x due rows killed l r k = sym (ap (λ b. onto_if b x.line rule.Killed due) (k ∙ ap (λ (z : List Row). is_killed params z x.assumed x.copy) r) ∙ settled_last params x.line x.left h x.assumed x.copy due l)

pub rows_moduli : (c : Conj) (rows : List Row) → IsWellMade c → rows ≡ c.rows → HaveModuli rows
rows_moduli c rows w e = subst HaveModuli (sym e) (conj_moduli c w)

pub choose_other : (params : ℕ) (x : Item) (k : ℕ) (h : Path) (y : Choosing) (due : List Due) → ((z : Choice) → x ≡ item.Choice z → ⊥) → choose params x k y.line y.left h y.assumed y.copy due ≡ Onto (due_at h (awaited.Choosing y) ++ due)
choose_other params (item.Choice z) k h y due n = absurd (n z refl)
choose_other params _ k h y due n = refl
