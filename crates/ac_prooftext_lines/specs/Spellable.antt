-- What a line can spell: numbers that fit where they stand, forms that end in no 0, sums of at least one row, moduli of at least 1.
use Rattle.std.specs.Prelude.{◌≡◌, ◌<◌, ◌≤◌, ◌^◌, ◌≤ℤ◌, ℕ, ℤ, pos, List, length, Option, Some, None}
use Rattle.std.specs.List.{AllByRecursion}
use Rattle.ac_forms.specs.Affine.{Affine, FormFits}
use Rattle.ac_forms.specs.Fits.{Fits, AllFit}
use Rattle.ac_forms.specs.NormalRows.{trim}
use Rattle.ac_forms.specs.declared.row.Row.{Row}
use Rattle.ac_forms.specs.declared.row.Row.TheVariants as row
use Rattle.ac_syntax.specs.declared.tree.Position.{Position}
use Rattle.ac_syntax.specs.declared.tree.Position.TheVariants as position
use Rattle.ac_cert.specs.declared.types.Step.{Step}
use Rattle.ac_cert.specs.declared.types.Step.TheVariants as step
use Rattle.ac_omega_steps.specs.declared.choose.Choice.{Choice}
use Rattle.ac_omega_steps.specs.declared.choose.Choice.TheVariants as choice
use Rattle.ac_claims.specs.declared.item.Item.{Item}
use Rattle.ac_claims.specs.declared.item.Item.TheVariants as item

-- counts, and the numbers of rows, columns and the like, are below 2^64
abbrev pub IsIndex : ℕ → Type 0
IsIndex n = n < 2 ^ 64

abbrev pub IsIndexed : ℕ × ℤ → Type 0
IsIndexed p = IsIndex p.0 × Fits p.1

abbrev pub AreIndices : ℕ × ℕ → Type 0
AreIndices p = IsIndex p.0 × IsIndex p.1

-- a form over columns below 2^64, with numbers of 128 bits, whose last coefficient is not 0
abbrev pub IsSpellableForm : Affine → Type 0
IsSpellableForm f = FormFits f × (trim f.coefs ≡ f.coefs) × (length f.coefs ≤ 2 ^ 64)

abbrev pub IsModulus : ℤ → Type 0
IsModulus m = Fits m × (pos 1 ≤ℤ m)

abbrev pub IsSpellablePosition : Position → Type 0
IsSpellablePosition (position.Output o) = IsIndex o
IsSpellablePosition (position.Node s k) = IsIndex s × IsIndex k
IsSpellablePosition (position.InitialOutput o) = IsIndex o
IsSpellablePosition (position.InitialNode s k) = IsIndex s × IsIndex k

abbrev pub IsSpellableRow : Row → Type 0
IsSpellableRow (row.Ge f) = IsSpellableForm f
IsSpellableRow (row.Eq f) = IsSpellableForm f
IsSpellableRow (row.Div m f) = IsModulus m × IsSpellableForm f

abbrev pub IsSpellableStep : Step → Type 0
IsSpellableStep (step.Add pairs) = (0 < length pairs) × AllByRecursion IsIndexed pairs
IsSpellableStep (step.Cut r g) = IsIndex r × Fits g
IsSpellableStep (step.DivScale r k) = IsIndex r × Fits k
IsSpellableStep (step.DivAdd r k s l) = IsIndex r × Fits k × IsIndex s × Fits l
IsSpellableStep (step.DivMod r g n f) = IsIndex r × Fits g × Fits n × IsSpellableForm f
IsSpellableStep (step.DivEq r n) = IsIndex r × Fits n
IsSpellableStep (step.Quot r) = IsIndex r
IsSpellableStep (step.Floor m f) = Fits m × IsSpellableForm f
IsSpellableStep (step.EqCut r s) = IsIndex r × IsIndex s

abbrev pub IsSpellableChoice : Choice → Type 0
IsSpellableChoice (choice.Drop z) = IsIndex z
IsSpellableChoice (choice.Equal z r) = IsIndex z × IsIndex r
IsSpellableChoice (choice.Residue z m i) = IsIndex z × Fits m × Fits i
IsSpellableChoice (choice.Shadow z) = IsIndex z
IsSpellableChoice (choice.Splinter z r i) = IsIndex z × IsIndex r × Fits i

abbrev pub IsSpellableLevel : Option ℕ → Type 0
IsSpellableLevel None = Unit {0}
IsSpellableLevel (Some l) = IsIndex l

abbrev pub IsSpellable : Item → Type 0
IsSpellable (item.Point values) = AllByRecursion Fits values
IsSpellable (item.Left shapes) = AllByRecursion AreIndices shapes
IsSpellable (item.Right shapes) = AllByRecursion AreIndices shapes
IsSpellable (item.Claims n) = IsIndex n
IsSpellable (item.Claim P Q n) = IsSpellablePosition P × IsSpellablePosition Q × IsIndex n
IsSpellable (item.Row r) = IsSpellableRow r
IsSpellable (item.Output o c) = IsIndex o × IsIndex c
IsSpellable (item.Tree c a b) = IsIndex c × IsIndex a × IsIndex b
IsSpellable (item.Step s) = IsSpellableStep s
IsSpellable (item.Split f) = IsSpellableForm f
IsSpellable (item.Residue m f) = IsModulus m × IsSpellableForm f
IsSpellable (item.Go o n) = IsIndex n
IsSpellable (item.Absurd r) = IsIndex r
IsSpellable (item.Hit c) = IsIndex c
IsSpellable item.Number = Unit {0}
IsSpellable item.Initial = Unit {0}
IsSpellable (item.Killed s d l m n) = IsIndex s × IsIndex d × IsSpellableLevel l × IsIndex m × IsIndex n
IsSpellable (item.Choice x) = IsSpellableChoice x
IsSpellable item.End = Unit {0}
