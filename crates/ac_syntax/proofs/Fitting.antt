-- What fits and is plain, fits where quotients may stand; and what fits there and is plain, fits.
use Rattle.std.proofs.Common.{ℕ, List, [], ◌∷◌, sym, subst}
use Rattle.std.specs.List.{AllByRecursion}
use Rattle.ac_syntax.specs.FittingForms.{FitsQuot, FitsForm, FormsFit, FitsRel, FitsTest, FitTests}
use Rattle.ac_syntax.specs.PlainPrograms.{IsPlainForm, IsPlainPart}
use Rattle.ac_syntax.specs.ReadyPrograms.{Fits, AllFit, IsPlain, FitsPart, FitParts}
use Rattle.ac_syntax.specs.declared.tree.Comparison.{Comparison}
use Rattle.ac_syntax.specs.declared.tree.IndexExpr.{IndexExpr}
use Rattle.ac_syntax.specs.declared.tree.Rel.{Rel}
use Rattle.ac_syntax.specs.declared.tree.Rel.TheVariants.{NonNegative, Zero, Divides}

pub fits_form : (ps xs : ℕ) (e : IndexExpr) → Fits ps xs e → FitsForm ps xs e
fits_form ps xs e f = record { params = f.params; iters = f.iters; quots = subst (AllByRecursion (FitsQuot ps xs)) (sym f.plain) tt }

pub forms_fit : (ps xs : ℕ) (es : List IndexExpr) → AllFit ps xs es → FormsFit ps xs es
forms_fit ps xs [] f = tt
forms_fit ps xs (e ∷ es) f = (fits_form ps xs e f.0, forms_fit ps xs es f.1)

fits_rel : (r : Rel) (e : IndexExpr) → IsPlain r → FitsRel r e
fits_rel NonNegative e h = tt
fits_rel Zero e h = tt
fits_rel (Divides m) e h = absurd h

pub fits_test : (ps xs : ℕ) (c : Comparison) → FitsPart ps xs c → FitsTest ps xs c
fits_test ps xs c f = record { form = fits_form ps xs c.form f.form; rel = fits_rel c.rel c.form f.rel }

pub fit_tests : (ps xs : ℕ) (cs : List Comparison) → FitParts ps xs cs → FitTests ps xs cs
fit_tests ps xs [] f = tt
fit_tests ps xs (c ∷ cs) f = (fits_test ps xs c f.0, fit_tests ps xs cs f.1)

-- ---- back

pub plain_fits : (ps xs : ℕ) (e : IndexExpr) → FitsForm ps xs e → IsPlainForm e → Fits ps xs e
plain_fits ps xs e f h = record { params = f.params; iters = f.iters; plain = h }

pub plain_fit : (ps xs : ℕ) (es : List IndexExpr) → FormsFit ps xs es → AllByRecursion IsPlainForm es → AllFit ps xs es
plain_fit ps xs [] f h = tt
plain_fit ps xs (e ∷ es) f h = (plain_fits ps xs e f.0 h.0, plain_fit ps xs es f.1 h.1)

pub plain_parts_fit : (ps xs : ℕ) (cs : List Comparison) → FitTests ps xs cs → AllByRecursion IsPlainPart cs → FitParts ps xs cs
plain_parts_fit ps xs [] f h = tt
plain_parts_fit ps xs (c ∷ cs) f h = (record { form = plain_fits ps xs c.form f.0.form h.0.form; rel = h.0.rel }, plain_parts_fit ps xs cs f.1 h.1)

-- a comparison that fits is plain
pub part_plain : (ps xs : ℕ) (c : Comparison) → FitsPart ps xs c → IsPlainPart c
part_plain ps xs c f = record { form = f.form.plain; rel = f.rel }

pub parts_plain : (ps xs : ℕ) (cs : List Comparison) → FitParts ps xs cs → AllByRecursion IsPlainPart cs
parts_plain ps xs [] f = tt
parts_plain ps xs (c ∷ cs) f = (part_plain ps xs c f.0, parts_plain ps xs cs f.1)

pub forms_plain : (ps xs : ℕ) (es : List IndexExpr) → AllFit ps xs es → AllByRecursion IsPlainForm es
forms_plain ps xs [] f = tt
forms_plain ps xs (e ∷ es) f = (f.0.plain, forms_plain ps xs es f.1)
