-- The tree of a difference, row by row: where the pieces of a row and what goes on behind it are accepted, so is the tree.
use Rattle.std.proofs.Common.{◌≡◌, ℕ, ◌+◌, ◌-◌, ◌≤◌, ℤ, pos, neg_ℤ, ◌-ℤ◌, List, [], ◌∷◌, ◌++◌, length, None, get_or, take, drop, Result, Ok, Err, refl, sym, ap, ◌∙◌, subst, arith}
use Rattle.std.proofs.lemmas.List.{length-append}
use Rattle.std.proofs.Math.Seq.{take-length}
use Rattle.ac_forms.specs.Affine.{Affine, shifted}
use Rattle.ac_forms.specs.Negation.{opposite, with_column, NegationFits}
use Rattle.ac_forms.specs.Rows.{IsRowOver, AreRowsOver}
use Rattle.ac_forms.specs.FormStops.{MadeWhere}
use Rattle.ac_forms.specs.declared.stop.FormStop.{FormStop}
use Rattle.ac_forms.specs.declared.stop.FormStop.TheVariants.{Wide, Memory}
use Rattle.ac_forms.specs.declared.conj.Conj.{Conj}
use Rattle.ac_forms.specs.declared.row.Row.{Row}
use Rattle.ac_forms.specs.declared.row.Row.TheVariants.{Eq, Div, Ge}
use Rattle.ac_cert.specs.AcceptedTrees.{Accepts}
use Rattle.ac_cert.specs.CertificateFaults.{Refusal}
use Rattle.ac_cert.specs.Rules.{with_row}
use Rattle.ac_cert.specs.declared.types.Tree.{Tree}
use Rattle.ac_sets.specs.SetDifferences.{NegationsFit}
use Rattle.ac_cert.specs.RowBranches.{with_floor, behind}
use Rattle.ac_sets.specs.DifferencePaths.{piece_count, SidesStand, EndsStand, LeadsOn, Leads}
use Rattle.ac_sets.specs.declared.parts.Part.{Part}
use Rattle.ac_sets.specs.declared.parts.Part.TheVariants.{Piece, Inside}
use Rattle.ac_sets.proofs.Commons.{Over-more}

-- what the maker of ends says
abbrev pub EndsAt : Part → Tree Part → Type 0
EndsAt e t = (refusal : Refusal Part) (c : Conj) → refusal e c ≡ None → Accepts t refusal c

-- ---- paths behind a row

-- the form less m times the quotient, its opposite, and the rows with them
abbrev low_form : Conj → ℤ → Affine → Affine
low_form c m f = with_column c.columns (neg_ℤ m) f

abbrev high_form : Conj → ℤ → Affine → Affine
high_form c m f = with_column c.columns m (opposite f)

abbrev rest_form : Conj → ℤ → Affine → Affine
rest_form c m f = with_column c.columns m (shifted (opposite f) (m -ℤ pos 1))

abbrev lowered : Conj → ℤ → Affine → Conj
lowered c m f = with_row (with_floor c m f) (Ge (high_form c m f))

abbrev equalled : Conj → ℤ → Affine → Conj
equalled c m f = with_row (lowered c m f) (Eq (low_form c m f))

abbrev divided : Conj → ℤ → Affine → Conj
divided c m f = with_row (equalled c m f) (Div m (low_form c m f))

push-length : (rows : List Row) (r : Row) (n : ℕ) → length rows ≡ n → length (rows ++ r ∷ []) ≡ n + 1
push-length rows r n l = omega (arith, length-append rows (r ∷ []), l)

-- ---- row by row

pub ends-lead : (columns count k : ℕ) (t : Tree Part) → EndsAt Inside t → Leads [] columns count k t
ends-lead columns count k t end refusal c e l stand = end refusal c stand

pub ge-more : (f : Affine) (rs : List Row) (columns count k : ℕ) (onward t : Tree Part) → Leads rs columns (count + 1) (k + 1) onward → LeadsOn (Ge f) columns count k onward t → Leads (Ge f ∷ rs) columns count k t
ge-more f rs columns count k onward t rest here refusal c e l stand = here refusal c e l stand.0 (rest refusal (behind c (Ge f)) e (push-length c.rows (Ge f) count l) stand.1)

pub eq-more : (f : Affine) (rs : List Row) (columns count k : ℕ) (onward t : Tree Part) → Leads rs columns (count + 3) (k + 2) onward → LeadsOn (Eq f) columns count k onward t → Leads (Eq f ∷ rs) columns count k t
eq-more f rs columns count k onward t rest here refusal c e l stand =
    let a = push-length c.rows (Ge f) count l in
    let b = push-length (c.rows ++ Ge f ∷ []) (Ge (opposite f)) (count + 1) a in
    let d = push-length ((c.rows ++ Ge f ∷ []) ++ Ge (opposite f) ∷ []) (Eq f) (count + 1 + 1) b in
    here refusal c e l stand.0 (rest refusal (behind c (Eq f)) e (omega (arith, d)) stand.1)

pub div-more : (m : ℤ) (f : Affine) (rs : List Row) (columns count k : ℕ) (onward t : Tree Part) → Leads rs (columns + 1) (count + 6) (k + 1) onward → LeadsOn (Div m f) columns count k onward t → Leads (Div m f ∷ rs) columns count k t
div-more m f rs columns count k onward t rest here refusal c e l stand =
    let a = push-length c.rows (Ge (low_form c m f)) count l in
    let b = push-length (c.rows ++ Ge (low_form c m f) ∷ []) (Ge (rest_form c m f)) (count + 1) a in
    let d = push-length (with_floor c m f).rows (Ge (high_form c m f)) (count + 1 + 1) b in
    let g = push-length (lowered c m f).rows (Eq (low_form c m f)) (count + 1 + 1 + 1) d in
    let h = push-length (equalled c m f).rows (Div m (low_form c m f)) (count + 1 + 1 + 1 + 1) g in
    let i = push-length (divided c m f).rows (Div m f) (count + 1 + 1 + 1 + 1 + 1) h in
    here refusal c e l stand.0 (rest refusal (behind c (Div m f)) (omega (arith, e)) (omega (arith, i)) stand.1)

pub over-wider : (columns wider : ℕ) (rs : List Row) → wider ≡ columns + 1 → AreRowsOver columns rs → AreRowsOver wider rs
over-wider columns wider rs e w = Over-more columns wider rs (omega (arith, e)) w

-- the first row and the others
pub front-row : (rows : List Row) (r : Row) → 1 ≤ length rows → r ≡ get_or rows 0 r → rows ≡ r ∷ take (length rows - 1) (drop 1 rows)
front-row [] r l e = absurd (omega (arith, l))
front-row (x ∷ xs) r l e =
    let n : length (x ∷ xs) - 1 ≡ length xs = omega arith in
    ap (λ (y : Row). y ∷ xs) (sym e) ∙ ap (λ (ys : List Row). r ∷ ys) (sym (ap (λ (k : ℕ). take k xs) n ∙ take-length xs))

pub div-made : (res : Result (Tree Part) FormStop) (rows rs : List Row) (r : Row) (m : ℤ) (f : Affine) (columns wider count more k next : ℕ) (onward : Tree Part) → rows ≡ r ∷ rs → r ≡ Div m f → wider ≡ columns + 1 → more ≡ count + 6 → next ≡ k + 1
    → NegationsFit rows → Leads rs wider more next onward → MadeWhere res (NegationFits (Div m f)) (LeadsOn (Div m f) columns count k onward) → MadeWhere res (NegationsFit rows) (Leads rows columns count k)
div-made (Ok t) rows rs r m f columns wider count more k next onward e g a b d fits rest here =
    let whole : rows ≡ Div m f ∷ rs = e ∙ ap (λ (x : Row). x ∷ rs) g in
    let later = subst (λ (x : ℕ). Leads rs x (count + 6) (k + 1) onward) a (subst (λ (x : ℕ). Leads rs wider x (k + 1) onward) b (subst (λ (x : ℕ). Leads rs wider more x onward) d rest)) in
    (fits, subst (λ (xs : List Row). Leads xs columns count k t) (sym whole) (div-more m f rs columns count k onward t later here.1))
div-made (Err Wide) rows rs r m f columns wider count more k next onward e g a b d fits rest here =
    let whole : rows ≡ Div m f ∷ rs = e ∙ ap (λ (x : Row). x ∷ rs) g in
    λ n. here (subst NegationsFit whole n).0
div-made (Err (Memory x)) rows rs r m f columns wider count more k next onward e g a b d fits rest here = tt
