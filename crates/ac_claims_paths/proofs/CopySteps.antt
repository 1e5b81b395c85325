-- What the code of a copy's rows rests on.
use Rattle.std.proofs.Common.{◌≡◌, ℕ, ◌+◌, List, Bool, true, false, Option, Some, None, IfOk, refl, sym, ◌∙◌, subst, arith}
use Rattle.std.specs.Prelude.{Result, Ok, Err, slice_get, cond}
use Rattle.std.specs.declared.alloc.AllocError.{AllocError}
use Rattle.ac_forms.specs.NormalForm.{RowsFit, normal_conj}
use Rattle.ac_forms.specs.Rows.{AreRowsOver, IsWellMade}
use Rattle.ac_forms.specs.RangeTests.{rows_fit}
use Rattle.ac_forms.specs.declared.conj.Conj.{Conj}
use Rattle.ac_forms.specs.declared.row.Row.{Row}
use Rattle.ac_forms.proofs.Twins.{rows_fit-is}
use Rattle.ac_poly.specs.declared.types.StmtModel.{StmtModel}
use Rattle.ac_base.proofs.Options.{bind-some, some-is, if-some}
use Rattle.ac_omega_steps.proofs.LeftMade.{conj_made}
use Rattle.ac_omega_steps.specs.declared.choose.Choice.{Choice}
use Rattle.ac_claims_paths.specs.InstanceCoordinates.{width}
use Rattle.ac_claims_paths.specs.WellFormedPaths.{HasModuli}
use Rattle.ac_claims_paths.specs.PathSteps.{Pairing, model_of}
use Rattle.ac_claims_paths.specs.CopyKills.{case_width, copy_rows, with_own_columns, normal_of, copy_by, copy_of, chosen}
use Rattle.ac_claims_paths.specs.OptionalRows.{IsMadeIf}
use Rattle.ac_claims_paths.specs.declared.path.Assumed.{Assumed}
use Rattle.ac_claims_paths.proofs.Kills.{copy_over, copy_parts, source_in_own, chosen_as, chosen_made}

-- the normal form of a conjunction
pub normal_is : (c d : Conj) → RowsFit c.rows → d ≡ normal_conj c → Some d ≡ normal_of c.columns c.rows
normal_is c d h e = let t : rows_fit c.rows ≡ true = (rows_fit-is c.rows).1 h in rw (t, e) refl

pub normal_none : (c : Conj) → ¬ RowsFit c.rows → None ≡ normal_of c.columns c.rows
normal_none c h = by (rows_fit c.rows) refl
  where
    by : (b : Bool) → rows_fit c.rows ≡ b → None ≡ cond b (Some (normal_conj c)) None
    by true e = absurd (h ((rows_fit-is c.rows).0 e))
    by false e = refl

pub ruleset normal_steps = (normal_is, normal_none)

-- the rows of a copy are well made over the case's own columns and the copy's
pub rows_made : (g : Pairing) (a : Assumed) (u piece : ℕ) (after : Option ℕ) (before : ℕ) (stmt : StmtModel) (rows : List Row) → HasModuli (model_of g a.side) → slice_get (model_of g a.side).stmts u ≡ Some stmt
    → copy_rows g (with_own_columns g.params a) (case_width g.params a) u piece after before stmt ≡ Some rows → AreRowsOver (case_width g.params a + width stmt) rows
rows_made g a u piece after before stmt rows hm is e =
    let own = with_own_columns g.params a in
    let n = case_width g.params a in
    copy_over g own n u piece after before stmt rows hm is (omega arith) (omega arith) (source_in_own (g.params + a.reader.width) a.source (n + width stmt) (omega arith)) (copy_parts g own n u piece after before stmt rows e)

pub rows_made_by : (g : Pairing) (a : Assumed) (u piece : ℕ) (after : Option ℕ) (before : ℕ) (stmt : StmtModel) (own : Assumed) (first wide columns : ℕ) (made : Option (List Row)) (rows : List Row) → HasModuli (model_of g a.side) → slice_get (model_of g a.side).stmts u ≡ Some stmt
    → own ≡ with_own_columns g.params a → first ≡ case_width g.params a → wide ≡ width stmt → columns ≡ first + wide → made ≡ copy_rows g own first u piece after before stmt → made ≡ Some rows → AreRowsOver columns rows
rows_made_by g a u piece after before stmt own first wide columns made rows hm is o f w c m e =
    let i : copy_rows g (with_own_columns g.params a) (case_width g.params a) u piece after before stmt ≡ Some rows = (λ j. copy_rows g (sym o j) (sym f j) u piece after before stmt) ∙ sym m ∙ e in
    subst (λ n. AreRowsOver n rows) (sym (c ∙ (λ j. f j + w j))) (rows_made g a u piece after before stmt rows hm is i)

-- so the copy is well made
pub copy_made : (g : Pairing) (a : Assumed) (u piece : ℕ) (after : Option ℕ) (before : ℕ) (c : Conj) → HasModuli (model_of g a.side) → copy_of g a u piece after before ≡ Some c → IsWellMade c
copy_made g a u piece after before c hm e =
    let s = bind-some (slice_get (model_of g a.side).stmts u) (copy_by g a u piece after before) c e in
    let columns = case_width g.params a + width s.0 in
    let r = bind-some (copy_rows g (with_own_columns g.params a) (case_width g.params a) u piece after before s.0) (normal_of columns) c s.2 in
    let raw : Conj = record { columns = columns; rows = r.0 } in
    let f = if-some (rows_fit r.0) (Some (normal_conj raw)) c r.2 in
    subst (λ (y : Conj). IsWellMade y) (some-is (normal_conj raw) c f.1) (conj_made raw (rows_made g a u piece after before s.0 r.0 hm s.1 r.1))

made_if : (o made : Option Conj) → ((c : Conj) → o ≡ Some c → IsWellMade c) → made ≡ o → IsMadeIf made
made_if o None h e = tt
made_if o (Some c) h e = h c (sym e)

pub copy_result : (g : Pairing) (a : Assumed) (u piece : ℕ) (after : Option ℕ) (before : ℕ) (r : Result (Option Conj) AllocError) → HasModuli (model_of g a.side) → IfOk r (λ made. made ≡ copy_of g a u piece after before) → IfOk r (λ made. IsMadeIf made)
copy_result g a u piece after before (Ok made) hm e = made_if (copy_of g a u piece after before) made (λ c i. copy_made g a u piece after before c hm i) e
copy_result g a u piece after before (Err x) hm e = tt

-- what a choice of a copy leaves is well made
pub chosen_result : (columns n : ℕ) (x : Choice) (c : Conj) (r : Result (Option Conj) AllocError) → IsWellMade c → IfOk r (λ left. left ≡ chosen columns n x c) → IfOk r (λ left. IsMadeIf left)
chosen_result columns n x c (Ok made) w e = made_if (chosen columns n x c) made (λ d i. chosen_made n c d (chosen_as columns n x c d i) w) e
chosen_result columns n x c (Err a) w e = tt
