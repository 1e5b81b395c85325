use Rattle.std.proofs.Common.{ℕ, List, Option, ap, arith, length, subst, sym, ◌∙◌}
use Rattle.std.specs.Prelude.{IfSome, MatchOption, ℤ, ◌↔◌}
use Rattle.ac_forms.specs.Renaming.{picked}
use Rattle.ac_forms.specs.Rows.{Meets}
use Rattle.ac_forms.specs.declared.conj.Conj.{Conj}
use Rattle.ac_forms.specs.declared.row.Row.{Row}
use Rattle.ac_unfold_table.specs.ColumnProjection.{IsLeftOn}
use Rattle.ac_unfold_table.specs.QuestionRelations.{HasNoPiece, places_of}
use Rattle.ac_unfold_table.proofs.Projecting.{first_fits, is_relation, not_left}
use Rattle.ac_unfold_table.proofs.relations.relation_of.Goals as goal

pub relation_on-requires : goal.relation_on-requires
relation_on-requires c =
    let fits = first_fits c.args.params c.args.question.now c.as_slice.result.now c.in-Some.conj c.requires (c.as_slice.ensures ∙ c.in_ok-own.ensures) (sym c.in-Some.is ∙ c.in_ok-conj.ensures.value) in
    let long = ap length c.as_slice.ensures in
    omega (arith, fits, long, c.len.ensures)

pub returns-in-Some-2 : goal.returns-in-Some-2
returns-in-Some-2 c =
    let q = c.args.question.now in
    let own = c.as_slice.result.now in
    let conj = c.in-Some.conj in
    let moved = subst (λ (o : Option Conj). IfSome o (λ d. (p : List ℤ) → Meets d.rows p ↔ Meets q.conj.rows (picked (places_of own q.conj.columns) p))) c.in-Some.is c.in_ok-conj.ensures.points in
    let left = subst (λ (o : Option (List Row)). MatchOption o (HasNoPiece c.args.budget c.len.result conj) (IsLeftOn c.len.result conj)) c.in-Some-2.is c.in_ok-rows.ensures in
    let on = subst (λ (n : ℕ). IsLeftOn n conj c.in-Some-2.rows) (c.len.ensures ∙ ap length (sym c.as_slice.ensures)) left in
    is_relation c.args.params q own conj c.in-Some-2.rows c.requires (c.as_slice.ensures ∙ c.in_ok-own.ensures) (sym c.in-Some.is ∙ c.in_ok-conj.ensures.value) moved on

pub returns : goal.returns
returns c =
    let conj = c.in-Some.conj in
    let none = subst (λ (o : Option (List Row)). MatchOption o (HasNoPiece c.args.budget c.len.result conj) (IsLeftOn c.len.result conj)) c.in-None.is c.in_ok-rows.ensures in
    not_left c.args.budget c.args.params c.args.question.now c.as_slice.result.now conj (c.as_slice.ensures ∙ c.in_ok-own.ensures) (sym c.in-Some.is ∙ c.in_ok-conj.ensures.value)
    (subst (λ (n : ℕ). HasNoPiece c.args.budget n conj) (c.len.ensures ∙ ap length (sym c.as_slice.ensures)) none)
