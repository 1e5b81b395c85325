-- Paths with further rows and columns.
use Rattle.std.proofs.Common.{◌≡◌, ◌+◌, ◌++◌, [], append_assoc, append-nil, refl, sym, ap, ◌∙◌, subst, arith}
use Rattle.ac_claims_paths.specs.PathSteps.{at_rows, extended}
use Rattle.ac_claims_paths.specs.declared.path.Path.{Path}
use Rattle.ac_claims_plans.specs.declared.branching.Part.{Part}
use Rattle.ac_claims_plans.specs.QuestionPlans.{question_on}
use Rattle.ac_unfold_plans.specs.PlanStops.{positions_at}
use Rattle.ac_unfold.specs.KillTraversal.{IsGrown}

pub grown_itself : (q : Path) → IsGrown q q
grown_itself q =
    let z : q.conj.columns ≡ q.conj.columns + 0 = omega arith in
    let y : q.conj.rows ≡ q.conj.rows ++ [] = sym (append-nil q.conj.rows) in
    let same : q.conj ≡ extended q.conj 0 [] = λ i. record { columns = z i; rows = y i } in
    record { more = 0; rows = []; is = ap (at_rows q) same }

pub grown_more : (b q v : Path) → IsGrown b q → IsGrown q v → IsGrown b v
grown_more b q v h k =
    let c = b.conj in
    let z : c.columns + h.more + k.more ≡ c.columns + (h.more + k.more) = omega arith in
    let y : (c.rows ++ h.rows) ++ k.rows ≡ c.rows ++ (h.rows ++ k.rows) = append_assoc c.rows h.rows k.rows in
    let twice : extended (extended c h.more h.rows) k.more k.rows ≡ extended c (h.more + k.more) (h.rows ++ k.rows) = λ i. record { columns = z i; rows = y i } in
    record { more = h.more + k.more; rows = h.rows ++ k.rows; is = k.is ∙ ap (λ (x : Path). at_rows x (extended x.conj k.more k.rows)) h.is ∙ ap (at_rows b) twice }

pub grown_on : (q : Path) (part : Part) → IsGrown q (question_on q part)
grown_on q part = record { more = part.question_columns; rows = part.rows; is = refl }

pub grown_part : (q v : Path) (part : Part) → v ≡ question_on q part → IsGrown q v
grown_part q v part e = subst (IsGrown q) (sym e) (grown_on q part)

pub grown_same : (q v : Path) → v ≡ q → IsGrown q v
grown_same q v e = subst (IsGrown q) (sym e) (grown_itself q)

-- the pair is the same, behind a step or before the first one
pub grown_pair : (q v : Path) → IsGrown q v → positions_at v ≡ positions_at q
grown_pair q v h = ap positions_at h.is

pub grown_gone : (q v : Path) → IsGrown q v → v.gone ≡ q.gone
grown_gone q v h = ap (λ (x : Path). x.gone) h.is
