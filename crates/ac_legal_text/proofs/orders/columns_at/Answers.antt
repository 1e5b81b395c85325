use Rattle.std.proofs.Common.{◌≡◌, ◌<◌, ◌+◌, ◌∙◌, ◌∷◌, ap, ℕ, List, get_or, drop, length, sym, subst}
use Rattle.std.proofs.lemmas.Result.{IfOk-weaker}
use Rattle.ac_poly.specs.declared.types.StmtModel.{StmtModel}
use Rattle.ac_legal_text.proofs.Lines.{columns_next}
use Rattle.ac_legal_text.proofs.orders.columns_at.Goals as goal

pub returns : goal.returns
returns c =
    IfOk-weaker c.column_after.result _ _
    (λ columns e. columns_next c.args.m.now c.args.number c.index-stmts-number.result columns c.requires
    (subst (λ (z : List StmtModel). c.index-stmts-number.result ≡ get_or z c.args.number c.index-stmts-number.result) c.as_slice-stmts.ensures c.index-stmts-number.is)
    (e ∙ ap (λ (n : ℕ). c.args.m.now.params + n) (c.len.ensures ∙ ap (λ (s : StmtModel). length s.loops) (sym c.index-stmts-number.is))))
    c.column_after.ensures
