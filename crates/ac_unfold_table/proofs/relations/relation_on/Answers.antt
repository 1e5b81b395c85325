use Rattle.std.proofs.Common.{◌≡◌, Option, false, refl, subst, true}
use Rattle.std.specs.Prelude.{List, MatchOption}
use Rattle.ac_omega.specs.declared.piece.Piece.{Piece}
use Rattle.ac_unfold_table.specs.ColumnProjection.{AreLeftOn}
use Rattle.ac_unfold_table.specs.QuestionRelations.{HasNoPiece}
use Rattle.ac_unfold_table.proofs.Projecting.{more_pieces, no_pieces, no_point}
use Rattle.ac_unfold_table.proofs.relations.relation_on.Goals as goal
use Rattle.ac_unfold_table.proofs.relations.relation_on.Goals.{then-not-is_empty-via-then-not-is_empty, then-not-is_empty-via-else-not-is_empty+in_ok-has_point+then-not-branch}

pub returns-in_default-pop : goal.returns-in_default-pop
returns-in_default-pop c =
    let b = c.args.budget in
    let f = c.args.first in
    let conj = c.args.conj.now in
    no_pieces b f conj c.in-Some.pieces (subst (λ (o : Option (List Piece)). MatchOption o (HasNoPiece b f conj) (AreLeftOn b f conj)) c.in-Some.is c.in_ok-pieces.ensures) c.in_default-pop.ensures.0

pub returns-then-not-is_empty : goal.returns-then-not-is_empty
returns-then-not-is_empty c =
    let b = c.args.budget in
    let f = c.args.first in
    let conj = c.args.conj.now in
    let left = subst (λ (o : Option (List Piece)). MatchOption o (HasNoPiece b f conj) (AreLeftOn b f conj)) c.in-Some.is c.in_ok-pieces.ensures in
    elim c.then-not-is_empty.branch [
      | then-not-is_empty-via-then-not-is_empty w ↦ more_pieces b f conj c.in-Some.pieces c.pop.new.self c.in-Some-pop.piece left c.in-Some-pop.ensures (λ e. (let z : false ≡ true = w.if-not-is_empty.ensures.1 e in absurd cc))
      | then-not-is_empty-via-else-not-is_empty+in_ok-has_point+then-not-branch w ↦
          no_point b f conj c.in-Some.pieces c.pop.new.self c.in-Some-pop.piece left c.in-Some-pop.ensures (w.if-not-is_empty.ensures.0 refl) (w.in_ok-has_point.ensures.none w.if-not-branch.true)
    ]
