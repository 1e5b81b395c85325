use Rattle.ac_forms.specs.Rows.{Meets}
use Rattle.ac_forms.proofs.InPieces.{some-append, some-at, none-or}
use Rattle.ac_forms.proofs.laws.points_of_pieces.Goals as goal

pub returns-clause-append : goal.returns-clause-append
returns-clause-append c = λ xs ys p. some-append Meets xs ys p

pub returns-clause-there : goal.returns-clause-there
returns-clause-there c = λ xs i p e h. some-at Meets xs i c.args.conj.now.rows p e h

pub returns-clause-none : goal.returns-clause-none
returns-clause-none c = λ xs p n h. none-or Meets xs p n h
