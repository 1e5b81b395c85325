-- Paths that an unfolding finds: the pairs that lead to a question that it asks, at a point of this question.
use Rattle.std.specs.Prelude.{◌≡◌, List, ℤ}
use Rattle.ac_forms.specs.declared.conj.Conj.{Conj}
use Rattle.ac_omega_steps.specs.IntegerPoints.{IsPoint}
use Rattle.ac_claims_paths.specs.declared.path.Path.{Path}
use Rattle.ac_claims_paths.specs.declared.path.Seat.{Seat}
use Rattle.ac_claims.specs.declared.types.Claim.{Claim}
use Rattle.ac_flow.specs.declared.types.Flow.{Flow}
use Rattle.ac_graph.specs.PairMoves.{pairing_of}
use Rattle.ac_widen.specs.declared.derivation.Entry.{Entry}
use Rattle.ac_widen_programs.specs.PairPathEnds.{entries_at}
use Rattle.ac_widen_programs.specs.PairPaths.{Unfolding, params_of}
use Rattle.ac_unfold.specs.UnfoldQuestions.{IsAskedAt, IsFollowed}

-- the unfolding follows a path and asks a question at its end, and the entries are those of its pairs at a point of this question
pub record IsFoundAt (u : Unfolding) (left right : Flow) (claims : List Claim) (entries : List Entry) : Type 0 where
  pub pairs : List (Seat × Seat)
  pub path : Path
  pub followed : IsFollowed u left right claims pairs path
  pub question : Conj
  pub asked : IsAskedAt (pairing_of u.pair) claims path question
  pub point : List ℤ
  pub there : IsPoint question point
  pub are : entries ≡ entries_at (params_of u) point pairs
