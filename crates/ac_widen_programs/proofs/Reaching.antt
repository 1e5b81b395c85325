-- The pair path of each question to which an unfolding comes leads to it.
use Rattle.std.proofs.Common.{◌+◌, refl, arith}
use Rattle.ac_claims_paths.proofs.Moving.{meets-parts}
use Rattle.ac_widen_programs.specs.PairPaths.{Leads}
use Rattle.ac_widen_programs.specs.PairPathSteps.{IsReached, start, call, read, survive, grow, PairPathsLead}
use Rattle.ac_widen_programs.proofs.Calling.{calls_lead}
use Rattle.ac_widen_programs.proofs.PairPathReads.{reads_lead}
use Rattle.ac_widen_programs.proofs.Starting.{starts_lead}
use Rattle.ac_widen_programs.proofs.Surviving.{survivors_lead}
use Rattle.ac_widen_programs.proofs.Trails.{questions_grow, same_seats}

pub pair_paths_lead : PairPathsLead
pair_paths_lead u left right pair_path q h (start i k q' e over) = starts_lead u i k q' h.paired e over
pair_paths_lead u left right pair_path q h (call pair_path' q' b bs r none e n) = calls_lead u pair_path' q' b bs (pair_paths_lead u left right pair_path' q' h r) none e n
pair_paths_lead u left right pair_path q h (read pair_path' side q' b d case rest r i among e) = reads_lead u pair_path' left right side q' b d case rest h (pair_paths_lead u left right pair_path' q' h r) i among e
pair_paths_lead u left right pair_path q h (survive pair_path' side q' b case more rows r i outside) = λ p long meets.
    same_seats u pair_path b q p refl (survivors_lead u pair_path' left right side q' b case h (pair_paths_lead u left right pair_path' q' h r) i p (omega (arith, long)) (meets-parts b.conj.rows rows p meets).0 (outside p long meets))
pair_paths_lead u left right pair_path q h (grow pair_path' q' more rows r) = questions_grow u pair_path' q' more rows (pair_paths_lead u left right pair_path' q' h r)
