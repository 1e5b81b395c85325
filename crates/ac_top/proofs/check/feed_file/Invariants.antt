use Rattle.std.proofs.Common.{◌≡◌, ◌≤◌, ◌-◌, ℕ, List, [], length}
use Rattle.ac_port.specs.Transcripts.{Read}
use Rattle.ac_claims_paths.specs.PathSteps.{Pairing}
use Rattle.ac_prooftext.specs.CheckProgress.{IsFed as Took, IsReady}
use Rattle.ac_top.specs.Reads.{AreReads, HandOut, stream_limit}
use Rattle.ac_top.proofs.Reading.{IsFront}
use Rattle.ac_top.proofs.check.feed_file.Given as goal

abbrev pub invariant-loop-at : goal.invariant-loop-at
invariant-loop-at g l = record {
  short : l.at ≤ stream_limit;
  fed : (text : List ℕ) × (l.at ≡ length text) × IsFront (g.F.Files.contents l.fn.files) l.name text × ((h : Pairing) (outputs : List ℕ) → Took h outputs [] l.fn.checker → Took h outputs text l.checker)
      × ((parts : List Read) × AreReads (g.F.Files.transcript l.fn.files) (g.F.Files.transcript l.files) parts × HandOut l.name parts text);
  same : g.F.Files.contents l.files ≡ g.F.Files.contents l.fn.files;
  writes : g.F.Files.write_faults l.files ≡ g.F.Files.write_faults l.fn.files;
  ready : IsReady l.checker;
}

abbrev pub decreases-loop-at : goal.decreases-loop-at
decreases-loop-at g l = 67108865 - l.at
