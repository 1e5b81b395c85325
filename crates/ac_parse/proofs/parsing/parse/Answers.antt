use Rattle.ac_parse.specs.ParseAnswers.{too_long}
use Rattle.ac_parse.proofs.parsing.parse.Goals as goal

pub returns-then-bytes-gt-MAX_BYTES-clause-fault : goal.returns-then-bytes-gt-MAX_BYTES-clause-fault
returns-then-bytes-gt-MAX_BYTES-clause-fault c = too_long c.if-bytes-gt-MAX_BYTES.true
