use Rattle.std.proofs.Common.{◌≡◌, take}
use Rattle.ac_cert_short.specs.DraftRelations.{moved_terms}
use Rattle.ac_cert_short.proofs.places.moved_terms.Given as goal

abbrev pub invariant-loop-term : goal.invariant-loop-term
invariant-loop-term l = l.moved ≡ moved_terms l.places (take l.term-index l.terms)
