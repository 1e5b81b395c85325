use Rattle.ac_terms.proofs.Kept.{stands_kept}
use Rattle.ac_terms.proofs.terms.Terms.initial.Goals as goal

pub returns-clause-kept : goal.returns-clause-kept
returns-clause-kept c = stands_kept _ _ c.store.ensures.names c.store.ensures.kept
