use Rattle.ac_cert_short.specs.Drafts.{draft_nodes}
use Rattle.ac_cert_short.proofs.PlacedMarks.{trimmed}
use Rattle.ac_cert_short.proofs.trimming.trim.Goals as goal

pub returns-clause-accepted : goal.returns-clause-accepted
returns-clause-accepted c =
    (trimmed c.args.rows c.args.tree c.in_ok-made.made c.in_ok-uses.uses.items c.drafted.new.uses.items c.in_ok-places.places.items (draft_nodes c.in_ok-draft.draft) c.in_ok-uses.ensures c.in_ok-draft.ensures.long c.in_ok-draft.ensures.drafted c.in_ok-places.ensures.long c.in_ok-places.ensures.same c.in_ok-made.ensures.placed).accepted

pub returns-clause-no_longer : goal.returns-clause-no_longer
returns-clause-no_longer c =
    (trimmed c.args.rows c.args.tree c.in_ok-made.made c.in_ok-uses.uses.items c.drafted.new.uses.items c.in_ok-places.places.items (draft_nodes c.in_ok-draft.draft) c.in_ok-uses.ensures c.in_ok-draft.ensures.long c.in_ok-draft.ensures.drafted c.in_ok-places.ensures.long c.in_ok-places.ensures.same c.in_ok-made.ensures.placed).no_longer

pub returns-clause-needed : goal.returns-clause-needed
returns-clause-needed c =
    (trimmed c.args.rows c.args.tree c.in_ok-made.made c.in_ok-uses.uses.items c.drafted.new.uses.items c.in_ok-places.places.items (draft_nodes c.in_ok-draft.draft) c.in_ok-uses.ensures c.in_ok-draft.ensures.long c.in_ok-draft.ensures.drafted c.in_ok-places.ensures.long c.in_ok-places.ensures.same c.in_ok-made.ensures.placed).needed
