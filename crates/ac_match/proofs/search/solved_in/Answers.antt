use Rattle.std.proofs.Common.{◌≡◌, ◌∙◌, length, ap}
use Rattle.std.proofs.lemmas.List.{length-map, length-replicate}
use Rattle.ac_match.proofs.Searches.{open_all, none_assigned, filled_has, none_of}
use Rattle.ac_match.proofs.search.solved_in.Goals as goal

pub search-requires : goal.search-requires
search-requires c = record { left = rw c.requires (open_all c.args.sites) }

pub returns-then-not-search : goal.returns-then-not-search
returns-then-not-search c os l = c.if-not-search.ensures.exact.1 os (rw c.requires (none_assigned c.args.sites os l))

pub returns-in-Ok : goal.returns-in-Ok
returns-in-Ok c =
    let l : length c.search.new.assigned ≡ c.args.sites = c.search.ensures.length ∙ ap length c.requires ∙ length-replicate c.args.sites none_of in
    rw c.in-Ok.ensures (length-map c.search.new.assigned _ ∙ l, c.if-not-search.ensures.exact _ (filled_has c.search.new.assigned))
