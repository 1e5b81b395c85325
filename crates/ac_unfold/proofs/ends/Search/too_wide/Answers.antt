use Rattle.ac_unfold.proofs.ends.Search.too_wide.Goals as goal

pub returns-in-Ok : goal.returns-in-Ok
returns-in-Ok c = (c.in-Ok.ensures, tt)
