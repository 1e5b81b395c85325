use Rattle.ac_assoc.proofs.Choosing.{all_choices}
use Rattle.ac_assoc.proofs.laws.arrangements_are_all_choices.Goals as goal

pub returns : goal.returns
returns c = all_choices
