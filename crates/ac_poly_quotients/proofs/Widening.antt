-- A number that is cast to a wider type keeps its value.
use Rattle.std.proofs.lemmas.Int.{to_z-of_z}

pub ruleset read_back = to_z-of_z
