-- What the code of copies rests on.
use Rattle.std.proofs.Common.{◌≡◌, true, false, Some, None, refl}
use Rattle.ac_forms.specs.declared.conj.Conj.{Conj}
use Rattle.ac_omega_steps.specs.ChoiceFits.{after_choice}
use Rattle.ac_omega_steps.specs.Choices.{is_legal}
use Rattle.ac_omega_steps.specs.declared.choose.Choice.{Choice}
use Rattle.ac_claims_paths.specs.CopyKills.{taken_legally}

pub choice_taken : (x : Choice) (c d : Conj) → is_legal x c ≡ true → after_choice x c ≡ Some d → Some d ≡ taken_legally x c
choice_taken x c d l e = rw (l, e) refl

pub choice_illegal : (x : Choice) (c : Conj) → is_legal x c ≡ false → None ≡ taken_legally x c
choice_illegal x c l = rw l refl

pub choice_wide : (x : Choice) (c : Conj) → is_legal x c ≡ true → after_choice x c ≡ None → None ≡ taken_legally x c
choice_wide x c l e = rw (l, e) refl

pub ruleset choice_steps = (choice_taken, choice_illegal, choice_wide)
