use Rattle.std.proofs.Common.{subst, sym}
use Rattle.ac_syntax.specs.declared.tree.Program.{Program}
use Rattle.ac_parse.specs.Arities.{AllHaveArities}
use Rattle.ac_parse.proofs.Assigned.{files_have_arities}
use Rattle.ac_parse.proofs.arity_laws.texts_have_arities.Goals as goal

pub returns : goal.returns
returns c = λ bytes program h. subst (λ (p : Program). AllHaveArities p.body) (sym h.is) (files_have_arities h.file h.rules)
