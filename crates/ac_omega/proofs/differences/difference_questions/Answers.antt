use Rattle.ac_omega.proofs.DifferenceQuestions.{never-wide, never-spent, gone-cost, never-large, point-tests}
use Rattle.ac_omega.proofs.differences.difference_questions.Goals as goal

pub returns-clause-never_wide : goal.returns-clause-never_wide
returns-clause-never_wide c = never-wide c.args.strategy c.args.budget c.args.conj.now c.requires.made c.requires.columns c.requires.differences

pub returns-clause-never_spent : goal.returns-clause-never_spent
returns-clause-never_spent c = λ k m e. never-spent c.args.strategy c.args.budget c.args.conj.now k c.requires.made c.requires.columns c.requires.differences m e

pub returns-clause-cost : goal.returns-clause-cost
returns-clause-cost c = λ k s e. gone-cost c.args.strategy c.args.budget c.args.conj.now k s c.requires.made c.requires.columns c.requires.differences e

pub returns-clause-never_large : goal.returns-clause-never_large
returns-clause-never_large c = λ k s e. never-large c.args.strategy c.args.budget c.args.conj.now k s c.requires.made c.requires.columns c.requires.differences e

pub returns-clause-point : goal.returns-clause-point
returns-clause-point c = λ p e. point-tests c.args.strategy c.args.budget c.args.conj.now p c.requires.made c.requires.columns c.requires.differences e
