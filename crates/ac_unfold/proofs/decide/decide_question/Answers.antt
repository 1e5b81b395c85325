use Rattle.ac_unfold.proofs.decide.decide_question.Goals as goal

pub returns-else-making-clause-answer : goal.returns-else-making-clause-answer
returns-else-making-clause-answer c = c.decide_point.ensures.answer c.args.node.now.embedding c.args.node.now.question
