use Rattle.std.proofs.Common.{rules, inl, inr, arith, sym, ◌≡◌, ◌≤◌, length}
use Rattle.ac_prooftext_lines.proofs.Terms.{stops_word, stops_pair, goes}
use Rattle.ac_prooftext_lines.proofs.forms.coefficients.Goals as goal
use Rattle.ac_prooftext_lines.proofs.forms.coefficients.Goals.{then-coef-eq0-via-then-coef-eq0, then-coef-eq0-via-else-coef-eq0+then-column-len}

pub returns-in_default-indexed : goal.returns-in_default-indexed
returns-in_default-indexed c = stops_word c.args.words.now c.loop-word.words c.next.new.self c.in-Some.word.now c.loop-word.coefs.items c.loop-word.invariant c.in-Some.ensures c.in_default-indexed.ensures

pub returns-then-coef-eq0 : goal.returns-then-coef-eq0
returns-then-coef-eq0 c =
    stops_pair c.args.words.now c.loop-word.words c.next.new.self c.in-Some.word.now c.loop-word.coefs.items (c.in-Some-indexed.column, c.in-Some-indexed.coef) c.loop-word.invariant c.in-Some.ensures c.in-Some-indexed.ensures
    (elim c.then-coef-eq0.branch [
      | then-coef-eq0-via-then-coef-eq0 w ↦ inl (search (rules, w.if-coef-eq0.true))
      | then-coef-eq0-via-else-coef-eq0+then-column-len w ↦ inr (search rules)
    ])

pub loop-word-preserved : goal.loop-word-preserved
loop-word-preserved c =
    goes c.args.words.now c.loop-word.words c.next.new.self c.in-Some.word.now c.loop-word.coefs.items c.push_coefficient.new.coefs.items (c.in-Some-indexed.column, c.in-Some-indexed.coef)
    c.loop-word.invariant c.in-Some.ensures c.in-Some-indexed.ensures (let le : length c.loop-word.coefs.items ≤ c.in-Some-indexed.column = search rules in le) (λ z. c.if-coef-eq0.false (search (rules, z))) (search rules)
