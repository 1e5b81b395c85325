use Rattle.std.proofs.Common.{rules, ◌≡◌, ◌∙◌, ◌++◌, ap, sym, decimal, List, ℕ}
use Rattle.ac_legal_text.proofs.Texts.{two_fronts}
use Rattle.ac_legal_text.proofs.fronts.behind_number.Goals as goal

pub returns-in_default : goal.returns-in_default
returns-in_default c =
    let digits : c.as_bytes.result.now ≡ decimal c.args.number = search rules in
    λ rest e. c.in_default.ensures (c.args.mark.now ++ rest) (e ∙ ap (λ (t : List ℕ). t ++ (c.args.mark.now ++ rest)) (sym digits))

pub returns : goal.returns
returns c =
    let digits : c.as_bytes.result.now ≡ decimal c.args.number = search rules in
    two_fronts (λ r. r.now) c.args.text.now (decimal c.args.number) c.in-Some.rest.now c.args.mark.now c.behind-2.result (c.in-Some.ensures ∙ ap (λ (t : List ℕ). t ++ c.in-Some.rest.now) digits) c.behind-2.ensures
