-- Counts over a list, one item after the other.
use Rattle.std.proofs.Common.{◌≡◌, ℕ, ◌+◌, ◌<◌, ◌≤◌, ℤ, List, length, drop, get_or, sym, ap, ◌∙◌}
use Rattle.std.proofs.lemmas.List.{at_drop_more, at_drop_all}
use Rattle.ac_cert.specs.declared.types.Step.{Step}
use Rattle.ac_cert_short.specs.CertificateNodes.{once, term_uses, rows_of, rows_along}

pub terms_more : (ts : List (ℕ × ℤ)) (k : ℕ) (t : ℕ × ℤ) → k < length ts → t ≡ get_or ts k t → (i : ℕ) → term_uses i (drop k ts) ≡ once i t.0 + term_uses i (drop (k + 1) ts)
terms_more ts k t l e i = at_drop_more (λ xs. term_uses i xs) ts k t l ∙ ap (λ (x : ℕ × ℤ). once i x.0 + term_uses i (drop (k + 1) ts)) (sym e)

pub terms_end : (ts : List (ℕ × ℤ)) (k : ℕ) → length ts ≤ k → (i : ℕ) → term_uses i (drop k ts) ≡ 0
terms_end ts k l i = at_drop_all (λ xs. term_uses i xs) ts k l

pub rows_more : (ss : List Step) (k : ℕ) (s : Step) → k < length ss → s ≡ get_or ss k s → rows_along (drop k ss) ≡ rows_of s + rows_along (drop (k + 1) ss)
rows_more ss k s l e = at_drop_more rows_along ss k s l ∙ ap (λ (x : Step). rows_of x + rows_along (drop (k + 1) ss)) (sym e)

pub rows_end : (ss : List Step) (k : ℕ) → length ss ≤ k → rows_along (drop k ss) ≡ 0
rows_end ss k l = at_drop_all rows_along ss k l
