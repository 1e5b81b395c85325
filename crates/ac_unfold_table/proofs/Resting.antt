-- A question at what is left of a case, and the questions of all cases.
use Rattle.std.proofs.Common.{◌≡◌, ℕ, zero, suc, ◌-◌, ◌≤◌, List, [], ◌∷◌, ◌++◌, length, map, drop, Option, Some, None, refl, sym, ap, ◌∙◌, arith, append-nil}
use Rattle.std.specs.Prelude.{min, option_and_then, option_map}
use Rattle.std.specs.List.{range_with_len}
use Rattle.ac_forms.specs.Renaming.{renamed_row, rows_renaming, CanRenameAll}
use Rattle.ac_forms.specs.declared.conj.Conj.{Conj}
use Rattle.ac_forms.specs.declared.row.Row.{Row}
use Rattle.ac_claims_paths.specs.PathSteps.{at_rows, extended}
use Rattle.ac_claims_paths.specs.CopyKills.{case_columns}
use Rattle.ac_claims_paths.specs.declared.path.Assumed.{Assumed}
use Rattle.ac_claims_paths.specs.declared.path.Path.{Path}
use Rattle.ac_claims_paths.proofs.Moduli.{rows_made, rows_none}
use Rattle.ac_claims.specs.Domains.{size_of}
use Rattle.ac_claims.specs.ProofFaults.{Domain, domain}
use Rattle.ac_claims.specs.RemainingPlans.{count_by}
use Rattle.ac_claims.specs.declared.domains.Size.{Size}
use Rattle.ac_claims.specs.declared.types.Claim.{Claim}
use Rattle.ac_syntax.specs.declared.tree.Order.{Order}
use Rattle.ac_syntax.specs.declared.tree.Site.{Site}
use Rattle.ac_flow.specs.declared.types.Case.{Case}
use Rattle.ac_widen_programs.specs.PairPathSteps.{at_rest, columns_left, further, with_rest}
use Rattle.ac_unfold.specs.declared.types.ProgramFlows.{ProgramFlows}
use Rattle.ac_unfold_table.specs.StepQuestions.{judge}
use Rattle.ac_unfold_table.specs.QuestionLists.{beside_of, cases_of, questions_of}
use Rattle.ac_unfold_table.proofs.Lists.{flat_none}

-- ---- one case

-- the columns of what is left
columns_are : (params : ℕ) (q : Path) (rest : Conj) (a : Assumed) (own columns : List ℕ) (more : ℕ) → own ≡ case_columns params a → more ≡ rest.columns - length own → columns ≡ own ++ range_with_len q.conj.columns more → columns ≡ columns_left params a q.conj.columns rest
columns_are params q rest a own columns more e f g =
    g ∙ ap (λ (n : ℕ). own ++ range_with_len q.conj.columns n) f ∙ ap (λ (ks : List ℕ). ks ++ range_with_len q.conj.columns (rest.columns - length ks)) e

more_is : (params : ℕ) (rest : Conj) (a : Assumed) (own : List ℕ) (more : ℕ) → own ≡ case_columns params a → more ≡ rest.columns - length own → more ≡ further params a rest
more_is params rest a own more e f = f ∙ ap (λ (ks : List ℕ). rest.columns - length ks) e

pub rest_made : (params : ℕ) (q : Path) (rest : Conj) (a : Assumed) (own columns : List ℕ) (more : ℕ) (given made : List Row) (d : Path) → q.last ≡ Some a → own ≡ case_columns params a → more ≡ rest.columns - length own → columns ≡ own ++ range_with_len q.conj.columns more → given ≡ rest.rows
    → CanRenameAll columns given × (made ≡ map (renamed_row columns) given) → d ≡ at_rows q (extended q.conj more made) → Some d ≡ at_rest params q rest
rest_made params q rest a own columns more given made d l e f g h r s =
    let whole : Some made ≡ rows_renaming columns given = ap Some r.1 ∙ rows_made columns given r.0 in
    let ks = columns_are params q rest a own columns more e f g in
    let moved : rows_renaming columns given ≡ rows_renaming (columns_left params a q.conj.columns rest) rest.rows = λ i. rows_renaming (ks i) (h i) in
    let m = more_is params rest a own more e f in
    let at : Some d ≡ option_map (λ rows. at_rows q (extended q.conj (further params a rest) rows)) (Some made) = ap Some (s ∙ ap (λ (n : ℕ). at_rows q (extended q.conj n made)) m) in
    at ∙ ap (option_map (λ rows. at_rows q (extended q.conj (further params a rest) rows))) (whole ∙ moved) ∙ ap (option_and_then (with_rest params q rest)) (sym l)

pub rest_none : (params : ℕ) (q : Path) (rest : Conj) (a : Assumed) (own columns : List ℕ) (more : ℕ) (given : List Row) → q.last ≡ Some a → own ≡ case_columns params a → more ≡ rest.columns - length own → columns ≡ own ++ range_with_len q.conj.columns more → given ≡ rest.rows
    → ¬ (CanRenameAll columns given) → None ≡ at_rest params q rest
rest_none params q rest a own columns more given l e f g h r =
    let whole : None ≡ rows_renaming columns given = rows_none columns given r in
    let ks = columns_are params q rest a own columns more e f g in
    let moved : rows_renaming columns given ≡ rows_renaming (columns_left params a q.conj.columns rest) rest.rows = λ i. rows_renaming (ks i) (h i) in
    ap (option_map (λ rows. at_rows q (extended q.conj (further params a rest) rows))) (whole ∙ moved) ∙ ap (option_and_then (with_rest params q rest)) (sym l)

-- ---- all cases

cases_end : (params : ℕ) (bs : List Path) (cases : List Case) (n : ℕ) → min (length bs) (length cases) ≤ n → cases_of params (drop n bs) (drop n cases) ≡ []
cases_end params [] cases zero l = refl
cases_end params [] cases (suc n) l = refl
cases_end params (b ∷ bs) [] zero l = refl
cases_end params (b ∷ bs) [] (suc n) l = by (drop n bs)
  where
    by : (xs : List Path) → cases_of params xs [] ≡ []
    by [] = refl
    by (x ∷ xs) = refl
cases_end params (b ∷ bs) (case ∷ cases) zero l = absurd (omega (arith, l))
cases_end params (b ∷ bs) (case ∷ cases) (suc n) l = cases_end params bs cases n (omega (arith, l))

pub cases_all : (params : ℕ) (bs : List Path) (cases : List Case) (old found : List Path) (n m : ℕ) → found ++ cases_of params (drop n bs) (drop n cases) ≡ old ++ cases_of params bs cases → m ≡ min (length bs) (length cases) → m ≤ n → found ≡ old ++ cases_of params bs cases
cases_all params bs cases old found n m h e l = sym (append-nil found) ∙ ap (λ (xs : List Path). found ++ xs) (sym (cases_end params bs cases n (omega (arith, e, l)))) ∙ h

-- ---- no piece on the right

no_count : (o : Option Domain) → None ≡ option_map size_of o → count_by o ≡ 0
no_count None e = refl
no_count (Some a) e = absurd cc

pub none_right : (s : ProgramFlows) (order : List (Site × Order)) (c : Claim) (found : List Path) (o : Option Size) → found ≡ [] → o ≡ option_map size_of (domain (judge s).right c.right) → o ≡ None → found ≡ questions_of s order c
none_right s order c found o e f g =
    let none = no_count (domain (judge s).right c.right) (sym g ∙ f) in
    e ∙ sym (flat_none (beside_of s order c (count_by (domain (judge s).right c.right))) (λ left. ap (λ (n : ℕ). beside_of s order c n left) none) (range_with_len 0 (count_by (domain (judge s).left c.left))))
