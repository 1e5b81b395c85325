-- Lists that go side by side.
use Rattle.std.proofs.Common.{◌≡◌, ℕ, ◌+◌, ◌<◌, ◌≤◌, ℤ, pos, List, [], ◌∷◌, ◌++◌, refl, rules, ap, sym, ◌∙◌, append_assoc, append-nil, codes, drop, length, get_or, arith, drop_of_length-le, decimal, ◌^◌, min, subst, ◌⊎◌, inl, inr, suc}
use Rattle.std.proofs.lemmas.Fmt.{length-decimal-le}
use Rattle.std.specs.Prelude.{slice_get}
use Rattle.std.proofs.lemmas.List.{drop_more}
use Rattle.ac_forms.specs.declared.conj.Conj.{Conj}
use Rattle.ac_sets.specs.SetTexts.{pieces_text}
use Rattle.ac_syntax.specs.Text.{array_name}
use Rattle.ac_report.specs.declared.types.Verdict.{Verdict}
use Rattle.ac_report.specs.Layouts.{Layout, numbered}
use Rattle.ac_syntax.proofs.TurnEntries.{flat_map_last}
use Rattle.std.specs.List.{flat_map, range_with_len}
use Rattle.std.proofs.lemmas.List.FromFn.{map-range_with_len_more}
use Rattle.ac_report.specs.ReportTexts.{line, value_text, further_values, verdict_lines, report_lines, entry_line, entry_lines}
use Rattle.ac_report.specs.FlowTexts.{union_line, source_line}
use Rattle.ac_widen.specs.declared.derivation.Entry.{Entry}
use Rattle.ac_flow.specs.declared.types.Case.{Case}

-- a letter with a number is short
pub short_name : (letter n : ℕ) (name : List ℕ) → n < 2 ^ 64 → name ≡ letter ∷ decimal n → (0 < length name) × (length name ≤ 64)
short_name letter n name h e =
    let l = length-decimal-le 20 n (omega arith) (omega (arith, h)) h in
    let m : length name ≡ length (decimal n) + 1 = ap length e ∙ omega arith in
    (omega (arith, m), omega (arith, l, m))

pub ruleset name_steps = (short_name)

least_is : (m n : ℕ) → (min m n ≡ m) ⊎ (min m n ≡ n)
least_is m n = grind arith

no_values : (ns : List (List ℕ)) → further_values ns [] ≡ []
no_values [] = refl
no_values (n ∷ ns) = refl

-- nothing is behind the last
values_over : (ns : List (List ℕ)) (vs : List ℤ) (i : ℕ) → min (length ns) (length vs) ≤ i → further_values (drop i ns) (drop i vs) ≡ []
values_over ns vs i h = elim (least_is (length ns) (length vs)) [
  | inl e ↦ ap (λ l. further_values l (drop i vs)) (drop_of_length-le ns (subst (λ n. n ≤ i) e h))
  | inr e ↦ ap (further_values (drop i ns)) (drop_of_length-le vs (subst (λ n. n ≤ i) e h)) ∙ no_values (drop i ns)
]

no_verdicts : (l : Layout) (os : List ℕ) → report_lines l os [] ≡ []
no_verdicts l [] = refl
no_verdicts l (o ∷ os) = refl

report_over : (l : Layout) (os : List ℕ) (vs : List Verdict) (i : ℕ) → min (length os) (length vs) ≤ i → report_lines l (drop i os) (drop i vs) ≡ []
report_over l os vs i h = elim (least_is (length os) (length vs)) [
  | inl e ↦ ap (λ x. report_lines l x (drop i vs)) (drop_of_length-le os (subst (λ n. n ≤ i) e h))
  | inr e ↦ ap (report_lines l (drop i os)) (drop_of_length-le vs (subst (λ n. n ≤ i) e h)) ∙ no_verdicts l (drop i os)
]

-- the values before the one with the number i are there
pub record ValuesHalfway (ns : List (List ℕ)) (vs : List ℤ) (old bytes : List ℕ) (i : ℕ) : Type 0 where
  pub text : bytes ++ further_values (drop i ns) (drop i vs) ≡ old ++ further_values ns vs

pub values_start : (ns : List (List ℕ)) (vs : List ℤ) (old : List ℕ) → ValuesHalfway ns vs old old 0
values_start ns vs old = record { text = refl }

pub values_next : (ns : List (List ℕ)) (vs : List ℤ) (old bytes new n : List ℕ) (v : ℤ) (i : ℕ) → ValuesHalfway ns vs old bytes i → i < min (length ns) (length vs) → n ≡ get_or ns i n → v ≡ get_or vs i (pos 0)
    → new ≡ bytes ++ (codes ", " ++ value_text n v) → ValuesHalfway ns vs old new (i + 1)
values_next ns vs old bytes new n v i h m is at e =
    let rest = further_values (drop (i + 1) ns) (drop (i + 1) vs) in
    let here : further_values (drop i ns) (drop i vs) ≡ (codes ", " ++ value_text n v) ++ rest =
    ap (λ l. further_values l (drop i vs)) (drop_more ns i n (omega (arith, m)) ∙ ap (λ y. y ∷ drop (i + 1) ns) (sym is))
    ∙ ap (further_values (n ∷ drop (i + 1) ns)) (drop_more vs i (pos 0) (omega (arith, m)) ∙ ap (λ y. y ∷ drop (i + 1) vs) (sym at))
    ∙ sym (append_assoc (codes ", ") (value_text n v) rest) in
    record { text = ap (λ l. l ++ rest) e ∙ append_assoc bytes (codes ", " ++ value_text n v) rest ∙ ap (λ l. bytes ++ l) (sym here) ∙ h.text }

pub values_end : (ns : List (List ℕ)) (vs : List ℤ) (old bytes : List ℕ) (i : ℕ) → ValuesHalfway ns vs old bytes i → min (length ns) (length vs) ≤ i → bytes ≡ old ++ further_values ns vs
values_end ns vs old bytes i h over = sym (append-nil bytes) ∙ ap (λ l. bytes ++ l) (sym (values_over ns vs i over)) ∙ h.text

pub ruleset values_steps = (values_start, values_next, values_end)

-- the verdicts before the one with the number i are there
pub record ReportHalfway (l : Layout) (os : List ℕ) (vs : List Verdict) (old bytes : List ℕ) (i : ℕ) : Type 0 where
  pub text : bytes ++ report_lines l (drop i os) (drop i vs) ≡ old ++ report_lines l os vs

pub report_start : (l : Layout) (os : List ℕ) (vs : List Verdict) (old : List ℕ) → ReportHalfway l os vs old old 0
report_start l os vs old = record { text = refl }

pub report_next : (l : Layout) (os : List ℕ) (vs : List Verdict) (old bytes new : List ℕ) (o : ℕ) (v : Verdict) (i : ℕ) → ReportHalfway l os vs old bytes i → i < min (length os) (length vs) → o ≡ get_or os i 0 → v ≡ get_or vs i v
    → new ≡ bytes ++ verdict_lines l (array_name (slice_get l.arrays o)) v → ReportHalfway l os vs old new (i + 1)
report_next l os vs old bytes new o v i h m is at e =
    let rest = report_lines l (drop (i + 1) os) (drop (i + 1) vs) in
    let text = verdict_lines l (array_name (slice_get l.arrays o)) v in
    let here : report_lines l (drop i os) (drop i vs) ≡ text ++ rest =
    ap (λ x. report_lines l x (drop i vs)) (drop_more os i 0 (omega (arith, m)) ∙ ap (λ y. y ∷ drop (i + 1) os) (sym is))
    ∙ ap (report_lines l (o ∷ drop (i + 1) os)) (drop_more vs i v (omega (arith, m)) ∙ ap (λ y. y ∷ drop (i + 1) vs) (sym at)) in
    record { text = ap (λ x. x ++ rest) e ∙ append_assoc bytes text rest ∙ ap (λ x. bytes ++ x) (sym here) ∙ h.text }

pub report_end : (l : Layout) (os : List ℕ) (vs : List Verdict) (old bytes : List ℕ) (i : ℕ) → ReportHalfway l os vs old bytes i → min (length os) (length vs) ≤ i → bytes ≡ old ++ report_lines l os vs
report_end l os vs old bytes i h over = sym (append-nil bytes) ∙ ap (λ x. bytes ++ x) (sym (report_over l os vs i over)) ∙ h.text

pub ruleset report_steps = (report_start, report_next, report_end)

-- the entries before the one with the number i are there
pub record EntriesHalfway (l : Layout) (es : List Entry) (old bytes : List ℕ) (i : ℕ) : Type 0 where
  pub text : bytes ++ entry_lines l i (drop i es) ≡ old ++ entry_lines l 0 es

pub entries_start : (l : Layout) (es : List Entry) (old : List ℕ) → EntriesHalfway l es old old 0
entries_start l es old = record { text = refl }

pub entries_next : (l : Layout) (es : List Entry) (old bytes new : List ℕ) (e : Entry) (i : ℕ) → EntriesHalfway l es old bytes i → i < length es → e ≡ get_or es i e → new ≡ bytes ++ entry_line l i e → EntriesHalfway l es old new (i + 1)
entries_next l es old bytes new e i h m is n =
    let rest = entry_lines l (i + 1) (drop (i + 1) es) in
    let here : entry_lines l i (drop i es) ≡ entry_line l i e ++ rest = ap (entry_lines l i) (drop_more es i e m ∙ ap (λ y. y ∷ drop (i + 1) es) (sym is)) in
    record { text = ap (λ x. x ++ rest) n ∙ append_assoc bytes (entry_line l i e) rest ∙ ap (λ x. bytes ++ x) (sym here) ∙ h.text }

pub entries_end : (l : Layout) (es : List Entry) (old bytes : List ℕ) (i : ℕ) → EntriesHalfway l es old bytes i → length es ≤ i → bytes ≡ old ++ entry_lines l 0 es
entries_end l es old bytes i h over = sym (append-nil bytes) ∙ ap (λ x. bytes ++ entry_lines l i x) (sym (drop_of_length-le es over)) ∙ h.text

pub ruleset entry_steps = (entries_start, entries_next, entries_end)

-- the sources before the assignment k are there
pub record SourcesHalfway (l : Layout) (s : ℕ) (cases : List Case) (old bytes : List ℕ) (k : ℕ) : Type 0 where
  pub text : bytes ≡ old ++ flat_map (source_line l s cases) (range_with_len 0 k)

pub sources_start : (l : Layout) (s : ℕ) (cases : List Case) (old : List ℕ) → SourcesHalfway l s cases old old 0
sources_start l s cases old = record { text = sym (append-nil old) }

pub sources_next : (l : Layout) (s : ℕ) (cases : List Case) (old bytes new : List ℕ) (k : ℕ) → SourcesHalfway l s cases old bytes k → new ≡ bytes ++ source_line l s cases k → SourcesHalfway l s cases old new (k + 1)
sources_next l s cases old bytes new k h e =
    let same : 0 + k ≡ k = omega arith in
    let f = source_line l s cases in
    let more : flat_map f (range_with_len 0 (k + 1)) ≡ flat_map f (range_with_len 0 k) ++ f k = let one : k + 1 ≡ suc k = omega arith in ap (λ n. flat_map f (range_with_len 0 n)) one ∙ flat_map_last f 0 k ∙ ap (λ n. flat_map f (range_with_len 0 k) ++ f n) same in
    record { text = e ∙ ap (λ x. x ++ f k) h.text ∙ append_assoc old (flat_map f (range_with_len 0 k)) (f k) ∙ ap (λ x. old ++ x) (sym more) }

pub sources_end : (l : Layout) (s : ℕ) (cases : List Case) (old bytes : List ℕ) (k count : ℕ) → SourcesHalfway l s cases old bytes k → k ≡ count → bytes ≡ old ++ flat_map (source_line l s cases) (range_with_len 0 count)
sources_end l s cases old bytes k count h e = h.text ∙ ap (λ n. old ++ flat_map (source_line l s cases) (range_with_len 0 n)) e

pub ruleset source_steps = (sources_start, sources_next, sources_end)

-- the names before the number k are there
pub record Named (letter : ℕ) (old made : List (List ℕ)) (k : ℕ) : Type 0 where
  pub names : made ≡ old ++ numbered letter k

pub named_start : (letter : ℕ) (old : List (List ℕ)) → Named letter old old 0
named_start letter old = record { names = sym (append-nil old) }

pub named_next : (letter : ℕ) (old made new : List (List ℕ)) (k : ℕ) → Named letter old made k → new ≡ made ++ (letter ∷ decimal k) ∷ [] → Named letter old new (k + 1)
named_next letter old made new k h e =
    let name = letter ∷ decimal k in
    record {
      names = e ∙ ap (λ x. x ++ name ∷ []) h.names ∙ append_assoc old (numbered letter k) (name ∷ [])
          ∙ ap (λ x. old ++ x) (sym (map-range_with_len_more (λ j. letter ∷ decimal j) 0 k k (omega arith)));
    }

pub named_end : (letter : ℕ) (old made : List (List ℕ)) (k count : ℕ) → Named letter old made k → k ≡ count → made ≡ old ++ numbered letter count
named_end letter old made k count h e = h.names ∙ ap (λ n. old ++ numbered letter n) e

pub ruleset numbered_steps = (named_start, named_next, named_end)

pub union_some : (head : List ℕ) (names : List (List ℕ)) (pieces : List Conj) → ¬ (pieces ≡ []) → union_line head names pieces ≡ line (codes "  " ++ head ++ codes ": " ++ pieces_text names pieces)
union_some head names [] some = absurd (some refl)
union_some head names (c ∷ cs) some = refl

pub union_none : (head : List ℕ) (names : List (List ℕ)) (pieces : List Conj) → pieces ≡ [] → union_line head names pieces ≡ []
union_none head names pieces e = ap (union_line head names) e

pub ruleset union_steps = (union_some, union_none, append_assoc, append-nil)
