-- Lines, one after another.
use Rattle.std.proofs.Common.{◌≡◌, ◌≢◌, ◌<◌, ◌≤◌, ◌+◌, ◌-◌, ◌^◌, ◌⊎◌, inl, inr, ℕ, zero, suc, ℤ, List, [], ◌∷◌, ◌++◌, map, drop, length, get_or, replicate, decimal, Option, None, Some, MatchOption, refl, sym, ap, subst, ◌∙◌, arith, append_assoc, append-nil}
use Rattle.std.specs.Prelude.{codes}
use Rattle.std.specs.Fmt.{signed_decimal}
use Rattle.std.specs.List.{AllByRecursion}
use Rattle.std.proofs.lemmas.List.{length-append, length-map}
use Rattle.ac_forms.specs.Affine.{Affine}
use Rattle.ac_poly.specs.declared.types.Model.{Model}
use Rattle.ac_poly.specs.declared.types.StmtModel.{StmtModel}
use Rattle.ac_prooftext_lines.specs.LineWords.{further}
use Rattle.ac_prooftext_lines.specs.Spelling.{terms_from}
use Rattle.ac_legal_text.specs.Fronts.{IsEnd}
use Rattle.ac_legal_text.specs.OrderAnswers.{IfLine}
use Rattle.ac_legal_text.specs.declared.types.OrderFault.{OrderFault}
use Rattle.ac_legal_text.specs.declared.types.OrderFault.TheVariants.{Line, Memory}
use Rattle.ac_legal_text.specs.LineKinds.{Kind, assign, time, last, BeginsWith, FailsAt, kinds_from}
use Rattle.ac_legal_text.specs.OrderTexts.{IsSmall, IsTimeOver, AreTimesOver, AreTimes, AreLevels, Spells, head_line, assign_line, time_line, end_line, assignment_lines, order_lines, text_of, columns_of}
use Rattle.ac_legal_text.proofs.Numerals.{same_number}
use Rattle.ac_legal_text.proofs.Terms.{end_of}
use Rattle.ac_legal_text.proofs.Texts.{same_rest}

-- ---- the line of a form

time_shape : (f : Affine) (r : List ℕ) → time_line f ++ 10 ∷ r ≡ codes "time " ++ (signed_decimal f.konst ++ (further (terms_from 0 f.coefs) ++ 10 ∷ r))
time_shape f r = ap (λ (l : List ℕ). codes "time " ++ l) (append_assoc (signed_decimal f.konst) (further (terms_from 0 f.coefs)) (10 ∷ r))

time_begins : (n : ℕ) (text rest : List ℕ) → BeginsWith (time n) text rest → (f : Affine) × IsTimeOver n f × (text ≡ codes "time " ++ (signed_decimal f.konst ++ (further (terms_from 0 f.coefs) ++ 10 ∷ rest)))
time_begins n text rest h = (h.is.0, h.is.1, h.joined ∙ ap (λ (l : List ℕ). l ++ 10 ∷ rest) h.is.2 ∙ time_shape h.is.0 rest)

pub no_word : (n : ℕ) (text : List ℕ) → ((r : List ℕ) → ¬ (text ≡ codes "time " ++ r)) → (rest : List ℕ) → ¬ (BeginsWith (time n) text rest)
no_word n text none rest h = let b = time_begins n text rest h in none (signed_decimal b.0.konst ++ (further (terms_from 0 b.0.coefs) ++ 10 ∷ rest)) b.2

pub no_constant : (n : ℕ) (text words : List ℕ) → text ≡ codes "time " ++ words → ((z : ℤ) (r : List ℕ) → IsSmall z → IsEnd r → ¬ (words ≡ signed_decimal z ++ r)) → (rest : List ℕ) → ¬ (BeginsWith (time n) text rest)
no_constant n text words e none rest h =
    let b = time_begins n text rest h in
    let o : IsTimeOver n b.0 = b.1 in
    none b.0.konst (further (terms_from 0 b.0.coefs) ++ 10 ∷ rest) o.constant (end_of (terms_from 0 b.0.coefs) rest) (same_rest (codes "time ") words (signed_decimal b.0.konst ++ (further (terms_from 0 b.0.coefs) ++ 10 ∷ rest)) (sym e ∙ b.2))

pub no_coefficients : (n : ℕ) (text words terms : List ℕ) (k : ℤ) → text ≡ codes "time " ++ words → IsSmall k → IsEnd terms → words ≡ signed_decimal k ++ terms
    → ((cs : List ℤ) (r : List ℕ) → AllByRecursion IsSmall cs → length cs ≡ n → ¬ (terms ≡ further (terms_from 0 cs) ++ 10 ∷ r)) → (rest : List ℕ) → ¬ (BeginsWith (time n) text rest)
no_coefficients n text words terms k e small ends d none rest h =
    let b = time_begins n text rest h in
    let o : IsTimeOver n b.0 = b.1 in
    let same : words ≡ signed_decimal b.0.konst ++ (further (terms_from 0 b.0.coefs) ++ 10 ∷ rest) = same_rest (codes "time ") words (signed_decimal b.0.konst ++ (further (terms_from 0 b.0.coefs) ++ 10 ∷ rest)) (sym e ∙ b.2) in
    none b.0.coefs rest o.coefficients o.each
    (same_number words k b.0.konst terms (further (terms_from 0 b.0.coefs) ++ 10 ∷ rest) small ends d o.constant (end_of (terms_from 0 b.0.coefs) rest) same).1

pub time_made : (text words terms rest : List ℕ) (k : ℤ) (cs : List ℤ) → text ≡ codes "time " ++ words → words ≡ signed_decimal k ++ terms → terms ≡ further (terms_from 0 cs) ++ 10 ∷ rest → text ≡ time_line (record { konst = k; coefs = cs }) ++ 10 ∷ rest
time_made text words terms rest k cs e d t = e ∙ ap (λ (l : List ℕ). codes "time " ++ l) (d ∙ ap (λ (l : List ℕ). signed_decimal k ++ l) t) ∙ sym (time_shape (record { konst = k; coefs = cs }) rest)

-- ---- the lines without a form

assign_shape : (k : ℕ) (r : List ℕ) → assign_line k ++ 10 ∷ r ≡ codes "assign " ++ (decimal k ++ 10 ∷ r)
assign_shape k r = ap (λ (l : List ℕ). codes "assign " ++ (l ++ 10 ∷ r)) (append-nil (decimal k))

pub head_shape : (levels : ℕ) (r : List ℕ) → head_line levels ++ 10 ∷ r ≡ codes "affine-order 1 " ++ (decimal levels ++ 10 ∷ r)
head_shape levels r = ap (λ (l : List ℕ). codes "affine-order 1 " ++ (l ++ 10 ∷ r)) (append-nil (decimal levels))

assign_begins : (k : ℕ) (text rest : List ℕ) → BeginsWith (assign k) text rest → text ≡ codes "assign " ++ (decimal k ++ 10 ∷ rest)
assign_begins k text rest h = h.joined ∙ ap (λ (l : List ℕ). l ++ 10 ∷ rest) h.is ∙ assign_shape k rest

pub no_assign : (k : ℕ) (text : List ℕ) → ((r : List ℕ) → ¬ (text ≡ codes "assign " ++ r)) → (rest : List ℕ) → ¬ (BeginsWith (assign k) text rest)
no_assign k text none rest h = none (decimal k ++ 10 ∷ rest) (assign_begins k text rest h)

pub assign_read : {A : Type 0} (f : A → List ℕ) (k : ℕ) (text word : List ℕ) (o : Option A) → text ≡ codes "assign " ++ word
    → MatchOption o ((t : List ℕ) → ¬ (word ≡ decimal k ++ (codes "\n" ++ t))) (λ x. word ≡ decimal k ++ (codes "\n" ++ f x))
    → MatchOption o ((rest : List ℕ) → ¬ (BeginsWith (assign k) text rest)) (λ x. text ≡ assign_line k ++ 10 ∷ f x)
assign_read f k text word None e h = λ rest b. h rest (same_rest (codes "assign ") word (decimal k ++ 10 ∷ rest) (sym e ∙ assign_begins k text rest b))
assign_read f k text word (Some x) e h = e ∙ ap (λ (l : List ℕ). codes "assign " ++ l) h ∙ sym (assign_shape k (f x))

pub no_head_word : (text : List ℕ) → ((r : List ℕ) → ¬ (text ≡ codes "affine-order 1 " ++ r)) → (levels : ℕ) (rest : List ℕ) → AreLevels levels → ¬ (text ≡ head_line levels ++ 10 ∷ rest)
no_head_word text none levels rest within e = none (decimal levels ++ 10 ∷ rest) (e ∙ head_shape levels rest)

pub head_read : {A : Type 0} (f : A → ℕ) (g : A → List ℕ) (text word : List ℕ) (o : Option A) → text ≡ codes "affine-order 1 " ++ word
    → MatchOption o ((levels : ℕ) (rest : List ℕ) → AreLevels levels → ¬ (word ≡ decimal levels ++ 10 ∷ rest)) (λ x. AreLevels (f x) × (word ≡ decimal (f x) ++ 10 ∷ g x))
    → MatchOption o ((levels : ℕ) (rest : List ℕ) → AreLevels levels → ¬ (text ≡ head_line levels ++ 10 ∷ rest)) (λ x. AreLevels (f x) × (text ≡ head_line (f x) ++ 10 ∷ g x))
head_read f g text word None e h = λ levels rest within k. h levels rest within (same_rest (codes "affine-order 1 ") word (decimal levels ++ 10 ∷ rest) (sym e ∙ k ∙ head_shape levels rest))
head_read f g text word (Some x) e h = (h.0, e ∙ ap (λ (l : List ℕ). codes "affine-order 1 " ++ l) h.1 ∙ sym (head_shape (f x) (g x)))

pub no_end : (text : List ℕ) (before : ℕ) → ((r : List ℕ) → ¬ (text ≡ codes "end\n" ++ r)) → FailsAt (last ∷ []) text before (before + 1)
no_end text before none = inl (refl, λ rest h. none rest (h.joined ∙ ap (λ (l : List ℕ). l ++ 10 ∷ rest) h.is))

pub is_end : (text rest : List ℕ) → text ≡ codes "end\n" ++ rest → rest ≡ [] → text ≡ text_of (end_line ∷ [])
is_end text rest e none = e ∙ ap (λ (r : List ℕ). codes "end\n" ++ r) none

pub empty_is : (xs : List ℕ) → length xs ≡ 0 → xs ≡ []
empty_is [] h = refl
empty_is (x ∷ xs) h = absurd (omega (arith, h))

pub beyond_end : (text rest : List ℕ) (before : ℕ) → text ≡ codes "end\n" ++ rest → rest ≢ [] → FailsAt (last ∷ []) text before (before + 2)
beyond_end text rest before e some = inr (rest, record { line = end_line; is = refl; joined = e }, (let k : before + 2 ≡ before + 1 + 1 = omega arith in k, some))

-- ---- lengths

pub shorter : (text line rest : List ℕ) → text ≡ line ++ 10 ∷ rest → length rest + 1 ≤ length text
shorter text line rest e = let l : length text ≡ length line + suc (length rest) = ap length e ∙ length-append line (10 ∷ rest) in omega (arith, l)

pub lines_shorter : (lines : List (List ℕ)) (rest : List ℕ) → length lines + length rest ≤ length (text_of lines ++ rest)
lines_shorter [] rest = omega arith
lines_shorter (l ∷ lines) rest =
    let h = lines_shorter lines rest in
    let a : length (((l ++ 10 ∷ []) ++ text_of lines) ++ rest) ≡ length ((l ++ 10 ∷ []) ++ (text_of lines ++ rest)) = ap length (append_assoc (l ++ 10 ∷ []) (text_of lines) rest) in
    let b : length ((l ++ 10 ∷ []) ++ (text_of lines ++ rest)) ≡ length (l ++ 10 ∷ []) + length (text_of lines ++ rest) = length-append (l ++ 10 ∷ []) (text_of lines ++ rest) in
    let d : length (l ++ 10 ∷ []) ≡ length l + 1 = length-append l (10 ∷ []) in
    omega (arith, h, a, b, d)

pub room_left : (before levels k : ℕ) (text rest : List ℕ) (fs : List Affine) → text ≡ text_of (assign_line k ∷ map time_line fs) ++ rest → length fs ≡ levels → before + length text + 1 < 2 ^ 64 → before + 1 + levels + length rest + 1 < 2 ^ 64
room_left before levels k text rest fs e count room =
    let lines = lines_shorter (assign_line k ∷ map time_line fs) rest in
    let each : length (map time_line fs) ≡ length fs = length-map fs time_line in
    let same : length text ≡ length (text_of (assign_line k ∷ map time_line fs) ++ rest) = ap length e in
    omega (arith, lines, each, same, count, room)

-- ---- lines that are joined

pub line_joined : (line text rest r : List ℕ) (lines : List (List ℕ)) → text ≡ line ++ 10 ∷ rest → rest ≡ text_of lines ++ r → text ≡ text_of (line ∷ lines) ++ r
line_joined line text rest r lines e h = e ∙ ap (λ (x : List ℕ). line ++ 10 ∷ x) h ∙ sym (append_assoc line (10 ∷ []) (text_of lines ++ r)) ∙ sym (append_assoc (line ++ 10 ∷ []) (text_of lines) r)

text_append : (xs ys : List (List ℕ)) → text_of (xs ++ ys) ≡ text_of xs ++ text_of ys
text_append [] ys = refl
text_append (x ∷ xs) ys = ap (λ (t : List ℕ). (x ++ 10 ∷ []) ++ t) (text_append xs ys) ∙ sym (append_assoc (x ++ 10 ∷ []) (text_of xs) (text_of ys))

pub lines_joined : (xs ys : List (List ℕ)) (text rest : List ℕ) → text ≡ text_of xs ++ rest → rest ≡ text_of ys → text ≡ text_of (xs ++ ys)
lines_joined xs ys text rest e h = e ∙ ap (λ (x : List ℕ). text_of xs ++ x) h ∙ sym (text_append xs ys)

-- ---- faults

pub on_line : (fault : OrderFault) (P Q : ℕ → Type 0) → ((n : ℕ) → P n → Q n) → IfLine fault P → IfLine fault Q
on_line (Line n) P Q f h = f n h
on_line (Memory e) P Q f h = tt

-- ---- the arms of an answer that may be missing

pub some_arm : {A : Type 0} (o : Option A) (x : A) (P : Type 0) (Q : A → Type 0) → o ≡ Some x → MatchOption o P Q → Q x
some_arm o x P Q is h = subst (λ q. MatchOption q P Q) is h

pub none_arm : {A : Type 0} (o : Option A) (P : Type 0) (Q : A → Type 0) → o ≡ None → MatchOption o P Q → P
none_arm o P Q is h = subst (λ q. MatchOption q P Q) is h

-- ---- the times of an assignment

pub no_times : (text : List ℕ) (old : List Affine) (left n : ℕ) → left ≡ 0 → (fs : List Affine) × (old ≡ old ++ fs) × AreTimesOver left n fs × (text ≡ text_of (map time_line fs) ++ text)
no_times text old left n z = ([], sym (append-nil old), record { count = sym z; all = tt }, refl)

pub times_more : (text rest r : List ℕ) (old mid new : List Affine) (left n : ℕ) (f : Affine) → left ≢ 0 → mid ≡ old ++ f ∷ [] → IsTimeOver n f → text ≡ time_line f ++ 10 ∷ rest
    → (fs : List Affine) × (new ≡ mid ++ fs) × AreTimesOver (left - 1) n fs × (rest ≡ text_of (map time_line fs) ++ r)
    → (fs : List Affine) × (new ≡ old ++ fs) × AreTimesOver left n fs × (text ≡ text_of (map time_line fs) ++ r)
times_more text rest r old mid new left n f some m o e h =
    let more : AreTimesOver (left - 1) n h.0 = h.2 in (
      f ∷ h.0,
      h.1 ∙ ap (λ (xs : List Affine). xs ++ h.0) m ∙ append_assoc old (f ∷ []) h.0,
      record { count = (let c = more.count in counted left (length h.0) some c); all = (o, more.all) },
      line_joined (time_line f) text rest r (map time_line h.0) e h.3,
    )
  where
    counted : (left n : ℕ) → left ≢ 0 → n ≡ left - 1 → suc n ≡ left
    counted zero n some c = absurd (some refl)
    counted (suc left) n some c = omega (arith, c)

pub fails_here : (left n before : ℕ) (text : List ℕ) (more : List Kind) → left ≢ 0 → ((rest : List ℕ) → ¬ (BeginsWith (time n) text rest)) → FailsAt (replicate left (time n) ++ more) text before (before + 1)
fails_here zero n before text more some none = absurd (some refl)
fails_here (suc left) n before text more some none = inl (refl, none)

pub fails_later : (left n before number : ℕ) (text rest : List ℕ) (more : List Kind) (f : Affine) → left ≢ 0 → IsTimeOver n f → text ≡ time_line f ++ 10 ∷ rest
    → FailsAt (replicate (left - 1) (time n) ++ more) rest (before + 1) number → FailsAt (replicate left (time n) ++ more) text before number
fails_later zero n before number text rest more f some o e h = absurd (some refl)
fails_later (suc left) n before number text rest more f some o e h =
    inr (rest, record { line = time_line f; is = (f, o, refl); joined = e }, subst (λ (k : ℕ). FailsAt (replicate k (time n) ++ more) rest (before + 1) number) (let k : suc left - 1 ≡ left = omega arith in k) h)

-- ---- an assignment

pub assignment_more : (text rest r : List ℕ) (old new : List Affine) (levels n k : ℕ) → text ≡ assign_line k ++ 10 ∷ rest
    → (fs : List Affine) × (new ≡ old ++ fs) × AreTimesOver levels n fs × (rest ≡ text_of (map time_line fs) ++ r)
    → (fs : List Affine) × (new ≡ old ++ fs) × AreTimesOver levels n fs × (text ≡ text_of (assign_line k ∷ map time_line fs) ++ r)
assignment_more text rest r old new levels n k e h = (h.0, h.1, h.2, line_joined (assign_line k) text rest r (map time_line h.0) e h.3)

pub assign_fails : (levels n k before number : ℕ) (text rest : List ℕ) (more : List Kind) → text ≡ assign_line k ++ 10 ∷ rest
    → FailsAt (replicate levels (time n) ++ more) rest (before + 1) number → FailsAt (assign k ∷ (replicate levels (time n) ++ more)) text before number
assign_fails levels n k before number text rest more e h = inr (rest, record { line = assign_line k; is = refl; joined = e }, h)

-- behind the times that are read
behind_times : (fs : List Affine) (n before number : ℕ) (text rest : List ℕ) (more : List Kind) → AllByRecursion (IsTimeOver n) fs → text ≡ text_of (map time_line fs) ++ rest
    → FailsAt more rest (before + length fs) number → FailsAt (replicate (length fs) (time n) ++ more) text before number
behind_times [] n before number text rest more all e h = subst (λ (x : List ℕ × ℕ). FailsAt more x.0 x.1 number) (λ i. (sym e i, (let k : before + 0 ≡ before = omega arith in k) i)) h
behind_times (f ∷ fs) n before number text rest more all e h =
    let front : text ≡ time_line f ++ 10 ∷ (text_of (map time_line fs) ++ rest) = e ∙ append_assoc (time_line f ++ 10 ∷ []) (text_of (map time_line fs)) rest ∙ append_assoc (time_line f) (10 ∷ []) (text_of (map time_line fs) ++ rest) in
    inr (
      text_of (map time_line fs) ++ rest,
      record { line = time_line f; is = (f, all.0, refl); joined = front },
      behind_times fs n (before + 1) number (text_of (map time_line fs) ++ rest) rest more all.1 refl (subst (λ (k : ℕ). FailsAt more rest k number) (let k : before + suc (length fs) ≡ before + 1 + length fs = omega arith in k) h),
    )

-- ---- all assignments

pub columns_there : (params : ℕ) (stmts : List StmtModel) (k : ℕ) (s : StmtModel) → k < length stmts → s ≡ get_or stmts k s
    → drop k (map (λ (t : StmtModel). params + length t.loops) stmts) ≡ (params + length s.loops) ∷ drop (suc k) (map (λ (t : StmtModel). params + length t.loops) stmts)
columns_there params [] k s l e = absurd (omega arith)
columns_there params (t ∷ stmts) zero s l e = ap (λ (x : StmtModel). (params + length x.loops) ∷ map (λ (y : StmtModel). params + length y.loops) stmts) (sym e)
columns_there params (t ∷ stmts) (suc k) s l e = columns_there params stmts k s (omega arith) e

pub columns_next : (m : Model) (k : ℕ) (s : StmtModel) (columns : ℕ) → k < length m.stmts → s ≡ get_or m.stmts k s → columns ≡ m.params + length s.loops → drop k (columns_of m) ≡ columns ∷ drop (k + 1) (columns_of m)
columns_next m k s columns l e c =
    columns_there m.params m.stmts k s l e ∙ (λ i. sym c i ∷ drop ((let n : suc k ≡ k + 1 = omega arith in n) i) (columns_of m))

none_left : (params : ℕ) (stmts : List StmtModel) (k : ℕ) → k ≡ length stmts → drop k (map (λ (t : StmtModel). params + length t.loops) stmts) ≡ []
none_left params [] k e = ap (λ (n : ℕ). drop n []) e
none_left params (t ∷ stmts) zero e = absurd (omega (arith, e))
none_left params (t ∷ stmts) (suc k) e = none_left params stmts k (omega (arith, e))

pub columns_end : (m : Model) (k : ℕ) → k ≡ length m.stmts → drop k (columns_of m) ≡ []
columns_end m k e = none_left m.params m.stmts k e

pub assignments_end : (m : Model) (levels k : ℕ) (text : List ℕ) (old : List (List Affine)) → k ≡ length m.stmts → text ≡ text_of (end_line ∷ [])
    → (ts : List (List Affine)) × (old ≡ old ++ ts) × AreTimes levels (drop k (columns_of m)) ts × (text ≡ text_of (assignment_lines k ts ++ end_line ∷ []))
assignments_end m levels k text old e h = ([], sym (append-nil old), subst (λ (ns : List ℕ). AreTimes levels ns []) (sym (columns_end m k e)) tt, h)

pub end_fails : (m : Model) (levels k before number : ℕ) (text : List ℕ) → k ≡ length m.stmts → FailsAt (last ∷ []) text before number → FailsAt (kinds_from levels k (drop k (columns_of m))) text before number
end_fails m levels k before number text e h = subst (λ (ns : List ℕ). FailsAt (kinds_from levels k ns) text before number) (sym (columns_end m k e)) h

pub assignments_more : (m : Model) (levels k columns : ℕ) (text rest : List ℕ) (old mid new : List (List Affine)) (forms fs : List Affine) → drop k (columns_of m) ≡ columns ∷ drop (k + 1) (columns_of m)
    → forms ≡ fs → AreTimesOver levels columns fs → text ≡ text_of (assign_line k ∷ map time_line fs) ++ rest → mid ≡ old ++ forms ∷ []
    → (ts : List (List Affine)) × (new ≡ mid ++ ts) × AreTimes levels (drop (k + 1) (columns_of m)) ts × (rest ≡ text_of (assignment_lines (k + 1) ts ++ end_line ∷ []))
    → (ts : List (List Affine)) × (new ≡ old ++ ts) × AreTimes levels (drop k (columns_of m)) ts × (text ≡ text_of (assignment_lines k ts ++ end_line ∷ []))
assignments_more m levels k columns text rest old mid new forms fs c is over e p h = (
  fs ∷ h.0,
  h.1 ∙ ap (λ (xs : List (List Affine)). xs ++ h.0) (p ∙ ap (λ (x : List Affine). old ++ x ∷ []) is) ∙ append_assoc old (fs ∷ []) h.0,
  subst (λ (ns : List ℕ). AreTimes levels ns (fs ∷ h.0)) (sym c) (over, h.2),
  lines_joined (assign_line k ∷ map time_line fs) (assignment_lines (suc k) h.0 ++ end_line ∷ []) text rest e (h.3 ∙ ap (λ (n : ℕ). text_of (assignment_lines n h.0 ++ end_line ∷ [])) (let n : k + 1 ≡ suc k = omega arith in n))
      ∙ ap (λ (ls : List (List ℕ)). text_of (assign_line k ∷ ls)) (sym (append_assoc (map time_line fs) (assignment_lines (suc k) h.0) (end_line ∷ []))),
)

pub first_fails : (m : Model) (levels k columns before number : ℕ) (text : List ℕ) → drop k (columns_of m) ≡ columns ∷ drop (k + 1) (columns_of m)
    → FailsAt (assign k ∷ (replicate levels (time columns) ++ kinds_from levels (suc k) (drop (k + 1) (columns_of m)))) text before number → FailsAt (kinds_from levels k (drop k (columns_of m))) text before number
first_fails m levels k columns before number text c h = subst (λ (ns : List ℕ). FailsAt (kinds_from levels k ns) text before number) (sym c) h

pub next_fails : (m : Model) (levels k columns before behind number : ℕ) (text rest : List ℕ) (fs : List Affine) → drop k (columns_of m) ≡ columns ∷ drop (k + 1) (columns_of m)
    → AreTimesOver levels columns fs → text ≡ text_of (assign_line k ∷ map time_line fs) ++ rest → behind ≡ before + 1 + levels
    → FailsAt (kinds_from levels (k + 1) (drop (k + 1) (columns_of m))) rest behind number → FailsAt (kinds_from levels k (drop k (columns_of m))) text before number
next_fails m levels k columns before behind number text rest fs c over e b h =
    let more = kinds_from levels (suc k) (drop (k + 1) (columns_of m)) in
    let count : length fs ≡ levels = over.count in
    let front : text ≡ assign_line k ++ 10 ∷ (text_of (map time_line fs) ++ rest) = e ∙ append_assoc (assign_line k ++ 10 ∷ []) (text_of (map time_line fs)) rest ∙ append_assoc (assign_line k) (10 ∷ []) (text_of (map time_line fs) ++ rest) in
    let there : FailsAt more rest (before + 1 + length fs) number =
    subst (λ (x : ℕ × ℕ). FailsAt (kinds_from levels x.0 (drop (k + 1) (columns_of m))) rest x.1 number) (λ i. ((let n : k + 1 ≡ suc k = omega arith in n) i, (b ∙ ap (λ (n : ℕ). before + 1 + n) (sym count)) i)) h in
    first_fails m levels k columns before number text c
    (inr (
      text_of (map time_line fs) ++ rest,
      record { line = assign_line k; is = refl; joined = front },
      subst (λ (n : ℕ). FailsAt (replicate n (time columns) ++ more) (text_of (map time_line fs) ++ rest) (before + 1) number) count (behind_times fs columns (before + 1) number (text_of (map time_line fs) ++ rest) rest more over.all refl there),
    ))

-- ---- the whole text

pub whole_order : (m : Model) (levels : ℕ) (text rest : List ℕ) (times ts : List (List Affine)) → AreLevels levels → text ≡ head_line levels ++ 10 ∷ rest → times ≡ ts → AreTimes levels (columns_of m) ts
    → rest ≡ text_of (assignment_lines 0 ts ++ end_line ∷ []) → Spells m text times
whole_order m levels text rest times ts within e is forms r = record {
  levels = levels;
  within = within;
  forms = subst (AreTimes levels (columns_of m)) (sym is) forms;
  spelled = e ∙ ap (λ (l : List ℕ). head_line levels ++ 10 ∷ l) r ∙ sym (append_assoc (head_line levels) (10 ∷ []) (text_of (assignment_lines 0 ts ++ end_line ∷ []))) ∙ ap (λ (xs : List (List Affine)). text_of (order_lines levels xs)) (sym is);
}
