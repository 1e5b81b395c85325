-- The loops over the kill pieces of a copy, and over the kills of a case.
use Rattle.std.proofs.Common.{◌≡◌, ◌↔◌, ◌⊎◌, inl, inr, ℕ, zero, suc, ◌+◌, ◌<◌, ◌≤◌, ℤ, List, [], ◌∷◌, ◌++◌, length, take, get_or, sym, ap, ◌∙◌, subst, arith}
use Rattle.std.specs.List.{Contains}
use Rattle.std.specs.Prelude.{Result, IfErr}
use Rattle.std.proofs.lemmas.List.{take_more}
use Rattle.ac_forms.specs.Negation.{HasExtension}
use Rattle.ac_forms.specs.PieceMembership.{IsInSome, IsInNone, IsInOneAtMost}
use Rattle.ac_forms.specs.Rows.{Meets, AreRowsOver, IsWellMade}
use Rattle.ac_forms.specs.declared.conj.Conj.{Conj}
use Rattle.ac_forms.specs.declared.row.Row.{Row}
use Rattle.ac_sets.specs.Unions.{ArePieces}
use Rattle.ac_sets.proofs.Commons.{Meets-cut}
use Rattle.ac_omega.specs.declared.piece.Piece.{Piece}
use Rattle.ac_flow.specs.Cuts.{HasPoint, AllHavePoints, NoneMeet, IsLeft}
use Rattle.ac_omega.specs.Replays.{AreOver}
use Rattle.ac_flow.specs.CutStops.{Itself, AreCutCases, IfFull}
use Rattle.ac_flow.specs.declared.cut.CutStop.{CutStop}
use Rattle.ac_flow.proofs.Asked.{if_both}
use Rattle.ac_flow.specs.CaseRemainder.{AreKillsOf, AllKillsOf, AllOver, AllKills, IsLeftBy, IsStart, IsCut}
use Rattle.ac_flow.proofs.CaseRemainders.{IsRemaining}
use Rattle.ac_flow.proofs.CutLoops.{take_whole, same-fits}
use Rattle.ac_sets.proofs.Outsides.{holds-either}
use Rattle.ac_omega.specs.Projection.{MeetsRest}

-- ---- one copy

pub record ByHalfway (n room : ℕ) (pieces : List Conj) (found : List Piece) (kept : List Conj) (i : ℕ) : Type 0 where
  pub by : IsLeftBy n pieces (take i found) kept
  pub asked : (case : Conj) (kills : List (List Row)) → AreCutCases case kills pieces → AreKillsOf kills found → AreCutCases case kills kept
  pub apart : NoneMeet n pieces → NoneMeet n kept
  pub within : length pieces ≤ room → length kept ≤ room

pub by_start : (n room : ℕ) (pieces : List Conj) (found : List Piece) (kept : List Conj) → ArePieces n pieces → kept ≡ pieces → ByHalfway n room pieces found kept 0
by_start n room pieces found kept w e = record {
  within = same-fits room pieces kept e;
  by = record {
    made = subst (ArePieces n) (sym e) w;
    points = λ p l. ((λ h. (subst (λ (cs : List Conj). IsInSome HasExtension cs p) e h, (λ x. x))), (λ h. subst (λ (cs : List Conj). IsInSome HasExtension cs p) (sym e) h.0));
    each = λ h. subst AllHavePoints (sym e) h;
  };
  asked = λ case kills a b. subst (AreCutCases case kills) (sym e) a;
  apart = λ a. subst (NoneMeet n) (sym e) a;
}

pub kills-at : (kills : List (List Row)) (found : List Piece) (i : ℕ) (x : Piece) → AreKillsOf kills found → i < length found → x ≡ get_or found i x → Contains kills x.rest.rows
kills-at kills [] i x w m e = absurd (omega (arith, m))
kills-at kills (y ∷ ys) zero x w m e = rw e w.0
kills-at kills (y ∷ ys) (suc i) x w m e = kills-at kills ys i x w.1 (omega (arith, m)) e

some-snoc : (xs : List Piece) (x : Piece) (p : List ℤ) → IsInSome MeetsRest (xs ++ x ∷ []) p ↔ (IsInSome MeetsRest xs p ⊎ Meets x.rest.rows p)
some-snoc [] x p = ((λ h. elim h [ inl a ↦ inr a | inr b ↦ absurd b ]), (λ h. elim h [ inl a ↦ absurd a | inr b ↦ inl b ]))
some-snoc (y ∷ ys) x p =
    let r = some-snoc ys x p in (
      (λ h. elim h [ inl a ↦ inl (inl a) | inr b ↦ elim (r.0 b) [ inl c ↦ inl (inr c) | inr d ↦ inr d ] ]),
      (λ h. elim h [ inl a ↦ elim a [ inl c ↦ inl c | inr d ↦ inr (r.1 (inl d)) ] | inr b ↦ inr (r.1 (inr b)) ]),
    )

pub by_step : (n room : ℕ) (pieces : List Conj) (found : List Piece) (kept next : List Conj) (i : ℕ) (x : Piece) → ByHalfway n room pieces found kept i → i < length found → x ≡ get_or found i x
    → ArePieces n next → IsLeft n kept x.rest.rows next → ((case : Conj) (kills : List (List Row)) → AreCutCases case kills kept → Contains kills x.rest.rows → AreCutCases case kills next) → (NoneMeet n kept → NoneMeet n next) → length next ≤ room → ByHalfway n room pieces found next (i + 1)
by_step n room pieces found kept next i x h m e made left cases apart fits = record {
  within = λ l. fits;
  apart = λ a. apart (h.apart a);
  asked = λ case kills a b. cases case kills (h.asked case kills a b) (kills-at kills found i x b m e);
  by = subst (λ (xs : List Piece). IsLeftBy n pieces xs next) (sym more) (record {
    made = made;
    points = λ p l. (
      (λ a. let b = (left.points p l).0 a in let c = (h.by.points p l).0 b.0 in (c.0, (λ s. elim ((some-snoc (take i found) x p).0 s) [ inl u ↦ c.1 u | inr u ↦ b.1 u ]))),
      (λ a. (left.points p l).1 ((h.by.points p l).1 (a.0, (λ s. a.1 ((some-snoc (take i found) x p).1 (inl s)))), (λ s. a.1 ((some-snoc (take i found) x p).1 (inr s))))),
    );
    each = λ a. left.each (h.by.each a);
  });
}
  where
    more : take (i + 1) found ≡ take i found ++ x ∷ []
    more = rw e (take_more found i x m)

-- the same, where the pieces and the rows are handed on
pub by_step_as : (n room : ℕ) (pieces : List Conj) (found : List Piece) (kept next given : List Conj) (rows : List Row) (i : ℕ) (x : Piece) → ByHalfway n room pieces found kept i → i < length found → x ≡ get_or found i x → given ≡ kept → rows ≡ x.rest.rows
    → ArePieces n next → IsLeft n given rows next → ((case : Conj) (kills : List (List Row)) → AreCutCases case kills given → Contains kills rows → AreCutCases case kills next) → (NoneMeet n given → NoneMeet n next) → length next ≤ room → ByHalfway n room pieces found next (i + 1)
by_step_as n room pieces found kept next given rows i x h m e a b made left cases apart fits =
    by_step n room pieces found kept next i x h m e made
    (subst (λ (rs : List Row). IsLeft n kept rs next) b (subst (λ (cs : List Conj). IsLeft n cs rows next) a left))
    (λ case kills u v. cases case kills (subst (AreCutCases case kills) (sym a) u) (subst (λ (rs : List Row). Contains kills rs) (sym b) v))
    (λ u. apart (subst (NoneMeet n) (sym a) u)) fits

pub by_end : (n room : ℕ) (pieces : List Conj) (found : List Piece) (kept : List Conj) (i : ℕ) → ByHalfway n room pieces found kept i → length found ≤ i → IsLeftBy n pieces found kept
by_end n room pieces found kept i h l = subst (λ (xs : List Piece). IsLeftBy n pieces xs kept) (take_whole found i l) h.by

pub by_made : (n room : ℕ) (pieces : List Conj) (found : List Piece) (kept : List Conj) (i : ℕ) → ByHalfway n room pieces found kept i → ArePieces n kept
by_made n room pieces found kept i h = h.by.made

pub by_over : (n : ℕ) (found : List Piece) (i : ℕ) (x : Piece) → AreOver n found → i < length found → x ≡ get_or found i x → AreRowsOver n x.rest.rows
by_over n [] i x w m e = absurd (omega (arith, m))
by_over n (y ∷ ys) zero x w m e = rw e w.0
by_over n (y ∷ ys) (suc i) x w m e = by_over n ys i x w.1 (omega (arith, m)) e

pub ruleset by_steps = (by_start, by_step, by_end, by_made, by_over)

-- ---- the case itself

pub start_with : (case copy : Conj) (pieces : List Conj) → IsWellMade case → HasPoint case → copy ≡ case → pieces ≡ copy ∷ [] → IsStart case pieces
start_with case copy pieces w has same e = subst (IsStart case) (sym (e ∙ ap (λ (c : Conj). c ∷ []) same)) (record {
  made = (omega arith, w, tt);
  points = λ p l. ((λ h. elim h [ inl x ↦ Meets-cut case.rows case.columns p x.0 (omega (arith, l)) w x.2 | inr x ↦ absurd x ]), (λ h. inl ([], ap length (nil p) ∙ l, subst (Meets case.rows) (sym (nil p)) h)));
  each = (has, tt);
  asked = λ kills. (Itself, tt);
  apart = λ p l. ((λ x. tt), tt);
})
  where
    nil : (xs : List ℤ) → xs ++ [] ≡ xs
    nil xs = Rattle.std.proofs.lemmas.List.append-nil xs

pub start_without : (case : Conj) (pieces : List Conj) → (HasPoint case → ⊥) → pieces ≡ [] → IsStart case pieces
start_without case pieces empty e = subst (IsStart case) (sym e) (record {
  made = tt;
  points = λ p l. ((λ h. absurd h), (λ h. absurd (empty (p, record { long = l; meets = h }))));
  each = tt;
  asked = λ kills. tt;
  apart = λ p l. tt;
})

-- of the case alone, where there is no more room
alone-apart : (n : ℕ) (case : Conj) (old new : List Conj) → old ≡ [] → new ≡ old ++ case ∷ [] → NoneMeet n new
alone-apart n case old new none e p l = subst (λ (cs : List Conj). IsInOneAtMost HasExtension cs p) (sym (e ∙ ap (λ (x : List Conj). x ++ case ∷ []) none)) ((λ x. tt), tt)

alone-made : (case copy : Conj) (old new : List Conj) → old ≡ [] → IsWellMade case → copy ≡ case → new ≡ old ++ copy ∷ [] → ArePieces case.columns new
alone-made case copy old new none w same e = subst (ArePieces case.columns) (sym (e ∙ ap (λ (x : List Conj). x ++ copy ∷ []) none ∙ ap (λ (x : Conj). x ∷ []) same)) (omega arith, w, tt)

pub alone-full : {A : Type 0} (r : Result A CutStop) (room : ℕ) (case copy : Conj) (old new : List Conj) → IsWellMade case → copy ≡ case → old ≡ [] → IfErr r (λ e. IfFull e (length new ≡ room + 1)) → IfErr r (λ e. IfFull e ((room < length new) × (new ≡ old ++ copy ∷ [])))
    → IfErr r (λ e. IfFull e ((length new ≡ room + 1) × NoneMeet case.columns new × ArePieces case.columns new))
alone-full r room case copy old new w same none a b = if_both r _ _ _ (λ n k. (n, alone-apart case.columns copy old new none k.1, alone-made case copy old new none w same k.1)) a b

pub alone-cases : (kills : List (List Row)) (case copy : Conj) (old new : List Conj) → old ≡ [] → copy ≡ case → new ≡ old ++ copy ∷ [] → AreCutCases case kills new
alone-cases kills case copy old new none same e = subst (AreCutCases case kills) (sym (e ∙ ap (λ (x : List Conj). x ++ copy ∷ []) none ∙ ap (λ (x : Conj). x ∷ []) same)) (Itself, tt)

pub ruleset start_steps = (start_with, start_without)

-- ---- all kills

some-kill-snoc : (ks : List (List Piece)) (k : List Piece) (p : List ℤ) → IsInSome (IsInSome MeetsRest) (ks ++ k ∷ []) p ↔ (IsInSome (IsInSome MeetsRest) ks p ⊎ IsInSome MeetsRest k p)
some-kill-snoc [] k p = ((λ h. elim h [ inl a ↦ inr a | inr b ↦ absurd b ]), (λ h. elim h [ inl a ↦ absurd a | inr b ↦ inl b ]))
some-kill-snoc (y ∷ ys) k p =
    let r = some-kill-snoc ys k p in (
      (λ h. elim h [ inl a ↦ inl (inl a) | inr b ↦ elim (r.0 b) [ inl c ↦ inl (inr c) | inr d ↦ inr d ] ]),
      (λ h. elim h [ inl a ↦ elim a [ inl c ↦ inl c | inr d ↦ inr (r.1 (inl d)) ] | inr b ↦ inr (r.1 (inr b)) ]),
    )

pub record CutHalfway (case : Conj) (kills : List (List Piece)) (room : ℕ) (pieces : List Conj) (i : ℕ) : Type 0 where
  pub within : length pieces ≤ room
  pub asked : (rows : List (List Row)) → AllKillsOf rows kills → AreCutCases case rows pieces
  pub apart : NoneMeet case.columns pieces
  pub made : ArePieces case.columns pieces
  pub points : (p : List ℤ) → length p ≡ case.columns → IsInSome HasExtension pieces p ↔ (Meets case.rows p × ¬ IsInSome (IsInSome MeetsRest) (take i kills) p)
  pub each : AllHavePoints pieces

pub cut_start : (case : Conj) (kills : List (List Piece)) (room : ℕ) (pieces : List Conj) → IsStart case pieces → length pieces ≤ room → CutHalfway case kills room pieces 0
cut_start case kills room pieces s fits = record {
  within = fits;
  asked = λ rows a. s.asked rows;
  apart = s.apart;
  made = s.made;
  points = λ p l. ((λ h. ((s.points p l).0 h, (λ x. x))), (λ h. (s.points p l).1 h.0));
  each = s.each;
}

pub kills-of-at : (rows : List (List Row)) (kills : List (List Piece)) (i : ℕ) (x : List Piece) → AllKillsOf rows kills → i < length kills → x ≡ get_or kills i x → AreKillsOf rows x
kills-of-at rows [] i x w m e = absurd (omega (arith, m))
kills-of-at rows (k ∷ ks) zero x w m e = rw e w.0
kills-of-at rows (k ∷ ks) (suc i) x w m e = kills-of-at rows ks i x w.1 (omega (arith, m)) e

pub cut_step : (case : Conj) (kills : List (List Piece)) (room : ℕ) (pieces next : List Conj) (i : ℕ) (found given : List Piece) → CutHalfway case kills room pieces i → i < length kills → found ≡ get_or kills i found → given ≡ found
    → IsLeftBy case.columns pieces given next → ((base : Conj) (ks : List (List Row)) → AreCutCases base ks pieces → AreKillsOf ks given → AreCutCases base ks next) → (NoneMeet case.columns pieces → NoneMeet case.columns next) → (length pieces ≤ room → length next ≤ room) → CutHalfway case kills room next (i + 1)
cut_step case kills room pieces next i found given h m e same left cases apart fits = record {
  within = fits h.within;
  apart = apart h.apart;
  asked = λ rows a. cases case rows (h.asked rows a) (subst (AreKillsOf rows) (sym same) (kills-of-at rows kills i found a m e));
  made = left.made;
  points = λ p l. subst (λ (ks : List (List Piece)). IsInSome HasExtension next p ↔ (Meets case.rows p × ¬ IsInSome (IsInSome MeetsRest) ks p)) (sym more) (
    (λ a.
        let b = (by.points p l).0 a in
        let d = (h.points p l).0 b.0 in
        (d.0, (λ s. elim ((some-kill-snoc (take i kills) found p).0 s) [ inl x ↦ d.1 x | inr x ↦ b.1 x ]))),
    (λ a. (by.points p l).1 ((h.points p l).1 (a.0, (λ s. a.1 ((some-kill-snoc (take i kills) found p).1 (inl s)))), (λ s. a.1 ((some-kill-snoc (take i kills) found p).1 (inr s))))),
  );
  each = by.each h.each;
}
  where
    by : IsLeftBy case.columns pieces found next
    by = subst (λ (xs : List Piece). IsLeftBy case.columns pieces xs next) same left

    more : take (i + 1) kills ≡ take i kills ++ found ∷ []
    more = rw e (take_more kills i found m)

-- each row holds or not, so each piece does
meets-either : (rows : List Row) (p : List ℤ) → Meets rows p ⊎ (¬ Meets rows p)
meets-either [] p = inl tt
meets-either (r ∷ rs) p = elim (holds-either r p) [
  | inl a ↦ elim (meets-either rs p) [ inl b ↦ inl (a, b) | inr b ↦ inr (λ h. b h.1) ]
  | inr a ↦ inr (λ h. a h.0)
]

some-either : (ks : List Piece) (p : List ℤ) → IsInSome MeetsRest ks p ⊎ (¬ IsInSome MeetsRest ks p)
some-either [] p = inr (λ h. h)
some-either (k ∷ ks) p = elim (meets-either k.rest.rows p) [
  | inl a ↦ inl (inl a)
  | inr a ↦ elim (some-either ks p) [ inl b ↦ inl (inr b) | inr b ↦ inr (λ h. elim h [ inl x ↦ a x | inr x ↦ b x ]) ]
]

some-kill-either : (ks : List (List Piece)) (p : List ℤ) → IsInSome (IsInSome MeetsRest) ks p ⊎ (¬ IsInSome (IsInSome MeetsRest) ks p)
some-kill-either [] p = inr (λ h. h)
some-kill-either (k ∷ ks) p = elim (some-either k p) [
  | inl a ↦ inl (inl a)
  | inr a ↦ elim (some-kill-either ks p) [ inl b ↦ inl (inr b) | inr b ↦ inr (λ h. elim h [ inl x ↦ a x | inr x ↦ b x ]) ]
]

pub cut_end : (case : Conj) (kills : List (List Piece)) (room : ℕ) (pieces : List Conj) (i : ℕ) → CutHalfway case kills room pieces i → length kills ≤ i → IsCut case kills pieces
cut_end case kills room pieces i h l = record {
  made = h.made;
  points = points;
  each = h.each;
  apart = h.apart;
  asked = h.asked;
  cover = λ p e met. elim (some-kill-either kills p) [ inl some ↦ inr some | inr none ↦ inl ((points p e).1 (met, none)) ];
}
  where
    all : take i kills ≡ kills
    all = take_whole kills i l

    points : (p : List ℤ) → length p ≡ case.columns → IsInSome HasExtension pieces p ↔ (Meets case.rows p × ¬ IsInSome (IsInSome MeetsRest) kills p)
    points p e = subst (λ (ks : List (List Piece)). IsInSome HasExtension pieces p ↔ (Meets case.rows p × ¬ IsInSome (IsInSome MeetsRest) ks p)) all (h.points p e)

pub cut_made : (case : Conj) (kills : List (List Piece)) (room : ℕ) (pieces : List Conj) (i : ℕ) → CutHalfway case kills room pieces i → ArePieces case.columns pieces
cut_made case kills room pieces i h = h.made

pub cut_over : (first : ℕ) (kills : List (List Piece)) (i : ℕ) (found given : List Piece) → AllOver first kills → i < length kills → found ≡ get_or kills i found → given ≡ found → AreOver first given
cut_over first [] i found given w m e f = absurd (omega (arith, m))
cut_over first (k ∷ ks) zero found given w m e f = rw (f, e) w.0
cut_over first (k ∷ ks) (suc i) found given w m e f = cut_over first ks i found given w.1 (omega (arith, m)) e f

pub ruleset cut_steps = (cut_start, cut_step, cut_end, cut_made, cut_over)

-- ---- what is left where no copy has a point

kills-are-copies : (first : ℕ) (cs : List Conj) (ks : List (List Piece)) (p : List ℤ) → length p ≡ first → AllKills first cs ks → IsInNone HasExtension cs p ↔ (¬ IsInSome (IsInSome MeetsRest) ks p)
kills-are-copies first [] [] p l a = ((λ h. (λ x. x)), (λ h. tt))
kills-are-copies first [] (k ∷ ks) p l a = absurd a
kills-are-copies first (c ∷ cs) [] p l a = absurd a
kills-are-copies first (c ∷ cs) (k ∷ ks) p l a =
    let r = kills-are-copies first cs ks p l a.1 in (
      (λ h. (λ s. elim s [ inl x ↦ h.0 ((a.0.projection p l).1 x) | inr x ↦ r.0 h.1 x ])),
      (λ h. ((λ x. h (inl ((a.0.projection p l).0 x))), r.1 (λ s. h (inr s)))),
    )

pub remains : (case : Conj) (copies : List Conj) (kills : List (List Piece)) (pieces : List Conj) → IsCut case kills pieces → AllKills case.columns copies kills → IsRemaining case copies pieces kills
remains case copies kills pieces h k = record {
  made = h.made;
  points = λ p l.
      let r = kills-are-copies case.columns copies kills p l k in
      ((λ x. let b = (h.points p l).0 x in (b.0, r.1 b.1)), (λ x. (h.points p l).1 (x.0, r.0 x.1)));
  each = h.each;
  apart = h.apart;
  killed = k;
  cover = h.cover;
}

pub found-over : (first : ℕ) (copies : List Conj) (kills : List (List Piece)) → AllKills first copies kills → AllOver first kills
found-over first [] [] a = tt
found-over first [] (k ∷ ks) a = absurd a
found-over first (c ∷ cs) [] a = absurd a
found-over first (c ∷ cs) (k ∷ ks) a = (a.0.over, found-over first cs ks a.1)
