-- Terms agree exactly where they match from the outside in.
use Rattle.std.proofs.Common.{Bool}
use Rattle.ac_syntax.specs.declared.tree.Symbol.{Symbol}
use Rattle.ac_syntax.specs.Term.{Term, Terms, Num, Initial, Apply, none, more, Agree, AgreeAll, same, reverse, through, under, swap, nothing, both}
use Rattle.ac_syntax.specs.TermMatches.{Matches, MatchAll, one_number, one_leaf, kept, swapped, no_terms, more_terms}

module _ (swaps : Symbol → Bool) where
  mutual
    matches_same : (t : Term) → Matches swaps t t
    matches_same (Num a) = one_number a
    matches_same (Initial l) = one_leaf l
    matches_same (Apply s ts) = kept s ts ts (match_all_same ts)

    match_all_same : (ts : Terms) → MatchAll swaps ts ts
    match_all_same none = no_terms
    match_all_same (more t ts) = more_terms t t ts ts (matches_same t) (match_all_same ts)

  mutual
    matches_reverse : {t u : Term} → Matches swaps t u → Matches swaps u t
    matches_reverse (one_number a) = one_number a
    matches_reverse (one_leaf l) = one_leaf l
    matches_reverse (kept s ts us h) = kept s us ts (all_reverse h)
    matches_reverse (swapped s t t' u u' k g h) = swapped s u u' t t' k (matches_reverse h) (matches_reverse g)

    all_reverse : {ts us : Terms} → MatchAll swaps ts us → MatchAll swaps us ts
    all_reverse no_terms = no_terms
    all_reverse (more_terms t u ts us h hs) = more_terms u t us ts (matches_reverse h) (all_reverse hs)

  mutual
    matches_through : {t u v : Term} → Matches swaps t u → Matches swaps u v → Matches swaps t v
    matches_through (one_number a) k = k
    matches_through (one_leaf l) k = k
    matches_through (kept s ts us h) (kept _ _ vs k) = kept s ts vs (all_through h k)
    matches_through (kept s _ _ (more_terms t _ _ _ g (more_terms t' _ _ _ g' no_terms))) (swapped _ _ _ v v' j k k') = swapped s t t' v v' j (matches_through g k) (matches_through g' k')
    matches_through (swapped s t t' _ _ j g g') (kept _ _ _ (more_terms _ v _ _ k (more_terms _ v' _ _ k' no_terms))) = swapped s t t' v v' j (matches_through g k') (matches_through g' k)
    matches_through (swapped s t t' _ _ j g g') (swapped _ _ _ v v' i k k') = kept s _ _ (more_terms t v _ _ (matches_through g k') (more_terms t' v' _ _ (matches_through g' k) no_terms))

    all_through : {ts us vs : Terms} → MatchAll swaps ts us → MatchAll swaps us vs → MatchAll swaps ts vs
    all_through no_terms k = k
    all_through (more_terms t _ ts _ h hs) (more_terms _ v _ vs k ks) = more_terms t v ts vs (matches_through h k) (all_through hs ks)

  mutual
    pub agree_matches : {t u : Term} → Agree swaps t u → Matches swaps t u
    agree_matches (same t) = matches_same t
    agree_matches (reverse t u h) = matches_reverse (agree_matches h)
    agree_matches (through t u v h k) = matches_through (agree_matches h) (agree_matches k)
    agree_matches (under s ts us h) = kept s ts us (agree_match_all h)
    agree_matches (swap s t u k) = swapped s t u u t k (matches_same t) (matches_same u)

    pub agree_match_all : {ts us : Terms} → AgreeAll swaps ts us → MatchAll swaps ts us
    agree_match_all nothing = no_terms
    agree_match_all (both t u ts us h hs) = more_terms t u ts us (agree_matches h) (agree_match_all hs)

  mutual
    pub matches_agree : {t u : Term} → Matches swaps t u → Agree swaps t u
    matches_agree (one_number a) = same (Num a)
    matches_agree (one_leaf l) = same (Initial l)
    matches_agree (kept s ts us h) = under s ts us (match_all_agree h)
    matches_agree (swapped s t t' u u' k g h) =
        through _ _ _ (under s _ _ (both _ _ _ _ (matches_agree g) (both _ _ _ _ (matches_agree h) nothing))) (swap s u' u k)

    pub match_all_agree : {ts us : Terms} → MatchAll swaps ts us → AgreeAll swaps ts us
    match_all_agree no_terms = nothing
    match_all_agree (more_terms t u ts us h hs) = both t u ts us (matches_agree h) (match_all_agree hs)
