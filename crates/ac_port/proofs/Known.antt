-- Bytes that are written a part at a time, where they are known.
use Rattle.std.specs.Io.KnownBytes.{Appends}
use Rattle.std.proofs.Common.{◌≡◌, ◌+◌, ℕ, List, ◌++◌, ◌-◌, length, take, drop, Option, Some, None, sym, ◌∙◌, ap, subst, append_assoc, arith, length-drop}
use Rattle.std.proofs.lemmas.List.{take_all, drop-drop}
use Rattle.std.proofs.Math.Seq.{take-add}

pub appended_more : (a b c : Option (List ℕ)) (xs ys : List ℕ) → Appends a b xs → Appends b c ys → Appends a c (xs ++ ys)
appended_more None b c xs ys one two = tt
appended_more (Some as') None c xs ys one two = absurd one
appended_more (Some as') (Some bs) None xs ys one two = absurd two
appended_more (Some as') (Some bs) (Some cs) xs ys one two = two ∙ ap (λ l. l ++ ys) one ∙ append_assoc as' xs ys

-- what is left of the bytes after n more
pub left_after : (bytes rest : List ℕ) (k n : ℕ) → rest ≡ drop k bytes → take (length rest - n) (drop n rest) ≡ drop (k + n) bytes
left_after bytes rest k n is =
    let short : length (drop n rest) ≡ length rest - n = length-drop n rest in
    take_all (length rest - n) (drop n rest) (omega (arith, short)) ∙ ap (λ l. drop n l) is ∙ drop-drop n k bytes

pub sent_after : (bytes rest : List ℕ) (k n : ℕ) (a b c : Option (List ℕ)) → rest ≡ drop k bytes → Appends a b (take k bytes) → Appends b c (take n rest)
    → Appends a c (take (k + n) bytes)
sent_after bytes rest k n a b c is one two =
    subst (λ xs. Appends a c xs) (ap (λ l. take k bytes ++ take n l) is ∙ sym (take-add k n bytes)) (appended_more a b c (take k bytes) (take n rest) one two)
