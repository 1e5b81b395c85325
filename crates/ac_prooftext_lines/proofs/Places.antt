-- Words that spell no position.
use Rattle.std.proofs.Common.{◌≡◌, ◌++◌, ◌∷◌, ℕ, List, decimal, arith}
use Rattle.std.specs.Prelude.{codes}
use Rattle.ac_syntax.specs.declared.tree.Position.{Position}
use Rattle.ac_syntax.specs.declared.tree.Position.TheVariants as position
use Rattle.ac_prooftext_lines.specs.Spellable.{IsIndex, AreIndices, IsSpellablePosition}
use Rattle.ac_prooftext_lines.specs.Spelling.{dotted_word, position_word}

tail : {A : Type 0} {x y : A} {xs ys : List A} → x ∷ xs ≡ y ∷ ys → xs ≡ ys
tail e = cc

head : {A : Type 0} {x y : A} {xs ys : List A} → x ∷ xs ≡ y ∷ ys → x ≡ y
head e = cc

pub no_initial : (word : List ℕ) → ((o : ℕ) → IsIndex o → ¬ (word ≡ codes "O" ++ decimal o)) → ((p : ℕ × ℕ) → AreIndices p → ¬ (word ≡ codes "S" ++ dotted_word p))
    → (x : Position) → IsSpellablePosition x → ¬ (73 ∷ word ≡ position_word x)
no_initial word array node (position.InitialOutput o) can e = array o can (tail e)
no_initial word array node (position.InitialNode s k) can e = node (s, k) can (tail e)
no_initial word array node (position.Output o) can e = let h : 73 ≡ 79 = head e in omega (arith, h)
no_initial word array node (position.Node s k) can e = let h : 73 ≡ 83 = head e in omega (arith, h)

pub no_present : (word : List ℕ) → ((rest : List ℕ) → ¬ (word ≡ 73 ∷ rest)) → ((o : ℕ) → IsIndex o → ¬ (word ≡ codes "O" ++ decimal o)) → ((p : ℕ × ℕ) → AreIndices p → ¬ (word ≡ codes "S" ++ dotted_word p))
    → (x : Position) → IsSpellablePosition x → ¬ (word ≡ position_word x)
no_present word plain array node (position.Output o) can e = array o can e
no_present word plain array node (position.Node s k) can e = node (s, k) can e
no_present word plain array node (position.InitialOutput o) can e = plain (codes "O" ++ decimal o) e
no_present word plain array node (position.InitialNode s k) can e = plain (codes "S" ++ dotted_word (s, k)) e
