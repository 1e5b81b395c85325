-- Tokens have one fault at most.
use Rattle.std.specs.Prelude.{true}
use Rattle.std.proofs.Common.{◌≡◌, ℕ, suc, List, [], ◌∷◌, ◌++◌, length, length-append, append_assoc, arith, refl, sym, ◌∙◌, ap, subst}
use Rattle.ac_syntax.specs.declared.tree.Place.{Place}
use Rattle.ac_lex.specs.Lexemes.{Lexeme}
use Rattle.ac_parse_grammar.specs.declared.terminal.Terminal.{Terminal}
use Rattle.ac_parse_grammar.specs.declared.terminal.Terminal.TheVariants as t
use Rattle.ac_parse_grammar.specs.declared.tree.File.{File}
use Rattle.ac_parse_grammar.specs.Terminals.{terminal}
use Rattle.ac_parse_grammar.specs.ReaderCombinators.{Why, syntax, nesting, peek, front}
use Rattle.ac_parse_grammar.specs.Found.{CanGoOn, Begins, begins_whole, begins_to_keyword, opens_construct, awaits_parenthesis}
use Rattle.ac_parse_grammar.specs.FileGrammar.{IsFile}
use Rattle.ac_parse_grammar.specs.FileAnswers.{place_at, IsAnyFile, HasSyntaxFault, HasNestingFault}
use Rattle.ac_parse_grammar.specs.FileLaws.{HasFault, HasOneFault, HasNotBoth}

-- two ways to cut one list in two: at one place, or the second cut stands behind the first, or before it
data Cuts (a b c d : List Lexeme) : Type 0 where
  together : a ≡ c → b ≡ d → Cuts a b c d
  behind : (u : Lexeme) (more : List Lexeme) → c ≡ a ++ u ∷ more → b ≡ u ∷ more ++ d → Cuts a b c d
  ahead : (u : Lexeme) (more : List Lexeme) → a ≡ c ++ u ∷ more → d ≡ u ∷ more ++ b → Cuts a b c d

cuts : (a b c d : List Lexeme) → a ++ b ≡ c ++ d → Cuts a b c d
cuts [] b [] d e = together refl e
cuts [] b (u ∷ c) d e = behind u c refl e
cuts (u ∷ a) b [] d e = ahead u a refl (sym e)
cuts (u ∷ a) b (v ∷ c) d e =
    let head : u ≡ v = cc in
    let tail : a ++ b ≡ c ++ d = cc in
    longer head (cuts a b c d tail)
  where
    longer : u ≡ v → Cuts a b c d → Cuts (u ∷ a) b (v ∷ c) d
    longer head (together p q) = together (λ i. head i ∷ p i) q
    longer head (behind w more p q) = behind w more (λ i. sym head i ∷ p i) q
    longer head (ahead w more p q) = ahead w more (λ i. head i ∷ p i) q

-- no terminal opens a construct and waits for a parenthesis
not_both : (k : Terminal) → opens_construct k ≡ true → awaits_parenthesis k ≡ true → ⊥
not_both t.For o a = cc
not_both t.If o a = cc
not_both t.Floord o a = cc
not_both t.Ceild o a = cc
not_both _ o a = cc

-- some file goes on through these tokens
through : (room : ℕ) (front more rest other : List Lexeme) (u : Lexeme) (file : File) → front ≡ rest ++ u ∷ more → IsFile room (front ++ other) file → IsFile room (rest ++ (u ∷ more ++ other)) file
through room front more rest other u file e is = subst (λ l. IsFile room l file) (ap (λ l. l ++ other) e ∙ append_assoc rest (u ∷ more) other) is

module _ (room : ℕ) (before bad : List Lexeme) (dead : (other : List Lexeme) (file : File) → peek other ≡ peek bad → IsFile room (before ++ other) file → ⊥) where
  -- no file within the room goes on through the token of the fault
  stuck : (u : Lexeme) (more rest later : List Lexeme) → later ≡ before ++ u ∷ more → bad ≡ u ∷ rest → CanGoOn (IsFile room) later → ⊥
  stuck u more rest later is at on = dead (u ∷ more ++ on.0) on.1 (ap peek (sym at)) (through room later more before on.0 u on.1 is on.2)

  -- nor up to a keyword behind it, where the token opens a construct
  no_later : (u : Lexeme) (more rest later : List Lexeme) → later ≡ before ++ u ∷ more → bad ≡ u ∷ rest → opens_construct (peek bad) ≡ true → Begins (IsFile room) later → ⊥
  no_later u more rest later is at opens (begins_whole on) = stuck u more rest later is at on
  no_later u more rest _ is at opens (begins_to_keyword pre k key on) = by (cuts pre (k ∷ []) before (u ∷ more) is)
    where
      by : Cuts pre (k ∷ []) before (u ∷ more) → ⊥
      by (together p q) = let same : k ≡ u = cc in not_both (terminal k) (ap (λ w. opens_construct (terminal w)) same ∙ ap (λ l. opens_construct (peek l)) (sym at) ∙ opens) key
      by (behind w m p q) = let longer : 1 ≡ suc (length (m ++ u ∷ more)) = ap length q in absurd (omega (arith, longer, length-append m (u ∷ more)))
      by (ahead w m p q) =
          let same : u ≡ w = cc in
          stuck w m rest pre p (at ∙ ap (λ v. v ∷ rest) same) on

-- what a fault has in common with others
record Fault (room : ℕ) (tokens : List Lexeme) (end : ℕ) (place : Place) : Type 0 where
  before : List Lexeme
  bad : List Lexeme
  cut : tokens ≡ before ++ bad
  at : place ≡ place_at end bad
  alive : Begins (IsFile room) before
  goes : CanGoOn IsAnyFile before

goes_before : (room : ℕ) (before : List Lexeme) (t : Lexeme) → CanGoOn IsAnyFile (before ++ t ∷ []) → CanGoOn IsAnyFile before
goes_before room before t on = (t ∷ on.0, on.1, subst (λ l. IsAnyFile l on.1) (append_assoc before (t ∷ []) on.0) on.2)

abbrev fault : (room end : ℕ) (tokens : List Lexeme) (why : Why) (place : Place) → HasFault room end tokens why place → Fault room tokens end place
fault room end tokens syntax place h = record { before = h.before; bad = h.bad; cut = h.cut; at = h.at; alive = h.alive; goes = h.begins }
fault room end tokens nesting place h = record { before = h.before; bad = h.bad; cut = h.cut; at = h.at; alive = h.alive; goes = goes_before room h.before (front h.bad) h.begins }

-- a fault stands behind no other
no_earlier : (room end : ℕ) (tokens : List Lexeme) (why : Why) (place other : Place) (h : HasFault room end tokens why place) (g : Fault room tokens end other) (u : Lexeme) (more rest : List Lexeme)
    → g.before ≡ (fault room end tokens why place h).before ++ u ∷ more → (fault room end tokens why place h).bad ≡ u ∷ rest → ⊥
no_earlier room end tokens syntax place other h g u more rest is at =
    let on = g.goes in
    h.dead (u ∷ more ++ on.0) on.1 (ap peek (sym at)) (on.2.0, through on.2.0 g.before more h.before on.0 u on.1 is on.2.1)
no_earlier room end tokens nesting place other h g u more rest is at = no_later room h.before h.bad h.dead u more rest g.before is at h.opens g.alive

-- both kinds at one place
not_two : (room end : ℕ) (tokens : List Lexeme) (place other : Place) (h : HasSyntaxFault room end tokens place) (g : HasNestingFault room end tokens other) → h.before ≡ g.before → h.bad ≡ g.bad → ⊥
not_two room end tokens place other h g p q = by g.bad q g.opens g.begins
  where
    by : (bad : List Lexeme) → h.bad ≡ bad → opens_construct (peek bad) ≡ true → CanGoOn IsAnyFile (g.before ++ front bad ∷ []) → ⊥
    by [] same opens on = cc (opens)
    by (u ∷ bad) same opens on =
        let is : IsAnyFile (g.before ++ (u ∷ on.0)) on.1 = subst (λ l. IsAnyFile l on.1) (append_assoc g.before (u ∷ []) on.0) on.2 in
        h.dead (u ∷ on.0) on.1 (ap peek (sym same)) (subst (λ l. IsAnyFile (l ++ (u ∷ on.0)) on.1) (sym p) is)

same_kind : (room end : ℕ) (tokens : List Lexeme) (why why' : Why) (place place' : Place) (h : HasFault room end tokens why place) (g : HasFault room end tokens why' place')
    → (fault room end tokens why place h).before ≡ (fault room end tokens why' place' g).before → (fault room end tokens why place h).bad ≡ (fault room end tokens why' place' g).bad → why ≡ why'
same_kind room end tokens syntax syntax place place' h g p q = refl
same_kind room end tokens syntax nesting place place' h g p q = absurd (not_two room end tokens place place' h g p q)
same_kind room end tokens nesting syntax place place' h g p q = absurd (not_two room end tokens place' place g h (sym p) (sym q))
same_kind room end tokens nesting nesting place place' h g p q = refl

pub one_fault : HasOneFault
one_fault room end tokens why why' place place' h g = by (cuts f.before f.bad k.before k.bad (sym f.cut ∙ k.cut))
  where
    f : Fault room tokens end place
    f = fault room end tokens why place h

    k : Fault room tokens end place'
    k = fault room end tokens why' place' g

    by : Cuts f.before f.bad k.before k.bad → (why ≡ why') × (place ≡ place')
    by (together p q) = (same_kind room end tokens why why' place place' h g p q, f.at ∙ ap (place_at end) q ∙ sym k.at)
    by (behind u more p q) = absurd (no_earlier room end tokens why place place' h k u more (more ++ k.bad) p q)
    by (ahead u more p q) = absurd (no_earlier room end tokens why' place' place g f u more (more ++ f.bad) p q)

-- and tokens that are a file within the room have none
pub not_both_of : HasNotBoth
not_both_of room end tokens file syntax place is h = h.dead h.bad file refl (room, subst (λ l. IsFile room l file) h.cut is)
not_both_of room end tokens file nesting place is h = h.dead h.bad file refl (subst (λ l. IsFile room l file) h.cut is)
