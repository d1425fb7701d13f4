-- What tokens spell, and which tokens can go on.
use Rattle.std.specs.Prelude.{◌≡◌, ℕ, ◌≤◌, List, [], ◌∷◌, ◌++◌, length, take, IsTrue}
use Rattle.rw_syntax.specs.declared.token.Token.{Token}
use Rattle.rw_syntax.specs.declared.frame.Part.{Part}
use Rattle.rw_syntax.specs.Grammar.{Tree, level, fits, IsFormed, text, part, nests}

-- each is at most `most`
abbrev pub AreWithin : ℕ → List ℕ → Type 0
AreWithin most [] = Unit {0}
AreWithin most (n ∷ ns) = (n ≤ most) × AreWithin most ns

-- Tokens spell a value of a level, 1 for formulas and 6 for terms, and the nest stays within `most`. The nest may
-- be 512, less what is open round the value.
pub record Spells (most goal : ℕ) (ts : List Token) (v : Part) : Type 0 where
  pub tree : Tree
  pub formed : IsFormed [] tree
  pub fit : IsTrue (fits goal (level tree))
  pub written : text tree ≡ ts
  pub value : part [] tree ≡ v
  pub within : AreWithin most (nests 0 tree)

-- Some tokens that begin with these spell a value, and at these the nest stays within `most`.
pub record CanGoOn (most goal : ℕ) (ts : List Token) : Type 0 where
  pub tree : Tree
  pub rest : List Token
  pub formed : IsFormed [] tree
  pub fit : IsTrue (fits goal (level tree))
  pub written : text tree ≡ ts ++ rest
  pub within : AreWithin most (take (length ts) (nests 0 tree))
