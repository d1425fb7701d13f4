-- The tokens that were read stand on the stack.
use Rattle.std.proofs.Common.{◌≡◌, ℕ, suc, ◌≤◌, Bool, true, List, [], ◌∷◌, ◌++◌, IsTrue}
use Rattle.std.specs.Prelude.{leb}
use Rattle.rw_terms.specs.declared.term.Term.{Term}
use Rattle.rw_syntax.specs.declared.token.Infix.{Infix}
use Rattle.rw_syntax.specs.declared.token.Token.{Token}
use Rattle.rw_syntax.specs.declared.token.Token.TheVariants as tokens
use Rattle.rw_syntax.specs.declared.frame.Part.{Part}
use Rattle.rw_syntax.specs.declared.frame.Binder.{Binder}
use Rattle.rw_syntax.specs.declared.frame.Prefix.TheVariants as prefixes
use Rattle.rw_syntax.specs.declared.frame.Head.{Head}
use Rattle.rw_syntax.specs.declared.frame.Head.TheVariants as heads
use Rattle.rw_syntax.specs.declared.frame.Frame.{Frame}
use Rattle.rw_syntax.specs.declared.frame.Frame.TheVariants as frames
use Rattle.rw_syntax.specs.declared.frame.Partial.{Partial}
use Rattle.rw_syntax.specs.declared.frame.Partial.TheVariants as partials
use Rattle.rw_syntax.specs.Grammar.{Tree, Trees, count, level, level_of, left_of, prefix_level, head_level, fits, is_binder, is_prefix, IsFormed, AreFormed, text, texts, binder_token, sort_text, prefix_text, head_token, part, values, adds, chain}
use Rattle.rw_syntax.specs.Machine.{State, wants, partial, worded, has, hole, scope}

-- a left operand and its operator
pub record HasLeft (env : List Binder) (op : Infix) (u : Part) (c : ℕ) (own : List Token) : Type 0 where
  pub tree : Tree
  pub formed : IsFormed env tree
  pub fit : IsTrue (fits (left_of op) (level tree))
  pub value : part env tree ≡ u
  pub depth : adds op (level tree) (chain tree) ≡ c
  pub written : own ≡ text tree ++ tokens.Infix op ∷ []

-- what is read at an index, and the bracket
pub record HasBase (env : List Binder) (u : Part) (c : ℕ) (own : List Token) : Type 0 where
  pub tree : Tree
  pub formed : IsFormed env tree
  pub fit : IsTrue (fits 9 (level tree))
  pub value : part env tree ≡ u
  pub depth : suc (chain tree) ≡ c
  pub written : own ≡ text tree ++ tokens.OpenSquare ∷ []

-- no more terms than the head takes
abbrev pub may_have : Head → ℕ → Bool
may_have heads.Put n = leb n 2
may_have (heads.Named w) n = true

-- a head and the terms up to a comma
pub record HasTerms (env : List Binder) (h : Head) (us : List Term) (own : List Token) : Type 0 where
  pub done : Trees
  pub formed : AreFormed env done
  pub values_are : values env done ≡ us
  pub room : IsTrue (may_have h (count done))
  pub written : own ≡ head_token h ∷ tokens.Open ∷ texts done

-- what a frame over others was written as
abbrev pub Puts : List Binder → ℕ → Frame → List Token → Type 0
Puts env outer (frames.Prefix p) own = (own ≡ prefix_text p) × (outer ≤ prefix_level p) × IsTrue (is_prefix p)
Puts env outer (frames.Infix op u c) own = HasLeft env op u c own × (outer ≤ level_of op)
Puts env outer (frames.Group only) own = (own ≡ tokens.Open ∷ []) × (only ≡ leb 6 outer)
Puts env outer (frames.Index u c) own = HasBase env u c own × (outer ≤ 9)
Puts env outer (frames.Call h us) own = HasTerms env h us own × (outer ≤ head_level h)

abbrev pub Stands : ℕ → List Frame → List Token → Type 0
Stands goal [] ts = ts ≡ []
Stands goal (f ∷ fs) ts = (before : List Token) × (own : List Token) × (ts ≡ before ++ own) × Stands goal fs before × Puts (scope fs) (hole goal fs) f own

-- an operand behind the frames
pub record Has (goal : ℕ) (v : Part) (n c : ℕ) (fs : List Frame) (ts : List Token) : Type 0 where
  pub before : List Token
  pub stands : Stands goal fs before
  pub tree : Tree
  pub formed : IsFormed (scope fs) tree
  pub value : part (scope fs) tree ≡ v
  pub height : level tree ≡ n
  pub depth : chain tree ≡ c
  pub room : hole goal fs ≤ n
  pub written : ts ≡ before ++ text tree

abbrev pub partial_text : Partial → List Token
partial_text (partials.Naming q) = tokens.Quantifier q ∷ []
partial_text (partials.Named q b) = tokens.Quantifier q ∷ binder_token b ∷ []
partial_text (partials.Sorting q b) = tokens.Quantifier q ∷ binder_token b ∷ tokens.Colon ∷ []
partial_text (partials.Measuring q b) = tokens.Quantifier q ∷ binder_token b ∷ tokens.Colon ∷ tokens.Array ∷ []
partial_text (partials.Sorted q b s) = tokens.Quantifier q ∷ binder_token b ∷ tokens.Colon ∷ sort_text s
partial_text partials.Putting = tokens.Put ∷ []

abbrev pub partial_level : Partial → ℕ
partial_level (partials.Naming q) = 1
partial_level (partials.Named q b) = 1
partial_level (partials.Sorting q b) = 1
partial_level (partials.Measuring q b) = 1
partial_level (partials.Sorted q b s) = 1
partial_level partials.Putting = 9

abbrev pub is_partial : Partial → Bool
is_partial (partials.Naming q) = true
is_partial (partials.Named q b) = is_binder b
is_partial (partials.Sorting q b) = is_binder b
is_partial (partials.Measuring q b) = is_binder b
is_partial (partials.Sorted q b s) = is_prefix (prefixes.Bind q b s)
is_partial partials.Putting = true

-- the first tokens of a quantifier or of `put` behind the frames
pub record Begins (goal : ℕ) (p : Partial) (fs : List Frame) (ts : List Token) : Type 0 where
  pub before : List Token
  pub stands : Stands goal fs before
  pub valid : IsTrue (is_partial p)
  pub room : hole goal fs ≤ partial_level p
  pub written : ts ≡ before ++ partial_text p

pub record Words (goal : ℕ) (w : List ℕ) (fs : List Frame) (ts : List Token) : Type 0 where
  pub before : List Token
  pub stands : Stands goal fs before
  pub written : ts ≡ before ++ tokens.Word w ∷ []

abbrev pub StateStands : ℕ → State → List Token → Type 0
StateStands goal (wants fs) ts = Stands goal fs ts
StateStands goal (partial p fs) ts = Begins goal p fs ts
StateStands goal (worded w fs) ts = Words goal w fs ts
StateStands goal (has v n c fs) ts = Has goal v n c fs ts
