-- Why a line of a certificate fails: the causes by their numbers.
use Rattle.std.specs.Prelude.{ℕ}

-- no goal is left where the line stands
abbrev pub no_goal : ℕ
no_goal = 1

-- a goal is left behind the last line
abbrev pub unclosed : ℕ
unclosed = 2

-- no formula of the goal has the number
abbrev pub no_formula : ℕ
no_formula = 3

-- the goal or the principal formula is not of the rule's form
abbrev pub shape : ℕ
shape = 4

-- the name is one of the goal, or free in it
abbrev pub not_fresh : ℕ
not_fresh = 5

-- a term or a formula does not keep the rules of sorts, or what the line cites is not there
abbrev pub sort : ℕ
sort = 6

-- what the line makes is past a limit
abbrev pub too_large : ℕ
too_large = 7

-- the lemma that the line cites does not stand before
abbrev pub order : ℕ
order = 8

-- an arithmetic line is not of its form
abbrev pub bad_line : ℕ
bad_line = 9

-- a number of an arithmetic line passes 128 bits
abbrev pub wide : ℕ
wide = 10

-- the arithmetic lines end without a contradiction
abbrev pub no_contradiction : ℕ
no_contradiction = 11
