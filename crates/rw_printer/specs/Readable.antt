-- Which terms, formulas and certificates some text spells.
use Rattle.std.specs.Prelude.{ℕ, suc, Bool, true, false, not, ◌&&◌, leb, ltb, List, [], ◌∷◌, map, ℤ, pos, negsuc}
use Rattle.rw_terms.specs.declared.term.Term.{Term}
use Rattle.rw_terms.specs.declared.term.Term.TheOpen.{Term-F}
use Rattle.rw_terms.specs.declared.term.Term.TheFolds.{fold-Term}
use Rattle.rw_terms.specs.declared.term.Formula.{Formula}
use Rattle.rw_terms.specs.declared.term.Formula.TheOpen.{Formula-F}
use Rattle.rw_terms.specs.declared.term.Formula.TheFolds.{fold-Formula}
use Rattle.rw_terms.specs.Names.{is_name}
use Rattle.rw_terms.specs.AllOf.{all_of}
use Rattle.rw_arith.specs.declared.line.Ref.{Ref}
use Rattle.rw_arith.specs.declared.line.Ref.TheVariants as refs
use Rattle.rw_arith.specs.declared.line.Part.{Part as SumPart}
use Rattle.rw_arith.specs.declared.line.LinLine.{LinLine}
use Rattle.rw_arith.specs.declared.line.LinLine.TheVariants as sums
use Rattle.rw_sequents.specs.declared.line.CertLine.{CertLine}
use Rattle.rw_sequents.specs.declared.line.CertLine.TheVariants as lines
use Rattle.rw_sequents.specs.declared.line.Cert.{Cert}
use Rattle.rw_syntax.specs.Grammar.{number, initial, is_known, is_sort, is_upper}

-- each of them, and there is one
abbrev pub some_and_all : List Bool → Bool
some_and_all [] = false
some_and_all (b ∷ bs) = all_of (b ∷ bs)

-- a literal that is not negative and at most 2 ^ 127 - 1
abbrev pub is_literal : ℤ → Bool
is_literal (pos n) = is_known [] (number n)
is_literal (negsuc n) = false

-- Behind d binders: no negative literal, no loose binder, variables and functions with a lower-case first letter,
-- constants with an upper-case one, and no empty list of terms.
abbrev pub readable_term_step : Term-F (ℕ → Bool) → ℕ → Bool
readable_term_step (Term-F.Lit z) d = is_literal z
readable_term_step (Term-F.Var x) d = not (is_upper x)
readable_term_step (Term-F.Init x) d = is_known [] (initial x)
readable_term_step (Term-F.Const x) d = is_upper x
readable_term_step (Term-F.Bound k) d = ltb k d
readable_term_step (Term-F.Neg a) d = a d
readable_term_step (Term-F.Add a b) d = a d && b d
readable_term_step (Term-F.Sub a b) d = a d && b d
readable_term_step (Term-F.Mul a b) d = a d && b d
readable_term_step (Term-F.Div a b) d = a d && b d
readable_term_step (Term-F.Mod a b) d = a d && b d
readable_term_step (Term-F.Read a i) d = a d && i d
readable_term_step (Term-F.Put a i e) d = a d && (i d && e d)
readable_term_step (Term-F.Fun f args) d = not (is_upper f) && some_and_all (map (λ a. a d) args)

-- whether some text spells a term, behind so many binders
abbrev pub readable_term : Term → ℕ → Bool
readable_term = fold-Term (ℕ → Bool) readable_term_step

-- Predicates begin with an upper-case letter, and the lengths of arrays are 1 to 1024.
abbrev pub readable_step : Formula-F (ℕ → Bool) → ℕ → Bool
readable_step Formula-F.True d = true
readable_step Formula-F.False d = true
readable_step (Formula-F.Eq s t) d = readable_term s d && readable_term t d
readable_step (Formula-F.Less s t) d = readable_term s d && readable_term t d
readable_step (Formula-F.AtMost s t) d = readable_term s d && readable_term t d
readable_step (Formula-F.Not f) d = f d
readable_step (Formula-F.And f g) d = f d && g d
readable_step (Formula-F.Or f g) d = f d && g d
readable_step (Formula-F.Imp f g) d = f d && g d
readable_step (Formula-F.All s f) d = is_sort s && f (suc d)
readable_step (Formula-F.Any s f) d = is_sort s && f (suc d)
readable_step (Formula-F.App p args) d = is_upper p && some_and_all (map (λ a. a d) (map readable_term args))

-- whether some text spells a formula, behind so many binders
abbrev pub readable_formula : Formula → ℕ → Bool
readable_formula = fold-Formula (ℕ → Bool) readable_step

-- A name of a term that code holds is always one.
abbrev pub named_term_step : Term-F Bool → Bool
named_term_step (Term-F.Lit z) = true
named_term_step (Term-F.Var x) = is_name x
named_term_step (Term-F.Init x) = is_name x
named_term_step (Term-F.Const x) = is_name x
named_term_step (Term-F.Bound k) = true
named_term_step (Term-F.Neg a) = a
named_term_step (Term-F.Add a b) = a && b
named_term_step (Term-F.Sub a b) = a && b
named_term_step (Term-F.Mul a b) = a && b
named_term_step (Term-F.Div a b) = a && b
named_term_step (Term-F.Mod a b) = a && b
named_term_step (Term-F.Read a i) = a && i
named_term_step (Term-F.Put a i e) = a && (i && e)
named_term_step (Term-F.Fun f args) = is_name f && all_of args

-- whether each name of a term is one
abbrev pub named_term : Term → Bool
named_term = fold-Term Bool named_term_step

-- of a list of terms
abbrev pub named_terms : List Term → Bool
named_terms ts = all_of (map named_term ts)

-- of a formula
abbrev pub named_step : Formula-F Bool → Bool
named_step Formula-F.True = true
named_step Formula-F.False = true
named_step (Formula-F.Eq s t) = named_term s && named_term t
named_step (Formula-F.Less s t) = named_term s && named_term t
named_step (Formula-F.AtMost s t) = named_term s && named_term t
named_step (Formula-F.Not f) = f
named_step (Formula-F.And f g) = f && g
named_step (Formula-F.Or f g) = f && g
named_step (Formula-F.Imp f g) = f && g
named_step (Formula-F.All s f) = f
named_step (Formula-F.Any s f) = f
named_step (Formula-F.App p args) = is_name p && named_terms args

-- whether each name of a formula is one
abbrev pub named_formula : Formula → Bool
named_formula = fold-Formula Bool named_step

-- the number of a formula or a line, where it is not too great
abbrev pub is_counted : ℕ → Bool
is_counted n = leb n 4294967295

-- a multiplier whose size is a number
abbrev pub is_multiplier : ℤ → Bool
is_multiplier (pos n) = is_known [] (number n)
is_multiplier (negsuc n) = is_known [] (number (suc n))

abbrev pub readable_reference : Ref → Bool
readable_reference (refs.Left n) = is_counted n
readable_reference (refs.Right n) = is_counted n
readable_reference (refs.Line n) = is_counted n

abbrev pub readable_part : SumPart → Bool
readable_part p = is_multiplier p.times && readable_reference p.of

-- at least one part, or a number that is not negative
abbrev pub readable_sum : LinLine → Bool
readable_sum (sums.Sum ps) = some_and_all (map readable_part ps)
readable_sum (sums.Divide n d) = is_counted n && is_literal d

-- terms that stand for themselves
abbrev pub readable_terms : List Term → Bool
readable_terms ts = all_of (map (λ t. readable_term t 0) ts)

-- whether some text spells a line of a certificate
abbrev pub readable_line : CertLine → Bool
readable_line lines.Ax = true
readable_line lines.FalseL = true
readable_line lines.TrueR = true
readable_line lines.Refl = true
readable_line (lines.Cut f) = readable_formula f 0
readable_line (lines.DropL n) = is_counted n
readable_line (lines.DropR n) = is_counted n
readable_line (lines.NotL n) = is_counted n
readable_line (lines.NotR n) = is_counted n
readable_line (lines.AndL n) = is_counted n
readable_line (lines.AndR n) = is_counted n
readable_line (lines.OrL n) = is_counted n
readable_line (lines.OrR n) = is_counted n
readable_line (lines.ImpL n) = is_counted n
readable_line (lines.ImpR n) = is_counted n
readable_line (lines.EqR n) = is_counted n
readable_line (lines.Flip n) = is_counted n
readable_line (lines.UnfoldL n) = is_counted n
readable_line (lines.UnfoldR n) = is_counted n
readable_line (lines.AllL n t) = is_counted n && readable_term t 0
readable_line (lines.ExR n t) = is_counted n && readable_term t 0
readable_line (lines.AllR n y) = is_counted n && not (is_upper y)
readable_line (lines.ExL n y) = is_counted n && not (is_upper y)
readable_line (lines.RwL i m) = is_counted i && is_counted m
readable_line (lines.RwR i j) = is_counted i && is_counted j
readable_line (lines.PutSame a i e) = readable_terms (a ∷ i ∷ e ∷ [])
readable_line (lines.PutOther a i e j) = readable_terms (a ∷ i ∷ e ∷ j ∷ [])
readable_line (lines.ArrExt a b) = readable_terms (a ∷ b ∷ [])
readable_line (lines.DivMod t u) = readable_terms (t ∷ u ∷ [])
readable_line (lines.Lemma n ts) = readable_terms ts
readable_line (lines.Lin ls) = some_and_all (map readable_sum ls)

-- Whether some text spells a certificate: it has a line, and numbers, first letters, terms and formulas are as a text
-- can have them.
abbrev pub readable_cert : Cert → Bool
readable_cert c = some_and_all (map readable_line c.lines)

-- whether each name of a line is one
abbrev pub named_line : CertLine → Bool
named_line (lines.Cut f) = named_formula f
named_line (lines.AllL n t) = named_term t
named_line (lines.ExR n t) = named_term t
named_line (lines.AllR n y) = is_name y
named_line (lines.ExL n y) = is_name y
named_line (lines.PutSame a i e) = named_terms (a ∷ i ∷ e ∷ [])
named_line (lines.PutOther a i e j) = named_terms (a ∷ i ∷ e ∷ j ∷ [])
named_line (lines.ArrExt a b) = named_terms (a ∷ b ∷ [])
named_line (lines.DivMod t u) = named_terms (t ∷ u ∷ [])
named_line (lines.Lemma n ts) = is_name n && named_terms ts
named_line _ = true

-- of a certificate
abbrev pub named_cert : Cert → Bool
named_cert c = all_of (map named_line c.lines)
