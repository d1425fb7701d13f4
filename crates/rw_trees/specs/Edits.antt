-- What a list of edits makes, read back from its newest edit, which stands first in the list.
use Rattle.std.specs.Prelude.{ℕ, suc, Bool, true, ◌&&◌, if◌then◌else◌, nat_eq, nat_le, nat_lt, List, [], ◌∷◌, ◌++◌, Option, Some, None, unwrap_or, bytes_eq}
use Rattle.std.specs.List.{list_any}
use Rattle.rw_terms.specs.declared.scope.Entry.{Entry}
use Rattle.rw_terms.specs.declared.scope.Kind.TheVariants as kind
use Rattle.rw_programs.specs.declared.prog.Param.{Param}
use Rattle.rw_programs.specs.declared.prog.Spec.{Spec}
use Rattle.rw_sequents.specs.declared.line.Cert.{Cert}
use Rattle.rw_edits.specs.Counts.{kids_in, obligations_in}
use Rattle.rw_edits.specs.declared.edit.Edit.{Edit}
use Rattle.rw_edits.specs.declared.edit.Edit.TheVariants as edit
use Rattle.rw_edits.specs.declared.edit.Step.{Step}
use Rattle.rw_edits.specs.declared.edit.Step.TheVariants as step
use Rattle.rw_heads.specs.Listed.{has_name}
use Rattle.rw_trees.specs.Table.{order_of}

-- a global in the scope of the main tree
abbrev pub global : Param → Entry
global p = record { name = p.name; sort = p.sort; kind = kind.Global }

-- whether a name is among the declared ones
abbrev pub is_param : List Param → List ℕ → Bool
is_param params x = list_any (λ p. bytes_eq p.name x) params

-- the declared ones but that of a name
abbrev pub without_param : List Param → List ℕ → List Param
without_param [] x = []
without_param (p ∷ params) x = if bytes_eq p.name x then params else p ∷ without_param params x

-- the place of the declared one of a name, counted from 0, or how many there are
abbrev pub param_place : List Param → List ℕ → ℕ
param_place [] x = 0
param_place (p ∷ params) x = if bytes_eq p.name x then 0 else suc (param_place params x)

-- the globals, in the order of their declarations; a name is dropped from them where the table has no entry of it
abbrev pub globals_of : List Edit → List Param
globals_of [] = []
globals_of (edit.Var p ∷ l) = globals_of l ++ p ∷ []
globals_of (edit.Root w ∷ l) = globals_of l
globals_of (edit.Step q s ∷ l) = globals_of l
globals_of (edit.Clear q ∷ l) = globals_of l
globals_of (edit.Prove q k c ∷ l) = globals_of l
globals_of (edit.ProveLemma n c ∷ l) = globals_of l
globals_of (edit.Define d ∷ l) = globals_of l
globals_of (edit.Lemma m ∷ l) = globals_of l
globals_of (edit.Proc h ∷ l) = globals_of l
globals_of (edit.Module m ∷ l) = globals_of l
globals_of (edit.Oper x o ∷ l) = globals_of l
globals_of (edit.Drop x ∷ l) = if has_name x (order_of l) then globals_of l else without_param (globals_of l) x

-- the root specification that was set last
abbrev pub root_of : List Edit → Option Spec
root_of [] = None
root_of (edit.Var p ∷ l) = root_of l
root_of (edit.Root w ∷ l) = Some w
root_of (edit.Step q s ∷ l) = root_of l
root_of (edit.Clear q ∷ l) = root_of l
root_of (edit.Prove q k c ∷ l) = root_of l
root_of (edit.ProveLemma n c ∷ l) = root_of l
root_of (edit.Define d ∷ l) = root_of l
root_of (edit.Lemma m ∷ l) = root_of l
root_of (edit.Proc h ∷ l) = root_of l
root_of (edit.Module m ∷ l) = root_of l
root_of (edit.Oper x o ∷ l) = root_of l
root_of (edit.Drop x ∷ l) = root_of l

-- the rest of a path behind q, where the path is q or goes on from it
abbrev pub behind : List ℕ → List ℕ → Option (List ℕ)
behind [] p = Some p
behind (j ∷ q) [] = None
behind (j ∷ q) (k ∷ p) = if nat_eq j k then behind q p else None

-- A step that is set at a place, or none, is the step there. It drops each place below whose next kid number is above its kids.
abbrev pub step_set : Option Step → Option (List ℕ) → Option (Option Step)
step_set s None = None
step_set s (Some []) = Some s
step_set s (Some (k ∷ rest)) = if nat_lt (kids_in s) k then Some None else None

-- what one edit says of the step at a path: nothing, or that there is none from now on, or that it is this one
abbrev pub step_said : Edit → List ℕ → Option (Option Step)
step_said (edit.Var x) p = None
step_said (edit.Root w) p = None
step_said (edit.Step q s) p = step_set (Some s) (behind q.path.kids p)
step_said (edit.Clear q) p = step_set None (behind q.path.kids p)
step_said (edit.Prove q k c) p = None
step_said (edit.ProveLemma n c) p = None
step_said (edit.Define d) p = None
step_said (edit.Lemma m) p = None
step_said (edit.Proc h) p = None
step_said (edit.Module m) p = None
step_said (edit.Oper x o) p = None
step_said (edit.Drop x) p = None

-- the step at a path: that of the newest edit that speaks of it
abbrev pub step_at : List Edit → List ℕ → Option Step
step_at [] p = None
step_at (e ∷ l) p = unwrap_or (step_said e p) (step_at l p)

-- A step that is set at a place drops the certificates there above its obligations, and those of each place that it drops.
abbrev pub cert_dropped : Option Step → ℕ → Option (List ℕ) → Option (Option Cert)
cert_dropped s k None = None
cert_dropped s k (Some []) = if nat_lt (obligations_in s) k then Some None else None
cert_dropped s k (Some (j ∷ rest)) = if nat_lt (kids_in s) j then Some None else None

abbrev pub cert_set : Cert → Option (List ℕ) → Option (Option Cert)
cert_set c None = None
cert_set c (Some []) = Some (Some c)
cert_set c (Some (j ∷ rest)) = None

-- what one edit says of the certificate of obligation k at a path
abbrev pub cert_said : Edit → List ℕ → ℕ → Option (Option Cert)
cert_said (edit.Var x) p k = None
cert_said (edit.Root w) p k = None
cert_said (edit.Step q s) p k = cert_dropped (Some s) k (behind q.path.kids p)
cert_said (edit.Clear q) p k = cert_dropped None k (behind q.path.kids p)
cert_said (edit.Prove q j c) p k = if nat_eq j k then cert_set c (behind q.path.kids p) else None
cert_said (edit.ProveLemma n c) p k = None
cert_said (edit.Define d) p k = None
cert_said (edit.Lemma m) p k = None
cert_said (edit.Proc h) p k = None
cert_said (edit.Module m) p k = None
cert_said (edit.Oper x o) p k = None
cert_said (edit.Drop x) p k = None

-- the certificate of obligation k at a path: that of the newest edit that speaks of it
abbrev pub cert_at : List Edit → List ℕ → ℕ → Option Cert
cert_at [] p k = None
cert_at (e ∷ l) p k = unwrap_or (cert_said e p k) (cert_at l p k)

-- whether a step has the kid of this number
abbrev pub has_kid : Option Step → ℕ → Bool
has_kid s k = nat_le 1 k && nat_le k (kids_in s)

-- whether the rest of a path leads on from a node by kids that the steps have
abbrev pub leads_on : (List ℕ → Option Step) → List ℕ → List ℕ → Bool
leads_on steps done [] = true
leads_on steps done (k ∷ rest) = has_kid (steps done) k && leads_on steps (done ++ k ∷ []) rest

-- a path leads to a node where it is the root's, or its parent is a node whose step has that kid
abbrev pub is_node : List Edit → List ℕ → Bool
is_node l p = leads_on (step_at l) [] p

-- obligations of a node are numbered from 1
abbrev pub has_obligation_of : List Edit → List ℕ → ℕ → Bool
has_obligation_of l p k = nat_le 1 k && nat_le k (obligations_in (step_at l p))
