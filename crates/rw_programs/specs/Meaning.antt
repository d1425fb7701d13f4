-- What programs do: `MayEnd`, which ends a program may have, and `Sure`, that every way of it comes to an end.
use Rattle.std.specs.Prelude.{◌≡◌, ℕ, zero, suc, ◌≤◌, ℤ, pos, negsuc, Bool, true, false, List, [], map, All, Option, Some, None, ◌⊎◌, IsSomeAnd}
use Rattle.rw_terms.specs.declared.term.Term.{Term}
use Rattle.rw_terms.specs.State.{Value, whole, HasSort}
use Rattle.rw_terms.specs.Value.{value}
use Rattle.rw_terms.specs.Defined.{Defined, GuardDefined}
use Rattle.rw_terms.specs.Truth.{Definition}
use Rattle.rw_programs.specs.declared.prog.Prog.{Prog, Spec, Kid, Skip, Assign, If', Do', Call, OpCall, Row_of-Arm, end_of-Arm, more_of-Arm}
use Rattle.rw_programs.specs.Made.{Seq, Block, Con, ModBlock}
use Rattle.rw_programs.specs.State.{State, empty, alone, with_own, Holds, put, put_all, names_of, ValuesFor, Within}
use Rattle.rw_programs.specs.Tables.{Table, find_proc, find_module, pin_names, pin_terms, Begins, returned, held, hold}

-- the values of the terms in a state
abbrev pub values : List Term → State → List (Option Value)
values ts s = map (λ t. Some (value s.own s.own [] t)) ts

-- each of the terms is defined in the state
abbrev pub AllDefined : List Term → State → Type 0
AllDefined ts s = All (Defined s.own s.own) ts

-- no guard holds
abbrev pub NoGuard : List Definition → {m : _} → Row_of-Arm m → State → Type 0
NoGuard library end_of-Arm s = Unit {0}
NoGuard library (more_of-Arm g b rest) s = (¬ (Holds library g s s)) × NoGuard library rest s

-- all guards are defined
abbrev pub GuardsDefined : {m : _} → Row_of-Arm m → State → Type 0
GuardsDefined end_of-Arm s = Unit {0}
GuardsDefined (more_of-Arm g b rest) s = GuardDefined s.own s.own g × GuardsDefined rest s

-- a chain of so many turns from s to t
abbrev pub Chain : (State → State → Type 0) → ℕ → State → State → Type 0
Chain turn zero s t = s ≡ t
Chain turn (suc n) s t = (m : State) × Chain turn n s m × turn m t

-- the larger of 0 and the number
abbrev pub at_least_0 : ℤ → ℕ
at_least_0 (pos n) = n
at_least_0 (negsuc n) = 0

-- what may bound the turns of a loop: where its variant is to do so, the larger of 0 and the variant's value, and else any number
abbrev pub IsBound : Bool → Term → State → ℕ → Type 0
IsBound true variant s n = n ≡ at_least_0 (whole (value s.own s.own [] variant))
IsBound false variant s n = Unit {0}

-- What bodies do for the programs that call them: whether one, by its place, may end in t from s, and whether it is sure from s.
pub record Bodies : Type 1 where
  pub ends : ℕ → Prog → State → State → Type 0
  pub sure : ℕ → Prog → State → Type 0

-- no body ends or is sure
abbrev pub nowhere : Bodies
nowhere = record { ends = λ q b s t. ⊥; sure = λ q b s. ⊥ }

-- the bodies at one place
abbrev pub at_place : ℕ → (Prog → State → State → Type 0) → (Prog → State → Type 0) → Bodies
at_place p ends sure = record { ends = λ q b s t. (q ≡ p) × ends b s t; sure = λ q b s. (q ≡ p) × sure b s }

-- the bodies of both
abbrev pub either : Bodies → Bodies → Bodies
either a b = record { ends = λ q c s t. a.ends q c s t ⊎ b.ends q c s t; sure = λ q c s. a.sure q c s ⊎ b.sure q c s }

-- A program's ends, and where it is sure. `calls` says what the procedures' bodies do that it may call, and `before` what all
-- bodies do at places before its own.
module _ (E : Table) (calls before : Bodies) where
  abbrev mutual
    -- t is an end of the program from s
    pub ends_by : Prog → State → State → Type 0
    -- t agrees with s off the frame, gives each name of it a value of its sort, and meets the postcondition, s being the initial state
    ends_by (Spec w) s t = Within w.frame s t × Holds E.library w.post s t
    -- kids are filled before a meaning is asked for
    ends_by (Kid n) s t = ⊥
    ends_by Skip s t = t ≡ s
    -- s with all names set to the values of the terms in s
    ends_by (Assign names terms) s t = t ≡ with_own s (put_all names (values terms s) s.own)
    -- an end of the second from an end of the first
    ends_by (Seq c d) s t = (m : State) × ends_by c s m × ends_by d m t
    ends_by (If' shape arms) s t = arm_ends arms s t
    -- a chain of turns leads from s to t, where no guard holds
    ends_by (Do' variant shape arms) s t = ((n : ℕ) × Chain (arm_ends arms) n s t) × NoGuard E.library arms t
    -- x has any value of its sort, the body ends, and the name is taken away
    ends_by (Block x sort c) s t =
        (v : Value) × (m : State) × HasSort v sort × ends_by c (with_own s (put x (Some v) s.own)) m × (t ≡ with_own m (put x None m.own))
    -- each constant has the value of its term in s, the body ends, and the names are taken away
    ends_by (Con pins c) s t =
        (m : State) × ends_by c (with_own s (put_all (pin_names pins) (values (pin_terms pins) s) s.own)) m
        × (t ≡ with_own m (put_all (pin_names pins) [] m.own))
    -- the body ends from a state with the values of the arguments and any results of their sorts, and the results are set
    ends_by (Call f args names) s t =
        IsSomeAnd (find_proc f E.procs) (λ e. (a b : State) × Begins empty e (values args s) a
        × calls.ends e.place e.body a b × (t ≡ returned e names b s))
    -- so, the body's state having the module's state too, which is written back
    ends_by (OpCall m o args names) s t =
        IsSomeAnd (find_module m E.modules) (λ d. IsSomeAnd (find_proc o d.operations) (λ e. (a b : State)
        × Begins (held E.is_concrete d s) e (values args s) a
        × before.ends d.place e.body a b × (t ≡ hold E.is_concrete d b.own (returned e names b s))))
    -- the module's state has any values of its sorts, its start ends on that state alone, the body ends, the state is taken away
    ends_by (ModBlock m c) s t =
        IsSomeAnd (find_module m E.modules) (λ d. (vs : List (Option Value)) × (a b : State) × ValuesFor d.state vs
        × before.ends d.place d.start (alone (put_all (names_of d.state) vs empty)) a
        × ends_by c (hold E.is_concrete d a.own s) b × (t ≡ hold E.is_concrete d empty b))

    -- some guard holds in s, and t is an end of its body
    pub arm_ends : {m : _} → Row_of-Arm m → State → State → Type 0
    arm_ends end_of-Arm s t = ⊥
    arm_ends (more_of-Arm g b rest) s t = (Holds E.library g s s × ends_by b s t) ⊎ arm_ends rest s t

  abbrev mutual
    -- from s every way of the program comes to an end
    pub sure_by : Prog → State → Type 0
    -- a specification needs its precondition
    sure_by (Spec w) s = Holds E.library w.pre s s
    sure_by (Kid n) s = ⊥
    sure_by Skip s = Unit {0}
    sure_by (Assign names terms) s = AllDefined terms s
    -- the first part is sure, and the second from each end of the first
    sure_by (Seq c d) s = sure_by c s × ((m : State) → ends_by c s m → sure_by d m)
    -- all guards are defined, not every guard fails, and the body is sure for each that holds
    sure_by (If' shape arms) s = GuardsDefined arms s × (¬ (NoGuard E.library arms s)) × arms_sure arms s
    -- No chain from s has more than n turns, for some n that may bound them. At the last state of each chain the guards are
    -- defined, and the body of each guard that holds is sure.
    sure_by (Do' variant shape arms) s =
        ((n : ℕ) × ((k : ℕ) (t : State) → Chain (arm_ends arms) k s t → k ≤ n) × IsBound E.by_variant variant s n)
        × ((k : ℕ) (t : State) → Chain (arm_ends arms) k s t → GuardsDefined arms t × arms_sure arms t)
    -- the body is sure for each first value
    sure_by (Block x sort c) s = (v : Value) → HasSort v sort → sure_by c (with_own s (put x (Some v) s.own))
    sure_by (Con pins c) s = sure_by c (with_own s (put_all (pin_names pins) (values (pin_terms pins) s) s.own))
    -- the arguments are defined, and the body is sure for each first value
    sure_by (Call f args names) s =
        AllDefined args s × IsSomeAnd (find_proc f E.procs) (λ e. (a : State) → Begins empty e (values args s) a
        → calls.sure e.place e.body a)
    sure_by (OpCall m o args names) s =
        AllDefined args s × IsSomeAnd (find_module m E.modules) (λ d. IsSomeAnd (find_proc o d.operations) (λ e. (a : State)
        → Begins (held E.is_concrete d s) e (values args s) a → before.sure d.place e.body a))
    -- for each first value the start is sure, and the body is sure from each end of the start
    sure_by (ModBlock m c) s =
        IsSomeAnd (find_module m E.modules) (λ d. (vs : List (Option Value)) → ValuesFor d.state vs →
        before.sure d.place d.start (alone (put_all (names_of d.state) vs empty))
        × ((a : State) → before.ends d.place d.start (alone (put_all (names_of d.state) vs empty)) a → sure_by c (hold E.is_concrete d a.own s)))

    -- the body of each guard that holds is sure
    pub arms_sure : {m : _} → Row_of-Arm m → State → Type 0
    arms_sure end_of-Arm s = Unit {0}
    arms_sure (more_of-Arm g b rest) s = (Holds E.library g s s → sure_by b s) × arms_sure rest s

-- the body at p, as it may call itself: with k levels of such calls, where `before` are the bodies at the places before p
abbrev pub own_bodies : Table → Bodies → (p k : ℕ) → Bodies
own_bodies E before p zero = nowhere
own_bodies E before p (suc k) =
    let calls = either (own_bodies E before p k) before in at_place p (ends_by E calls before) (sure_by E calls before)

-- the bodies at the places before p, each at its own place and with some number of levels
abbrev pub bodies_before : Table → ℕ → Bodies
bodies_before E zero = nowhere
bodies_before E (suc p) =
    let before = bodies_before E p in let calls : ℕ → Bodies = λ j. either (own_bodies E before p j) before in
    either before (at_place p (λ b s t. (j : ℕ) × ends_by E (calls j) before b s t) (λ b s. (j : ℕ) × sure_by E (calls j) before b s))

-- the bodies of procedures that a program at place p may call, with k levels of calls of its own body
abbrev pub bodies : Table → (p k : ℕ) → Bodies
bodies E p k = either (own_bodies E (bodies_before E p) p k) (bodies_before E p)

-- t is an end of the program from s; p is the table place of the body that it belongs to, and k the number of further levels of
-- that body's calls of itself
abbrev pub MayEnd : Table → (p k : ℕ) → Prog → State → State → Type 0
MayEnd E p k c s t = ends_by E (bodies E p k) (bodies_before E p) c s t

-- from s every way of the program comes to an end
abbrev pub Sure : Table → (p k : ℕ) → Prog → State → Type 0
Sure E p k c s = sure_by E (bodies E p k) (bodies_before E p) c s
