-- What a step does to the counts of loops.
use Rattle.std.specs.Prelude.{ℕ, zero, suc, ◌+◌, ◌≤◌, max, Bool, cond, List, [], ◌∷◌}
use Rattle.rw_programs.specs.declared.prog.Prog.{Prog, Do'}
use Rattle.rw_machine.specs.declared.counts.Doing.{Doing}
use Rattle.rw_machine.specs.declared.counts.Doing.TheVariants.{Other, Enters, Turns}
use Rattle.rw_machine.specs.declared.outcome.LoopCount.{LoopCount}
use Rattle.rw_machine.specs.Machine.{Command, Run, Again, Begin}

-- one turn more, so many now in this entry
abbrev pub with_turn : ℕ → LoopCount → LoopCount
with_turn k l = record { entries = l.entries; turns = l.turns + 1; most = max k l.most }

-- one entry more
abbrev pub one_entry : LoopCount → LoopCount
one_entry l = record { entries = l.entries + 1; turns = l.turns; most = l.most }

-- a step of a program whose first loop has the number n enters it, if the program is a loop
abbrev pub entry_in : ℕ → Prog → Doing
entry_in n (Do' variant shape arms) = Enters n
entry_in n c = Other

abbrev pub doing_at : Command → Doing
doing_at (Run n c) = entry_in n c
doing_at (Again e c) = Turns e.loop e.turns
doing_at (Begin m n c) = entry_in n c
doing_at c = Other

-- what the next step does with loops
abbrev pub doing : List Command → Doing
doing [] = Other
doing (c ∷ cs) = doing_at c

-- the count of the loop after the step, with a turn begun or without
abbrev pub counted_here : Doing → Bool → LoopCount → LoopCount
counted_here Other more l = l
counted_here (Enters n) more l = cond more (with_turn 1 (one_entry l)) (one_entry l)
counted_here (Turns n k) more l = cond more (with_turn (k + 1) l) l

-- another item at a place, if there is one
abbrev pub change_at : {A : Type 0} → ℕ → (A → A) → List A → List A
change_at n f [] = []
change_at zero f (x ∷ xs) = f x ∷ xs
change_at (suc n) f (x ∷ xs) = x ∷ change_at n f xs

-- the counts after the step
abbrev pub count_in : Doing → Bool → List LoopCount → List LoopCount
count_in Other more ls = ls
count_in (Enters n) more ls = change_at n (counted_here (Enters n) more) ls
count_in (Turns n k) more ls = change_at n (counted_here (Turns n k) more) ls

-- one more can be counted
abbrev pub Few : LoopCount → Type 0
Few l = (l.entries + 1 ≤ 4294967295) × (l.turns + 1 ≤ 4294967295)

-- one turn more can be counted
abbrev pub RoomFor : Doing → Type 0
RoomFor Other = Unit {0}
RoomFor (Enters n) = Unit {0}
RoomFor (Turns n k) = k + 1 ≤ 4294967295
