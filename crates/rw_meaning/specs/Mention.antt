-- Whether a program mentions a name of the state.
use Rattle.std.specs.Prelude.{◌≡◌, Bool, true, false, ◌||◌, List, map, bytes_eq}
use Rattle.rw_terms.specs.declared.scope.Entry.{Entry}
use Rattle.rw_terms.specs.Mentions.{mentions, terms_mention, formula_mentions}
use Rattle.rw_programs.specs.declared.prog.Prog.{Prog, Spec, Kid, Skip, Assign, If', Do', Call, OpCall, Row_of-Arm, end_of-Arm, more_of-Arm}
use Rattle.rw_programs.specs.Made.{Seq, Block, Con, ModBlock}
use Rattle.rw_programs.specs.State.{Name, State, is_in}
use Rattle.rw_programs.specs.Tables.{pin_names, pin_terms}

-- `brings` says which names the block of a module brings into scope.
module _ (brings : Name → List Entry) (x : Name) where
  -- whether it is a name that the block of the module brings
  abbrev pub is_brought : Name → Bool
  is_brought m = is_in x (map (λ e. e.name) (brings m))

  abbrev mutual
    -- Whether the name stands in a frame, a term or a formula, is assigned, takes a result, or is that of a local or a constant.
    -- A call mentions what stands in it alone, as a body has its own state; an operation and a block of a module also mention
    -- what the block brings.
    pub prog_mentions : Prog → Bool
    prog_mentions (Spec w) = is_in x w.frame || (formula_mentions x w.pre || formula_mentions x w.post)
    prog_mentions (Kid n) = false
    prog_mentions Skip = false
    prog_mentions (Assign names terms) = is_in x names || terms_mention x terms
    prog_mentions (Seq c d) = prog_mentions c || prog_mentions d
    prog_mentions (If' shape arms) = row_mentions arms
    prog_mentions (Do' variant shape arms) = mentions x variant || row_mentions arms
    prog_mentions (Block y sort c) = bytes_eq x y || prog_mentions c
    prog_mentions (Con pins c) = is_in x (pin_names pins) || (terms_mention x (pin_terms pins) || prog_mentions c)
    prog_mentions (Call f args names) = is_in x names || terms_mention x args
    prog_mentions (OpCall m o args names) = is_brought m || (is_in x names || terms_mention x args)
    prog_mentions (ModBlock m c) = is_brought m || prog_mentions c

    -- so in one of the guards and the programs behind them
    pub row_mentions : {m : _} → Row_of-Arm m → Bool
    row_mentions end_of-Arm = false
    row_mentions (more_of-Arm g c rest) = formula_mentions x g || (prog_mentions c || row_mentions rest)

-- the program mentions none of the names
abbrev pub MentionsNone : (Name → List Entry) → List Name → Prog → Type 0
MentionsNone brings names c = (x : Name) → is_in x names ≡ true → prog_mentions brings x c ≡ false

-- both states agree on each other name, and on the states of the opened modules
pub record AgreeOff (names : List Name) (s t : State) : Type 0 where
  pub off : (x : Name) → is_in x names ≡ false → t.own x ≡ s.own x
  pub parts : t.part ≡ s.part
