-- The states that a program runs through: each part begins in such a state, and where it is sure it ends in one.
use Rattle.std.proofs.Common.{◌≡◌, subst, true, List, Option, Some, None}
use Rattle.rw_terms.specs.declared.scope.Entry.{Entry}
use Rattle.rw_terms.specs.declared.term.Sort.{Sort}
use Rattle.rw_terms.specs.State.{Value, HasSort}
use Rattle.rw_programs.specs.declared.prog.ModCode.{ModCode}
use Rattle.rw_programs.specs.declared.prog.Pin.{Pin}
use Rattle.rw_programs.specs.declared.prog.Prog.{Prog, Spec, Kid, Skip, Assign, If', Do', Call, OpCall, Row_of-Arm, end_of-Arm, more_of-Arm}
use Rattle.rw_programs.specs.Made.{Seq, Block, Con, ModBlock}
use Rattle.rw_programs.specs.State.{Name, State, alone, empty, names_of, put, put_all, with_own, ValuesFor}
use Rattle.rw_programs.specs.Tables.{Table, find_module, pin_names, pin_terms, hold}
use Rattle.rw_programs.specs.Meaning.{Bodies, ends_by, sure_by, arm_ends, arms_sure, values}
use Rattle.rw_programs.specs.Scoped.{with_local, with_pins, with_entries, with_module, prog_scoped, row_scoped}
use Rattle.rw_meaning.specs.Filling.{FitsIn, WhereSome, EachPart, EachArm, CallFitsBy, brings_of}
use Rattle.rw_meaning.proofs.Entering.{local_fits, pins_fit}
use Rattle.rw_meaning.proofs.Modules.{module_enters}
use Rattle.rw_meaning.proofs.Ending.{ends_fit, row_fits}

-- `Fit` says which states these are in a context, where each part of the program meets Q
pub record Carried (E : Table) (calls before : Bodies) (brings : Name → List Entry) (Q : List Name → List Entry → Prog → Type 0) (Fit : List Name → List Entry → State → Type 0) : Type 0 where
  pub ends : (opened : List Name) (scope : List Entry) (c : Prog) → prog_scoped brings opened scope c ≡ true → EachPart brings Q opened scope c
      → (s t : State) → Fit opened scope s → sure_by E calls before c s → ends_by E calls before c s t → Fit opened scope t
  pub row_ends : {m : _} (opened : List Name) (scope : List Entry) (arms : Row_of-Arm m) → row_scoped brings opened scope arms ≡ true → EachArm brings Q opened scope arms
      → (s t : State) → Fit opened scope s → arms_sure E calls before arms s → arm_ends E calls before arms s t → Fit opened scope t
  pub in_block : (opened : List Name) (scope inner : List Entry) (x : Name) (sort : Sort) → with_local scope x sort ≡ Some inner
      → (s : State) (v : Value) → Fit opened scope s → HasSort v sort → Fit opened inner (with_own s (put x (Some v) s.own))
  pub in_con : (opened : List Name) (scope inner : List Entry) (pins : List Pin) → with_pins scope scope pins ≡ Some inner
      → (s : State) → Fit opened scope s → Fit opened inner (with_own s (put_all (pin_names pins) (values (pin_terms pins) s) s.own))
  pub in_module : (opened outside : List Name) (scope inner : List Entry) (m : Name) (c : Prog) → with_module opened m ≡ Some outside
      → with_entries scope (brings m) ≡ Some inner → Q opened scope (ModBlock m c) → (d : ModCode) → find_module m E.modules ≡ Some d
      → (vs : List (Option Value)) → ValuesFor d.state vs → before.sure d.place d.start (alone (put_all (names_of d.state) vs empty))
      → (a : State) → before.ends d.place d.start (alone (put_all (names_of d.state) vs empty)) a
      → (s : State) → Fit opened scope s → Fit outside inner (hold E.is_concrete d a.own s)

-- the states that fit the context
pub fitting : (E : Table) (calls before : Bodies) (brings : Name → List Entry) → Carried E calls before brings (CallFitsBy E calls before brings) (FitsIn E)
fitting E calls before brings = record {
  ends = ends_fit E calls before brings;
  row_ends = row_fits E calls before brings;
  in_block = λ opened scope inner x sort h s v f hv. record { names = local_fits scope x sort inner h s.own v f.names hv; parts = f.parts };
  in_con = λ opened scope inner pins h s f. record { names = pins_fit scope s f.names pins inner h; parts = f.parts };
  in_module = λ opened outside scope inner m c opens takes fit d found vs hv st a e s f.
      let taken : with_entries scope (brings_of E m) ≡ Some inner = subst (λ es. with_entries scope es ≡ Some inner) fit.0 takes in
      module_enters E opened outside scope inner m d found opens taken s a.own f (fit.1 d found vs hv st a e);
}

where_join : {A : Type 0} (o : Option A) (P Q R : A → Type 0) → ((a : A) → P a → Q a → R a) → WhereSome o P → WhereSome o Q → WhereSome o R
where_join None P Q R f p q = tt
where_join (Some a) P Q R f p q = f a p q

-- two facts of each part give a third
module _ (brings : Name → List Entry) (Q R P : List Name → List Entry → Prog → Type 0) (f : (opened : List Name) (scope : List Entry) (c : Prog) → Q opened scope c → R opened scope c → P opened scope c) where
  mutual
    pub each_join : (opened : List Name) (scope : List Entry) (c : Prog) → EachPart brings Q opened scope c → EachPart brings R opened scope c → EachPart brings P opened scope c
    each_join opened scope (Spec w) q r = f opened scope (Spec w) q r
    each_join opened scope (Kid n) q r = f opened scope (Kid n) q r
    each_join opened scope Skip q r = f opened scope Skip q r
    each_join opened scope (Assign names terms) q r = f opened scope (Assign names terms) q r
    each_join opened scope (Seq c d) q r = (f opened scope (Seq c d) q.0 r.0, each_join opened scope c q.1 r.1, each_join opened scope d q.2 r.2)
    each_join opened scope (If' shape arms) q r = (f opened scope (If' shape arms) q.0 r.0, row_join opened scope arms q.1 r.1)
    each_join opened scope (Do' variant shape arms) q r = (f opened scope (Do' variant shape arms) q.0 r.0, row_join opened scope arms q.1 r.1)
    each_join opened scope (Block x sort c) q r = (
      f opened scope (Block x sort c) q.0 r.0,
      where_join (with_local scope x sort) _ _ _ (λ inner a b. each_join opened inner c a b) q.1 r.1,
    )
    each_join opened scope (Con pins c) q r = (
      f opened scope (Con pins c) q.0 r.0,
      where_join (with_pins scope scope pins) _ _ _ (λ inner a b. each_join opened inner c a b) q.1 r.1,
    )
    each_join opened scope (Call g args names) q r = f opened scope (Call g args names) q r
    each_join opened scope (OpCall m o args names) q r = f opened scope (OpCall m o args names) q r
    each_join opened scope (ModBlock m c) q r = (
      f opened scope (ModBlock m c) q.0 r.0,
      where_join (with_module opened m) _ _ _ (λ outside a b. where_join (with_entries scope (brings m)) _ _ _ (λ inner a b. each_join outside inner c a b) a b) q.1 r.1,
    )

    pub row_join : {m : _} (opened : List Name) (scope : List Entry) (arms : Row_of-Arm m) → EachArm brings Q opened scope arms → EachArm brings R opened scope arms → EachArm brings P opened scope arms
    row_join opened scope end_of-Arm q r = tt
    row_join opened scope (more_of-Arm g c rest) q r = (each_join opened scope c q.0 r.0, row_join opened scope rest q.1 r.1)
