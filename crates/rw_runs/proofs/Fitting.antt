-- Code that fits is code throughout, and each body calls what is before it.
use Rattle.std.proofs.Common.{◌≡◌, sym, subst, ℕ, suc, ◌≤◌, ◌<◌, max, Bool, true, false, true≢false, if◌then◌else◌, List, [], ◌∷◌, map, find, Option, Some, None, arith}
use Rattle.std.specs.Prelude.{nat_lt, bytes_eq}
use Rattle.std.proofs.Math.Nat.{le-max_left, le-max_right}
use Rattle.std.proofs.lemmas.Bool.Decides.{Decides-ltb}
use Rattle.rw_terms.specs.declared.scope.Entry.{Entry}
use Rattle.rw_terms.specs.Validity.{Each}
use Rattle.rw_programs.specs.declared.prog.Param.{Param}
use Rattle.rw_programs.specs.declared.prog.ProcCode.{ProcCode}
use Rattle.rw_programs.specs.declared.prog.ModCode.{ModCode}
use Rattle.rw_programs.specs.declared.prog.Code.{Code}
use Rattle.rw_programs.specs.declared.prog.Prog.{Prog, Spec, Kid, Skip, Assign, If', Do', Call, OpCall, Row_of-Arm, end_of-Arm, more_of-Arm}
use Rattle.rw_programs.specs.Made.{Seq, Block, Con, ModBlock}
use Rattle.rw_programs.specs.State.{Name}
use Rattle.rw_programs.specs.Tables.{find_proc, find_module, after_all, past}
use Rattle.rw_programs.specs.Scoped.{with_local, if_some}
use Rattle.rw_runs.specs.Ends.{table_of}
use Rattle.rw_runs.proofs.Landing.{BodiesAreCode, CallsBelow, ArmsCallBelow, BodiesInOrder}
use Rattle.rw_machine.specs.CodeFits.{takes, calls_fit, row_calls_fit, ModuleFits, CodeFits}
use Rattle.rw_evaluation.proofs.Evaluations.{both_true}

-- what holds of each holds of the one that is found
each_found : {A : Type 0} (P : A → Type 0) (test : A → Bool) (xs : List A) → Each P xs → (a : A) → find test xs ≡ Some a → P a
each_found P test [] h a e = absurd (cc)
each_found P test (x ∷ xs) h a e = go (test x) e (each_found P test xs h.1 a)
  where
    go : (b : Bool) → (if b then Some x else find test xs) ≡ Some a → (find test xs ≡ Some a → P a) → P a
    go true e more = let i : x ≡ a = cc in subst P i h.0
    go false e more = more e

-- what passes the test where something is there
if_some_is : {A : Type 0} (test : A → Bool) (o : Option A) → if_some test o ≡ true → (a : A) → o ≡ Some a → test a ≡ true
if_some_is test None e a i = absurd (true≢false (sym e))
if_some_is test (Some x) e a i = let j : x ≡ a = cc in subst (λ x. test x ≡ true) j e

below : (q p : ℕ) → nat_lt q p ≡ true → q < p
below q p e = (Decides-ltb q p).0 e

module _ (code : Code) where
  in_scope : (p : ℕ) (test : List Entry → Bool) (c : Prog) (o : Option (List Entry)) → if_some test o ≡ true → ((inner : List Entry) → test inner ≡ true → CallsBelow code p c) → CallsBelow code p c
  in_scope p test c None e f = absurd (true≢false (sym e))
  in_scope p test c (Some inner) e f = f inner e

  mutual
    pub below_of : (p : ℕ) (scope : List Entry) (c : Prog) → calls_fit code p scope c ≡ true → CallsBelow code p c
    below_of p scope (Spec w) e = tt
    below_of p scope (Kid n) e = tt
    below_of p scope Skip e = tt
    below_of p scope (Assign names terms) e = tt
    below_of p scope (Seq c d) e = let h = both_true (calls_fit code p scope c) (calls_fit code p scope d) e in (below_of p scope c h.0, below_of p scope d h.1)
    below_of p scope (If' shape arms) e = arms_below p scope arms e
    below_of p scope (Do' v shape arms) e = arms_below p scope arms e
    below_of p scope (Block x sort c) e = in_scope p (λ inner. calls_fit code p inner c) c (with_local scope x sort) e (λ inner h. below_of p inner c h)
    below_of p scope (Con pins c) e = below_of p scope c e
    below_of p scope (Call f args names) e = λ a i. below a.place p (both_true (nat_lt a.place p) (takes scope args names a) (if_some_is _ (find_proc f code.procs) e a i)).0
    below_of p scope (OpCall m o args names) e = λ d i. below d.place p (both_true (nat_lt d.place p) (if_some (takes scope args names) (find_proc o d.operations)) (if_some_is _ (find_module m code.modules) e d i)).0
    below_of p scope (ModBlock m c) e =
        let h = both_true (if_some (λ d. nat_lt d.place p) (find_module m code.modules)) (calls_fit code p scope c) e in
        (λ d i. below d.place p (if_some_is _ (find_module m code.modules) h.0 d i), below_of p scope c h.1)

    arms_below : {m : _} (p : ℕ) (scope : List Entry) (arms : Row_of-Arm m) → row_calls_fit code p scope arms ≡ true → ArmsCallBelow code p arms
    arms_below p scope end_of-Arm e = tt
    arms_below p scope (more_of-Arm g c rest) e = let h = both_true (calls_fit code p scope c) (row_calls_fit code p scope rest) e in (below_of p scope c h.0, arms_below p scope rest h.1)

  module _ (p : ℕ) (procs : (f : Name) (e : ProcCode) → find_proc f code.procs ≡ Some e → e.place < p) (modules : (m : Name) (d : ModCode) → find_module m code.modules ≡ Some d → d.place < p) where
    mutual
      -- where all entries are before p, each program calls what is before p
      all_below : (c : Prog) → CallsBelow code p c
      all_below (Spec w) = tt
      all_below (Kid n) = tt
      all_below Skip = tt
      all_below (Assign names terms) = tt
      all_below (Seq c d) = (all_below c, all_below d)
      all_below (If' shape arms) = all_arms_below arms
      all_below (Do' v shape arms) = all_arms_below arms
      all_below (Block x sort c) = all_below c
      all_below (Con pins c) = all_below c
      all_below (Call f args names) = procs f
      all_below (OpCall m o args names) = modules m
      all_below (ModBlock m c) = (modules m, all_below c)

      all_arms_below : {m : _} (arms : Row_of-Arm m) → ArmsCallBelow code p arms
      all_arms_below end_of-Arm = tt
      all_arms_below (more_of-Arm g c rest) = (all_below c, all_arms_below rest)

  pub bodies_are_code : (globals : List Param) → CodeFits code globals → BodiesAreCode code
  bodies_are_code globals fits = record {
    procs = λ f e i. (each_found _ (λ e. bytes_eq e.name f) code.procs fits.procs e i).coded;
    starts = λ m d i. (each_found (ModuleFits code) (λ d. bytes_eq d.name m) code.modules fits.modules d i).start.coded;
    operations = λ m d i o e j. (each_found _ (λ e. bytes_eq e.name o) d.operations (each_found (ModuleFits code) (λ d. bytes_eq d.name m) code.modules fits.modules d i).operations e j).coded;
  }

  pub bodies_in_order : (globals : List Param) → CodeFits code globals → BodiesInOrder code
  bodies_in_order globals fits = record {
    procs = λ f e i. below_of e.place _ e.body (each_found _ (λ e. bytes_eq e.name f) code.procs fits.procs e i).calls;
    starts = λ m d i. below_of d.place _ d.start (each_found (ModuleFits code) (λ d. bytes_eq d.name m) code.modules fits.modules d i).start.calls;
    operations = λ m d i o e j. below_of d.place _ e.body (each_found _ (λ e. bytes_eq e.name o) d.operations (each_found (ModuleFits code) (λ d. bytes_eq d.name m) code.modules fits.modules d i).operations e j).calls;
  }

-- the place of what is found is before the first place after all
found_before : {A : Type 0} (place : A → ℕ) (test : A → Bool) (xs : List A) (a : A) → find test xs ≡ Some a → place a < after_all (map place xs)
found_before place test [] a e = absurd (cc)
found_before place test (x ∷ xs) a e = go (test x) e (found_before place test xs a)
  where
    left : suc (place x) ≤ max (suc (place x)) (after_all (map place xs))
    left = le-max_left (suc (place x)) (after_all (map place xs))

    right : after_all (map place xs) ≤ max (suc (place x)) (after_all (map place xs))
    right = le-max_right (suc (place x)) (after_all (map place xs))

    go : (b : Bool) → (if b then Some x else find test xs) ≡ Some a → (find test xs ≡ Some a → place a < after_all (map place xs)) → place a < max (suc (place x)) (after_all (map place xs))
    go true e more = let i : x ≡ a = cc in subst (λ y. place y < max (suc (place x)) (after_all (map place xs))) i left
    go false e more = let h = more e in omega (arith, h, right)

pub main_below : (by : Bool) (code : Code) (c : Prog) → CallsBelow code (past (table_of by code)) c
main_below by code = all_below code (past (table_of by code))
    (λ f e i. let h = found_before (λ e. e.place) (λ e. bytes_eq e.name f) code.procs e i in let l = le-max_left (after_all (map (λ e. e.place) code.procs)) (after_all (map (λ d. d.place) code.modules)) in omega (arith, h, l))
    (λ m d i. let h = found_before (λ d. d.place) (λ d. bytes_eq d.name m) code.modules d i in let l = le-max_right (after_all (map (λ e. e.place) code.procs)) (after_all (map (λ d. d.place) code.modules)) in omega (arith, h, l))
