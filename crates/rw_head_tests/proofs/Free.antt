-- What the tests let pass has no name of another kind.
use Rattle.std.proofs.Common.{◌≡◌, ℕ, Bool, true, false, ◌||◌, List, [], ◌∷◌, None, refl, sym, ◌∙◌}
use Rattle.rw_goals.specs.declared.library.Item.{Item}
use Rattle.rw_library.specs.Entries.{has_entry, heads_of}
use Rattle.rw_heads.specs.declared.head.Module.{Module}
use Rattle.rw_heads.specs.declared.head.Oper.{Oper}
use Rattle.rw_heads.specs.declared.head.ProcHead.{ProcHead}
use Rattle.rw_heads.specs.Heads.{is_module, has_proc, has_module}
use Rattle.rw_edit_tests.proofs.Free.{second_passed, is_free, neither}
use Rattle.rw_head_tests.specs.Procs.{head_scope, first_again, proc_unknown, proc_duplicate, proc_part, proc_limit, proc_refusal}
use Rattle.rw_head_tests.specs.Modules.{module_scope, module_unknown, module_duplicate, module_part, module_limit, module_refusal, oper_refusal}

pub proc_free : (entries : List Item) (modules : List Module) (order : List (List ℕ)) (h : ProcHead) → proc_refusal entries modules order h ≡ None →
    (has_entry h.name entries ≡ false) × (has_module h.name modules ≡ false)
unfolding proc_refusal
proc_free entries modules order h passed =
    let single = second_passed (proc_unknown (heads_of entries) h) (proc_duplicate entries modules h) (proc_part (heads_of entries) h) (proc_limit order h) passed in
    neither (has_entry h.name entries) (has_module h.name modules)
    (is_free (has_entry h.name entries || has_module h.name modules) h.name (first_again [] (head_scope h.values h.results)) single)

pub module_free : (entries : List Item) (procs : List ProcHead) (order : List (List ℕ)) (m : Module) → module_refusal entries procs order m ≡ None →
    (has_entry m.name entries ≡ false) × (has_proc m.name procs ≡ false)
unfolding module_refusal
module_free entries procs order m passed =
    let single = second_passed (module_unknown (heads_of entries) m) (module_duplicate entries procs m) (module_part (heads_of entries) m) (module_limit order m) passed in
    neither (has_entry m.name entries) (has_proc m.name procs)
    (is_free (has_entry m.name entries || has_proc m.name procs) m.name (first_again [] (module_scope m)) single)

pub oper_held : (entries : List Item) (modules : List Module) (x : List ℕ) (o : Oper) → oper_refusal entries modules x o ≡ None → has_module x modules ≡ true
oper_held entries [] x o passed = absurd (cc)
oper_held entries (m ∷ modules) x o passed = go (is_module x m) refl (oper_held entries modules x o)
  where
    go : (b : Bool) → is_module x m ≡ b → (oper_refusal entries modules x o ≡ None → has_module x modules ≡ true) → has_module x (m ∷ modules) ≡ true
    go true is rest = rw is refl
    go false is rest = let later = rest (sym (rw is refl) ∙ passed) in rw is later
