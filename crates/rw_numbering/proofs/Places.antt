-- What stands at the places of bodies and modules.
use Rattle.std.proofs.Common.{◌≡◌, refl, ap, ◌∙◌, ℕ, suc, ◌+◌, Bool, true, false, cond, if◌then◌else◌, List, [], ◌∷◌, Option, Some, None, slice_get, get_or, arith}
use Rattle.std.proofs.lemmas.Option.{get_or_from_slice_get}
use Rattle.std.specs.Prelude.{bytes_eq}
use Rattle.rw_programs.specs.declared.prog.ProcCode.{ProcCode}
use Rattle.rw_programs.specs.declared.prog.ModCode.{ModCode}
use Rattle.rw_programs.specs.State.{Name}
use Rattle.rw_programs.specs.Tables.{find_proc, find_module}
use Rattle.rw_numbering.specs.declared.tables.BodyTally.{BodyTally}
use Rattle.rw_numbering.specs.declared.tables.ModuleTally.{ModuleTally}
use Rattle.rw_numbering.specs.Loops.{loops, loops_before, module_loops, modules_before}
use Rattle.rw_numbering.specs.Tables.{body_tally, bodies_from, module_from, modules_from, further, place_of_body, place_of_module}

further_is : (o : Option ℕ) (at : ℕ) → further o ≡ Some at → (j : ℕ) × (o ≡ Some j) × (at ≡ suc j)
further_is None at e = absurd (cc)
further_is (Some j) at e = let i : 1 + j ≡ at = cc in (j, refl, omega (arith, i))

further_none : (o : Option ℕ) → further o ≡ None → o ≡ None
further_none None e = refl
further_none (Some j) e = absurd (cc)

-- a body that is found stands at its place, and its tally at the same one
pub record BodyAt (f : Name) (es : List ProcCode) (at : ℕ) : Type 0 where
  pub entry : ProcCode
  pub is : find_proc f es ≡ Some entry
  pub there : slice_get es at ≡ Some entry
  pub tallied : (n : ℕ) → slice_get (bodies_from n es) at ≡ Some (body_tally (n + loops_before f es) entry.body)

pub body_found : (f : Name) (es : List ProcCode) (at : ℕ) → place_of_body f es ≡ Some at → BodyAt f es at
body_found f [] at e = absurd (cc)
body_found f (a ∷ es) at e = go (bytes_eq a.name f) refl e (body_found f es)
  where
    go : (b : Bool) → bytes_eq a.name f ≡ b → cond b (Some 0) (further (place_of_body f es)) ≡ Some at → ((j : ℕ) → place_of_body f es ≡ Some j → BodyAt f es j) → BodyAt f (a ∷ es) at
    go true i h ih =
        let z : at ≡ 0 = cc in
        let k : loops_before f (a ∷ es) ≡ 0 = ap (λ b. cond b 0 (loops a.body + loops_before f es)) i in
        record {
          entry = a;
          is = ap (λ b. if b then Some a else find_proc f es) i;
          there = ap (slice_get (a ∷ es)) z;
          tallied = λ n. let m : n ≡ n + loops_before f (a ∷ es) = omega (arith, k) in ap (slice_get (bodies_from n (a ∷ es))) z ∙ ap (λ m. Some (body_tally m a.body)) m;
        }
    go false i h ih =
        let g = further_is (place_of_body f es) at h in
        let r = ih g.0 g.1 in
        let k : loops_before f (a ∷ es) ≡ loops a.body + loops_before f es = ap (λ b. cond b 0 (loops a.body + loops_before f es)) i in
        record {
          entry = r.entry;
          is = ap (λ b. if b then Some a else find_proc f es) i ∙ r.is;
          there = ap (slice_get (a ∷ es)) g.2 ∙ r.there;
          tallied = λ n.
              let m : n + loops a.body + loops_before f es ≡ n + loops_before f (a ∷ es) = omega (arith, k) in
              ap (slice_get (bodies_from n (a ∷ es))) g.2 ∙ r.tallied (n + loops a.body) ∙ ap (λ m. Some (body_tally m r.entry.body)) m;
        }

module _ {f : Name} {es : List ProcCode} {at : ℕ} (r : BodyAt f es at) where
  -- what is read at the place
  pub entry_read : (x : ProcCode) → x ≡ get_or es at x → x ≡ r.entry
  entry_read x e = e ∙ get_or_from_slice_get es at r.entry x r.there

  pub tallied_read : (n : ℕ) (ts : List BodyTally) → ts ≡ bodies_from n es → (x : BodyTally) → x ≡ get_or ts at x → x ≡ body_tally (n + loops_before f es) r.entry.body
  tallied_read n ts h x e = e ∙ get_or_from_slice_get ts at _ x (ap (λ l. slice_get l at) h ∙ r.tallied n)

pub body_none : (f : Name) (es : List ProcCode) → place_of_body f es ≡ None → find_proc f es ≡ None
body_none f [] e = refl
body_none f (a ∷ es) e = go (bytes_eq a.name f) e (body_none f es)
  where
    go : (b : Bool) → cond b (Some 0) (further (place_of_body f es)) ≡ None → (place_of_body f es ≡ None → find_proc f es ≡ None) → (if b then Some a else find_proc f es) ≡ None
    go true h ih = absurd (cc)
    go false h ih = ih (further_none (place_of_body f es) h)

-- a module that is found stands at its place, and its tally at the same one
pub record ModuleAt (f : Name) (es : List ModCode) (at : ℕ) : Type 0 where
  pub entry : ModCode
  pub is : find_module f es ≡ Some entry
  pub there : slice_get es at ≡ Some entry
  pub tallied : (n : ℕ) → slice_get (modules_from n es) at ≡ Some (module_from (n + modules_before f es) entry)

pub module_found : (f : Name) (es : List ModCode) (at : ℕ) → place_of_module f es ≡ Some at → ModuleAt f es at
module_found f [] at e = absurd (cc)
module_found f (a ∷ es) at e = go (bytes_eq a.name f) refl e (module_found f es)
  where
    go : (b : Bool) → bytes_eq a.name f ≡ b → cond b (Some 0) (further (place_of_module f es)) ≡ Some at → ((j : ℕ) → place_of_module f es ≡ Some j → ModuleAt f es j) → ModuleAt f (a ∷ es) at
    go true i h ih =
        let z : at ≡ 0 = cc in
        let k : modules_before f (a ∷ es) ≡ 0 = ap (λ b. cond b 0 (module_loops a + modules_before f es)) i in
        record {
          entry = a;
          is = ap (λ b. if b then Some a else find_module f es) i;
          there = ap (slice_get (a ∷ es)) z;
          tallied = λ n. let m : n ≡ n + modules_before f (a ∷ es) = omega (arith, k) in ap (slice_get (modules_from n (a ∷ es))) z ∙ ap (λ m. Some (module_from m a)) m;
        }
    go false i h ih =
        let g = further_is (place_of_module f es) at h in
        let r = ih g.0 g.1 in
        let k : modules_before f (a ∷ es) ≡ module_loops a + modules_before f es = ap (λ b. cond b 0 (module_loops a + modules_before f es)) i in
        record {
          entry = r.entry;
          is = ap (λ b. if b then Some a else find_module f es) i ∙ r.is;
          there = ap (slice_get (a ∷ es)) g.2 ∙ r.there;
          tallied = λ n.
              let m : n + module_loops a + modules_before f es ≡ n + modules_before f (a ∷ es) = omega (arith, k) in
              ap (slice_get (modules_from n (a ∷ es))) g.2 ∙ r.tallied (n + module_loops a) ∙ ap (λ m. Some (module_from m r.entry)) m;
        }

module _ {f : Name} {es : List ModCode} {at : ℕ} (r : ModuleAt f es at) where
  -- what is read at the place
  pub module_read : (x : ModCode) → x ≡ get_or es at x → x ≡ r.entry
  module_read x e = e ∙ get_or_from_slice_get es at r.entry x r.there

  pub module_tallied_read : (n : ℕ) (ts : List ModuleTally) → ts ≡ modules_from n es → (x : ModuleTally) → x ≡ get_or ts at x → x ≡ module_from (n + modules_before f es) r.entry
  module_tallied_read n ts h x e = e ∙ get_or_from_slice_get ts at _ x (ap (λ l. slice_get l at) h ∙ r.tallied n)

pub module_none : (f : Name) (es : List ModCode) → place_of_module f es ≡ None → find_module f es ≡ None
module_none f [] e = refl
module_none f (a ∷ es) e = go (bytes_eq a.name f) e (module_none f es)
  where
    go : (b : Bool) → cond b (Some 0) (further (place_of_module f es)) ≡ None → (place_of_module f es ≡ None → find_module f es ≡ None) → (if b then Some a else find_module f es) ≡ None
    go true h ih = absurd (cc)
    go false h ih = ih (further_none (place_of_module f es) h)
