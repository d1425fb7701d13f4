-- What the tests let pass has no name of another kind.
use Rattle.std.proofs.Common.{◌≡◌, ℕ, Bool, true, false, ◌||◌, List, [], Option, Some, None, refl, true≢false}
use Rattle.rw_goals.specs.declared.library.Definition.{Definition}
use Rattle.rw_goals.specs.declared.library.Lemma.{Lemma}
use Rattle.rw_goals.specs.declared.library.Item.{Item}
use Rattle.rw_heads.specs.declared.head.Module.{Module}
use Rattle.rw_heads.specs.declared.head.ProcHead.{ProcHead}
use Rattle.rw_heads.specs.Heads.{has_proc, has_module}
use Rattle.rw_library.specs.Entries.{has_lemma, has_definition, heads_of}
use Rattle.rw_library.specs.Parameters.{first_repeated}
use Rattle.rw_edit_tests.specs.declared.refusal.EditRefusal.{EditRefusal}
use Rattle.rw_edit_tests.specs.Entering.{duplicate, entry_refusal, is_headed, heads_with, define_unknown, define_duplicate, define_part, define_limit, define_refusal, lemma_unknown, lemma_duplicate, lemma_part, lemma_limit, lemma_refusal}

-- the second test passed
pub second_passed : (name : Option (List ℕ)) (twice : Option EditRefusal) (part : Option ℕ) (limit : Option EditRefusal) → entry_refusal name twice part limit ≡ None → twice ≡ None
second_passed (Some x) twice part limit passed = absurd (cc)
second_passed None (Some r) part limit passed = absurd (cc)
second_passed None None part limit passed = refl

-- so the name is that of no other kind
pub is_free : (clash : Bool) (x : List ℕ) (twice : Option (List ℕ)) → duplicate clash x twice ≡ None → clash ≡ false
is_free true x twice passed = absurd (cc)
is_free false x twice passed = refl

pub neither : (one other : Bool) → (one || other) ≡ false → (one ≡ false) × (other ≡ false)
neither true other h = absurd (true≢false h)
neither false other h = (refl, h)

module _ (entries : List Item) (procs : List ProcHead) (modules : List Module) (order : List (List ℕ)) where
  pub define_free : (d : Definition) → define_refusal entries procs modules order d ≡ None → (has_proc d.name procs ≡ false) × (has_module d.name modules ≡ false)
  unfolding define_refusal
  define_free d passed =
      let single = second_passed (define_unknown (heads_with d entries) d) (define_duplicate entries procs modules d) (define_part (heads_with d entries) d) (define_limit order d) passed in
      let free = is_free (has_lemma d.name entries || is_headed d.name procs modules) d.name (first_repeated [] d.params) single in
      neither (has_proc d.name procs) (has_module d.name modules) (neither (has_lemma d.name entries) (is_headed d.name procs modules) free).1

  pub lemma_free : (l : Lemma) → lemma_refusal entries procs modules order l ≡ None → (has_proc l.name procs ≡ false) × (has_module l.name modules ≡ false)
  unfolding lemma_refusal
  lemma_free l passed =
      let single = second_passed (lemma_unknown (heads_of entries) l) (lemma_duplicate entries procs modules l) (lemma_part (heads_of entries) l) (lemma_limit order l) passed in
      let free = is_free (has_definition l.name entries || is_headed l.name procs modules) l.name (first_repeated [] l.params) single in
      neither (has_proc l.name procs) (has_module l.name modules) (neither (has_definition l.name entries) (is_headed l.name procs modules) free).1
