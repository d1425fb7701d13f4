-- What the rules of sorts give for the parts of a term that has a sort.
use Rattle.std.proofs.Common.{◌≡◌, ℕ, Bool, true, false, is_some, List, [], Option, Some, None, refl, sym, true≢false}
use Rattle.rw_terms.specs.declared.scope.Entry.{Entry}
use Rattle.rw_terms.specs.declared.term.Sort.{Sort}
use Rattle.rw_terms.specs.declared.term.Sort.TheVariants.{Int, Array}
use Rattle.rw_terms.specs.declared.term.Term.{Term}
use Rattle.rw_terms.specs.Sorts.{sort_report}
use Rattle.rw_terms.specs.Rules.{of_int, of_ints, of_read, of_put, instead, may_equal_of, is_of, sort_in}
use Rattle.rw_terms.proofs.Reported.{told}

pub int_part : (o : Option Sort) (s : Sort) → of_int o ≡ Some s → o ≡ Some Int
int_part None s e = absurd (cc)
int_part (Some Int) s e = refl
int_part (Some (Array n)) s e = absurd (cc)

pub int_parts : (o p : Option Sort) (s : Sort) → of_ints o p ≡ Some s → (o ≡ Some Int) × (p ≡ Some Int)
int_parts None p s e = absurd (cc)
int_parts (Some Int) p s e = (refl, int_part p s e)
int_parts (Some (Array n)) p s e = absurd (cc)

-- an array, and an integer behind it
pub record ReadParts (o p : Option Sort) : Type 0 where
  pub length : ℕ
  pub array : o ≡ Some (Array length)
  pub index : p ≡ Some Int

pub read_parts : (o p : Option Sort) (s : Sort) → of_read o p ≡ Some s → ReadParts o p
read_parts None p s e = absurd (cc)
read_parts (Some Int) p s e = absurd (cc)
read_parts (Some (Array n)) p s e = record { length = n; array = refl; index = int_part p s e }

-- an array, and two integers behind it
pub record PutParts (o p q : Option Sort) : Type 0 where
  pub length : ℕ
  pub array : o ≡ Some (Array length)
  pub index : p ≡ Some Int
  pub item : q ≡ Some Int

there : (a : Sort) (o : Option Sort) (s : Sort) → instead a o ≡ Some s → (t : Sort) × (o ≡ Some t)
there a None s e = absurd (cc)
there a (Some t) s e = (t, refl)

pub put_parts : (o p q : Option Sort) (s : Sort) → of_put o p q ≡ Some s → PutParts o p q
put_parts None p q s e = absurd (cc)
put_parts (Some Int) p q s e = absurd (cc)
put_parts (Some (Array n)) p q s e =
    let ints = there (Array n) (of_ints p q) s e in
    let parts = int_parts p q ints.0 ints.1 in
    record { length = n; array = refl; index = parts.0; item = parts.1 }

some : (o : Option Sort) → is_some o ≡ true → (s : Sort) × (o ≡ Some s)
some None e = absurd (true≢false (sym e))
some (Some s) e = (s, refl)

-- the two sides of a comparison, and of an equation
pub compared_parts : (o p : Option Sort) → is_some (of_ints o p) ≡ true → (o ≡ Some Int) × (p ≡ Some Int)
compared_parts o p e = let given = some (of_ints o p) e in int_parts o p given.0 given.1

second : (s : Sort) (p : Option Sort) → is_of s p ≡ true → (t : Sort) × (p ≡ Some t)
second s None e = absurd (true≢false (sym e))
second s (Some t) e = (t, refl)

pub equal_parts : (o p : Option Sort) → may_equal_of o p ≡ true → ((s : Sort) × (o ≡ Some s)) × ((t : Sort) × (p ≡ Some t))
equal_parts None p e = absurd (true≢false (sym e))
equal_parts (Some s) p e = ((s, refl), second s p e)

-- the sort by the rules is the one that is reported
pub reported : (scope : List Entry) (t : Term) (s : Sort) → sort_in scope [] t ≡ Some s → (sort_report scope [] t).sort ≡ Some s
reported scope t s e = (told scope [] t).same s e
