-- The names that are gathered from a scope are sorted, and are those that pass the test.
use Rattle.std.proofs.Common.{◌≡◌, ℕ, Bool, true, false, cond, List, [], ◌∷◌, find, Option, Some, None, refl, sym, ◌∙◌, ap, subst, bytes_eq}
use Rattle.std.specs.Prelude.{◌||◌}
use Rattle.std.specs.Option.{option_map}
use Rattle.std.specs.Ordering.{ordering_reverse}
use Rattle.std.specs.declared.cmp.Ordering.{Ordering}
use Rattle.std.specs.declared.cmp.Ordering.TheVariants.{Less, Equal, Greater}
use Rattle.std.proofs.lemmas.Cmp.{nat_list_cmp_total, tied_itself}
use Rattle.std.specs.FinMap.{slice_cmp-IsAntisymmetric, nat_cmp-IsAntisymmetric}
use Rattle.std.proofs.lemmas.Slice.Eq.{bytes_eq-Decides}
use Rattle.rw_terms.specs.declared.scope.Entry.{Entry}
use Rattle.rw_terms.specs.Names.{name_cmp}
use Rattle.rw_terms.specs.Scopes.{has_name}
use Rattle.rw_terms.specs.Mentions.{formulas_mention}
use Rattle.rw_terms.specs.Named.{Named, is_named}
use Rattle.rw_terms.specs.Naming.{by_order, placed, placed_if, gathered}
use Rattle.rw_terms.specs.Validity.{Each}
use Rattle.rw_terms.specs.InScope.{Ascending, named_by, only_if, NamesAreExact}

same_name : (x y : List ℕ) → name_cmp x y ≡ Equal → x ≡ y
same_name = slice_cmp-IsAntisymmetric nat_cmp-IsAntisymmetric

not_less : (x : List ℕ) → name_cmp x x ≡ Less → ⊥
not_less x e = let q : name_cmp x x ≡ Equal = tied_itself nat_list_cmp_total x in cc

flipped : (x y : List ℕ) → name_cmp x y ≡ Greater → name_cmp y x ≡ Less
flipped x y e = nat_list_cmp_total.antisymm y x ∙ ap ordering_reverse e

less_chain : (x y z : List ℕ) → name_cmp x y ≡ Less → name_cmp y z ≡ Less → name_cmp x z ≡ Less
less_chain = nat_list_cmp_total.trans

-- the name stands before each of the names
abbrev Below : List ℕ → List Named → Type 0
Below x = Each (λ m. name_cmp x m.0 ≡ Less)

below_chain : (x y : List ℕ) (ns : List Named) → name_cmp x y ≡ Less → Below y ns → Below x ns
below_chain x y [] e h = tt
below_chain x y (n ∷ ns) e h = (less_chain x y n.0 e h.0, below_chain x y ns e h.1)

below_placed : (x : List ℕ) (n : Named) (ns : List Named) → name_cmp x n.0 ≡ Less → Below x ns → Below x (placed n ns)
below_placed x n [] e h = (e, tt)
below_placed x n (m ∷ ms) e h =
    elim (name_cmp n.0 m.0) as (λ o. Below x (by_order o n m ms (placed n ms))) [
      | Less ↦ (e, h)
      | Equal ↦ h
      | Greater ↦ (h.0, below_placed x n ms e h.1)
    ]

-- a name put in its place leaves the list sorted
placed_ascends : (n : Named) (ns : List Named) → Ascending ns → Ascending (placed n ns)
placed_ascends n [] h = (tt, tt)
placed_ascends n (m ∷ ms) h = by (placed_ascends n ms h.1) (name_cmp n.0 m.0) refl
  where
    by : Ascending (placed n ms) → (o : Ordering) → name_cmp n.0 m.0 ≡ o → Ascending (by_order o n m ms (placed n ms))
    by rest Less e = ((e, below_chain n.0 m.0 ms e h.0), h)
    by rest Equal e = h
    by rest Greater e = (below_placed m.0 n ms (flipped n.0 m.0 e) h.0, rest)

-- the first that is there
abbrev either : Option Named → Option Named → Option Named
either None o = o
either (Some n) o = Some n

either_none : (o : Option Named) → either o None ≡ o
either_none None = refl
either_none (Some n) = refl

either_chain : (o p q : Option Named) → either (either o p) q ≡ either o (either p q)
either_chain None p q = refl
either_chain (Some n) p q = refl

either_first : (b : Bool) (m : Named) (o p : Option Named) → either (cond b (Some m) o) p ≡ cond b (Some m) (either o p)
either_first true m o p = refl
either_first false m o p = refl

-- a name before all is not among them
not_among : (x : List ℕ) (ns : List Named) → Below x ns → find (is_named x) ns ≡ None
not_among x [] h = refl
not_among x (m ∷ ms) h = by (not_among x ms h.1) (bytes_eq m.0 x) refl
  where
    by : find (is_named x) ms ≡ None → (b : Bool) → bytes_eq m.0 x ≡ b → cond b (Some m) (find (is_named x) ms) ≡ None
    by rest true e = absurd (not_less x (subst (λ z. name_cmp x z ≡ Less) ((bytes_eq-Decides m.0 x).0 e) h.0))
    by rest false e = rest

-- what is found behind a name that is put in its place: what was, or else that one
found_placed : (x : List ℕ) (n : Named) (ns : List Named) → Ascending ns →
    find (is_named x) (placed n ns) ≡ either (find (is_named x) ns) (cond (is_named x n) (Some n) None)
found_placed x n [] h = refl
found_placed x n (m ∷ ms) h = by (found_placed x n ms h.1) (name_cmp n.0 m.0) refl
  where
    before : (b : Bool) → bytes_eq n.0 x ≡ b → Below n.0 (m ∷ ms) → cond b (Some n) (find (is_named x) (m ∷ ms)) ≡ either (find (is_named x) (m ∷ ms)) (cond b (Some n) None)
    before true e low = ap (λ o. either o (Some n)) (sym (not_among x (m ∷ ms) (subst (λ z. Below z (m ∷ ms)) ((bytes_eq-Decides n.0 x).0 e) low)))
    before false e low = sym (either_none (find (is_named x) (m ∷ ms)))

    there : (b : Bool) → bytes_eq n.0 x ≡ b → n.0 ≡ m.0 → find (is_named x) (m ∷ ms) ≡ either (find (is_named x) (m ∷ ms)) (cond b (Some n) None)
    there true e same = ap (λ c. cond c (Some m) (find (is_named x) ms)) (ap (λ z. bytes_eq z x) (sym same) ∙ e) ∙ sym (ap (λ c. either (cond c (Some m) (find (is_named x) ms)) (Some n)) (ap (λ z. bytes_eq z x) (sym same) ∙ e))
    there false e same = sym (either_none (find (is_named x) (m ∷ ms)))

    by : find (is_named x) (placed n ms) ≡ either (find (is_named x) ms) (cond (is_named x n) (Some n) None) → (o : Ordering) → name_cmp n.0 m.0 ≡ o →
        find (is_named x) (by_order o n m ms (placed n ms)) ≡ either (find (is_named x) (m ∷ ms)) (cond (is_named x n) (Some n) None)
    by rest Less e = before (bytes_eq n.0 x) refl (e, below_chain n.0 m.0 ms e h.0)
    by rest Equal e = there (bytes_eq n.0 x) refl (same_name n.0 m.0 e)
    by rest Greater e = ap (cond (is_named x m) (Some m)) rest ∙ sym (either_first (is_named x m) m (find (is_named x) ms) (cond (is_named x n) (Some n) None))

module _ (p : List ℕ → Bool) where
  placed_if_ascends : (b : Bool) (n : Named) (ns : List Named) → Ascending ns → Ascending (placed_if b n ns)
  placed_if_ascends true n ns h = placed_ascends n ns h
  placed_if_ascends false n ns h = h

  gathered_ascends : (names : List Named) (es : List Entry) → Ascending names → Ascending (gathered p names es)
  gathered_ascends names [] h = h
  gathered_ascends names (e ∷ es) h = gathered_ascends (placed_if (p e.name) (named_by e) names) es (placed_if_ascends (p e.name) (named_by e) names h)

  abbrev wanted : List Entry → List ℕ → Option Named
  wanted es x = only_if (p x) (option_map named_by (find (has_name x) es))

  only_none : (b : Bool) → None ≡ only_if b (option_map named_by None)
  only_none true = refl
  only_none false = refl

  -- an entry is found where it has the name and passes the test
  one_more : (x : List ℕ) (e : Entry) (names : List Named) (es : List Entry) → Ascending names →
      either (find (is_named x) (placed_if (p e.name) (named_by e) names)) (wanted es x) ≡ either (find (is_named x) names) (wanted (e ∷ es) x)
  one_more x e names es h = by (p e.name) refl (bytes_eq e.name x) refl
    where
      same : bytes_eq e.name x ≡ true → p e.name ≡ p x
      same q = ap p ((bytes_eq-Decides e.name x).0 q)

      by : (c : Bool) → p e.name ≡ c → (b : Bool) → bytes_eq e.name x ≡ b →
          either (find (is_named x) (placed_if c (named_by e) names)) (wanted es x) ≡ either (find (is_named x) names) (only_if (p x) (option_map named_by (cond b (Some e) (find (has_name x) es))))
      by true q true r =
          ap (λ o. either o (wanted es x)) (found_placed x (named_by e) names h)
          ∙ ap (λ b. either (either (find (is_named x) names) (cond b (Some (named_by e)) None)) (wanted es x)) r
          ∙ either_chain (find (is_named x) names) (Some (named_by e)) (wanted es x)
          ∙ ap (λ b. either (find (is_named x) names) (only_if b (Some (named_by e)))) (sym q ∙ same r)
      by true q false r =
          ap (λ o. either o (wanted es x)) (found_placed x (named_by e) names h)
          ∙ ap (λ b. either (either (find (is_named x) names) (cond b (Some (named_by e)) None)) (wanted es x)) r
          ∙ ap (λ o. either o (wanted es x)) (either_none (find (is_named x) names))
      by false q true r = ap (either (find (is_named x) names)) (ap (λ b. only_if b (option_map named_by (find (has_name x) es))) (sym (same r) ∙ q) ∙ ap (λ b. only_if b (Some (named_by e))) (sym q ∙ same r))
      by false q false r = refl

  gathered_found : (x : List ℕ) (names : List Named) (es : List Entry) → Ascending names → find (is_named x) (gathered p names es) ≡ either (find (is_named x) names) (wanted es x)
  gathered_found x names [] h = sym (either_none (find (is_named x) names)) ∙ ap (either (find (is_named x) names)) (only_none (p x))
  gathered_found x names (e ∷ es) h =
      gathered_found x (placed_if (p e.name) (named_by e) names) es (placed_if_ascends (p e.name) (named_by e) names h) ∙ one_more x e names es h

pub names_are_exact : NamesAreExact
names_are_exact scope left right =
    let p = λ (x : List ℕ). formulas_mention x left || formulas_mention x right in
    (gathered_ascends p [] scope tt, λ x. gathered_found p x [] scope tt)
