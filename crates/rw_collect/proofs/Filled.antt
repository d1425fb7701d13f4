-- In a tree whose nodes are good each node has a program that refines its specification, where the lemmas that the tree cites are valid.
use Rattle.std.proofs.Common.{◌≡◌, ℕ, ◌+◌, zero, suc, true, List, [], ◌∷◌, ◌++◌, length, map, Option, Some, None, refl, sym, ap, ◌∙◌, subst, arith}
use Rattle.std.specs.Prelude.{unwrap_or}
use Rattle.std.specs.List.{slice_get}
use Rattle.rw_terms.specs.State.{State as Map}
use Rattle.rw_terms.specs.Validity.{Each, Valid}
use Rattle.rw_goals.specs.declared.library.Library.{Library}
use Rattle.rw_goals.specs.Library.{definitions_of}
use Rattle.rw_citations.specs.WellMade.{WellMade, NamedValid}
use Rattle.rw_programs.specs.declared.prog.Prog.{Prog}
use Rattle.rw_programs.specs.declared.prog.Prog.TheVariants as prog
use Rattle.rw_programs.specs.declared.applied.Child.{Child}
use Rattle.rw_programs.specs.declared.applied.Applied.{Applied}
use Rattle.rw_programs.specs.Tables.{Table}
use Rattle.rw_meaning.specs.Filling.{fill, RefinesIn}
use Rattle.rw_sequents.specs.declared.line.Cert.{Cert}
use Rattle.rw_laws.specs.declared.step.BasicStep.{BasicStep}
use Rattle.rw_laws.specs.Counts.{counts}
use Rattle.rw_laws.specs.Laws.{Law, fits, misfit, law_of}
use Rattle.rw_laws.proofs.Fitting.{counts_exact}
use Rattle.rw_soundness.specs.Sound.{IsReady, KidsMeet}
use Rattle.rw_soundness.proofs.Sound.{laws_are_sound}
use Rattle.rw_soundness.proofs.AllReady.{kids_are_ready}
use Rattle.rw_loops.specs.declared.step.LoopStep.{LoopStep}
use Rattle.rw_loops.specs.Counts.{kids_of as loop_kids}
use Rattle.rw_loops.specs.Laws.{law_of as loop_law}
use Rattle.rw_loops.proofs.SoundLaws.{laws_are_sound as loops_are_sound, counts_are_exact as loop_counts}
use Rattle.rw_loops.proofs.KidsReady.{kids_are_ready as loop_kids_ready}
use Rattle.rw_nodes.specs.declared.edit.Step.{Step}
use Rattle.rw_nodes.specs.declared.edit.Step.TheVariants as step
use Rattle.rw_nodes.specs.declared.node.Node.{Node, Node-F, out-Node, roll-Node, map-Node, ind-Node, out-roll-Node, fold_out-Node}
use Rattle.rw_nodes.specs.Edits.{kids_in}
use Rattle.rw_nodes.specs.Nodes.{layer, IsShaped, AreShaped}
use Rattle.rw_nodes.proofs.Kids.{kid_each}
use Rattle.rw_anew.specs.declared.status.Status.TheVariants as status
use Rattle.rw_sites.specs.Derived.{Site, Sites, derived, derived_by, sites, kid_sites}
use Rattle.rw_anew.specs.Anew.{needs_from, status_of, heads_in, mark_of}
use Rattle.rw_nodes.specs.Nodes.{certified}
use Rattle.rw_anew.specs.Uses.{node_cites}
use Rattle.rw_sites.proofs.Sites.{sites-out}
use Rattle.rw_collect.specs.Code.{Codes, before_others, kids_code, kid_program, filled_with, filled_by, code_by, code_step, code}
use Rattle.rw_collect.proofs.Lists.{each_split}
use Rattle.rw_collect.proofs.Needs.{Backed, all_valid}
use Rattle.rw_collect.proofs.Lemmas.{all_cited, kid_cites, own_cites}
use Rattle.rw_collect.proofs.Guarded.{IsGuarded, filled_guarded}
use Rattle.rw_collect.proofs.Skeletons.{basic_guarded, loops_guarded}

numbered_at : (ds : List Prog) (j : ℕ) (d : Prog) → slice_get ds j ≡ Some d → kid_program ds (j + 1) ≡ d
numbered_at ds j d is = ap (kid_program ds) next ∙ ap (λ o. unwrap_or o (prog.Kid (suc j))) is
  where
    next : j + 1 ≡ suc j
    next = omega arith

module _ (library : Library) where
  -- a node that is good
  abbrev pub IsGoodSite : Site → Type 0
  IsGoodSite x = (mark_of library x).status ≡ status.Good

  abbrev all_sites : Node → Sites
  all_sites = sites (heads_in library)

  abbrev collected : Node → Codes
  collected = code (heads_in library)

  -- a program refines a specification in its context, whatever the procedures and the values are
  abbrev pub Refined : Child → Prog → Type 0
  Refined c d = (fixed : Map) (E : Table) (p k : ℕ) → E.library ≡ definitions_of library → RefinesIn fixed c.context.opened c.context.scope E p k (prog.Spec c.spec) d

  abbrev pub IsReadyChild : Child → Type 0
  IsReadyChild c = IsReady c.context.scope (heads_in library) c.spec

  -- there is a program, which has no specification and guards of code, and it refines the specification
  abbrev pub IsCoded : Child → Option Prog → Type 0
  IsCoded c o = (d : Prog) × (o ≡ Some d) × Refined c d × IsGuarded d

  -- the lemmas that a node and those below it cite are valid
  abbrev pub IsBacked : Node → Type 0
  IsBacked n = (x : List ℕ) → node_cites x n ≡ true → NamedValid library (length library.entries) x

  abbrev pub Claim : Node → Type 0
  Claim n = (c : Child) (path : List ℕ) → AreShaped n → IsBacked n → IsReadyChild c → Each IsGoodSite (all_sites n (Some c) path) → IsCoded c (collected n (Some c))

  abbrev WithClaim : Type 0
  WithClaim = (n : Node) × Claim n

  abbrev plain : List WithClaim → List Node
  plain ys = map (λ (e : WithClaim). e.0) ys

  -- what is known of each kid
  abbrev KidsKnown : List WithClaim → Type 0
  KidsKnown ys = (j : ℕ) (kid : Node) → slice_get (plain ys) j ≡ Some kid → AreShaped kid × IsBacked kid

  -- each program refines the specification of its kid
  abbrev AllRefined : List Prog → List Child → Type 0
  AllRefined [] [] = Unit {0}
  AllRefined [] (c ∷ children) = ⊥
  AllRefined (d ∷ ds) [] = ⊥
  AllRefined (d ∷ ds) (c ∷ children) = (Refined c d × IsGuarded d) × AllRefined ds children

  abbrev KidsCoded : List Node → List Child → List Child → ℕ → Type 0
  KidsCoded kids children rest i = (ds : List Prog) × (kids_code (map collected kids) children i ≡ Some ds) × AllRefined ds rest

  -- the kids from number i on have programs, where `rest` is what the law makes for them
  kids_coded : (ys : List WithClaim) (children rest : List Child) (i : ℕ) (path : List ℕ) → ((j : ℕ) → slice_get children (j + i) ≡ slice_get rest j) → length (plain ys) ≡ length rest →
      KidsKnown ys → Each IsReadyChild rest → Each IsGoodSite (kid_sites (map all_sites (plain ys)) children i path) → KidsCoded (plain ys) children rest i
  kids_coded [] children [] i path at long known ready good = ([], refl, tt)
  kids_coded [] children (c ∷ rest) i path at long known ready good = absurd (omega (arith, long))
  kids_coded (y ∷ ys) children [] i path at long known ready good = absurd (omega (arith, long))
  kids_coded (y ∷ ys) children (c ∷ rest) i path at long known ready good =
      let first : slice_get children i ≡ Some c = ap (slice_get children) (itself i) ∙ at 0 in
      let halves = each_split IsGoodSite (all_sites y.0 (slice_get children i) (path ++ (i + 1) ∷ [])) (kid_sites (map all_sites (plain ys)) children (i + 1) path) good in
      let own = known 0 y.0 refl in
      let here : IsCoded c (collected y.0 (Some c)) = y.1 c (path ++ (i + 1) ∷ []) own.0 own.1 ready.0 (subst (λ o. Each IsGoodSite (all_sites y.0 o (path ++ (i + 1) ∷ []))) first halves.0) in
      let later : KidsCoded (plain ys) children rest (i + 1) = kids_coded ys children rest (i + 1) path (λ j. ap (slice_get children) (next j) ∙ at (suc j)) (omega (arith, long)) (λ j kid is. known (suc j) kid is) ready.1 halves.1 in (
        here.0 ∷ later.0,
        ap (λ o. before_others (collected y.0 o) (kids_code (map collected (plain ys)) children (i + 1))) first
            ∙ ap (λ o. before_others o (kids_code (map collected (plain ys)) children (i + 1))) here.1
            ∙ ap (before_others (Some here.0)) later.1,
        ((here.2, here.3), later.2),
      )
    where
      itself : (n : ℕ) → n ≡ 0 + n
      itself n = omega arith

      next : (j : ℕ) → j + (i + 1) ≡ suc j + i
      next j = omega arith

  -- so they meet what soundness asks of them
  kids_meet : (fixed : Map) (E : Table) (p k : ℕ) → E.library ≡ definitions_of library → (kids : ℕ → Prog) (ds : List Prog) (children : List Child) (n : ℕ) →
      ((j : ℕ) (d : Prog) → slice_get ds j ≡ Some d → kids (j + n) ≡ d) → AllRefined ds children → KidsMeet fixed E p k kids n children
  kids_meet fixed E p k by kids [] [] n at h = tt
  kids_meet fixed E p k by kids [] (c ∷ children) n at h = absurd h
  kids_meet fixed E p k by kids (d ∷ ds) [] n at h = absurd h
  kids_meet fixed E p k by kids (d ∷ ds) (c ∷ children) n at h = (
    subst (λ e. RefinesIn fixed c.context.opened c.context.scope E p k (prog.Spec c.spec) e) (sym (ap kids (itself n) ∙ at 0 d refl)) (h.0.0 fixed E p k by),
    kids_meet fixed E p k by kids ds children (suc n) (λ j e is. ap kids (next j) ∙ at (suc j) e is) h.1,
  )
    where
      itself : (m : ℕ) → m ≡ 0 + m
      itself m = omega arith

      next : (j : ℕ) → j + suc n ≡ suc j + n
      next j = omega arith

  -- each program that is put for a kid is guarded
  one_guarded : (ds : List Prog) (children : List Child) → AllRefined ds children → (k n : ℕ) → IsGuarded (unwrap_or (slice_get ds k) (prog.Kid n))
  one_guarded [] children h k n = tt
  one_guarded (d ∷ ds) [] h k n = absurd h
  one_guarded (d ∷ ds) (c ∷ children) h zero n = h.0.1
  one_guarded (d ∷ ds) (c ∷ children) h (suc k) n = one_guarded ds children h.1 k n

  kids_guarded : (ds : List Prog) (children : List Child) → AllRefined ds children → (n : ℕ) → IsGuarded (kid_program ds n)
  kids_guarded ds children h zero = tt
  kids_guarded ds children h (suc k) = one_guarded ds children h k (suc k)

  -- what a law that fits makes: as many kids as the step has, well-formed where they stand, and a skeleton that refines the parent where
  -- the obligations are valid and the kids meet theirs
  record IsSoundFor (c : Child) (count : ℕ) (a : Applied) : Type 0 where
    pub kids : length a.children ≡ count
    pub ready : Each IsReadyChild a.children
    pub guarded : IsGuarded a.skeleton
    pub sound : (fixed : Map) (E : Table) (p k : ℕ) (kids : ℕ → Prog) → Each (Valid E.library) a.obligations → KidsMeet fixed E p k kids 1 a.children →
        RefinesIn fixed c.context.opened c.context.scope E p k (prog.Spec c.spec) (fill kids a.skeleton)

  basic_sound : (c : Child) (s : BasicStep) → IsReadyChild c → (a : Applied) → law_of c.context (heads_in library) c.spec s ≡ fits a → IsSoundFor c (counts s).kids a
  basic_sound c s ready a e = record {
    kids = (counts_exact c.context (heads_in library) c.spec s a e).0;
    ready = kids_are_ready c.context (heads_in library) c.spec s a ready e;
    guarded = basic_guarded c.context (heads_in library) c.spec s a e;
    sound = laws_are_sound c.context (heads_in library) c.spec s a ready e;
  }

  loop_sound : (c : Child) (s : LoopStep) → IsReadyChild c → (a : Applied) → loop_law c.context (heads_in library) c.spec s ≡ fits a → IsSoundFor c (loop_kids s) a
  loop_sound c s ready a e = record {
    kids = (loop_counts c.context (heads_in library) c.spec s a e).0;
    ready = loop_kids_ready c.context (heads_in library) c.spec s a ready e;
    guarded = loops_guarded c.context (heads_in library) c.spec s a e;
    sound = loops_are_sound c.context (heads_in library) c.spec s a ready e;
  }

  module _ (made : WellMade library) where
    -- a node whose step's law says this
    by_law : (c : Child) (count : ℕ) (law : Law) (certs : List (Option Cert)) (ys : List WithClaim) (path : List ℕ) → ((a : Applied) → law ≡ fits a → IsSoundFor c count a) → length (plain ys) ≡ count →
        KidsKnown ys → Backed library made (certified certs) →
        status_of (derived_by law).outcome (needs_from library 1 (derived_by law).obligations (certified certs)) ≡ status.Good → Each IsGoodSite (kid_sites (map all_sites (plain ys)) (derived_by law).children 0 path) →
        IsCoded c (filled_by law (map collected (plain ys)))
    by_law c count (misfit m) certs ys path sound long known backed good kids = absurd (cc)
    by_law c count (fits a) certs ys path sound long known backed good kids =
        let fit = sound a refl in
        let valid : Each (Valid (definitions_of library)) a.obligations = all_valid library made 1 a.obligations (certified certs) backed good in
        let coded : KidsCoded (plain ys) a.children a.children 0 = kids_coded ys a.children a.children 0 path (λ j. ap (slice_get a.children) (same j)) (long ∙ sym fit.kids) known fit.ready kids in (
          fill (kid_program coded.0) a.skeleton,
          ap (filled_with a.skeleton) coded.1,
          λ fixed E p k by. fit.sound fixed E p k (kid_program coded.0) (subst (λ ds. Each (Valid ds) a.obligations) (sym by) valid) (kids_meet fixed E p k by (kid_program coded.0) coded.0 a.children 1 (numbered_at coded.0) coded.2),
          filled_guarded (kid_program coded.0) (kids_guarded coded.0 a.children coded.2) a.skeleton fit.guarded,
        )
      where
        same : (j : ℕ) → j + 0 ≡ j
        same j = omega arith

    -- a node that is given a specification, by its step
    by_step : (c : Child) (s : Option Step) (certs : List (Option Cert)) (ys : List WithClaim) (path : List ℕ) → IsReadyChild c → length (plain ys) ≡ kids_in s → KidsKnown ys → Backed library made (certified certs) →
        IsGoodSite (record { path = path; given = Some c; step = s; certs = certs }) → Each IsGoodSite (kid_sites (map all_sites (plain ys)) (derived (heads_in library) (Some c) s).children 0 path) →
        IsCoded c (code_by (heads_in library) (Some c) s (map collected (plain ys)))
    unfolding derived code_by
    by_step c None certs ys path ready long known backed good kids = absurd (cc)
    by_step c (Some (step.Basic s)) certs ys path ready long known backed good kids = by_law c (counts s).kids (law_of c.context (heads_in library) c.spec s) certs ys path (basic_sound c s ready) long known backed good kids
    by_step c (Some (step.Loop s)) certs ys path ready long known backed good kids = by_law c (loop_kids s) (loop_law c.context (heads_in library) c.spec s) certs ys path (loop_sound c s ready) long known backed good kids

    code-out : (n : Node) (given : Option Child) → collected n given ≡ code_by (heads_in library) given (out-Node n).step (map collected (out-Node n).kids)
    code-out n given = ap (λ f. f given) (fold_out-Node Codes (code_step (heads_in library)) n)

    -- what a certificate of the node cites is valid
    own_backed : (n : Node) → IsBacked n → Backed library made (certified (out-Node n).certs)
    own_backed n backed k c there = all_cited (NamedValid library (length library.entries)) c (λ x e. backed x (own_cites x n k c there e))

    claim_at : (y : Node-F WithClaim) → Claim (roll-Node (map-Node WithClaim Node (λ e. e.0) y))
    claim_at y c path shaped backed ready good =
        let n : Node = roll-Node (map-Node WithClaim Node (λ e. e.0) y) in
        let kids : (out-Node n).kids ≡ plain y.kids = ap (λ (l : Node-F Node). l.kids) (out-roll-Node (map-Node WithClaim Node (λ e. e.0) y)) in
        let shape : IsShaped (layer n) = shaped [] (layer n) refl in
        let all = subst (Each IsGoodSite) (sites-out (heads_in library) n (Some c) path) good in
        let coded = by_step c (out-Node n).step (out-Node n).certs y.kids path ready (sym (ap length kids) ∙ shape.kids)
        (λ j kid is. let there = ap (λ ks. slice_get ks j) kids ∙ is in (kid_each IsShaped n kid j shaped there, λ x e. backed x (kid_cites x n j kid there e))) (own_backed n backed) all.0
        (subst (λ ks. Each IsGoodSite (kid_sites (map all_sites ks) (derived (heads_in library) (Some c) (out-Node n).step).children 0 path)) kids all.1) in
        subst (IsCoded c) (sym (code-out n (Some c) ∙ ap (λ ks. code_by (heads_in library) (Some c) (out-Node n).step (map collected ks)) kids)) coded

    pub node_coded : (n : Node) → Claim n
    node_coded = ind-Node Claim (λ x y is. subst (λ z. Claim (roll-Node z)) is (claim_at y))
