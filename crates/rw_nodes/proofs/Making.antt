-- An edit of a node or an obligation that is there makes the project of the longer list.
use Rattle.std.proofs.Common.{◌≡◌, ℕ, List, [], ◌∷◌, ◌++◌, refl, ap, sym, ◌∙◌, Option, Some, None, IsSome, Bool, true, false, if◌then◌else◌}
use Rattle.std.specs.Option.{option_and_then, is_some}
use Rattle.std.specs.Prelude.{map, remove, slice_set, unwrap_or}
use Rattle.rw_nodes.specs.declared.edit.Edit.{Edit}
use Rattle.rw_nodes.specs.declared.edit.Edit.TheVariants as edit
use Rattle.rw_nodes.specs.declared.node.Node.{Node, out-Node}
use Rattle.rw_nodes.specs.declared.parts.Parts.{Parts}
use Rattle.rw_nodes.specs.Nodes.{look, numbered, has_obligation}
use Rattle.rw_goals.specs.declared.library.Item.{Item}
use Rattle.rw_goals.specs.declared.library.Item.TheVariants as item
use Rattle.rw_library.specs.Entries.{has_entry, put_entry, without_entry, place_of, entry_name}
use Rattle.rw_nodes.specs.Table.{table_of, put_row, entry_in, proof_in, entries_of}
use Rattle.rw_nodes.specs.Edits.{without_param, globals_of, root_of, step_said, step_at, cert_said, cert_at}
use Rattle.rw_nodes.specs.Parts.{MakesTree, Makes, IsPlaced, applied_to, parts_of, proofs_with, less_entry, with_entry}
use Rattle.rw_nodes.proofs.Tabled.{put_entries, put_proofs, prove_entries, prove_proofs, without_entries, without_proofs, without_none}
use Rattle.rw_nodes.proofs.Stepped.{steps_set, certs_set, shaped_set, made_blank}
use Rattle.rw_nodes.proofs.Certified.{steps_kept, certs_put, shaped_kept}

-- the node that is there
pub found : (n : Node) (q : List ℕ) → IsSome (look n q) → (m : Node) × (look n q ≡ Some m)
found n q h = go (look n q) refl h where
  go : (o : Option Node) → look n q ≡ o → IsSome o → (m : Node) × (look n q ≡ Some m)
  go None is h = absurd (cc)
  go (Some m) is h = (m, is)

pub found_with : (n : Node) (q : List ℕ) (k : ℕ) → has_obligation n q k ≡ true → (m : Node) × (look n q ≡ Some m) × IsSome (numbered (out-Node m).certs k)
found_with n q k h = go (look n q) refl h where
  go : (o : Option Node) → look n q ≡ o → is_some (option_and_then (λ m. numbered (out-Node m).certs k) o) ≡ true → (m : Node) × (look n q ≡ Some m) × IsSome (numbered (out-Node m).certs k)
  go None is h = absurd (cc)
  go (Some m) is h = (m, is, h)

module _ (limit : ℕ) (l : List Edit) (parts : Parts) (m : Makes limit l parts) where
  -- an edit that says nothing of nodes keeps the tree
  abbrev SaysNothing : Edit → Type 0
  SaysNothing e = ((p : List ℕ) → step_said e p ≡ None) × ((p : List ℕ) (k : ℕ) → cert_said e p k ≡ None)

  kept_tree : (e : Edit) → SaysNothing e → MakesTree (e ∷ l) parts.main
  kept_tree e silent = record {
    steps = λ p. m.main.steps p ∙ sym (ap (λ o. unwrap_or o (step_at l p)) (silent.0 p));
    certs = λ p k. m.main.certs p k ∙ sym (ap (λ o. unwrap_or o (cert_at l p k)) (silent.1 p k));
    shaped = m.main.shaped;
  }

  -- an entry that is set
  entry_set : (e : Edit) (x : Item) → table_of (e ∷ l) ≡ put_row (table_of l) x → globals_of (e ∷ l) ≡ globals_of l → root_of (e ∷ l) ≡ root_of l → SaysNothing e → Makes limit (e ∷ l) (with_entry parts x)
  entry_set e x tables globals roots silent = record {
    globals = m.globals ∙ sym globals;
    root = m.root ∙ sym roots;
    entries = ap (λ es. put_entry es x) m.entries ∙ sym (put_entries (table_of l) x) ∙ ap (map entry_in) (sym tables);
    proofs = ap (λ es. proofs_with es parts.proofs (entry_name x)) m.entries ∙ ap (λ ps. proofs_with (entries_of l) ps (entry_name x)) m.proofs ∙ sym (put_proofs (table_of l) x) ∙ ap (map proof_in) (sym tables);
    main = kept_tree e silent;
    most = m.most;
  }

  -- what is dropped is an entry, or else a global
  dropped : (x : List ℕ) (b : Bool) → has_entry x parts.library.entries ≡ b → Makes limit (edit.Drop x ∷ l) (if b then less_entry parts x else record parts { globals = without_param parts.globals x })
  dropped x true there = record {
    globals = m.globals ∙ sym (ap (λ (b : Bool). if b then globals_of l else without_param (globals_of l) x) (sym (ap (has_entry x) m.entries) ∙ there));
    root = m.root;
    entries = ap (λ es. without_entry es x) m.entries ∙ sym (without_entries (table_of l) x);
    proofs = ap (λ es. remove parts.proofs (place_of es x)) m.entries ∙ ap (λ ps. remove ps (place_of (entries_of l) x)) m.proofs ∙ sym (without_proofs (table_of l) x);
    main = kept_tree (edit.Drop x) (λ p. refl, λ p k. refl);
    most = m.most;
  }
  dropped x false there =
      let none : has_entry x (entries_of l) ≡ false = sym (ap (has_entry x) m.entries) ∙ there in
      let same : table_of l ≡ table_of (edit.Drop x ∷ l) = sym (without_none (table_of l) x none) in record {
        globals = ap (λ g. without_param g x) m.globals ∙ sym (ap (λ (b : Bool). if b then globals_of l else without_param (globals_of l) x) none);
        root = m.root;
        entries = m.entries ∙ ap (map entry_in) same;
        proofs = m.proofs ∙ ap (map proof_in) same;
        main = kept_tree (edit.Drop x) (λ p. refl, λ p k. refl);
        most = m.most;
      }

  pub made_by : (e : Edit) → IsPlaced parts.main e → Makes limit (e ∷ l) (applied_to parts e)
  made_by (edit.Var p) h = record { globals = ap (λ g. g ++ p ∷ []) m.globals; root = m.root; entries = m.entries; proofs = m.proofs; main = kept_tree (edit.Var p) (λ p. refl, λ p k. refl); most = m.most }
  made_by (edit.Root w) h = record { globals = m.globals; root = refl; entries = m.entries; proofs = m.proofs; main = kept_tree (edit.Root w) (λ p. refl, λ p k. refl); most = m.most }
  made_by (edit.Step q s) h = let t = found parts.main q.path.kids h in record {
    globals = m.globals;
    root = m.root;
    entries = m.entries;
    proofs = m.proofs;
    main = record {
      steps = steps_set l q.path.kids (Some s) parts.main t.0 m.main t.1;
      certs = certs_set l q.path.kids (Some s) parts.main t.0 m.main t.1;
      shaped = shaped_set l q.path.kids (Some s) parts.main t.0 m.main t.1;
    };
    most = m.most;
  }
  made_by (edit.Clear q) h = let t = found parts.main q.path.kids h in record {
    globals = m.globals;
    root = m.root;
    entries = m.entries;
    proofs = m.proofs;
    main = record {
      steps = steps_set l q.path.kids None parts.main t.0 m.main t.1;
      certs = certs_set l q.path.kids None parts.main t.0 m.main t.1;
      shaped = shaped_set l q.path.kids None parts.main t.0 m.main t.1;
    };
    most = m.most;
  }
  made_by (edit.Prove q k c) h = let t = found_with parts.main q.path.kids k h in record {
    globals = m.globals;
    root = m.root;
    entries = m.entries;
    proofs = m.proofs;
    main = record {
      steps = steps_kept l q.path.kids k c parts.main t.0 m.main t.1 t.2;
      certs = certs_put l q.path.kids k c parts.main t.0 m.main t.1 t.2;
      shaped = shaped_kept l q.path.kids k c parts.main t.0 m.main t.1 t.2;
    };
    most = m.most;
  }
  made_by (edit.ProveLemma x c) h = record {
    globals = m.globals;
    root = m.root;
    entries = m.entries ∙ sym (prove_entries (table_of l) x c);
    proofs = ap (λ es. slice_set parts.proofs (place_of es x) (Some c)) m.entries ∙ ap (λ ps. slice_set ps (place_of (entries_of l) x) (Some c)) m.proofs ∙ sym (prove_proofs (table_of l) x c);
    main = kept_tree (edit.ProveLemma x c) (λ p. refl, λ p k. refl);
    most = m.most;
  }
  made_by (edit.Define d) h = entry_set (edit.Define d) (item.Definition d) refl refl refl (λ p. refl, λ p k. refl)
  made_by (edit.Lemma k) h = entry_set (edit.Lemma k) (item.Lemma k) refl refl refl (λ p. refl, λ p k. refl)
  made_by (edit.Drop x) h = dropped x (has_entry x parts.library.entries) refl

-- the project without edits
pub made_none : (limit : ℕ) → Makes limit [] (parts_of limit [])
made_none limit = record { globals = refl; root = refl; entries = refl; proofs = refl; main = made_blank; most = refl }
