-- An edit that is placed makes the project of the longer list.
use Rattle.std.proofs.Common.{◌≡◌, ℕ, List, [], ◌∷◌, ◌++◌, refl, ap, sym, ◌∙◌, Option, Some, None, IsSome, Bool, true, false, ◌&&◌, if◌then◌else◌}
use Rattle.std.specs.Option.{option_and_then, is_some}
use Rattle.std.specs.List.{filter}
use Rattle.std.specs.Prelude.{map, remove, slice_set}
use Rattle.rw_sequents.specs.declared.line.Cert.{Cert}
use Rattle.rw_edits.specs.declared.edit.Edit.{Edit}
use Rattle.rw_edits.specs.declared.edit.Edit.TheVariants as edit
use Rattle.rw_edits.specs.declared.edit.Place.{Place}
use Rattle.rw_edits.specs.declared.edit.Step.{Step}
use Rattle.rw_edits.specs.declared.edit.TreeName.{TreeName}
use Rattle.rw_edits.specs.declared.edit.TreeName.TheVariants as tree
use Rattle.rw_heads.specs.declared.head.ProcHead.{ProcHead}
use Rattle.rw_heads.specs.declared.head.Module.{Module}
use Rattle.rw_heads.specs.declared.head.Oper.{Oper}
use Rattle.rw_trees.specs.declared.node.Node.{Node, out-Node}
use Rattle.rw_trees.specs.declared.node.Tree.{Tree}
use Rattle.rw_trees.specs.declared.parts.Parts.{Parts}
use Rattle.rw_trees.specs.Nodes.{look, numbered, has_obligation}
use Rattle.rw_goals.specs.declared.library.Item.{Item}
use Rattle.rw_goals.specs.declared.library.Item.TheVariants as item
use Rattle.rw_library.specs.Entries.{has_entry, put_entry, without_entry, place_of, entry_name}
use Rattle.rw_edits.specs.Names.{is_tree, has_tree, goes_with}
use Rattle.rw_heads.specs.Listed.{has_name, put_name, without_name}
use Rattle.rw_heads.specs.Heads.{put_proc, put_module, without_proc, without_module, has_proc, has_module, modules_with}
use Rattle.rw_trees.specs.Table.{Row, Stated, Headed, Held, row_name, put_row, table_of, picks, name_in, entry_in, proof_in, proc_in, module_in, trees_in, entries_of, order_of, trees_of, bare, oper_tree, modules_of}
use Rattle.rw_trees.specs.Trees.{speaks, of_tree}
use Rattle.rw_trees.specs.Edits.{without_param, globals_of, root_of, is_node, has_obligation_of}
use Rattle.rw_trees.specs.Parts.{MakesTree, MakesTrees, Makes, tree_name, node_of, has_obligation_at, in_tree, set_step, set_cert, blank_tree, trees_with, without_trees, IsFree, IsPlaced, applied_to, parts_of, proofs_with, with_row, less_row, inserted, trees_with_oper, with_operation}
use Rattle.rw_trees.proofs.Opers.{names_with_oper, all_with_oper, tops_inserted}
use Rattle.rw_trees.proofs.Named.{same_tree}
use Rattle.rw_trees.proofs.Rows.{Alike, stays, stated_entries, stated_heads, stated_modules, stated_trees, stated_proofs, alike_stated, headed_entries, headed_proofs, headed_modules, headed_heads, alike_headed, held_entries, held_proofs, held_heads, held_modules, alike_held, put_names, put_trees, prove_same, names_proved, entries_proved, heads_proved, modules_proved, trees_proved, prove_proofs, table_apart, without_names, less_entries, less_heads, less_modules, less_trees, less_proofs, without_none, oper_same, names_opered, entries_opered, proofs_opered, heads_opered, oper_modules}
use Rattle.rw_trees.proofs.Stepped.{steps_set, certs_set, shaped_set, made_blank}
use Rattle.rw_trees.proofs.Certified.{steps_kept, certs_put, shaped_kept}
use Rattle.rw_trees.proofs.There.{nodes_there, obligations_there}
use Rattle.rw_trees.proofs.Tops.{are_there, tops_kept, tops_more, tops_filtered, tops_changed, names_in, names_more, names_less, new_trees, node_there, obligation_there}

-- the node that is there
pub found : (n : Node) (q : List ℕ) → IsSome (look n q) → (m : Node) × (look n q ≡ Some m)
found n q h = go (look n q) refl h where
  go : (o : Option Node) → look n q ≡ o → IsSome o → (m : Node) × (look n q ≡ Some m)
  go None is h = absurd (cc)
  go (Some m) is h = (m, is)

pub found_with : (n : Node) (q : List ℕ) (k : ℕ) → has_obligation n q k ≡ true → (m : Node) × (look n q ≡ Some m) × IsSome (numbered (out-Node m).certs k)
found_with n q k h = go (look n q) refl h where
  go : (o : Option Node) → look n q ≡ o → is_some (option_and_then (λ m. numbered (out-Node m).certs k) o) ≡ true → (m : Node) × (look n q ≡ Some m) × IsSome (numbered (out-Node m).certs k)
  go None is h = absurd (cc)
  go (Some m) is h = (m, is, h)

pub both_right : (a b : Bool) → (a && b) ≡ true → b ≡ true
both_right true b h = h
both_right false b h = absurd (cc)

module _ (limit : ℕ) (l : List Edit) (parts : Parts) (m : Makes limit l parts) where
  -- a node of a place is there in each tree of the name
  node_in_each : (q : Place) → IsSome (node_of parts.trees q) → (t : Tree) → is_tree q.tree t.name ≡ true → MakesTree (of_tree t.name l) t.top → IsSome (look t.top q.path.kids)
  node_in_each q h t is made =
      nodes_there (of_tree t.name l) t.top q.path.kids made
      ∙ ap (λ x. is_node (of_tree x l) q.path.kids) (sym (same_tree q.tree t.name is))
      ∙ both_right (has_tree q.tree (map tree_name parts.trees)) (is_node (of_tree q.tree l) q.path.kids) (sym (node_there l q parts.trees m.tops) ∙ h)

  obligation_in_each : (q : Place) (k : ℕ) → has_obligation_at parts.trees q k ≡ true → (t : Tree) → is_tree q.tree t.name ≡ true → MakesTree (of_tree t.name l) t.top → has_obligation t.top q.path.kids k ≡ true
  obligation_in_each q k h t is made =
      obligations_there (of_tree t.name l) t.top q.path.kids k made
      ∙ ap (λ x. is_node (of_tree x l) q.path.kids && has_obligation_of (of_tree x l) q.path.kids k) (sym (same_tree q.tree t.name is))
      ∙ both_right (has_tree q.tree (map tree_name parts.trees)) (is_node (of_tree q.tree l) q.path.kids && has_obligation_of (of_tree q.tree l) q.path.kids k) (sym (obligation_there l q k parts.trees m.tops) ∙ h)

  step_set : (q : Place) (s : Option Step) (e : Edit) → ((n : Node) (k : List Edit) (x : Node) → MakesTree k n → look n q.path.kids ≡ Some x → MakesTree (e ∷ k) (set_step q.path.kids s n)) → IsSome (node_of parts.trees q) → (t : Tree) → is_tree q.tree t.name ≡ true → MakesTree (of_tree t.name l) t.top → MakesTree (e ∷ of_tree t.name l) (set_step q.path.kids s t.top)
  step_set q s e make h t is made = let there = found t.top q.path.kids (node_in_each q h t is made) in make t.top (of_tree t.name l) there.0 made there.1

  -- a change in one tree
  tree_changed : (e : Edit) (x : TreeName) (f : Node → Node) → table_of (e ∷ l) ≡ table_of l → globals_of (e ∷ l) ≡ globals_of l → root_of (e ∷ l) ≡ root_of l → ((t : TreeName) → speaks t e ≡ is_tree x t) →
      ((t : Tree) → is_tree x t.name ≡ true → MakesTree (of_tree t.name l) t.top → MakesTree (e ∷ of_tree t.name l) (f t.top)) → Makes limit (e ∷ l) (record parts { trees = in_tree x f parts.trees })
  tree_changed e x f tables globals roots said carries =
      let names : map tree_name (in_tree x f parts.trees) ≡ trees_of l = names_in x f parts.trees ∙ m.names in
      let after : map tree_name parts.trees ≡ trees_of (e ∷ l) = m.names ∙ ap (λ rs. tree.Main ∷ picks trees_in rs) (sym tables) in record {
        globals = m.globals ∙ sym globals;
        root = m.root ∙ sym roots;
        entries = m.entries ∙ ap (picks entry_in) (sym tables);
        proofs = m.proofs ∙ ap (picks proof_in) (sym tables);
        procs = m.procs ∙ ap (picks proc_in) (sym tables);
        modules = m.modules ∙ ap (picks module_in) (sym tables);
        order = m.order ∙ ap (picks name_in) (sym tables);
        names = names ∙ ap (λ rs. tree.Main ∷ picks trees_in rs) (sym tables);
        tops = tops_changed e l x said f carries parts.trees (are_there parts.trees (trees_of (e ∷ l)) after) m.tops;
        most = m.most;
      }

  -- trees that stay
  stay : (e : Edit) → ((t : TreeName) → speaks t e ≡ false) → map tree_name parts.trees ≡ trees_of (e ∷ l) → MakesTrees (e ∷ l) parts.trees
  stay e silent names = tops_kept e l silent parts.trees (are_there parts.trees (trees_of (e ∷ l)) names) m.tops

  -- the trees with those of an entry that is set
  module _ (e : Edit) (n : Row) (silent : (t : TreeName) → speaks t e ≡ false) (tables : table_of (e ∷ l) ≡ put_row (table_of l) n) (alike : Alike n (table_of l)) where
    names_from : (b : Bool) → has_name (row_name n) (order_of l) ≡ b → map tree_name (if b then parts.trees else parts.trees ++ map blank_tree (trees_in n)) ≡ tree.Main ∷ (if b then picks trees_in (table_of l) else picks trees_in (table_of l) ++ trees_in n)
    names_from true is = m.names
    names_from false is = names_more parts.trees (trees_in n) ∙ ap (λ ns. ns ++ trees_in n) m.names

    trees_after : tree.Main ∷ (if has_name (row_name n) (order_of l) then picks trees_in (table_of l) else picks trees_in (table_of l) ++ trees_in n) ≡ trees_of (e ∷ l)
    trees_after = ap (λ ns. tree.Main ∷ ns) (sym (put_trees (table_of l) n alike) ∙ ap (picks trees_in) (sym tables))

    tops_from : (b : Bool) → has_name (row_name n) (order_of l) ≡ b → map tree_name (if b then parts.trees else parts.trees ++ map blank_tree (trees_in n)) ≡ trees_of (e ∷ l) → MakesTrees (e ∷ l) (if b then parts.trees else parts.trees ++ map blank_tree (trees_in n))
    tops_from true is names = stay e silent names
    tops_from false is names = tops_more e l silent parts.trees (trees_in n) (new_trees l n is) (are_there (parts.trees ++ map blank_tree (trees_in n)) (trees_of (e ∷ l)) names) m.tops

    same_test : has_name (row_name n) parts.order ≡ has_name (row_name n) (order_of l)
    same_test = ap (has_name (row_name n)) m.order

    pub names_with : map tree_name (trees_with parts.order parts.trees n) ≡ trees_of (e ∷ l)
    names_with = ap (λ b. map tree_name (if b then parts.trees else parts.trees ++ map blank_tree (trees_in n))) same_test ∙ names_from (has_name (row_name n) (order_of l)) refl ∙ trees_after

    pub tops_with : MakesTrees (e ∷ l) (trees_with parts.order parts.trees n)
    tops_with = tops_from (has_name (row_name n) parts.order) (sym same_test) names_with

  -- a statement that is set
  stated_set : (e : Edit) (x : Item) → ((t : TreeName) → speaks t e ≡ false) → table_of (e ∷ l) ≡ put_row (table_of l) (Stated x None) → globals_of (e ∷ l) ≡ globals_of l → root_of (e ∷ l) ≡ root_of l → IsFree parts (Stated x None) → Makes limit (e ∷ l) (with_row parts (Stated x None))
  stated_set e x silent tables globals roots free =
      let alike : Alike (Stated x None) (table_of l) = alike_stated x None (table_of l) (ap (has_proc (entry_name x)) (sym m.procs) ∙ free.0) (ap (has_module (entry_name x)) (sym m.modules) ∙ free.1) in
      let names : map tree_name parts.trees ≡ trees_of (e ∷ l) = m.names ∙ ap (λ ns. tree.Main ∷ ns) (sym (stated_trees x None (table_of l) alike) ∙ ap (picks trees_in) (sym tables)) in record {
        globals = m.globals ∙ sym globals;
        root = m.root ∙ sym roots;
        entries = ap (λ es. put_entry es x) m.entries ∙ sym (stated_entries x None (table_of l) alike) ∙ ap (picks entry_in) (sym tables);
        proofs = ap (λ es. proofs_with es parts.proofs (entry_name x)) m.entries ∙ ap (λ ps. proofs_with (entries_of l) ps (entry_name x)) m.proofs ∙ sym (stated_proofs x (table_of l) alike) ∙ ap (picks proof_in) (sym tables);
        procs = m.procs ∙ sym (stated_heads x None (table_of l) alike) ∙ ap (picks proc_in) (sym tables);
        modules = m.modules ∙ sym (stated_modules x None (table_of l) alike) ∙ ap (picks module_in) (sym tables);
        order = ap (λ ns. put_name ns (entry_name x)) m.order ∙ sym (put_names (table_of l) (Stated x None)) ∙ ap (picks name_in) (sym tables);
        names = names;
        tops = stay e silent names;
        most = m.most;
      }

  headed_set : (h : ProcHead) → IsFree parts (Headed h) → Makes limit (edit.Proc h ∷ l) (with_row parts (Headed h))
  headed_set h free =
      let alike : Alike (Headed h) (table_of l) = alike_headed h (table_of l) (ap (has_entry h.name) (sym m.entries) ∙ free.0) (ap (has_module h.name) (sym m.modules) ∙ free.1) in record {
        globals = m.globals;
        root = m.root;
        entries = m.entries ∙ sym (headed_entries h (table_of l) alike);
        proofs = m.proofs ∙ sym (headed_proofs h (table_of l) alike);
        procs = ap (λ hs. put_proc hs h) m.procs ∙ sym (headed_heads h (table_of l) alike);
        modules = m.modules ∙ sym (headed_modules h (table_of l) alike);
        order = ap (λ ns. put_name ns h.name) m.order ∙ sym (put_names (table_of l) (Headed h));
        names = names_with (edit.Proc h) (Headed h) (λ t. refl) refl alike;
        tops = tops_with (edit.Proc h) (Headed h) (λ t. refl) refl alike;
        most = m.most;
      }

  held_set : (given : Module) → IsFree parts (Held (bare given)) → Makes limit (edit.Module given ∷ l) (with_row parts (Held (bare given)))
  held_set given free =
      let k : Module = bare given in
      let alike : Alike (Held k) (table_of l) = alike_held k (table_of l) (ap (has_entry k.name) (sym m.entries) ∙ free.0) (ap (has_proc k.name) (sym m.procs) ∙ free.1) in record {
        globals = m.globals;
        root = m.root;
        entries = m.entries ∙ sym (held_entries k (table_of l) alike);
        proofs = m.proofs ∙ sym (held_proofs k (table_of l) alike);
        procs = m.procs ∙ sym (held_heads k (table_of l) alike);
        modules = ap (λ ms. put_module ms k) m.modules ∙ sym (held_modules k (table_of l) alike);
        order = ap (λ ns. put_name ns k.name) m.order ∙ sym (put_names (table_of l) (Held k));
        names = names_with (edit.Module given) (Held k) (λ t. refl) refl alike;
        tops = tops_with (edit.Module given) (Held k) (λ t. refl) refl alike;
        most = m.most;
      }

  -- what is dropped is an entry, or else a global
  dropped : (x : List ℕ) (b : Bool) → has_name x parts.order ≡ b → Makes limit (edit.Drop x ∷ l) (if b then less_row parts x else record parts { globals = without_param parts.globals x })
  dropped x true there =
      let apart = table_apart l in
      let names : map tree_name (without_trees x parts.trees) ≡ trees_of (edit.Drop x ∷ l) = names_less x parts.trees ∙ ap (filter (stays x)) m.names ∙ ap (λ ns. tree.Main ∷ ns) (less_trees x (table_of l) apart) in record {
        globals = m.globals ∙ sym (ap (λ (b : Bool). if b then globals_of l else without_param (globals_of l) x) (sym (ap (has_name x) m.order) ∙ there));
        root = m.root;
        entries = ap (λ es. without_entry es x) m.entries ∙ less_entries x (table_of l) apart;
        proofs = ap (λ es. remove parts.proofs (place_of es x)) m.entries ∙ ap (λ ps. remove ps (place_of (entries_of l) x)) m.proofs ∙ less_proofs x (table_of l) apart;
        procs = ap (without_proc x) m.procs ∙ less_heads x (table_of l) apart;
        modules = ap (without_module x) m.modules ∙ less_modules x (table_of l) apart;
        order = ap (without_name x) m.order ∙ sym (without_names (table_of l) x);
        names = names;
        tops = tops_kept (edit.Drop x) l (λ t. refl) (without_trees x parts.trees) (are_there (without_trees x parts.trees) (trees_of (edit.Drop x ∷ l)) names) (tops_filtered l (λ t. stays x t.name) parts.trees m.tops);
        most = m.most;
      }
  dropped x false there =
      let none : has_name x (order_of l) ≡ false = sym (ap (has_name x) m.order) ∙ there in
      let same : table_of l ≡ table_of (edit.Drop x ∷ l) = sym (without_none x (table_of l) none) in
      let names : map tree_name parts.trees ≡ trees_of (edit.Drop x ∷ l) = m.names ∙ ap (λ rs. tree.Main ∷ picks trees_in rs) same in record {
        globals = ap (λ g. without_param g x) m.globals ∙ sym (ap (λ (b : Bool). if b then globals_of l else without_param (globals_of l) x) none);
        root = m.root;
        entries = m.entries ∙ ap (picks entry_in) same;
        proofs = m.proofs ∙ ap (picks proof_in) same;
        procs = m.procs ∙ ap (picks proc_in) same;
        modules = m.modules ∙ ap (picks module_in) same;
        order = m.order ∙ ap (picks name_in) same;
        names = names;
        tops = stay (edit.Drop x) (λ t. refl) names;
        most = m.most;
      }

  lemma_proved : (x : List ℕ) (c : Cert) → Makes limit (edit.ProveLemma x c ∷ l) (applied_to parts (edit.ProveLemma x c))
  lemma_proved x c =
      let names : map tree_name parts.trees ≡ trees_of (edit.ProveLemma x c ∷ l) = m.names ∙ ap (λ ns. tree.Main ∷ ns) (sym (prove_same trees_in c (trees_proved c) (table_of l) x)) in record {
        globals = m.globals;
        root = m.root;
        entries = m.entries ∙ sym (prove_same entry_in c (entries_proved c) (table_of l) x);
        proofs = ap (λ es. slice_set parts.proofs (place_of es x) (Some c)) m.entries ∙ ap (λ ps. slice_set ps (place_of (entries_of l) x) (Some c)) m.proofs ∙ sym (prove_proofs (table_of l) x c);
        procs = m.procs ∙ sym (prove_same proc_in c (heads_proved c) (table_of l) x);
        modules = m.modules ∙ sym (prove_same module_in c (modules_proved c) (table_of l) x);
        order = m.order ∙ sym (prove_same name_in c (names_proved c) (table_of l) x);
        names = names;
        tops = stay (edit.ProveLemma x c) (λ t. refl) names;
        most = m.most;
      }

  oper_set : (x : List ℕ) (o : Oper) → has_module x parts.modules ≡ true → Makes limit (edit.Oper x o ∷ l) (with_operation parts x o)
  oper_set x o there =
      let e : Edit = edit.Oper x o in
      let held : has_module x (modules_of l) ≡ true = ap (has_module x) (sym m.modules) ∙ there in
      let names : map tree_name (trees_with_oper parts.trees x o) ≡ trees_of (edit.Oper x o ∷ l) = names_with_oper parts.trees x o ∙ ap (λ ns. if has_tree (oper_tree x o) ns then ns else inserted (goes_with x) (oper_tree x o) ns) m.names ∙ sym (all_with_oper (table_of l) x o (table_apart l) held) in record {
        globals = m.globals;
        root = m.root;
        entries = m.entries ∙ sym (oper_same entry_in o (entries_opered o) (table_of l) x);
        proofs = m.proofs ∙ sym (oper_same proof_in o (proofs_opered o) (table_of l) x);
        procs = m.procs ∙ sym (oper_same proc_in o (heads_opered o) (table_of l) x);
        modules = ap (λ ms. modules_with ms x o) m.modules ∙ sym (oper_modules (table_of l) x o);
        order = m.order ∙ sym (oper_same name_in o (names_opered o) (table_of l) x);
        names = names;
        tops = tops_with_oper (has_tree (oper_tree x o) (map tree_name parts.trees)) refl names;
        most = m.most;
      } where
        tops_with_oper : (b : Bool) → has_tree (oper_tree x o) (map tree_name parts.trees) ≡ b → map tree_name (if b then parts.trees else inserted (λ t. goes_with x t.name) (blank_tree (oper_tree x o)) parts.trees) ≡ trees_of (edit.Oper x o ∷ l) →
            MakesTrees (edit.Oper x o ∷ l) (if b then parts.trees else inserted (λ t. goes_with x t.name) (blank_tree (oper_tree x o)) parts.trees)
        tops_with_oper true is names = stay (edit.Oper x o) (λ t. refl) names
        tops_with_oper false is names =
            tops_inserted (edit.Oper x o) l (λ t. refl) (λ t. goes_with x t.name) (oper_tree x o) (sym (ap (has_tree (oper_tree x o)) m.names) ∙ is) parts.trees
            (are_there (inserted (λ t. goes_with x t.name) (blank_tree (oper_tree x o)) parts.trees) (trees_of (edit.Oper x o ∷ l)) names) m.tops

  pub made_by : (e : Edit) → IsPlaced parts e → Makes limit (e ∷ l) (applied_to parts e)
  made_by (edit.Var p) h = record { globals = ap (λ g. g ++ p ∷ []) m.globals; root = m.root; entries = m.entries; proofs = m.proofs; procs = m.procs; modules = m.modules; order = m.order; names = m.names; tops = stay (edit.Var p) (λ t. refl) m.names; most = m.most }
  made_by (edit.Root w) h = record { globals = m.globals; root = refl; entries = m.entries; proofs = m.proofs; procs = m.procs; modules = m.modules; order = m.order; names = m.names; tops = stay (edit.Root w) (λ t. refl) m.names; most = m.most }
  made_by (edit.Step q s) h = tree_changed (edit.Step q s) q.tree (set_step q.path.kids (Some s)) refl refl refl (λ t. refl)
      (step_set q (Some s) (edit.Step q s) (λ n k x made there. record {
        steps = steps_set k q.path.kids (Some s) n x made there;
        certs = certs_set k q.path.kids (Some s) n x made there;
        shaped = shaped_set k q.path.kids (Some s) n x made there;
      }) h)
  made_by (edit.Clear q) h = tree_changed (edit.Clear q) q.tree (set_step q.path.kids None) refl refl refl (λ t. refl)
      (step_set q None (edit.Clear q) (λ n k x made there. record {
        steps = steps_set k q.path.kids None n x made there;
        certs = certs_set k q.path.kids None n x made there;
        shaped = shaped_set k q.path.kids None n x made there;
      }) h)
  made_by (edit.Prove q k c) h = tree_changed (edit.Prove q k c) q.tree (set_cert q.path.kids k c) refl refl refl (λ t. refl)
      (λ t is made. let there = found_with t.top q.path.kids k (obligation_in_each q k h t is made) in record {
        steps = steps_kept (of_tree t.name l) q.path.kids k c t.top there.0 made there.1 there.2;
        certs = certs_put (of_tree t.name l) q.path.kids k c t.top there.0 made there.1 there.2;
        shaped = shaped_kept (of_tree t.name l) q.path.kids k c t.top there.0 made there.1 there.2;
      })
  made_by (edit.ProveLemma x c) h = lemma_proved x c
  made_by (edit.Define d) h = stated_set (edit.Define d) (item.Definition d) (λ t. refl) refl refl refl h
  made_by (edit.Lemma k) h = stated_set (edit.Lemma k) (item.Lemma k) (λ t. refl) refl refl refl h
  made_by (edit.Proc k) h = headed_set k h
  made_by (edit.Module k) h = held_set k h
  made_by (edit.Oper x o) h = oper_set x o h
  made_by (edit.Drop x) h = dropped x (has_name x parts.order) refl

-- the project without edits
pub made_none : (limit : ℕ) → Makes limit [] (parts_of limit [])
made_none limit = record { globals = refl; root = refl; entries = refl; proofs = refl; procs = refl; modules = refl; order = refl; names = refl; tops = (made_blank, tt); most = refl }
