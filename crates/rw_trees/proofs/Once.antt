-- A list of edits makes one project.
use Rattle.std.proofs.Common.{◌≡◌, ℕ, zero, suc, List, [], ◌∷◌, map, length, refl, sym, ap, ◌∙◌, subst, arith, Option, Some}
use Rattle.std.specs.List.{slice_get}
use Rattle.std.specs.Option.{option_and_then}
use Rattle.rw_edits.specs.declared.edit.Step.{Step}
use Rattle.rw_sequents.specs.declared.line.Cert.{Cert}
use Rattle.rw_edits.specs.declared.edit.Edit.{Edit}
use Rattle.rw_trees.specs.declared.node.Node.{Node, Node-F, out-Node, roll-Node, out-roll-Node, roll-out-Node, map-Node, ind-Node}
use Rattle.rw_trees.specs.declared.parts.Parts.{Parts}
use Rattle.rw_trees.specs.Nodes.{numbered, layer, seen, step_seen, cert_seen, AreShaped, IsShaped}
use Rattle.rw_edits.specs.Counts.{kids_in, obligations_in}
use Rattle.rw_trees.specs.declared.node.Tree.{Tree}
use Rattle.rw_trees.specs.Trees.{of_tree}
use Rattle.rw_trees.specs.Parts.{MakesTree, MakesTrees, tree_name, Makes}
use Rattle.rw_trees.proofs.Kids.{down, kid_each}

-- two nodes at which every look finds the same
pub record Same (n m : Node) : Type 0 where
  pub left : AreShaped n
  pub right : AreShaped m
  pub steps : (p : List ℕ) → option_and_then step_seen (seen n p) ≡ option_and_then step_seen (seen m p)
  pub certs : (p : List ℕ) (k : ℕ) → option_and_then (cert_seen k) (seen n p) ≡ option_and_then (cert_seen k) (seen m p)

abbrev inner : Option (Option Cert) → Option Cert
inner o = option_and_then (λ x. x) o

certs_once : (xs ys : List (Option Cert)) → length xs ≡ length ys → ((k : ℕ) → inner (numbered xs k) ≡ inner (numbered ys k)) → xs ≡ ys
certs_once [] [] e h = refl
certs_once [] (y ∷ ys) e h = absurd (omega arith)
certs_once (x ∷ xs) [] e h = absurd (omega arith)
certs_once (x ∷ xs) (y ∷ ys) e h = ap (λ z. z ∷ xs) (h 1) ∙ ap (λ zs. y ∷ zs) (certs_once xs ys (omega arith) rest) where
  rest : (k : ℕ) → inner (numbered xs k) ≡ inner (numbered ys k)
  rest zero = refl
  rest (suc k) = h (suc (suc k))

same_kid : (n m a b : Node) (i : ℕ) → Same n m → slice_get (out-Node n).kids i ≡ Some a → slice_get (out-Node m).kids i ≡ Some b → Same a b
same_kid n m a b i s ea eb = record {
  left = kid_each IsShaped n a i s.left ea;
  right = kid_each IsShaped m b i s.right eb;
  steps = λ p. sym (ap (option_and_then step_seen) (down n a i ea p)) ∙ s.steps (suc i ∷ p) ∙ ap (option_and_then step_seen) (down m b i eb p);
  certs = λ p k. sym (ap (option_and_then (cert_seen k)) (down n a i ea p)) ∙ s.certs (suc i ∷ p) k ∙ ap (option_and_then (cert_seen k)) (down m b i eb p);
}

abbrev Once : Node → Type 0
Once n = (m : Node) → Same n m → n ≡ m

abbrev WithOnce : Type 0
WithOnce = (n : Node) × Once n

abbrev plain : List WithOnce → List Node
plain ys = map (λ (e : WithOnce). e.0) ys

kids_once : (ys : List WithOnce) (ms : List Node) → length (plain ys) ≡ length ms → ((i : ℕ) (a b : Node) → slice_get (plain ys) i ≡ Some a → slice_get ms i ≡ Some b → Same a b) → plain ys ≡ ms
kids_once [] [] e h = refl
kids_once [] (m ∷ ms) e h = absurd (omega arith)
kids_once (y ∷ ys) [] e h = absurd (omega arith)
kids_once (y ∷ ys) (m ∷ ms) e h = ap (λ z. z ∷ plain ys) (y.1 m (h 0 y.0 m refl refl)) ∙ ap (λ zs. m ∷ zs) (kids_once ys ms (omega arith) (λ i a b ea eb. h (suc i) a b ea eb))

abbrev layer_of : Option Step → List (Option Cert) → List Node → Node
layer_of s cs ks = roll-Node (record { step = s; certs = cs; kids = ks })

once_at : (y : Node-F WithOnce) → Once (roll-Node (map-Node WithOnce Node (λ e. e.0) y))
once_at y m s =
    let n : Node = roll-Node (map-Node WithOnce Node (λ e. e.0) y) in
    let top : (x : Node) → seen x [] ≡ Some (layer x) = λ x. refl in
    let steps : (out-Node n).step ≡ (out-Node m).step = s.steps [] in
    let shape_n : IsShaped (layer n) = s.left [] (layer n) refl in
    let shape_m : IsShaped (layer m) = s.right [] (layer m) refl in
    let certs : (out-Node n).certs ≡ (out-Node m).certs = certs_once (out-Node n).certs (out-Node m).certs
    (shape_n.certs ∙ ap obligations_in steps ∙ sym shape_m.certs) (λ k. s.certs [] k) in
    let kids_n : (out-Node n).kids ≡ plain y.kids = ap (λ (l : Node-F Node). l.kids) (out-roll-Node (map-Node WithOnce Node (λ e. e.0) y)) in
    let lengths : length (plain y.kids) ≡ length (out-Node m).kids = sym (ap length kids_n) ∙ shape_n.kids ∙ ap kids_in steps ∙ sym shape_m.kids in
    let kids : (out-Node n).kids ≡ (out-Node m).kids = kids_n ∙ kids_once y.kids (out-Node m).kids lengths
    (λ i a b ea eb. same_kid n m a b i s (ap (λ ks. slice_get ks i) kids_n ∙ ea) eb) in
    sym (roll-out-Node n)
    ∙ ap (λ st. layer_of st (out-Node n).certs (out-Node n).kids) steps
    ∙ ap (λ cs. layer_of (out-Node m).step cs (out-Node n).kids) certs
    ∙ ap (layer_of (out-Node m).step (out-Node m).certs) kids
    ∙ roll-out-Node m

pub node_once : (n : Node) → Once n
node_once = ind-Node Once (λ x y is. subst (λ z. Once (roll-Node z)) is (once_at y))

pub tree_once : (l : List Edit) (n m : Node) → MakesTree l n → MakesTree l m → n ≡ m
tree_once l n m a b = node_once n m (record {
  left = a.shaped;
  right = b.shaped;
  steps = λ p. a.steps p ∙ sym (b.steps p);
  certs = λ p k. a.certs p k ∙ sym (b.certs p k);
})

trees_once : (l : List Edit) (ts us : List Tree) → map tree_name ts ≡ map tree_name us → MakesTrees l ts → MakesTrees l us → ts ≡ us
trees_once l [] [] e a b = refl
trees_once l [] (u ∷ us) e a b = absurd (cc)
trees_once l (t ∷ ts) [] e a b = absurd (cc)
trees_once l (t ∷ ts) (u ∷ us) e a b =
    let names : t.name ≡ u.name = cc in
    let others : map tree_name ts ≡ map tree_name us = cc in
    let tops : t.top ≡ u.top = tree_once (of_tree u.name l) t.top u.top (subst (λ x. MakesTree (of_tree x l) t.top) names a.0) b.0 in
    let rest : ts ≡ us = trees_once l ts us others a.1 b.1 in
    λ i. record { name = names i; top = tops i } ∷ rest i

pub made_once : (limit : ℕ) (l : List Edit) (one other : Parts) → Makes limit l one → Makes limit l other → one ≡ other
made_once limit l one other a b =
    let trees : one.trees ≡ other.trees = trees_once l one.trees other.trees (a.names ∙ sym b.names) a.tops b.tops in
    let globals : one.globals ≡ other.globals = a.globals ∙ sym b.globals in
    let roots : one.root ≡ other.root = a.root ∙ sym b.root in
    let entries : one.library.entries ≡ other.library.entries = a.entries ∙ sym b.entries in
    let proofs : one.proofs ≡ other.proofs = a.proofs ∙ sym b.proofs in
    let procs : one.procs ≡ other.procs = a.procs ∙ sym b.procs in
    let modules : one.modules ≡ other.modules = a.modules ∙ sym b.modules in
    let order : one.order ≡ other.order = a.order ∙ sym b.order in
    let most : one.most ≡ other.most = a.most ∙ sym b.most in
    λ i. record { globals = globals i; root = roots i; library = record { entries = entries i }; proofs = proofs i; procs = procs i; modules = modules i; order = order i; trees = trees i; most = most i }
