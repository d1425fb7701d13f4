-- Nodes by their paths, and what an edit makes of one.
use Rattle.std.specs.Prelude.{◌≡◌, ℕ, ◌+◌, length, replicate, is_some, Bool, zero, suc, List, [], ◌∷◌, Option, Some, None, slice_get, slice_set, option_map}
use Rattle.std.specs.Option.{option_and_then}
use Rattle.rw_edits.specs.declared.edit.Step.{Step}
use Rattle.rw_sequents.specs.declared.line.Cert.{Cert}
use Rattle.rw_trees.specs.declared.node.Node.{Node, Node-F, out-Node, roll-Node, fold-Node}
use Rattle.rw_edits.specs.Counts.{kids_in, obligations_in}

-- a node without a step
abbrev pub blank : Node
blank = roll-Node (record { step = None; certs = []; kids = [] })

-- a node with the other kids
abbrev pub with_kids : Node → List Node → Node
with_kids n kids = roll-Node (record { step = (out-Node n).step; certs = (out-Node n).certs; kids = kids })

-- the new items, but for those in whose place an old one stands
abbrev pub over : {A : Type 0} → List A → List A → List A
over [] old = []
over (x ∷ fresh) [] = x ∷ fresh
over (x ∷ fresh) (y ∷ old) = y ∷ over fresh old

-- the item of this number, from 1
abbrev pub numbered : {A : Type 0} → List A → ℕ → Option A
numbered xs zero = None
numbered xs (suc k) = slice_get xs k

-- the certificate of the obligation of this number, from 1
abbrev pub certified : List (Option Cert) → ℕ → Option Cert
certified certs k = option_and_then (λ o. o) (numbered certs k)

-- the items with another one at this number
abbrev pub put_at : {A : Type 0} → List A → ℕ → Option A → List A
put_at xs zero x = xs
put_at xs (suc k) None = xs
put_at xs (suc k) (Some x) = slice_set xs k x

-- the node at the end of the path
abbrev pub look : Node → List ℕ → Option Node
look n [] = Some n
look n (k ∷ path) = option_and_then (λ kid. look kid path) (numbered (out-Node n).kids k)

-- a fresh node with the kids and certificates of an old one, where it has places for them
abbrev pub renewed : Node → Node → Node
renewed fresh old = roll-Node (record { step = (out-Node fresh).step; certs = over (out-Node fresh).certs (out-Node old).certs; kids = over (out-Node fresh).kids (out-Node old).kids })

-- the node with a change made to the one at the end of the path
abbrev pub changed : (Node → Node) → Node → List ℕ → Node
changed f n [] = f n
changed f n (k ∷ path) = with_kids n (put_at (out-Node n).kids k (option_map (λ kid. changed f kid path) (numbered (out-Node n).kids k)))

-- a node without its kids
pub record Layer : Type 0 where
  pub step : Option Step
  pub certs : List (Option Cert)
  pub kids : ℕ

abbrev pub layer : Node → Layer
layer n = record { step = (out-Node n).step; certs = (out-Node n).certs; kids = length (out-Node n).kids }

-- what stands at the end of the path
abbrev pub seen : Node → List ℕ → Option Layer
seen n p = option_map layer (look n p)

-- a node with this step, and with no certificates and blank kids
abbrev pub fresh_node : Option Step → Node
fresh_node s = roll-Node (record { step = s; certs = replicate (obligations_in s) None; kids = replicate (kids_in s) blank })

-- as many kids and certificates as the step has
pub record IsShaped (y : Layer) : Type 0 where
  pub kids : y.kids ≡ kids_in y.step
  pub certs : length y.certs ≡ obligations_in y.step

-- the node and all below are shaped so
abbrev pub AreShaped : Node → Type 0
AreShaped n = (p : List ℕ) (y : Layer) → seen n p ≡ Some y → IsShaped y

-- whether the node at the end of the path has the obligation, from 1
abbrev pub has_obligation : Node → List ℕ → ℕ → Bool
has_obligation n p k = is_some (option_and_then (λ m. numbered (out-Node m).certs k) (look n p))

-- a node with a certificate of its obligation k
abbrev pub with_cert : ℕ → Cert → Node → Node
with_cert k c n = roll-Node (record { step = (out-Node n).step; certs = put_at (out-Node n).certs k (Some (Some c)); kids = (out-Node n).kids })

-- the step at the end of the path, if there is one
abbrev pub step_seen : Layer → Option Step
step_seen y = y.step

abbrev pub step_in : Node → List ℕ → Option Step
step_in n p = option_and_then step_seen (seen n p)

-- the certificate of obligation k at the end of the path, if there is one
abbrev pub cert_seen : ℕ → Layer → Option Cert
cert_seen k y = certified y.certs k

abbrev pub cert_in : Node → List ℕ → ℕ → Option Cert
cert_in n p k = option_and_then (cert_seen k) (seen n p)

-- a sum of numbers
abbrev pub total : List ℕ → ℕ
total [] = 0
total (n ∷ ns) = n + total ns

-- how many nodes there are: the node and all below
abbrev pub size_step : Node-F ℕ → ℕ
size_step y = suc (total y.kids)

abbrev pub size : Node → ℕ
size = fold-Node ℕ size_step
