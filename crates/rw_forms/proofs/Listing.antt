-- Lists of items: each item is read as a part of a form, and more of them behind a separator.
use Rattle.std.proofs.Common.{◌≡◌, ℕ, true, false, cond, List, [], ◌∷◌, ◌++◌, map, drop, refl, ap, ◌∙◌}
use Rattle.rw_forms.specs.declared.request.ReadError.{ReadError}
use Rattle.rw_forms.specs.Forms.{Given, Form, more_of, either, followed, many}
use Rattle.rw_forms.specs.Reading.{read_form}
use Rattle.rw_forms.specs.Progress.{StopsAt}
use Rattle.rw_forms.proofs.Endings.{alike}
use Rattle.rw_forms.proofs.Parts.{carried}

-- an item is a part of a form
abbrev pub IsItem : {A : Type 0} → Form → ((A → Form) → Form) → (A → Given) → Type 0
IsItem {A = A} item part wrap = (j : Given → Form) → followed item j ≡ part (λ x. j (wrap x))

-- these items of a list were read, which begins in this way
abbrev pub Grown : {A : Type 0} → ((List Given → Form) → Form) → Form → List ℕ → (A → Given) → (Given → A) → List ℕ → ℕ → ℕ → List A → Type 0
Grown {A = A} begin item sep wrap unwrap line start at xs = (k : List A → Form) → read_form (begin (λ gs. k (map unwrap gs))) (drop start line) ≡ read_form (more_of item sep (map wrap xs) (λ gs. k (map unwrap gs))) (drop at line)

-- these items of a list that begins with one were read
abbrev pub Listed : {A : Type 0} → Form → List ℕ → (A → Given) → (Given → A) → List ℕ → ℕ → ℕ → List A → Type 0
Listed {A = A} item sep wrap unwrap line start at xs = Grown {A = A} (many item sep) item sep wrap unwrap line start at xs

more_either : (item : Form) (sep : List ℕ) (done : List Given) (k : List Given → Form) (here : List ℕ) → read_form (more_of item sep done k) here ≡ read_form (either sep (followed item (λ g. more_of item sep (done ++ g ∷ []) k)) (k done)) here
more_either item sep done k here = alike (more_of item sep done k) (either sep (followed item (λ g. more_of item sep (done ++ g ∷ []) k)) (k done)) here refl (λ t there z. refl)

pub first_item : {A : Type 0} (item : Form) (sep : List ℕ) (part : (A → Form) → Form) (wrap : A → Given) (unwrap : Given → A) (line : List ℕ) (start at : ℕ) (x : A) → IsItem item part wrap → ((j : A → Form) → read_form (part j) (drop start line) ≡ read_form (j x) (drop at line)) → Listed item sep wrap unwrap line start at (x ∷ [])
first_item item sep part wrap unwrap line start at x is took k =
    ap (λ f. read_form f (drop start line)) (is (λ g. more_of item sep (g ∷ []) (λ gs. k (map unwrap gs)))) ∙ took (λ y. more_of item sep (wrap y ∷ []) (λ gs. k (map unwrap gs)))

pub first_fault : {A : Type 0} (item : Form) (sep : List ℕ) (part : (A → Form) → Form) (wrap : A → Given) (unwrap : Given → A) (line : List ℕ) (start : ℕ) (e : ReadError) → IsItem item part wrap → ((j : A → Form) → StopsAt line e (read_form (part j) (drop start line))) → (k : List A → Form) → StopsAt line e (read_form (many item sep (λ gs. k (map unwrap gs))) (drop start line))
first_fault item sep part wrap unwrap line start e is h k = carried line e (ap (λ f. read_form f (drop start line)) (is (λ g. more_of item sep (g ∷ []) (λ gs. k (map unwrap gs))))) (h (λ y. more_of item sep (wrap y ∷ []) (λ gs. k (map unwrap gs))))

one_mapped : {A : Type 0} (wrap : A → Given) (xs : List A) (x : A) → map wrap xs ++ wrap x ∷ [] ≡ map wrap (xs ++ x ∷ [])
one_mapped wrap [] x = refl
one_mapped wrap (y ∷ xs) x = ap (λ l. wrap y ∷ l) (one_mapped wrap xs x)

-- behind a separator
behind_separator : {A : Type 0} (begin : (List Given → Form) → Form) (item : Form) (sep : List ℕ) (part : (A → Form) → Form) (wrap : A → Given) (unwrap : Given → A) (line : List ℕ) (start at mid : ℕ) (xs : List A) → IsItem item part wrap → Grown begin item sep wrap unwrap line start at xs → ((f g : Form) → read_form (either sep f g) (drop at line) ≡ read_form (cond true f g) (drop mid line)) →
    (k : List A → Form) → read_form (begin (λ gs. k (map unwrap gs))) (drop start line) ≡ read_form (part (λ x. more_of item sep (map wrap xs ++ wrap x ∷ []) (λ gs. k (map unwrap gs)))) (drop mid line)
behind_separator begin item sep part wrap unwrap line start at mid xs is l c k =
    l k ∙ more_either item sep (map wrap xs) (λ gs. k (map unwrap gs)) (drop at line) ∙ c _ _ ∙ ap (λ f. read_form f (drop mid line)) (is (λ g. more_of item sep (map wrap xs ++ g ∷ []) (λ gs. k (map unwrap gs))))

pub next_item : {A : Type 0} (begin : (List Given → Form) → Form) (item : Form) (sep : List ℕ) (part : (A → Form) → Form) (wrap : A → Given) (unwrap : Given → A) (line : List ℕ) (start at mid next : ℕ) (xs : List A) (x : A) → IsItem item part wrap → Grown begin item sep wrap unwrap line start at xs → ((f g : Form) → read_form (either sep f g) (drop at line) ≡ read_form (cond true f g) (drop mid line)) → ((j : A → Form) → read_form (part j) (drop mid line) ≡ read_form (j x) (drop next line)) → Grown begin item sep wrap unwrap line start next (xs ++ x ∷ [])
next_item begin item sep part wrap unwrap line start at mid next xs x is l c took k =
    behind_separator begin item sep part wrap unwrap line start at mid xs is l c k ∙ took _ ∙ ap (λ gs. read_form (more_of item sep gs (λ hs. k (map unwrap hs))) (drop next line)) (one_mapped wrap xs x)

pub item_fault : {A : Type 0} (begin : (List Given → Form) → Form) (item : Form) (sep : List ℕ) (part : (A → Form) → Form) (wrap : A → Given) (unwrap : Given → A) (line : List ℕ) (start at mid : ℕ) (xs : List A) (e : ReadError) → IsItem item part wrap → Grown begin item sep wrap unwrap line start at xs → ((f g : Form) → read_form (either sep f g) (drop at line) ≡ read_form (cond true f g) (drop mid line)) → ((j : A → Form) → StopsAt line e (read_form (part j) (drop mid line))) → (k : List A → Form) → StopsAt line e (read_form (begin (λ gs. k (map unwrap gs))) (drop start line))
item_fault begin item sep part wrap unwrap line start at mid xs e is l c h k = carried line e (behind_separator begin item sep part wrap unwrap line start at mid xs is l c k) (h _)

mapped_back : {A : Type 0} (wrap : A → Given) (unwrap : Given → A) (xs : List A) → ((x : A) → unwrap (wrap x) ≡ x) → map unwrap (map wrap xs) ≡ xs
mapped_back wrap unwrap [] h = refl
mapped_back wrap unwrap (x ∷ xs) h = ap (λ y. y ∷ map unwrap (map wrap xs)) (h x) ∙ ap (λ l. x ∷ l) (mapped_back wrap unwrap xs h)

pub last_item : {A : Type 0} (begin : (List Given → Form) → Form) (item : Form) (sep : List ℕ) (wrap : A → Given) (unwrap : Given → A) (line : List ℕ) (start at next : ℕ) (xs : List A) → ((x : A) → unwrap (wrap x) ≡ x) → Grown begin item sep wrap unwrap line start at xs → ((f g : Form) → read_form (either sep f g) (drop at line) ≡ read_form (cond false f g) (drop next line)) → (k : List A → Form) → read_form (begin (λ gs. k (map unwrap gs))) (drop start line) ≡ read_form (k xs) (drop next line)
last_item begin item sep wrap unwrap line start at next xs back l c k =
    l k ∙ more_either item sep (map wrap xs) (λ gs. k (map unwrap gs)) (drop at line) ∙ c _ _ ∙ ap (λ ys. read_form (k ys) (drop next line)) (mapped_back wrap unwrap xs back)
