-- The binders that stand on the stack, from its top on.
use Rattle.std.proofs.Common.{◌≡◌, ℕ, suc, ◌+◌, ◌≤◌, true, false, List, [], ◌∷◌, length, Option, Some, None, refl, ap, ◌∙◌, arith}
use Rattle.std.specs.Prelude.{option_map, cond}
use Rattle.rw_syntax.specs.declared.frame.Binder.{Binder}
use Rattle.rw_syntax.specs.declared.frame.Prefix.TheVariants as prefixes
use Rattle.rw_syntax.specs.declared.frame.Frame.{Frame}
use Rattle.rw_syntax.specs.declared.frame.Frame.TheVariants as frames
use Rattle.rw_syntax.specs.Grammar.{find, same_binder}
use Rattle.rw_syntax.specs.Found.{frame_binder}
use Rattle.rw_syntax.specs.Open.{scope, stack_nest}

-- a frame that binds
pub binds : (f : Frame) (fs : List Frame) (b : Binder) → frame_binder f ≡ Some b → scope (f ∷ fs) ≡ b ∷ scope fs
binds (frames.Prefix prefixes.Minus) fs b e = absurd (cc)
binds (frames.Prefix prefixes.Not) fs b e = absurd (cc)
binds (frames.Prefix (prefixes.Bind q c s)) fs b e = ap (λ x. x ∷ scope fs) (let r : c ≡ b = cc in r)
binds (frames.Infix op v c) fs b e = absurd (cc)
binds (frames.Group only) fs b e = absurd (cc)
binds (frames.Index v c) fs b e = absurd (cc)
binds (frames.Call h us) fs b e = absurd (cc)

-- a frame that does not
pub passes : (f : Frame) (fs : List Frame) → frame_binder f ≡ None → scope (f ∷ fs) ≡ scope fs
passes (frames.Prefix prefixes.Minus) fs e = refl
passes (frames.Prefix prefixes.Not) fs e = refl
passes (frames.Prefix (prefixes.Bind q c s)) fs e = absurd (cc)
passes (frames.Infix op v c) fs e = refl
passes (frames.Group only) fs e = refl
passes (frames.Index v c) fs e = refl
passes (frames.Call h us) fs e = refl

-- no more binders than the nest
pub scope_room : (fs : List Frame) → length (scope fs) ≤ stack_nest fs
scope_room [] = omega arith
scope_room (frames.Prefix prefixes.Minus ∷ fs) = omega (arith, scope_room fs)
scope_room (frames.Prefix prefixes.Not ∷ fs) = omega (arith, scope_room fs)
scope_room (frames.Prefix (prefixes.Bind q c s) ∷ fs) = omega (arith, scope_room fs)
scope_room (frames.Infix op v c ∷ fs) = omega (arith, scope_room fs)
scope_room (frames.Group only ∷ fs) = omega (arith, scope_room fs)
scope_room (frames.Index v c ∷ fs) = omega (arith, scope_room fs)
scope_room (frames.Call h us ∷ fs) = omega (arith, scope_room fs)

shifted : (n : ℕ) (o : Option ℕ) → option_map (λ k. n + k) (option_map suc o) ≡ option_map (λ k. n + 1 + k) o
shifted n None = refl
shifted n (Some k) = ap Some (omega arith)

-- the name at the top is the one that is looked for
pub found_here : (b c : Binder) (f : Frame) (left below : List Frame) (n : ℕ) → left ≡ f ∷ below → frame_binder f ≡ Some c → same_binder b c ≡ true → option_map (λ k. n + k) (find b (scope left)) ≡ Some n
found_here b c f left below n e h s =
    let z : scope left ≡ c ∷ scope below = ap scope e ∙ binds f below c h in
    ap (λ x. option_map (λ k. n + k) (find b x)) z ∙ ap (λ t. option_map (λ k. n + k) (cond t (Some 0) (option_map suc (find b (scope below))))) s ∙ ap Some (omega arith)

-- it is another, and the search goes on below
pub found_deeper : (b c : Binder) (f : Frame) (left below : List Frame) (n : ℕ) → left ≡ f ∷ below → frame_binder f ≡ Some c → same_binder b c ≡ false → option_map (λ k. n + k) (find b (scope left)) ≡ option_map (λ k. n + 1 + k) (find b (scope below))
found_deeper b c f left below n e h s =
    let z : scope left ≡ c ∷ scope below = ap scope e ∙ binds f below c h in
    ap (λ x. option_map (λ k. n + k) (find b x)) z ∙ ap (λ t. option_map (λ k. n + k) (cond t (Some 0) (option_map suc (find b (scope below))))) s ∙ shifted n (find b (scope below))

-- no binder stands at the top
pub passed : (f : Frame) (left below : List Frame) → left ≡ f ∷ below → frame_binder f ≡ None → scope left ≡ scope below
passed f left below e h = ap scope e ∙ passes f below h
