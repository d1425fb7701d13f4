-- What is said of an answer, from what is said of another.
use Rattle.std.proofs.Common.{◌≡◌, Option, Some, None, ap, Result, Ok, Err}
use Rattle.std.specs.Option.{option_or}
use Rattle.std.specs.Result.{OnOk, OnErr, IfOk, IfErr}
use Rattle.rw_refusals.specs.declared.refusal.EditRefusal.{EditRefusal}

pub on_ok : {A E : Type 0} (r : Result A E) (P Q : Type 0) → (P → Q) → OnOk r P → OnOk r Q
on_ok (Ok x) P Q f h = f h
on_ok (Err e) P Q f h = tt

pub if_ok : {A E : Type 0} (r : Result A E) (P Q : A → Type 0) → ((x : A) → P x → Q x) → IfOk r P → IfOk r Q
if_ok (Ok x) P Q f h = f x h
if_ok (Err e) P Q f h = tt

pub if_err : {A E : Type 0} (r : Result A E) (P Q : E → Type 0) → ((e : E) → P e → Q e) → IfErr r P → IfErr r Q
if_err (Ok x) P Q f h = tt
if_err (Err e) P Q f h = f e h

pub on_err : {A E : Type 0} (r : Result A E) (P : E → Type 0) (Q : Type 0) → ((e : E) → P e → Q) → IfErr r P → OnErr r Q
on_err (Ok x) P Q f h = tt
on_err (Err e) P Q f h = f e h

pub late_told : (one two : Option EditRefusal) → one ≡ None → option_or one two ≡ two
late_told one two none = ap (λ o. option_or o two) none

pub early_told : (one two : Option EditRefusal) (r : EditRefusal) → one ≡ Some r → option_or one two ≡ Some r
early_told one two r is = ap (λ o. option_or o two) is
