-- What holds of a call's result holds of the same result handed on.
use Rattle.std.proofs.Common.{IfOk, OnOk, OnErr, Result, Ok, Err}

pub on_ok : {A E : Type 0} (r : Result A E) (P Q : Type 0) → (P → Q) → OnOk r P → OnOk r Q
on_ok (Ok x) P Q f h = f h
on_ok (Err e) P Q f h = tt

pub on_err : {A E : Type 0} (r : Result A E) (P Q : Type 0) → (P → Q) → OnErr r P → OnErr r Q
on_err (Ok x) P Q f h = tt
on_err (Err e) P Q f h = f h

pub ok_of : {A E : Type 0} (r : Result A E) (P : Type 0) → P → OnOk r P
ok_of (Ok x) P h = h
ok_of (Err e) P h = tt

pub err_of : {A E : Type 0} (r : Result A E) (P : Type 0) → P → OnErr r P
err_of (Ok x) P h = tt
err_of (Err e) P h = h

pub if_ok : {A E : Type 0} (r : Result A E) (P Q : A → Type 0) → ((x : A) → P x → Q x) → IfOk r P → IfOk r Q
if_ok (Ok x) P Q f h = f x h
if_ok (Err e) P Q f h = tt

-- a fact of a result that is there, with one of its value
pub both_ok : {A E : Type 0} (r : Result A E) (P : Type 0) (Q : A → Type 0) → OnOk r P → IfOk r Q → IfOk r (λ x. P × Q x)
both_ok (Ok x) P Q h k = (h, k)
both_ok (Err e) P Q h k = tt
