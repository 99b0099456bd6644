-- Clauses of one call together.
use Rattle.std.specs.Prelude.{Result, Ok, Err, IfOk, OnOk}

pub ok_two : {A E : Type 0} (r : Result A E) (P Q R : A → Type 0) → ((z : A) → P z → Q z → R z) → IfOk r P → IfOk r Q → IfOk r R
ok_two (Ok z) P Q R f p q = f z p q
ok_two (Err e) P Q R f p q = tt

pub ok_on : {A E : Type 0} (r : Result A E) (P R : A → Type 0) (Q : Type 0) → ((z : A) → P z → Q → R z) → IfOk r P → OnOk r Q → IfOk r R
ok_on (Ok z) P R Q f p q = f z p q
ok_on (Err e) P R Q f p q = tt

pub on_two : {A E : Type 0} (r : Result A E) (P Q R : Type 0) → (P → Q → R) → OnOk r P → OnOk r Q → OnOk r R
on_two (Ok z) P Q R f p q = f p q
on_two (Err e) P Q R f p q = tt
