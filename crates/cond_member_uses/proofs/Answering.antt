-- Clauses of one call together.
use Rattle.std.specs.Prelude.{Result, Ok, Err, OnOk}

pub on_three : {A E : Type 0} (r : Result A E) (P Q R S : Type 0) → (P → Q → R → S) → OnOk r P → OnOk r Q → OnOk r R → OnOk r S
on_three (Ok z) P Q R S f p q h = f p q h
on_three (Err e) P Q R S f p q h = tt
