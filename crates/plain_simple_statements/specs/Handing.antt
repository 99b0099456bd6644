-- What is made of an answer: a refusal is handed on, and there may be no memory.
use Rattle.std.proofs.Common.{◌≡◌, sym, subst}
use Rattle.std.specs.Prelude.{Result, Ok, Err, OnOk}
use Rattle.core_meaning.specs.Checking.{Checked}
use Rattle.plain_scope.specs.PlainScope.{uses_of}
use Rattle.plain_scope.specs.declared.entities.Used.{Used}
use Rattle.plain_scope.specs.declared.errors.ElabError.{ElabError}
use Rattle.plain_scope.specs.declared.errors.ElabError.TheVariants.{Memory}
use Rattle.plain_scope.specs.Judgements.{Gives, RefusedAs, Judges}

abbrev pub HandsOn : {X Y : Type 0} → Result X ElabError → (X → Y → Type 0) → Result Y ElabError → Type 0
HandsOn (Ok x) made (Ok y) = made x y
HandsOn (Ok x) made (Err error) = error ≡ Memory
HandsOn (Err first) made (Ok y) = ⊥
HandsOn (Err first) made (Err error) = error ≡ first

-- a judgement that ends with another one
pub judges_handed : {A B X Y : Type 0} (d : Checked A) (c : Checked B) (plain : X → A) (plainly : Y → B) (made : X → Y → Type 0) (before between after : Used) (first : Result X ElabError) (result : Result Y ElabError) → HandsOn first made result → Judges d plain between after first → ((x : X) (y : Y) → made x y → Gives d (plain x) (uses_of between) (uses_of after) → Gives c (plainly y) (uses_of before) (uses_of after)) → ((error : ElabError) → RefusedAs d error → RefusedAs c error) → Judges c plainly before after result
judges_handed d c plain plainly made before between after (Ok x) (Ok y) h j gives refuses = gives x y h j
judges_handed d c plain plainly made before between after (Ok x) (Err error) h j gives refuses = subst (RefusedAs c) (sym h) tt
judges_handed d c plain plainly made before between after (Err first) (Ok y) h j gives refuses = absurd h
judges_handed d c plain plainly made before between after (Err first) (Err error) h j gives refuses = subst (RefusedAs c) (sym h) (refuses first j)

-- what holds behind an answer holds behind what is made of it
pub on_ok_handed : {X Y : Type 0} (made : X → Y → Type 0) (P Q : Type 0) (first : Result X ElabError) (result : Result Y ElabError) → HandsOn first made result → OnOk first P → (P → Q) → OnOk result Q
on_ok_handed made P Q (Ok x) (Ok y) h p leads = leads p
on_ok_handed made P Q first (Err error) h p leads = tt
on_ok_handed made P Q (Err first) (Ok y) h p leads = absurd h

pub on_ok_always : {Y : Type 0} (Q : Type 0) (result : Result Y ElabError) → Q → OnOk result Q
on_ok_always Q (Ok y) q = q
on_ok_always Q (Err error) q = tt

-- where something is made there was an answer
pub given_handed : {A X Y R : Type 0} (d : Checked A) (plain : X → A) (made : X → Y → Type 0) (P : Type 0) (between after : Used) (first : Result X ElabError) (y : Y) → HandsOn first made (Ok y) → Judges d plain between after first → OnOk first P → ((x : X) → made x y → Gives d (plain x) (uses_of between) (uses_of after) → P → R) → R
given_handed d plain made P between after (Ok x) y h j p leads = leads x h j p
given_handed d plain made P between after (Err first) y h j p leads = absurd h

pub refused_handed : {A B X Y : Type 0} (d : Checked A) (c : Checked B) (plain : X → A) (made : X → Y → Type 0) (between after : Used) (first : Result X ElabError) (error : ElabError) → HandsOn first made (Err error) → Judges d plain between after first → ((e : ElabError) → RefusedAs d e → RefusedAs c e) → RefusedAs c error
refused_handed d c plain made between after (Ok x) error h j refuses = subst (RefusedAs c) (sym h) tt
refused_handed d c plain made between after (Err first) error h j refuses = subst (RefusedAs c) (sym h) (refuses first j)
