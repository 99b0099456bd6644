-- Answers of judgements, from those of other ones.
use Rattle.std.proofs.Common.{◌≡◌, List, ℕ, Bool, sym, subst, ◌∙◌}
use Rattle.std.specs.Result.{IsErrAnd}
use Rattle.std.specs.Prelude.{Result, Ok, Err}
use Rattle.core_meaning.specs.Checking.{Checked, ◌>>=◌, give}
use Rattle.plain_scope.specs.PlainScope.{uses_of}
use Rattle.plain_scope.specs.declared.entities.Used.{Used}
use Rattle.plain_scope.specs.declared.errors.ElabError.{ElabError}
use Rattle.plain_scope.specs.Judgements.{Gives, RefusedAs, Answers, Judges}
use Rattle.plain_scope.specs.JudgementLaws.{gives_then, gives_nothing_used, refused_then}

-- the same judgement has the same answer
pub judges_as : {A X : Type 0} (c d : Checked A) (plain : X → A) (before after : Used) (result : Result X ElabError) → c ≡ d → Judges d plain before after result → Judges c plain before after result
judges_as c d plain before after result is = subst (λ (e : Checked _). Judges e plain before after result) (sym is)

-- a refusal that is passed on
pub passed_on : {A X : Type 0} (c : Checked A) (plain : X → A) (before after : Used) (result : Result X ElabError) (error : ElabError) → IsErrAnd result (λ x. x ≡ error) → RefusedAs c error → Judges c plain before after result
passed_on c plain before after (Ok x) error h r = absurd h
passed_on c plain before after (Err x) error h r = subst (RefusedAs c) (sym h) r

pub gives_as : {A : Type 0} (c d : Checked A) (x : A) (before after : List ℕ → Bool) → c ≡ d → Gives d x before after → Gives c x before after
gives_as c d x before after is = subst (λ (e : Checked _). Gives e x before after) (sym is)

pub refused_as : {A : Type 0} (c d : Checked A) (error : ElabError) → c ≡ d → RefusedAs d error → RefusedAs c error
refused_as c d error is = subst (λ (e : Checked _). RefusedAs e error) (sym is)

-- the refusal of a judgement behind one that gives something
pub refused_behind : {A B : Type 0} (c : Checked A) (next : A → Checked B) (x : A) (before after : List ℕ → Bool) (error : ElabError) → Gives c x before after → RefusedAs (next x) error → RefusedAs (c >>= next) error
refused_behind c next x before after error first r = refused_then c next x first.bindings error first.judged r

-- the last judgement binds nothing
pub gives_last : {A B : Type 0} (c : Checked A) (next : A → Checked B) (x : A) (y : B) (before after : List ℕ → Bool) → Gives c x before after → next x ≡ give y → Gives (c >>= next) y before after
gives_last c next x y before after first second = gives_then c next x y before after after first (gives_nothing_used (next x) y after second)

-- ---- the answer of the last judgement, handed on as it is

-- alone
pub answers_alone : {A X : Type 0} (c d : Checked A) (plain : X → A) (used : Used) (result : Result X ElabError) → c ≡ d → Answers d plain result → Judges c plain used used result
answers_alone c d plain used (Ok y) is same = gives_nothing_used c (plain y) (uses_of used) (is ∙ same)
answers_alone c d plain used (Err error) is r = refused_as c d error is r

-- behind one that gives something
pub answers_last : {A B X : Type 0} (c : Checked A) (next : A → Checked B) (d : Checked B) (plain : X → B) (x : A) (before after : Used) (result : Result X ElabError) → Gives c x (uses_of before) (uses_of after) → next x ≡ d → Answers d plain result → Judges (c >>= next) plain before after result
answers_last c next d plain x before after (Ok y) first is same = gives_last c next x (plain y) (uses_of before) (uses_of after) first (is ∙ same)
answers_last c next d plain x before after (Err error) first is r = refused_behind c next x (uses_of before) (uses_of after) error first (refused_as (next x) d error is r)

-- behind two
pub judges_last : {A B X : Type 0} (c : Checked A) (next : A → Checked B) (plain : X → B) (x : A) (before between after : Used) (result : Result X ElabError) → Gives c x (uses_of before) (uses_of between) → Judges (next x) plain between after result → Judges (c >>= next) plain before after result
judges_last c next plain x before between after (Ok y) first second = gives_then c next x (plain y) (uses_of before) (uses_of between) (uses_of after) first second
judges_last c next plain x before between after (Err error) first r = refused_behind c next x (uses_of before) (uses_of between) error first r
