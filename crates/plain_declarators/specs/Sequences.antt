-- One judgement after another, where the first binds nothing or is a test.
use Rattle.std.proofs.Common.{◌≡◌, ℕ, Bool, true, false, List, [], refl, sym, ap, subst, ◌∙◌}
use Rattle.c_text.specs.Token.{PlainToken}
use Rattle.core_meaning.specs.declared.refusals.TypeKind.{TypeKind}
use Rattle.core_meaning.specs.Checking.{Checked, fine, refused, broken, with_bindings, ◌>>=◌, give, unless_so}
use Rattle.plain_scope.specs.declared.errors.ElabError.{ElabError}
use Rattle.plain_scope.specs.Judgements.{Gives, Refuses, RefusedAs}
use Rattle.plain_scope.specs.JudgementLaws.{gives_nothing_used, gives_then, refuses_is, refused_first, refused_then}

pub bind_nothing : {A : Type 0} (c : Checked A) → with_bindings [] c ≡ c
bind_nothing (fine x bindings) = refl
bind_nothing (refused kind token) = refl
bind_nothing broken = refl

-- behind a judgement that binds nothing the next one decides
pub next_of : {A B : Type 0} (c : Checked A) (next : A → Checked B) (x : A) → c ≡ give x → (c >>= next) ≡ next x
next_of c next x is = ap (λ (d : Checked _). d >>= next) is ∙ bind_nothing (next x)

pub gives_of : {A : Type 0} (d c : Checked A) (x : A) (before after : List ℕ → Bool) → d ≡ c → Gives c x before after → Gives d x before after
gives_of d c x before after is g = let P : Checked _ → Type 0 = λ e. Gives e x before after in subst P (sym is) g

pub refused_of : {A : Type 0} (d c : Checked A) (error : ElabError) → d ≡ c → RefusedAs c error → RefusedAs d error
refused_of d c error is r = let P : Checked _ → Type 0 = λ e. RefusedAs e error in subst P (sym is) r

-- behind a judgement that binds nothing
pub gives_next : {A B : Type 0} (c : Checked A) (next : A → Checked B) (x : A) (y : B) (before after : List ℕ → Bool) → c ≡ give x → Gives (next x) y before after → Gives (c >>= next) y before after
gives_next c next x y before after is g = gives_of (c >>= next) (next x) y before after (next_of c next x is) g

pub refused_next : {A B : Type 0} (c : Checked A) (next : A → Checked B) (x : A) (error : ElabError) → c ≡ give x → RefusedAs (next x) error → RefusedAs (c >>= next) error
refused_next c next x error is r = refused_of (c >>= next) (next x) error (next_of c next x is) r

-- the last judgement, whose result is given in another form
pub gives_as : {A B : Type 0} (c : Checked A) (next : A → Checked B) (x : A) (y : B) (before after : List ℕ → Bool) → Gives c x before after → next x ≡ give y → Gives (c >>= next) y before after
gives_as c next x y before after first is = gives_then c next x y before after after first (gives_nothing_used (next x) y after is)

-- behind a judgement that gives something
pub refused_behind : {A B : Type 0} (c : Checked A) (next : A → Checked B) (x : A) (before after : List ℕ → Bool) (error : ElabError) → Gives c x before after → RefusedAs (next x) error → RefusedAs (c >>= next) error
refused_behind c next x before after error g r = refused_then c next x g.bindings error g.judged r

-- ---- tests

test_passed : (holds : Bool) (kind : TypeKind) (token : PlainToken) → holds ≡ true → unless_so holds kind token ≡ give tt
test_passed holds kind token is = rw is refl

test_failed : (holds : Bool) (kind : TypeKind) (token : PlainToken) → holds ≡ false → unless_so holds kind token ≡ refused kind token
test_failed holds kind token is = rw is refl

pub passed_gives : {B : Type 0} (holds : Bool) (kind : TypeKind) (token : PlainToken) (next : Unit {0} → Checked B) (y : B) (before after : List ℕ → Bool) → holds ≡ true → Gives (next tt) y before after → Gives (unless_so holds kind token >>= next) y before after
passed_gives holds kind token next y before after is g = gives_next (unless_so holds kind token) next tt y before after (test_passed holds kind token is) g

pub passed_refused : {B : Type 0} (holds : Bool) (kind : TypeKind) (token : PlainToken) (next : Unit {0} → Checked B) (error : ElabError) → holds ≡ true → RefusedAs (next tt) error → RefusedAs (unless_so holds kind token >>= next) error
passed_refused holds kind token next error is r = refused_next (unless_so holds kind token) next tt error (test_passed holds kind token is) r

pub test_refused : (holds : Bool) (kind : TypeKind) (token : PlainToken) (error : ElabError) → holds ≡ false → Refuses kind token error → RefusedAs (unless_so holds kind token) error
test_refused holds kind token error is r = refuses_is (unless_so holds kind token) kind token error (test_failed holds kind token is) r

pub failed_refused : {B : Type 0} (holds : Bool) (kind : TypeKind) (token : PlainToken) (next : Unit {0} → Checked B) (error : ElabError) → holds ≡ false → Refuses kind token error → RefusedAs (unless_so holds kind token >>= next) error
failed_refused holds kind token next error is r = refused_first (unless_so holds kind token) next error (test_refused holds kind token error is r)

-- behind a test that holds
pub passed_is : {B : Type 0} (holds : Bool) (kind : TypeKind) (token : PlainToken) (next : Unit {0} → Checked B) (c : Checked B) → holds ≡ true → next tt ≡ c → (unless_so holds kind token >>= next) ≡ c
passed_is holds kind token next c is leads = next_of (unless_so holds kind token) next tt (test_passed holds kind token is) ∙ leads

pub both_passed : (first second : Bool) (kind other : TypeKind) (token : PlainToken) → first ≡ true → second ≡ true → (unless_so first kind token >>= (λ u. unless_so second other token)) ≡ give tt
both_passed first second kind other token a b = passed_is first kind token (λ u. unless_so second other token) (give tt) a (test_passed second other token b)

pub ruleset steps = (gives_next, refused_next, gives_as, refused_behind, passed_gives, passed_refused, test_refused, failed_refused, gives_then, refused_first, refused_then, gives_nothing_used)
