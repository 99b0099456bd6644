-- One judgement after another.
use Rattle.std.proofs.Common.{◌≡◌, ℕ, Bool, true, false, ◌&&◌, ◌||◌, List, [], ◌∷◌, ◌++◌, refl, sym, ap, ◌∙◌}
use Rattle.c_text.specs.Token.{PlainToken}
use Rattle.core_meaning.specs.declared.refusals.TypeKind.{TypeKind}
use Rattle.core_meaning.specs.Checking.{Binding, Checked, fine, refused, with_bindings, ◌>>=◌, give}
use Rattle.core_meaning.specs.Linking.{is_use_of, uses_in}
use Rattle.plain_scope.specs.declared.errors.ElabError.{ElabError}
use Rattle.plain_scope.specs.declared.errors.ElabError.TheVariants.{BadType, Link, Memory}
use Rattle.plain_scope.specs.Judgements.{Gives, Refuses, RefusedAs}

or_assoc : (a b c : Bool) → ((a || b) || c) ≡ (a || (b || c))
or_assoc true b c = refl
or_assoc false b c = refl

or_none : (a : Bool) → a ≡ (a || false)
or_none true = refl
or_none false = refl

pub uses_in_both : (a b : List Binding) (name : List ℕ) → uses_in (a ++ b) name ≡ (uses_in a name || uses_in b name)
uses_in_both [] b name = refl
uses_in_both (x ∷ a) b name = rw (uses_in_both a b name) (sym (or_assoc (x.in_expression && is_use_of name x.entity) (uses_in a name) (uses_in b name)))

-- a judgement that binds nothing uses nothing
pub gives_nothing_used : {A : Type 0} (c : Checked A) (x : A) (before : List ℕ → Bool) → c ≡ give x → Gives c x before before
gives_nothing_used c x before is = record { bindings = []; judged = is; used = λ name. or_none (before name) }

pub gives_then : {A B : Type 0} (c : Checked A) (next : A → Checked B) (x : A) (y : B) (before between after : List ℕ → Bool) → Gives c x before between → Gives (next x) y between after → Gives (c >>= next) y before after
gives_then c next x y before between after first second = record {
  bindings = first.bindings ++ second.bindings;
  judged = ap (λ (d : Checked _). d >>= next) first.judged ∙ ap (with_bindings first.bindings) second.judged;
  used = λ name. second.used name ∙ rw (uses_in_both first.bindings second.bindings name) (rw (first.used name) (or_assoc (before name) (uses_in first.bindings name) (uses_in second.bindings name)));
}

pub refuses_is : {A : Type 0} (c : Checked A) (kind : TypeKind) (token : PlainToken) (error : ElabError) → c ≡ refused kind token → Refuses kind token error → RefusedAs c error
refuses_is c kind token (BadType given at) is r = record { token = token; judged = is ∙ ap (λ k. refused k token) (sym r.0); stands = r.1 }
refuses_is c kind token (Link other name) is r = absurd r
refuses_is c kind token Memory is r = absurd r

pub refused_first : {A B : Type 0} (c : Checked A) (next : A → Checked B) (error : ElabError) → RefusedAs c error → RefusedAs (c >>= next) error
refused_first c next (BadType kind at) r = record { token = r.token; judged = ap (λ (d : Checked _). d >>= next) r.judged; stands = r.stands }
refused_first c next (Link kind name) r = absurd r
refused_first c next Memory r = tt

pub refused_then : {A B : Type 0} (c : Checked A) (next : A → Checked B) (x : A) (bindings : List Binding) (error : ElabError) → c ≡ fine x bindings → RefusedAs (next x) error → RefusedAs (c >>= next) error
refused_then c next x bindings (BadType kind at) is r = record {
  token = r.token;
  judged = ap (λ (d : Checked _). d >>= next) is ∙ ap (with_bindings bindings) r.judged;
  stands = r.stands;
}
refused_then c next x bindings (Link kind name) is r = absurd r
refused_then c next x bindings Memory is r = tt
