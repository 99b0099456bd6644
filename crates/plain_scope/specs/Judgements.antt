-- What a judgement gives, and why it is refused, as the code answers it.
use Rattle.std.specs.Prelude.{◌≡◌, ℕ, Bool, ◌||◌, false, List, ⊤, Result, MatchResult}
use Rattle.text_edits.specs.Span.{plain_span}
use Rattle.c_text.specs.Token.{PlainToken}
use Rattle.c_text.specs.declared.origin.FileToken.{FileToken}
use Rattle.core_meaning.specs.declared.refusals.TypeKind.{TypeKind}
use Rattle.core_meaning.specs.Checking.{Binding, Checked, fine, refused, give}
use Rattle.core_meaning.specs.Linking.{uses_in}
use Rattle.plain_scope.specs.PlainScope.{uses_of}
use Rattle.plain_scope.specs.declared.entities.Used.{Used}
use Rattle.plain_scope.specs.declared.errors.ElabError.{ElabError}
use Rattle.plain_scope.specs.declared.errors.ElabError.TheVariants.{BadType, Link, Memory}

-- The judgement gives this, and its bindings use the names that are now among the used ones and weren't before.
pub record Gives {A : Type 0} (c : Checked A) (x : A) (before after : List ℕ → Bool) : Type 0 where
  pub bindings : List Binding
  pub judged : c ≡ fine x bindings
  pub used : (name : List ℕ) → after name ≡ (before name || uses_in bindings name)

-- The judgement gives this, and its bindings use no name of file scope in an expression.
pub record Binds {A : Type 0} (c : Checked A) (x : A) : Type 0 where
  pub bindings : List Binding
  pub judged : c ≡ fine x bindings
  pub unused : (name : List ℕ) → uses_in bindings name ≡ false

-- the token stands there
pub record StandsAt (token : PlainToken) (at : FileToken) : Type 0 where
  pub file : token.origin.file ≡ at.file
  pub span : token.origin.span ≡ plain_span at.span

-- the error refuses this token
abbrev pub Refuses : TypeKind → PlainToken → ElabError → Type 0
Refuses kind token (BadType given at) = (given ≡ kind) × StandsAt token at
Refuses kind token other = ⊥

-- the judgement is refused so, at a token that stands there
pub record IsRefused {A : Type 0} (c : Checked A) (kind : TypeKind) (at : FileToken) : Type 0 where
  pub token : PlainToken
  pub judged : c ≡ refused kind token
  pub stands : StandsAt token at

-- An error in judging is a refusal, or want of memory. That is also the answer to a tree that is none of the grammar.
abbrev pub RefusedAs : {A : Type 0} → Checked A → ElabError → Type 0
RefusedAs c (BadType kind at) = IsRefused c kind at
RefusedAs c (Link kind name) = ⊥
RefusedAs c Memory = ⊤

-- The answer of a judgement that binds nothing.
abbrev pub Answers : {A X : Type 0} → Checked A → (X → A) → Result X ElabError → Type 0
Answers c plain result = MatchResult result (λ x. c ≡ give (plain x)) (RefusedAs c)

-- The answer of a judgement that uses no name of file scope.
abbrev pub AnswersBound : {A X : Type 0} → Checked A → (X → A) → Result X ElabError → Type 0
AnswersBound c plain result = MatchResult result (λ x. Binds c (plain x)) (RefusedAs c)

-- The answer of a judgement, with the names that are used before and after it.
abbrev pub Judges : {A X : Type 0} → Checked A → (X → A) → Used → Used → Result X ElabError → Type 0
Judges c plain before after result = MatchResult result (λ x. Gives c (plain x) (uses_of before) (uses_of after)) (RefusedAs c)
