-- Steps in declaring a name of file scope.
use Rattle.std.proofs.Common.{◌≡◌, sym, subst}
use Rattle.std.specs.Prelude.{Option, Some, None}
use Rattle.c_text.specs.Token.{PlainToken}
use Rattle.core_meaning.specs.Checking.{Checked, give}
use Rattle.core_meaning.specs.Entities.{Sort, FileName, Scope}
use Rattle.core_meaning.specs.UnitNames.{Storage, linkage, is_function, declared_again, declared_as, with_name}
use Rattle.plain_scope.specs.Judgements.{RefusedAs}
use Rattle.plain_scope.specs.declared.errors.ElabError.{ElabError}

-- a declaration with what is visible
abbrev pub with_visible : Scope → PlainToken → Sort → Storage → Option FileName → Checked Scope
with_visible scope name sort storage visible = declared_as scope name sort (linkage storage (is_function sort) visible) visible

pub again_gives : (scope : Scope) (name : PlainToken) (sort : Sort) (storage : Storage) (visible : FileName) (x : Scope) → scope.file_names name.text ≡ Some visible → declared_again scope name sort (linkage storage (is_function sort) (Some visible)) visible ≡ give x → with_name scope name sort storage ≡ give x
again_gives scope name sort storage visible x is gives = subst (λ v. with_visible scope name sort storage v ≡ give x) (sym is) gives

pub again_refused : (scope : Scope) (name : PlainToken) (sort : Sort) (storage : Storage) (visible : FileName) (error : ElabError) → scope.file_names name.text ≡ Some visible → RefusedAs (declared_again scope name sort (linkage storage (is_function sort) (Some visible)) visible) error → RefusedAs (with_name scope name sort storage) error
again_refused scope name sort storage visible error is r = subst (λ v. RefusedAs (with_visible scope name sort storage v) error) (sym is) r

pub first_gives : (scope : Scope) (name : PlainToken) (sort : Sort) (storage : Storage) (x : Scope) → scope.file_names name.text ≡ None → declared_as scope name sort (linkage storage (is_function sort) None) None ≡ give x → with_name scope name sort storage ≡ give x
first_gives scope name sort storage x is gives = subst (λ v. with_visible scope name sort storage v ≡ give x) (sym is) gives

pub ruleset declaring = (again_gives, again_refused, first_gives)
