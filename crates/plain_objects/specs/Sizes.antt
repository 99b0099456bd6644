-- Objects that are too big at the end of their unit.
use Rattle.std.proofs.Common.{◌≡◌, refl, ap}
use Rattle.std.specs.Prelude.{Option, Some, None}
use Rattle.c_text.specs.Token.{PlainToken}
use Rattle.c_tree.specs.declared.kinds.Kind.{Kind}
use Rattle.c_tree.specs.declared.kinds.Kind.TheVariants as k
use Rattle.c_tree.specs.Trees.{PlainTree, PlainTrees, leaf, node, more}
use Rattle.core_meaning.specs.declared.refusals.TypeKind.TheVariants.{BadConstant}
use Rattle.core_meaning.specs.Entities.{Scope}
use Rattle.core_meaning.specs.UnitNames.{too_big_declarator, too_big_among, too_big_declared, too_big_in_item, unless_too_big}
use Rattle.plain_scope.specs.Judgements.{Refuses, RefusedAs}
use Rattle.plain_scope.specs.JudgementLaws.{refuses_is}
use Rattle.plain_scope.specs.declared.errors.ElabError.{ElabError}

pub no_declarator : (scope : Scope) (kind : Kind) (parts : PlainTrees) → (kind ≡ k.Declarator → ⊥) → too_big_declarator scope (node kind parts) ≡ None
no_declarator scope k.Declarator parts other = absurd (other refl)
no_declarator scope kind parts other = refl

pub no_declaration : (scope : Scope) (kind : Kind) (parts : PlainTrees) → (kind ≡ k.Declaration → ⊥) → too_big_in_item scope (node kind parts) ≡ None
no_declaration scope k.Declaration parts other = absurd (other refl)
no_declaration scope kind parts other = refl

abbrev pub too_big_listed : Scope → PlainTree → Option PlainToken
too_big_listed scope (leaf token) = None
too_big_listed scope (node kind declarators) = too_big_among scope declarators

pub declared_by_list : (scope : Scope) (words list : PlainTree) (end : PlainTrees) → too_big_declared scope (more words (more list end)) ≡ too_big_listed scope list
declared_by_list scope words (leaf token) end = refl
declared_by_list scope words (node kind declarators) end = refl

pub too_big_refused : (found : Option PlainToken) (name : PlainToken) (error : ElabError) → found ≡ Some name → Refuses BadConstant name error → RefusedAs (unless_too_big found) error
too_big_refused found name error is r = refuses_is (unless_too_big found) BadConstant name error (ap unless_too_big is) r
