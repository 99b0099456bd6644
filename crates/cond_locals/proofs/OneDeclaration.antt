-- What comes of a declaration, by its words and its list of declarators.
use Rattle.std.proofs.Common.{◌≡◌, ℕ, Bool, true, false, ◌&&◌, ◌||◌, List, [], refl, sym, ap, ap₂, ◌∙◌, subst, if◌then◌else◌}
use Rattle.std.specs.Prelude.{Option, Some, None, ⊤}
use Rattle.conditional.specs.Judgements as judgements
use Rattle.conditional.specs.declared.outcomes.Outcomes.{Outcomes}
use Rattle.c_text.specs.Token.{PlainToken}
use Rattle.c_types.specs.Types.{PlainType}
use Rattle.c_tree.specs.declared.kinds.Kind.TheVariants as k
use Rattle.c_tree.specs.declared.terminals.Terminal.TheVariants as t
use Rattle.c_tree.specs.Trees.{PlainTree, PlainTrees, leaf, node, none, more}
use Rattle.c_tree.specs.Grammar.{local}
use Rattle.tree_derivations.specs.Derivations as derivations
use Rattle.core_meaning.specs.Checking.{Binding, Checked, fine, refused, broken, with_bindings, ◌>>=◌, give, or_broken}
use Rattle.core_meaning.specs.Entities.{Struct, Scope}
use Rattle.core_meaning.specs.Expressions.{has_terminal, arithmetic_words}
use Rattle.core_meaning.specs.Declarations.{Locals, Based, name_in, based_on_tag, locals_from, judged_locals}
use Rattle.operand_types.specs.OperandTypes.{outcome_as}
use Rattle.operand_rules.specs.declared.operands.Refused.{Refused}
use Rattle.type_tables.specs.Tables.{Tables}
use Rattle.type_tables.specs.declared.entries.DeclaredType.{DeclaredType}
use Rattle.type_tables.specs.Follows.{IsThere, Follows, FollowsInBlock}
use Rattle.cond_declarators.specs.Types.{ShowsType, based_in, base_type}
use Rattle.cond_declarators.proofs.There.{bases_are_there}
use Rattle.cond_statements.specs.Following as following
use Rattle.conditional_steps.specs.Here as results
use Rattle.conditional_steps.specs.Here.{Here}
use Rattle.cond_locals.specs.Declaring.{GoesOn, Declares, DeclaresLocals}
use Rattle.cond_locals.proofs.Parts.{IsDeclaration, declaration_parts}

-- ---- the words of a local's type declare no struct

abbrev pub IsSame : Scope → Checked Based → Type 0
IsSame scope (fine b bindings) = b.scope ≡ scope
IsSame scope other = ⊤

same_bound : (scope : Scope) (bindings : List Binding) (c : Checked Based) → IsSame scope c → IsSame scope (with_bindings bindings c)
same_bound scope bindings (fine b others) h = h
same_bound scope bindings (refused kind token) h = tt
same_bound scope bindings broken h = tt

tag_same : (scope : Scope) (tag : PlainToken) (o : Option ℕ) → IsSame scope (based_on_tag false scope tag o)
tag_same scope tag None = tt
tag_same scope tag (Some n) = refl

named_same : (scope : Scope) (o : Option PlainToken) → IsSame scope (or_broken o >>= (λ tag. based_on_tag false scope tag (scope.tags tag.text)))
named_same scope None = tt
named_same scope (Some tag) = same_bound scope [] (based_on_tag false scope tag (scope.tags tag.text)) (tag_same scope tag (scope.tags tag.text))

pub words_same : (scope : Scope) (words : PlainTree) → IsSame scope (based_in false scope words)
words_same scope (leaf token) = tt
words_same scope (node kind words) = by (has_terminal t.Struct words)
  where
    by : (b : Bool) → IsSame scope (if b then or_broken (name_in words) >>= (λ tag. based_on_tag false scope tag (scope.tags tag.text)) else give (record { ty = arithmetic_words words; scope = scope }))
    by true = named_same scope (name_in words)
    by false = refl

-- ---- the declaration

comes_declared : (by : ℕ → ℕ) (structs : List Struct) (c : Checked Locals) (r : Bool) (new : Tables) → GoesOn by structs c r new → following.Declared by c r new
comes_declared by structs (fine locals bindings) r new h = (h.0, h.1)
comes_declared by structs (refused kind token) r new h = h
comes_declared by structs broken r new h = h

declared_bound : (by : ℕ → ℕ) (bindings : List Binding) (c : Checked Locals) (r : Bool) (new : Tables) → following.Declared by c r new → following.Declared by (with_bindings bindings c) r new
declared_bound by bindings (fine locals others) r new h = h
declared_bound by bindings (refused kind token) r new h = h
declared_bound by bindings broken r new h = h

judged_as : (scope : Scope) (slots : List PlainType) (words end : PlainTree) (list : PlainTrees)
    → judged_locals scope slots (more words (more (node k.Declarators list) (more end none))) ≡ (based_in false scope words >>= (λ base. locals_from scope slots base.ty list))
judged_as scope slots (leaf token) end list = refl
judged_as scope slots (node kind words) end list = refl

module _ (on : ℕ → Bool) (base : Outcomes DeclaredType Refused) (words : PlainTree) (list : PlainTrees) (old new : Tables) (f no_type found : Bool) (is_f : f ≡ (no_type || found))
    (declares : Declares on base (λ scope slots ty. locals_from scope slots ty list) (λ scope. derivations.Declared local list) old new found)
    (scope : Scope) (slots : List PlainType) (follows : FollowsInBlock old scope) (derived : derivations.Declared local list) where
  -- by the type that the words name
  by_words : (c : Checked Based) → based_in false scope words ≡ c → ShowsType on (outcome_as (base_type follows.follows.by) c) base → no_type ≡ results.is_refused (outcome_as (base_type follows.follows.by) c)
      → following.Declared follows.follows.by (c >>= (λ base. locals_from scope slots base.ty list)) f new
  by_words (fine b bindings) is shown refusal =
      declared_bound follows.follows.by bindings (locals_from scope slots b.ty list) f new
      (comes_declared follows.follows.by scope.structs (locals_from scope slots b.ty list) f new
      (subst (λ (x : Bool). GoesOn follows.follows.by scope.structs (locals_from scope slots b.ty list) x new) (sym (is_f ∙ ap (λ (x : Bool). x || found) refusal))
      (declares.goes_on scope slots b.ty follows
      (subst (λ (s : Scope). IsThere s.structs b.ty) (subst (IsSame scope) is (words_same scope words)) (bases_are_there false old scope follows.follows words b bindings is))
      shown derived)))
  by_words (refused kind token) is shown refusal = is_f ∙ ap (λ (x : Bool). x || found) refusal
  by_words broken is shown refusal = is_f ∙ ap (λ (x : Bool). x || found) refusal

pub words_here :
    (on : ℕ → Bool) (base : Outcomes DeclaredType Refused) (words list end : PlainTree) (old new : Tables) (when unnamed no_type found f : Bool)
    → f ≡ (no_type || found) → no_type ≡ (when && unnamed)
    → ((x : judgements.Checked PlainType (Unit {0})) → ShowsType on x base → unnamed ≡ results.is_refused x)
    → ((scope : Scope) (follows : Follows old scope) → ShowsType on (outcome_as (base_type follows.by) (based_in false scope words)) base)
    → (when ≡ false → (new ≡ old) × (found ≡ false))
    → ((parts : PlainTrees) → when ≡ true → list ≡ node k.Declarators parts
    → Declares on base (λ scope slots ty. locals_from scope slots ty parts) (λ scope. derivations.Declared local parts) old new found)
    → Here when (DeclaresLocals (more words (more list (more end none)))) old new f
words_here on base words list end old new when unnamed no_type found f is_f is_none refusals shows elsewhere declares = record {
  elsewhere = λ h. ((elsewhere h).0, is_f ∙ ap₂ (λ (x y : Bool). x || y) (is_none ∙ ap (λ (x : Bool). x && unnamed) h) (elsewhere h).1);
  does = λ h. record { declared = λ scope slots follows derived. by h scope slots follows (declaration_parts (more words (more list (more end none))) derived) };
}
  where
    same_words : (a b : PlainTree) (x y : PlainTrees) → more a x ≡ more b y → a ≡ b
    same_words a b x y e = cc

    same_list : (a b c d e f : PlainTree) → more a (more b (more c none)) ≡ more d (more e (more f none)) → b ≡ e
    same_list a b c d e f h = cc

    by : when ≡ true → (scope : Scope) (slots : List PlainType) (follows : FollowsInBlock old scope) → IsDeclaration (more words (more list (more end none)))
        → following.Declared follows.follows.by (judged_locals scope slots (more words (more list (more end none)))) f new
    by h scope slots follows is =
        let is_list : list ≡ node k.Declarators is.list = same_list words list end is.words (node k.Declarators is.list) is.end is.parts_are in
        subst (λ (l : PlainTree). following.Declared follows.follows.by (judged_locals scope slots (more words (more l (more end none)))) f new) (sym is_list)
        (subst (λ (c : Checked Locals). following.Declared follows.follows.by c f new) (sym (judged_as scope slots words end is.list))
        (by_words on base words is.list old new f no_type found is_f (declares is.list h is_list) scope slots follows is.declared (based_in false scope words) refl
        (shows scope follows.follows)
        (is_none ∙ (ap (λ (x : Bool). x && unnamed) h ∙ refusals (outcome_as (base_type follows.follows.by) (based_in false scope words)) (shows scope follows.follows)))))
