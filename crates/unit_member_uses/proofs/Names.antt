-- Names of file scope are spelt as names at each place of a unit.
use Rattle.std.proofs.Common.{◌≡◌, ℕ, Bool, true, false, List, [], ◌∷◌, subst}
use Rattle.std.specs.Prelude.{Option, Some, None}
use Rattle.c_names.specs.Names.{is_identifier}
use Rattle.c_text.specs.Token.{PlainToken}
use Rattle.c_tree.specs.declared.terminals.Terminal.TheVariants as t
use Rattle.c_tree.specs.Trees.{PlainTree, PlainTrees}
use Rattle.c_tree.specs.Grammar as grammar
use Rattle.c_tree.specs.Grammar.{file_item}
use Rattle.c_tree.specs.declared.kinds.Kind.TheVariants as k
use Rattle.tree_derivations.specs.Derivations.{Derivation, made_of, Shaped, a_row, a_part, at_end}
use Rattle.core_meaning.specs.Checking.{Binding, fine, ◌>>=◌, give, or_broken}
use Rattle.core_meaning.specs.Entities.{Sort, Scope}
use Rattle.core_meaning.specs.Expressions.{has_terminal, arithmetic_words}
use Rattle.core_meaning.specs.Declarations.{name_in, Based, based, based_on_tag, Parameter, with_block}
use Rattle.core_meaning.specs.UnitNames.{Storage, with_name}
use Rattle.expression_types.proofs.Sees.{Comes, comes_then, comes_if}
use Rattle.bindings.proofs.Spellings.{AllHold}
use Rattle.selections.specs.Laws.{HasNames}
use Rattle.member_uses.proofs.Parts.{Quietly}
use Rattle.member_uses.proofs.Declarators.{NameForm, name_form}
use Rattle.unit_member_uses.specs.Items.{definition, in_body}
use Rattle.unit_member_uses.proofs.Parameters.{parenthesized}
use Rattle.unit_member_uses.proofs.FileNames.{name_declared}
use Rattle.unit_member_uses.proofs.Functions.{parameters_keep}
use Rattle.unit_member_uses.proofs.Items.{function_row, inner_parts}

abbrev Named : Based → Type 0
Named b = HasNames b.scope

tag_named : (declaring : Bool) (scope : Scope) → HasNames scope → (tag : PlainToken) (n : Option ℕ) → Comes Named (based_on_tag declaring scope tag n)
tag_named declaring scope names tag (Some n) = names
tag_named false scope names tag None = tt
tag_named true scope names tag None = names

pub words_named : (declaring : Bool) (scope : Scope) → HasNames scope → (words : PlainTrees) (base : Based) (bs : List Binding) → based declaring scope words ≡ fine base bs → HasNames base.scope
words_named declaring scope names words base bs e =
    subst (Comes Named) e
    (comes_if Named (has_terminal t.Struct words) (or_broken (name_in words) >>= (λ tag. based_on_tag declaring scope tag (scope.tags tag.text))) (give (record { ty = arithmetic_words words; scope = scope }))
    (comes_then Named (or_broken (name_in words)) (λ tag. based_on_tag declaring scope tag (scope.tags tag.text)) (λ tag. tag_named declaring scope names tag (scope.tags tag.text))) names)

spelt_in_row : {words parts : PlainTrees} {body : PlainTree} → Shaped (grammar.in_row (grammar.row k.Function)) (inner_parts words parts body) → AllHold (inner_parts words parts body) → (name : PlainToken) → name_in parts ≡ Some name
    → is_identifier name.text ≡ true
spelt_in_row {parts = parts} (a_row (a_part w (a_part d (a_part e at_end)))) holds name is =
    let f : NameForm parenthesized parts = name_form (function_row d) in
    subst (λ x. is_identifier x.text ≡ true) (same (name_in parts) f.name name f.name_is is) (f.spelt holds.1.0.0)
  where
    same : (o : Option PlainToken) (a b : PlainToken) → o ≡ Some a → o ≡ Some b → a ≡ b
    same o a b e f = cc

pub spelt : {words parts : PlainTrees} {body : PlainTree} → Derivation file_item (definition words parts body) → AllHold (inner_parts words parts body) → (name : PlainToken) → name_in parts ≡ Some name → is_identifier name.text ≡ true
spelt (made_of _ b a s) = spelt_in_row s

pub body_named : (scope : Scope) → HasNames scope → (name : PlainToken) → is_identifier name.text ≡ true → (sort : Sort) (storage : Storage) (inner : Scope) (ss : List Binding) → with_name scope name sort storage ≡ fine inner ss
    → (parameters : List Parameter) → HasNames (in_body inner parameters).scope
body_named scope names name spelt sort storage inner ss e parameters =
    parameters_keep (with_block inner) (left ss (subst (Quietly HasNames) e (name_declared scope names name spelt sort storage))) 0 parameters
  where
    left : (ks : List Binding) → Quietly HasNames (fine inner ks) → HasNames inner
    left [] h = h
    left (j ∷ ks) h = absurd h
