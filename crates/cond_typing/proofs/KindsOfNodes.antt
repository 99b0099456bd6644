-- What the kind of a node decides.
use Rattle.std.proofs.Common.{◌≡◌, Bool, true, false, refl}
use Rattle.c_tree.specs.declared.kinds.Kind.{Kind}
use Rattle.c_tree.specs.declared.kinds.Kind.TheVariants as k
use Rattle.c_tree.specs.Trees.{PlainTrees}
use Rattle.expression_types.specs.Known.{Known}
use Rattle.expression_types.specs.Reading.{Parts, node_read, expression_of, with_operand, with_node}
use Rattle.cond_typing.specs.declared.roles.Role.{Role}
use Rattle.cond_typing.specs.declared.roles.Role.TheVariants.{Arguments, Words, Nothing, Operand}
use Rattle.cond_typing.specs.Roles.{role_of, is_texts}

abbrev pub PlaysRole : Kind → Role → Type 0
PlaysRole kind Arguments = kind ≡ k.Arguments
PlaysRole kind Words = kind ≡ k.Specifiers
PlaysRole kind Nothing = kind ≡ k.Absent
PlaysRole kind Operand = (known : Known) (parts : PlainTrees) (inner p : Parts) → with_node known kind parts inner p ≡ with_operand (expression_of known kind parts inner) p

pub plays_role : (kind : Kind) → PlaysRole kind (role_of kind)
plays_role k.Arguments = refl
plays_role k.Specifiers = refl
plays_role k.Absent = refl
plays_role kind = λ known parts inner p. refl

abbrev pub ToldBy : Kind → Bool → Type 0
ToldBy kind true = kind ≡ k.Texts
ToldBy kind false = (known : Known) (parts : PlainTrees) (p : Parts) → node_read known kind p ≡ expression_of known kind parts p

pub told_by : (kind : Kind) → ToldBy kind (is_texts kind)
told_by k.Texts = refl
told_by kind = λ known parts p. refl
