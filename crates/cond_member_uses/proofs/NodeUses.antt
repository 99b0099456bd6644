-- The uses in a node, by what its kind says.
use Rattle.std.proofs.Common.{◌≡◌, ℕ, List, [], refl}
use Rattle.c_types.specs.Types.{PlainType}
use Rattle.c_tree.specs.declared.kinds.Kind.{Kind}
use Rattle.c_tree.specs.declared.kinds.Kind.TheVariants as k
use Rattle.c_tree.specs.Trees.{PlainTrees, node}
use Rattle.core_meaning.specs.Expressions.{judged}
use Rattle.statement_readings.specs.Walks.{State}
use Rattle.member_uses.specs.Uses.{Use, uses_in}
use Rattle.member_uses.specs.Walks.{uses_in_node}
use Rattle.cond_statements.specs.declared.roles.Role.{Role}
use Rattle.cond_statements.specs.declared.roles.Role.TheVariants.{LeftOut, Declaration, Scoped, Parts, Jump, Expression}
use Rattle.cond_statements.specs.Roles.{role_of}
use Rattle.cond_statements.proofs.KindsOfNodes.{opened}

-- whatever its parts use, these are the uses in a node of this kind
abbrev Uses : Kind → (((ℕ → ℕ) → PlainTrees → (State → List Use) → State → List Use)) → Type 0
Uses kind is =
    (by : ℕ → ℕ) (result : PlainType) (around : Kind) (parts : PlainTrees) (inner : State → List Use) (s : State) → uses_in_node by result around kind parts inner s ≡ is by parts inner s

abbrev pub UsesAs : Kind → Role → Type 0
UsesAs kind LeftOut = Uses kind (λ by parts inner s. [])
UsesAs kind Declaration = Unit {0}
UsesAs kind Scoped = Uses kind (λ by parts inner s. inner (opened kind s))
UsesAs kind Parts = Uses kind (λ by parts inner s. inner s)
UsesAs kind Jump = Uses kind (λ by parts inner s. [])
UsesAs kind Expression = Uses kind (λ by parts inner s. uses_in by (node kind parts) (judged s.scope (node kind parts)))

pub uses_by_role : (kind : Kind) → UsesAs kind (role_of kind)
uses_by_role k.Absent = λ by result around parts inner s. refl
uses_by_role k.LocalDeclaration = tt
uses_by_role k.Block = λ by result around parts inner s. refl
uses_by_role k.For = λ by result around parts inner s. refl
uses_by_role k.Items = λ by result around parts inner s. refl
uses_by_role k.ExpressionStatement = λ by result around parts inner s. refl
uses_by_role k.If = λ by result around parts inner s. refl
uses_by_role k.Else = λ by result around parts inner s. refl
uses_by_role k.While = λ by result around parts inner s. refl
uses_by_role k.Do = λ by result around parts inner s. refl
uses_by_role k.ForStart = λ by result around parts inner s. refl
uses_by_role k.Return = λ by result around parts inner s. refl
uses_by_role k.Jump = λ by result around parts inner s. refl
uses_by_role _ = λ by result around parts inner s. refl
