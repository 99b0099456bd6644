-- What the kind of a node tells a reader of statements.
use Rattle.c_tree.specs.declared.kinds.Kind.{Kind}
use Rattle.c_tree.specs.declared.kinds.Kind.TheVariants as k
use Rattle.cond_statements.specs.declared.roles.Role.{Role}
use Rattle.cond_statements.specs.declared.roles.Role.TheVariants.{LeftOut, Declaration, Scoped, Parts, Jump, Expression}

abbrev pub role_of : Kind → Role
role_of k.Absent = LeftOut
role_of k.LocalDeclaration = Declaration
role_of k.Block = Scoped
role_of k.For = Scoped
role_of k.Items = Parts
role_of k.ExpressionStatement = Parts
role_of k.If = Parts
role_of k.Else = Parts
role_of k.While = Parts
role_of k.Do = Parts
role_of k.ForStart = Parts
role_of k.Return = Parts
role_of k.Jump = Jump
role_of kind = Expression
