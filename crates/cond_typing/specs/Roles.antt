-- What nodes are to the nodes that they are parts of.
use Rattle.std.specs.Prelude.{Bool, true, false}
use Rattle.c_tree.specs.declared.kinds.Kind.{Kind}
use Rattle.c_tree.specs.declared.kinds.Kind.TheVariants as k
use Rattle.cond_typing.specs.declared.roles.Role.{Role}
use Rattle.cond_typing.specs.declared.roles.Role.TheVariants.{Arguments, Words, Nothing, Operand}

abbrev pub role_of : Kind → Role
role_of k.Arguments = Arguments
role_of k.Specifiers = Words
role_of k.Absent = Nothing
role_of kind = Operand

abbrev pub is_texts : Kind → Bool
is_texts k.Texts = true
is_texts kind = false
