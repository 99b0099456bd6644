-- What nodes are to an initialiser.
use Rattle.c_tree.specs.declared.kinds.Kind.{Kind}
use Rattle.c_tree.specs.declared.kinds.Kind.TheVariants as k
use Rattle.cond_initialisers.specs.declared.shapes.Shape.{Shape}
use Rattle.cond_initialisers.specs.declared.shapes.Shape.TheVariants.{Braces, List, Texts, Expression}

abbrev pub shape_of : Kind → Shape
shape_of k.Braces = Braces
shape_of k.Initialisers = List
shape_of k.Texts = Texts
shape_of kind = Expression
