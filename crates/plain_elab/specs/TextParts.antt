-- The nodes of trees that are texts.
use Rattle.std.specs.Prelude.{Bool, true, false}
use Rattle.c_tree.specs.declared.kinds.Kind.{Kind}
use Rattle.c_tree.specs.declared.kinds.Kind.TheVariants as k

abbrev pub is_texts : Kind → Bool
is_texts k.Texts = true
is_texts other = false
