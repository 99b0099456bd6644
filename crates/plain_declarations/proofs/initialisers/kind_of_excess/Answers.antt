use Rattle.std.proofs.Common.{◌≡◌, List, ap, sym, ◌∙◌}
use Rattle.c_text.specs.Token.{plain_token}
use Rattle.c_tree.specs.declared.kinds.Kind.{Kind}
use Rattle.c_tree.specs.declared.kinds.Kind.TheVariants as k
use Rattle.c_tree.specs.declared.trees.Tree.{Tree}
use Rattle.c_tree.specs.Trees.{node, plain_tree, plain_trees}
use Rattle.c_tree.specs.TreeLaws.{plain_tree-Node}
use Rattle.plain_scope.specs.PlainScope.{plain_scope}
use Rattle.plain_declarations.specs.Entries.{braces_judged}
use Rattle.plain_declarations.proofs.initialisers.kind_of_excess.Goals as goal

pub returns-in-Braces : goal.returns-in-Braces
returns-in-Braces c =
    let shape : plain_tree c.args.tree.now ≡ node k.Braces (plain_trees c.deref.result.now)
    = ap plain_tree c.in-Node.is ∙ plain_tree-Node c.in-Node.kind c.in-Node.parts ∙ ap (λ (parts : List Tree). node c.in-Node.kind (plain_trees parts)) (sym c.deref.ensures.value) ∙ ap (λ (kind : Kind). node kind (plain_trees c.deref.result.now)) c.in-Braces.is in
    braces_judged (plain_scope c.args.scope.now) (plain_token c.args.first.now) (plain_trees c.deref.result.now) (plain_tree c.args.tree.now) c.kind_of_braces.result shape c.kind_of_braces.ensures
