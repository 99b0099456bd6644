use Rattle.std.proofs.Common.{◌≡◌, map, arith, rules, ap, sym, ◌∙◌}
use Rattle.c_text.specs.Token.{plain_token}
use Rattle.c_types.specs.Types.{plain_type}
use Rattle.c_tree.specs.declared.kinds.Kind.TheVariants as k
use Rattle.c_tree.specs.Trees.{leaf, node, plain_tree, plain_trees}
use Rattle.c_tree.specs.TreeLaws.{plain_tree-Leaf, plain_tree-Node}
use Rattle.core_meaning.specs.Plain.{path_from}
use Rattle.core_meaning.specs.Constancy.{initial, initial_entries}
use Rattle.plain_scope.specs.PlainScope.{plain_scope, uses_of}
use Rattle.plain_scope.specs.Judgements.{RefusedAs}
use Rattle.plain_declarations.specs.PlainDeclared.{plain_initial}
use Rattle.plain_declarations.specs.Entries.{globals_if, braces_give, braces_refused, node_gives, node_refused, whole_gives, is_listed, other_kind, entries_continue, entries_refused}
use Rattle.plain_declarations.proofs.initialisers.+initialise.Goals as goal

pub braced_initial-returns-in_err-found : goal.braced_initial-returns-in_err-found
braced_initial-returns-in_err-found t c =
    let node_is : plain_tree c.second-item.result ≡ node c.in-Node.field-0 (plain_trees c.deref.result.now) = ap plain_tree c.in-Node.is ∙ plain_tree-Node c.in-Node.field-0 c.in-Node.list ∙ ap (λ l. node c.in-Node.field-0 (plain_trees l)) (sym c.deref.ensures.value) in
    let outer : RefusedAs (initial (plain_scope c.args.scope.now) (globals_if c.args.constant) (plain_type c.args.ty.now) (path_from c.args.path.now) (node k.Braces (plain_trees c.args.parts.now)) (plain_token c.args.behind.now)) c.in_err-found.field-0.0
    = braces_refused (plain_scope c.args.scope.now) (globals_if c.args.constant) (plain_type c.args.ty.now) (path_from c.args.path.now) c.args.parts.now c.second-item.result c.in-Node.field-0 (plain_trees c.deref.result.now) (plain_token c.args.behind.now) c.in_err-found.field-0.0 c.in-len3.len_at_least c.in-len3.len_below c.second-item.is node_is c.in_err-found.ensures in
    search (rules, outer)

pub braced_initial-returns : goal.braced_initial-returns
braced_initial-returns t c =
    let node_is : plain_tree c.second-item.result ≡ node c.in-Node.field-0 (plain_trees c.deref.result.now) = ap plain_tree c.in-Node.is ∙ plain_tree-Node c.in-Node.field-0 c.in-Node.list ∙ ap (λ l. node c.in-Node.field-0 (plain_trees l)) (sym c.deref.ensures.value) in
    braces_give (plain_scope c.args.scope.now) (globals_if c.args.constant) (plain_type c.args.ty.now) (path_from c.args.path.now) c.args.parts.now c.second-item.result c.in-Node.field-0 (plain_trees c.deref.result.now) (plain_token c.args.behind.now) (map plain_initial c.in_ok-found.found.items) (uses_of c.args.used.now) (uses_of c.entries.new.used) c.in-len3.len_at_least c.in-len3.len_below c.second-item.is node_is c.in_ok-found.ensures

pub entries-returns-in_err-parts : goal.entries-returns-in_err-parts
entries-returns-in_err-parts t c =
    let outer : RefusedAs (initial_entries (plain_scope c.args.scope.now) (globals_if c.args.constant) (plain_type c.args.ty.now) (path_from c.args.path.now) 0 (plain_trees c.args.list.now) (plain_token c.args.behind.now)) c.in_err-parts.field-0.0
    = entries_refused (plain_scope c.args.scope.now) (globals_if c.args.constant) (plain_type c.args.ty.now) (path_from c.args.path.now) c.loop-number.number c.args.list.now c.index-list-number.result (plain_token c.args.behind.now) (initial_entries (plain_scope c.args.scope.now) (globals_if c.args.constant) (plain_type c.args.ty.now) (path_from c.args.path.now) 0 (plain_trees c.args.list.now) (plain_token c.args.behind.now)) (map plain_initial c.loop-number.found.items) (uses_of c.args.used.now) (uses_of c.loop-number.used) c.in_err-parts.field-0.0 (omega (arith, c.loop-number.invariant.all)) c.index-list-number.is c.loop-number.invariant.so_far c.in_err-parts.ensures in
    search (rules, outer)

pub entries-loop-number-preserved : goal.entries-loop-number-preserved
entries-loop-number-preserved t c =
    record {
      all = c.loop-number.invariant.all;
      so_far = entries_continue (plain_scope c.args.scope.now) (globals_if c.args.constant) (plain_type c.args.ty.now) (path_from c.args.path.now) c.loop-number.number c.args.list.now c.index-list-number.result (plain_token c.args.behind.now) (initial_entries (plain_scope c.args.scope.now) (globals_if c.args.constant) (plain_type c.args.ty.now) (path_from c.args.path.now) 0 (plain_trees c.args.list.now) (plain_token c.args.behind.now)) (map plain_initial c.loop-number.found.items) (map plain_initial c.in_ok-parts.parts.items) _ (uses_of c.args.used.now) (uses_of c.loop-number.used) (uses_of c.entry.new.used) (omega (arith, c.loop-number.invariant.all)) c.index-list-number.is c.loop-number.invariant.so_far c.in_ok-parts.ensures (search rules);
    }

pub initialised-returns-in_err-parts-in-Braces : goal.initialised-returns-in_err-parts-in-Braces
initialised-returns-in_err-parts-in-Braces t c =
    let node_is : plain_tree c.args.tree.now ≡ node c.in-Node.kind (plain_trees c.deref.result.now) = ap plain_tree c.in-Node.is ∙ plain_tree-Node c.in-Node.kind c.in-Node.texts ∙ ap (λ l. node c.in-Node.kind (plain_trees l)) (sym c.deref.ensures.value) in
    let outer : RefusedAs (initial (plain_scope c.args.scope.now) (globals_if c.args.constant) (plain_type c.args.ty.now) (path_from c.args.path.now) (plain_tree c.args.tree.now) (plain_token c.args.behind.now)) c.in_err-parts-in-Braces.field-0.0
    = node_refused (plain_scope c.args.scope.now) (globals_if c.args.constant) (plain_type c.args.ty.now) (path_from c.args.path.now) (plain_tree c.args.tree.now) c.in-Node.kind k.Braces (plain_trees c.deref.result.now) (plain_token c.args.behind.now) c.in_err-parts-in-Braces.field-0.0 node_is c.in-Braces.is c.in_err-parts-in-Braces.ensures in
    search (rules, outer)

pub initialised-returns-in_ok-parts-in-Leaf : goal.initialised-returns-in_ok-parts-in-Leaf
initialised-returns-in_ok-parts-in-Leaf t c =
    let leaf_is : plain_tree c.args.tree.now ≡ leaf (plain_token c.in-Leaf.field-0) = ap plain_tree c.in-Leaf.is ∙ plain_tree-Leaf c.in-Leaf.field-0 in
    whole_gives (plain_scope c.args.scope.now) (globals_if c.args.constant) (plain_type c.args.ty.now) (path_from c.args.path.now) (plain_tree c.args.tree.now) (plain_token c.first_token-first.result.now) (plain_token c.args.behind.now) (map plain_initial c.in_ok-parts-in-Leaf.parts.items) (uses_of c.args.used.now) (uses_of c.whole_initial.new.used) (ap is_listed leaf_is) c.first_token-first.ensures c.in_ok-parts-in-Leaf.ensures

pub initialised-returns-in_ok-parts-in-Braces : goal.initialised-returns-in_ok-parts-in-Braces
initialised-returns-in_ok-parts-in-Braces t c =
    let node_is : plain_tree c.args.tree.now ≡ node c.in-Node.kind (plain_trees c.deref.result.now) = ap plain_tree c.in-Node.is ∙ plain_tree-Node c.in-Node.kind c.in-Node.texts ∙ ap (λ l. node c.in-Node.kind (plain_trees l)) (sym c.deref.ensures.value) in
    node_gives (plain_scope c.args.scope.now) (globals_if c.args.constant) (plain_type c.args.ty.now) (path_from c.args.path.now) (plain_tree c.args.tree.now) c.in-Node.kind k.Braces (plain_trees c.deref.result.now) (plain_token c.args.behind.now) (map plain_initial c.in_ok-parts-in-Braces.parts.items) (uses_of c.args.used.now) (uses_of c.braced_initial.new.used) node_is c.in-Braces.is c.in_ok-parts-in-Braces.ensures

pub initialised-returns-in_ok-parts-in_default : goal.initialised-returns-in_ok-parts-in_default
initialised-returns-in_ok-parts-in_default t c =
    let node_is : plain_tree c.args.tree.now ≡ node c.in-Node.kind (plain_trees c.in-Node.texts.items) = ap plain_tree c.in-Node.is ∙ plain_tree-Node c.in-Node.kind c.in-Node.texts in
    whole_gives (plain_scope c.args.scope.now) (globals_if c.args.constant) (plain_type c.args.ty.now) (path_from c.args.path.now) (plain_tree c.args.tree.now) (plain_token c.first_token-first.result.now) (plain_token c.args.behind.now) (map plain_initial c.in_ok-parts-in_default.parts.items) (uses_of c.args.used.now) (uses_of c.whole_initial-in_default.new.used) (ap is_listed node_is ∙ other_kind c.in-Node.kind (plain_trees c.in-Node.texts.items) c.in_default.not-Braces c.in_default.not-Texts) c.first_token-first.ensures c.in_ok-parts-in_default.ensures
