use Rattle.std.proofs.lemmas.Result.{MatchResult-weaker}
use Rattle.c_tree.specs.Trees.{PlainTree, PlainTrees, plain_tree, plain_trees}
use Rattle.core_meaning.specs.Entities.{Scope}
use Rattle.core_meaning.specs.UnitNames.{Members}
use Rattle.plain_scope.specs.PlainScope.{plain_scope, uses_of}
use Rattle.plain_structs.specs.PlainMembers.{plain_members}
use Rattle.plain_structs.specs.Structs.{all_as, declaration_gives, declaration_refused}
use Rattle.plain_structs.proofs.structs.member_declaration.Goals as goal

pub returns : goal.returns
returns c =
    let scope : Scope = plain_scope c.args.scope.now in
    let known : Members = plain_members c.args.known.now in
    let tree : PlainTree = plain_tree c.args.tree.now in
    let naming : PlainTree = plain_tree c.in_ok-words.words.now in
    let listing : PlainTree = plain_tree c.in_ok-words.list.now in
    let end : PlainTree = plain_tree c.in_ok-words.field-0-2.now in
    let parts : PlainTrees = plain_trees c.in_ok-parts.parts.now in
    let words : PlainTrees = plain_trees c.in_ok-words-2.words.now in
    let list : PlainTrees = plain_trees c.in_ok-list.list.now in
    MatchResult-weaker c.members_by.result c.members_by.ensures
    (λ u g. declaration_gives scope c.args.number known tree naming listing end parts words list (all_as (plain_scope c.members_by.new.scope) (plain_members c.members_by.new.known)) (uses_of c.args.used.now) (uses_of c.members_by.new.used) c.in_ok-parts.ensures c.in_ok-words.ensures c.in_ok-words-2.ensures c.in_ok-list.ensures g)
    (λ error r. declaration_refused scope c.args.number known tree naming listing end parts words list error c.in_ok-parts.ensures c.in_ok-words.ensures c.in_ok-words-2.ensures c.in_ok-list.ensures r)
