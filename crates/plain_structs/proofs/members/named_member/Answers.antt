use Rattle.std.proofs.Common.{◌≡◌, refl, sym, ◌∙◌}
use Rattle.std.proofs.lemmas.Result.{MatchResult-weaker}
use Rattle.std.specs.Prelude.{Some}
use Rattle.c_text.specs.Token.{PlainToken, plain_token}
use Rattle.c_types.specs.Types.{PlainType, plain_type}
use Rattle.c_tree.specs.Trees.{PlainTrees, plain_trees}
use Rattle.core_meaning.specs.Declarations.{name_in}
use Rattle.core_meaning.specs.UnitNames.{Members}
use Rattle.plain_scope.specs.PlainScope.{plain_scope, uses_of}
use Rattle.plain_structs.specs.PlainMembers.{plain_members}
use Rattle.plain_structs.specs.Members.{named_gives, named_refused}
use Rattle.plain_structs.proofs.members.named_member.Goals as goal

pub returns-in-Some : goal.returns-in-Some
returns-in-Some c =
    let scope = plain_scope c.args.scope.now in
    let known : Members = plain_members c.args.known.now in
    let ty : PlainType = plain_type c.args.base.now in
    let parts : PlainTrees = plain_trees c.args.parts.now in
    let name : PlainToken = plain_token c.in-Some.name.now in
    let named : name_in parts ≡ Some name = sym c.name_in.ensures ∙ rw c.in-Some.is refl in
    MatchResult-weaker c.declared_member.result c.declared_member.ensures
    (λ u g. named_gives scope c.args.number known ty c.args.kind parts name (plain_members c.declared_member.new.known) (uses_of c.args.used.now) (uses_of c.declared_member.new.used) named g)
    (λ error r. named_refused scope c.args.number known ty c.args.kind parts name error named r)
