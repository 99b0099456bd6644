use Rattle.std.proofs.lemmas.Result.{MatchResult-weaker}
use Rattle.std.specs.Prelude.{None}
use Rattle.c_text.specs.Token.{PlainToken, plain_token}
use Rattle.c_types.specs.Types.{PlainType, plain_type}
use Rattle.c_tree.specs.Trees.{plain_trees}
use Rattle.core_meaning.specs.Checking.{Checked}
use Rattle.core_meaning.specs.Declarations.{object_type}
use Rattle.core_meaning.specs.UnitNames.{Members}
use Rattle.plain_scope.specs.PlainScope.{plain_scope, uses_of}
use Rattle.plain_declarators.specs.Sequences.{gives_as, refused_behind}
use Rattle.plain_structs.specs.PlainMembers.{plain_members}
use Rattle.plain_structs.specs.Members.{complete_member}
use Rattle.plain_structs.proofs.members.typed_member.Goals as goal

pub returns : goal.returns
returns c =
    let scope = plain_scope c.args.scope.now in
    let known : Members = plain_members c.args.known.now in
    let name : PlainToken = plain_token c.args.name.now in
    let whole : PlainType = plain_type c.in_ok-ty.ty in
    let typed : Checked PlainType = object_type scope (plain_type c.args.base.now) c.args.kind (plain_trees c.args.parts.now) name None in
    let next : PlainType → Checked Members = λ ty. complete_member scope known ty name in
    MatchResult-weaker c.complete_member.result c.complete_member.ensures
    (λ u is. gives_as typed next whole (plain_members c.complete_member.new.known) (uses_of c.args.used.now) (uses_of c.object_type.new.used) c.in_ok-ty.ensures is)
    (λ error r. refused_behind typed next whole (uses_of c.args.used.now) (uses_of c.object_type.new.used) error c.in_ok-ty.ensures r)
