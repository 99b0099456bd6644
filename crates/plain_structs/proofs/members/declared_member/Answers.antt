use Rattle.std.proofs.Common.{◌≡◌, ℕ, List, length, not, is_some, true, sym, subst, ◌∙◌}
use Rattle.std.proofs.lemmas.Result.{MatchResult-weaker}
use Rattle.c_text.specs.Token.{PlainToken, plain_token}
use Rattle.c_types.specs.Types.{plain_type}
use Rattle.c_tree.specs.Trees.{plain_trees}
use Rattle.core_meaning.specs.declared.refusals.TypeKind.TheVariants.{Redeclared}
use Rattle.core_meaning.specs.Checking.{Checked, Entity, member_entity, declares, ◌>>=◌}
use Rattle.core_meaning.specs.UnitNames.{Members}
use Rattle.plain_scope.specs.PlainScope.{plain_scope, uses_of}
use Rattle.plain_declarators.specs.Sequences.{passed_gives, passed_refused}
use Rattle.plain_structs.specs.PlainMembers.{plain_members}
use Rattle.plain_structs.specs.Members.{typed_member, member_bound, member_refused}
use Rattle.plain_structs.proofs.members.declared_member.Goals as goal

pub returns : goal.returns
returns c =
    let scope = plain_scope c.args.scope.now in
    let known : Members = plain_members c.args.known.now in
    let name : PlainToken = plain_token c.args.name.now in
    let entity : Entity = member_entity c.args.number (length known.members) in
    let typed : Unit {0} → Checked Members = λ bound. typed_member scope known (plain_type c.args.base.now) c.args.kind (plain_trees c.args.parts.now) name in
    let next : Unit {0} → Checked Members = λ new. declares entity >>= typed in
    let new : not (is_some (known.numbers name.text)) ≡ true =
    subst (λ (text : List ℕ). not (is_some (known.numbers text)) ≡ true) c.as_slice.ensures.value (sym c.is_new_member.ensures ∙ c.in_ok-unless.ensures) in
    MatchResult-weaker c.typed_member.result c.typed_member.ensures
    (λ u g. passed_gives (not (is_some (known.numbers name.text))) Redeclared name next (plain_members c.typed_member.new.known) (uses_of c.args.used.now) (uses_of c.typed_member.new.used) new
    (member_bound entity typed (plain_members c.typed_member.new.known) (uses_of c.args.used.now) (uses_of c.typed_member.new.used) g))
    (λ error r. passed_refused (not (is_some (known.numbers name.text))) Redeclared name next error new (member_refused entity typed error r))
