use Rattle.std.proofs.Common.{true, refl}
use Rattle.std.proofs.lemmas.Result.{MatchResult-weaker}
use Rattle.c_tree.specs.Trees.{PlainTrees, plain_trees}
use Rattle.core_meaning.specs.Checking.{Checked, ◌>>=◌, give}
use Rattle.core_meaning.specs.Declarations.{Based, based}
use Rattle.core_meaning.specs.UnitNames.{Members, AllMembers, members_from}
use Rattle.plain_scope.specs.PlainScope.{plain_scope, uses_of}
use Rattle.plain_scope.specs.JudgementLaws.{refused_first}
use Rattle.plain_declarators.specs.Bound.{base_gives, base_refused}
use Rattle.plain_declarators.specs.PlainBased.{plain_based}
use Rattle.plain_declarators.specs.Sequences.{gives_as}
use Rattle.plain_structs.specs.PlainMembers.{plain_members}
use Rattle.plain_structs.specs.Structs.{all_as}
use Rattle.plain_structs.proofs.structs.members_by.Goals as goal

pub returns : goal.returns
returns c =
    let known : Members = plain_members c.args.known.now in
    let list : PlainTrees = plain_trees c.args.list.now in
    let words : Checked Based = based true (plain_scope c.args.scope.now) (plain_trees c.args.words.now) in
    let base : Based = plain_based c.declared_base.new.scope c.in_ok-base.base in
    let last : Based → Members → Checked AllMembers = λ b first. give (all_as b.scope first) in
    let from : Based → Checked Members = λ b. members_from b.scope c.args.number known b.ty list in
    let behind : Members = plain_members c.members_from.new.known in
    MatchResult-weaker c.members_from.result c.members_from.ensures
    (λ u g. base_gives words (λ b. from b >>= last b) base (all_as base.scope behind) (uses_of c.args.used.now) (uses_of c.members_from.new.used) c.in_ok-base.ensures
    (gives_as (from base) (last base) behind (all_as base.scope behind) (uses_of c.args.used.now) (uses_of c.members_from.new.used) g refl))
    (λ error r. base_refused words (λ b. from b >>= last b) base error c.in_ok-base.ensures (refused_first (from base) (last base) error r))
