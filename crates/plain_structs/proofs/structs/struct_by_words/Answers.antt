use Rattle.std.proofs.Common.{ℕ, true, subst}
use Rattle.std.proofs.lemmas.Result.{MatchResult-weaker}
use Rattle.c_tree.specs.Trees.{PlainTrees, plain_trees}
use Rattle.core_meaning.specs.Checking.{Checked}
use Rattle.core_meaning.specs.Declarations.{Based, based}
use Rattle.core_meaning.specs.Entities.{Scope}
use Rattle.core_meaning.specs.UnitNames.{number_of_struct}
use Rattle.plain_scope.specs.PlainScope.{plain_scope, uses_of}
use Rattle.plain_scope.specs.Judgements.{Judges}
use Rattle.plain_declarators.specs.Bound.{base_gives, base_refused}
use Rattle.plain_declarators.specs.PlainBased.{plain_based}
use Rattle.plain_structs.specs.Structs.{struct_members}
use Rattle.plain_structs.proofs.structs.struct_by_words.Goals as goal

pub returns : goal.returns
returns c =
    let list : PlainTrees = plain_trees c.args.list.now in
    let words : Checked Based = based true (plain_scope c.args.scope.now) (plain_trees c.args.words.now) in
    let base : Based = plain_based c.declared_base.new.scope c.in_ok-base.base in
    let next : Based → Checked Scope = λ b. struct_members b.scope (number_of_struct b.ty) list in
    let behind : Scope = plain_scope c.struct_members.new.scope in
    let judged : Judges (next base) (λ (u : Unit {0}). behind) c.args.used.now c.struct_members.new.used c.struct_members.result =
    subst (λ (number : ℕ). Judges (struct_members base.scope number list) (λ (u : Unit {0}). behind) c.args.used.now c.struct_members.new.used c.struct_members.result) c.number_of_struct.ensures c.struct_members.ensures in
    MatchResult-weaker c.struct_members.result judged
    (λ u g. base_gives words next base behind (uses_of c.args.used.now) (uses_of c.struct_members.new.used) c.in_ok-base.ensures g)
    (λ error r. base_refused words next base error c.in_ok-base.ensures r)
