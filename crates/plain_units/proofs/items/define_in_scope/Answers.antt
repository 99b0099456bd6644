use Rattle.std.proofs.lemmas.Result.{MatchResult-weaker}
use Rattle.c_tree.specs.Trees.{PlainTrees, plain_trees}
use Rattle.core_meaning.specs.UnitNames.{UnitState}
use Rattle.plain_scope.specs.PlainScope.{plain_scope, uses_of}
use Rattle.plain_objects.specs.PlainStates.{plain_state}
use Rattle.plain_structs.specs.Structs.{struct_gives, struct_refused}
use Rattle.plain_units.proofs.items.define_in_scope.Goals as goal

pub returns : goal.returns
returns c = λ globals.
    let unit : UnitState = plain_state globals c.args.unit.now in
    let words : PlainTrees = plain_trees c.args.words.now in
    let list : PlainTrees = plain_trees c.args.list.now in
    MatchResult-weaker c.define_struct.result c.define_struct.ensures
    (λ u g. struct_gives unit words list (plain_scope c.define_struct.new.scope) (uses_of c.args.used.now) (uses_of c.define_struct.new.used) g)
    (λ error r. struct_refused unit words list error r)
