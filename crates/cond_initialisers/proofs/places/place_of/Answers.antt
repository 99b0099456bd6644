use Rattle.std.proofs.Common.{Some, sym, ap, ◌∙◌}
use Rattle.c_types.specs.Types.{plain_type}
use Rattle.plain_scope.proofs.SameTypes.{same_is}
use Rattle.cond_initialisers.proofs.Numbered.{type_at}
use Rattle.cond_initialisers.proofs.places.place_of.Goals as goal

pub returns-then-same_type : goal.returns-then-same_type
returns-then-same_type c =
    type_at c.args.types.now c.loop-n.n c.index-types-n.result c.loop-n-test.true c.index-types-n.is
    ∙ ap Some (same_is (plain_type c.index-types-n.result) (plain_type c.args.ty.now) (sym c.same_type.ensures ∙ c.if-same_type.true))
