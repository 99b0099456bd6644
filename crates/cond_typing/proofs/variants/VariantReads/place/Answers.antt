use Rattle.cond_formula.specs.Conditions.{condition_of}
use Rattle.cond_typing.proofs.VariantsPlaced.{read_placed}
use Rattle.cond_typing.proofs.variants.VariantReads.place.Goals as goal

pub returns : goal.returns
returns c = λ on callable r x held shows is before.
    read_placed on callable r x held (condition_of c.args.when.now) c.args.read c.args.self.now (record { outcomes = c.place_under.new.self; callees = c.append_under.new.self })
    (c.in_ok-place_under.ensures on) (c.in_ok-append_under.ensures on) shows is before
