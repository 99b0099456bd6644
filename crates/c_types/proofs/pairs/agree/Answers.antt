use Rattle.c_types.specs.Types.{plain_type}
use Rattle.c_types.proofs.PairLaws.{notes_nothing, notes_structs, notes_never}
use Rattle.c_types.proofs.pairs.agree.Goals as goal

pub returns-in-Nothing : goal.returns-in-Nothing
returns-in-Nothing c =
    notes_nothing (plain_type c.args.a.now) (plain_type c.args.b.now) c.args.found.now.items c.in-Nothing.ensures

pub returns-in_ok-add-in-Structs : goal.returns-in_ok-add-in-Structs
returns-in_ok-add-in-Structs c =
    notes_structs (plain_type c.args.a.now) (plain_type c.args.b.now) c.in-Structs.pair c.args.found.now.items c.add.new.found.items c.in-Structs.ensures c.in_ok-add-in-Structs.ensures

pub returns-in-Never : goal.returns-in-Never
returns-in-Never c =
    notes_never (plain_type c.args.a.now) (plain_type c.args.b.now) c.args.found.now.items c.in-Never.ensures
