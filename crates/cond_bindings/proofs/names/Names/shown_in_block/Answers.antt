use Rattle.std.proofs.Common.{[], ◌∷◌, ap, subst, sym}
use Rattle.cond_formula.specs.Conditions.{conditions_of, condition_of, all_true}
use Rattle.cond_bindings.specs.Bindings.{Visible}
use Rattle.cond_bindings.specs.Names.{BlockName, PlainNames, visible_in, TellsUndeclared}
use Rattle.cond_bindings.specs.PlainNames.{plain_names}
use Rattle.cond_bindings.proofs.StepLemmas.{block_steps}
use Rattle.cond_bindings.proofs.names.Names.shown_in_block.Goals as goal

pub returns-clause-seen : goal.returns-clause-seen
returns-clause-seen c =
    λ on coming.
    let v : Visible = record { when = condition_of c.in_ok-when.when; number = c.args.occurrence.number } in
    rw c.in_ok-show_block.ensures (block_steps on c.args.occurrence.name.now v (all_true on (conditions_of c.args.occurrence.path.now)) coming (plain_names c.args.self.now) (c.in_ok-when.ensures on))

pub returns-clause-grows : goal.returns-clause-grows
returns-clause-grows c =
    let name = c.args.occurrence.name.now in
    let v : Visible = record { when = condition_of c.in_ok-when.when; number = c.args.occurrence.number } in
    let b : BlockName = record { name = name; visible = v ∷ visible_in (plain_names c.args.self.now).blocks name } in
    record { more = b ∷ []; blocks_are = ap (λ (n : PlainNames). n.blocks) c.in_ok-show_block.ensures }

pub returns-clause-tells : goal.returns-clause-tells
returns-clause-tells c = λ on told. subst (TellsUndeclared on) (sym c.in_ok-show_block.ensures) told
