use Rattle.std.proofs.Common.{◌≡◌, Some, sym, subst}
use Rattle.std.specs.Prelude.{slice_get}
use Rattle.cond_initialisers.specs.Rows.{plain_types}
use Rattle.cond_initialisers.proofs.Numbered.{longer_extends}
use Rattle.cond_initialisers.proofs.places.number_of.Goals as goal

pub returns-clause-extends : goal.returns-clause-extends
returns-clause-extends c = λ n ty e.
    subst (λ l. slice_get (plain_types l) n ≡ Some ty) (sym c.in_ok-push.ensures.items) (longer_extends c.args.types.now.items c.in_ok-copied.field-0 n ty e)
