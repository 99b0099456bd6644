use Rattle.std.proofs.Common.{[], ◌∷◌, ◌++◌, ap, ◌∙◌}
use Rattle.std.specs.Prelude.{None}
use Rattle.cond_formula.specs.Conditions.{value}
use Rattle.conditional.specs.Entries.{seen, under}
use Rattle.declarator_lists.specs.Entries.{initialised_at, all_initialised_at}
use Rattle.declarator_lists.proofs.Pushing.{pushed}
use Rattle.declarator_lists.proofs.initialised.push_none.Goals as goal

pub returns : goal.returns
returns c = λ on.
    pushed on (initialised_at on) (record { when = c.in_ok-try_clone.field-0; initialiser = None }) c.args.all.now.items c.push.new.self.items c.in_ok-push.ensures.items
    ∙ ap (λ when. seen on (all_initialised_at on c.args.all.now.items) ++ under (value on when) (None ∷ [])) c.in_ok-try_clone.ensures
