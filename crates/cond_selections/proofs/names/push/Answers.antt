use Rattle.std.proofs.Common.{◌++◌, sym, ap, ◌∙◌}
use Rattle.std.specs.Prelude.{Some}
use Rattle.std.proofs.lemmas.List.{append-nil}
use Rattle.c_text.specs.Token.{plain_token}
use Rattle.conditional.specs.Entries.{seen, listed, under}
use Rattle.cond_selections.specs.Selected.{plain_selection}
use Rattle.cond_selections.specs.Progress.{one_selection}
use Rattle.cond_selections.proofs.names.push.Goals as goal

pub returns-then-is_never : goal.returns-then-is_never
returns-then-is_never c = λ on.
    sym (append-nil (seen on (listed plain_selection c.args.log.now)))
    ∙ ap (λ b. seen on (listed plain_selection c.args.log.now) ++ under b (one_selection (plain_token c.args.selection.name) (Some c.args.selection.structure))) (sym (c.is_never.ensures c.if-is_never.true on))
