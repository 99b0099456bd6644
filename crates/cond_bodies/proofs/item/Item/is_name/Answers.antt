use Rattle.std.proofs.Common.{sym, ap, ◌∙◌}
use Rattle.c_text.specs.Macros as spec
use Rattle.cond_bodies.specs.CondItems.{item_at}
use Rattle.cond_bodies.proofs.SpellingLemmas.{item_kind, not_kept}
use Rattle.cond_bodies.proofs.item.Item.is_name.Goals as goal

pub returns : goal.returns
unfolding item_at
returns c = λ on.
    not_kept (spec.is_name_kind (item_at on c.args.self.now).token.kind) c.is_name_kind.result c.args.self.now.kept c.if-self.false
    (c.is_name_kind.ensures ∙ ap spec.is_name_kind (sym (item_kind on c.args.self.now)))
