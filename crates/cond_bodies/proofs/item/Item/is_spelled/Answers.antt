use Rattle.std.proofs.Common.{List, ℕ, sym, ap, ◌∙◌}
use Rattle.std.specs.Str.{bytes_eq}
use Rattle.cond_bodies.proofs.SpellingLemmas.{item_text}
use Rattle.cond_bodies.proofs.item.Item.is_spelled.Goals as goal

pub returns : goal.returns
returns c = λ on. c.has_text.ensures ∙ ap (λ (t : List ℕ). bytes_eq t c.args.text.now) (sym (item_text on c.args.self.now))
