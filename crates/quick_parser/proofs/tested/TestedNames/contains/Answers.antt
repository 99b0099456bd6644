use Rattle.std.proofs.Common.{◌∙◌, sym}
use Rattle.std.specs.Str.{bytes_eq}
use Rattle.quick_parser.proofs.NameLemmas.{list_any-map}
use Rattle.quick_parser.proofs.tested.TestedNames.contains.Goals as goal

pub returns : goal.returns
returns c =
    rw (← c.self.view_is)
    (c.contains.ensures ∙ sym (list_any-map (bytes_eq c.args.name.now) (λ v. v.items) c.self.inside.names.keys))
