use Rattle.std.proofs.Common.{◌∙◌, sym}
use Rattle.std.specs.Str.{bytes_eq}
use Rattle.link_faults.proofs.Walks.{any_map}
use Rattle.link_faults.proofs.all_names.Names.contains.Goals as goal

pub returns : goal.returns
returns c = rw (← c.self.view_is) (c.contains.ensures ∙ sym (any_map (bytes_eq c.args.name.now) (λ v. v.items) c.self.inside.names.keys))
