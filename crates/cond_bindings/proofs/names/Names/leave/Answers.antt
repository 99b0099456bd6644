use Rattle.std.proofs.Common.{List, length, map, ap, ◌∙◌}
use Rattle.cond_bindings.specs.declared.locals.LocalName.{LocalName}
use Rattle.cond_bindings.specs.Names.{BlockName}
use Rattle.cond_bindings.specs.Places.{latest_first}
use Rattle.cond_bindings.specs.PlainNames.{block_name, plain_names}
use Rattle.cond_bindings.proofs.BelowLemmas.{locals_left, left_outer}
use Rattle.cond_bindings.proofs.names.Names.leave.Goals as goal

pub invariant_of-self : goal.invariant_of-self
invariant_of-self c =
    let s = c.args.self.now in
    record {
      file_below = s.file_below;
      tags_below = s.tags_below;
      blocks_below = rw c.truncate.ensures.items (locals_left (length s.bindings.declarations.items) c.args.kept s.blocks.items s.blocks_below);
      identifiers_below = s.identifiers_below;
    }

pub returns : goal.returns
returns c =
    λ more outer count is.
    let s = c.args.self.now in
    let ds = s.bindings.declarations.items in
    ap (λ (ls : List LocalName). record (plain_names s) { blocks = map (block_name ds) (latest_first ls) }) c.truncate.ensures.items
    ∙ ap (λ (bs : List BlockName). record (plain_names s) { blocks = bs }) (left_outer (block_name ds) c.args.kept s.blocks.items more outer count is)
