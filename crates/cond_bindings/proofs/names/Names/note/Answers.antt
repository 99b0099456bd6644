use Rattle.std.proofs.Common.{List, length, ap, ◌∙◌}
use Rattle.std.specs.Prelude.{is_ok}
use Rattle.std.proofs.lemmas.List.{map_push}
use Rattle.cond_formula.specs.Conditions.{condition_of}
use Rattle.cond_bindings.specs.declared.unit_bindings.Identifier.{Identifier}
use Rattle.cond_bindings.specs.Bindings.{PlainIdentifier, plain_identifier}
use Rattle.cond_bindings.specs.PlainNames.{plain_names, names_of}
use Rattle.name_places.specs.Places.{place_of}
use Rattle.cond_bindings.specs.Places.{latest_first}
use Rattle.cond_bindings.proofs.BelowLemmas.{identifiers_noted_if}
use Rattle.cond_bindings.proofs.names.Names.note.Goals as goal

pub invariant_of-self : goal.invariant_of-self
invariant_of-self c =
    let s = c.args.self.now in
    let i : Identifier = record { number = c.args.number; when = c.args.when; meaning = c.args.meaning } in
    record {
      file_below = s.file_below;
      tags_below = s.tags_below;
      blocks_below = s.blocks_below;
      identifiers_below = rw c.push.ensures.items (identifiers_noted_if (length s.bindings.declarations.items) (is_ok c.push.result) s.bindings.identifiers.items i s.identifiers_below c.requires);
    }

pub returns : goal.returns
returns c =
    let s = c.args.self.now in
    let ds = s.bindings.declarations.items in
    let i : Identifier = record { number = c.args.number; when = c.args.when; meaning = c.args.meaning } in
    ap (λ (is : List Identifier). names_of ds (place_of s.file) (place_of s.tags) (latest_first s.blocks.items) is s.bindings.uses.items (condition_of s.refused)) c.in_ok-push.ensures.items
    ∙ ap (λ (is : List PlainIdentifier). record (plain_names s) { identifiers = is }) (map_push (plain_identifier ds) s.bindings.identifiers.items i)
