use Rattle.std.proofs.Common.{[], subst}
use Rattle.std.proofs.lemmas.Option.{none-some}
use Rattle.bindings.proofs.Pieces.{holds_of}
use Rattle.member_uses.specs.Declarations.{names_in_declared}
use Rattle.member_uses.proofs.Parts.{Part}
use Rattle.member_uses.proofs.Turns.{initialised}
use Rattle.unit_member_uses.specs.Items.{definition}
use Rattle.unit_member_uses.proofs.FileNames.{IsName, initially_used, next_part}
use Rattle.unit_member_uses.proofs.Names.{words_named, spelt, body_named}
use Rattle.unit_member_uses.proofs.scopes_keep_names.Goals as goal

pub returns : goal.returns
returns c = record {
  starts = λ structs numbers name n e. absurd (none-some n e);
  words = λ declaring scope names words base bs e. words_named declaring scope names words base bs e;
  declarators = λ globals storage ty behind role d is unit names next js judged.
      (subst (λ m. Part (λ n. n) (IsName (λ n. n) c.types_are_kept.ensures c.expressions_have_types.ensures c.counts_need_no_names.ensures d.initialiser) m (names_in_declared d)) judged
      (next_part (λ n. n) c.types_are_kept.ensures c.expressions_have_types.ensures c.counts_need_no_names.ensures (IsName (λ n. n) c.types_are_kept.ensures c.expressions_have_types.ensures c.counts_need_no_names.ensures) (initially_used (λ n. n) c.types_are_kept.ensures c.expressions_have_types.ensures c.counts_need_no_names.ensures) globals storage ty behind d.declarator d.initialiser is.declarator (holds_of d.declarator [] is.declarator_pieces).0 (initialised d is) unit names)).1.0;
  bodies = λ scope names words parts body d pieces name is sort storage inner ss e parameters.
      body_named scope names name (spelt d (holds_of (definition words parts body) [] pieces).0 name is) sort storage inner ss e parameters;
}
