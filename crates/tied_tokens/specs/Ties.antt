-- Ties between tokens of files, each under a condition, without pointers and room.
use Rattle.std.specs.Prelude.{ℕ, List, map, All}
use Rattle.cond_formula.specs.Conditions.{Condition, condition_of, VarsBelow}
use Rattle.feature_model.specs.ModelView.{admitted}
use Rattle.program_occurrences.specs.Occurrences as spec
use Rattle.program_occurrences.specs.Classes.{PlainFileToken}
use Rattle.tied_tokens.specs.declared.names.CommonName.{CommonName}
use Rattle.tied_tokens.specs.declared.names.CommonName.TheVariants.{External, Tag, Member}
use Rattle.tied_tokens.specs.declared.names.DeclaredName.{DeclaredName}
use Rattle.tied_tokens.specs.declared.ties.Tie.{Tie}
use Rattle.tied_tokens.specs.declared.ties.TiedTokens.{TiedTokens}
use Rattle.tied_tokens.specs.Tokens.{plain_file_token}

-- an identifier's token and the one that declares it, where the condition is true
pub record PlainTie : Type 0 where
  pub identifier : PlainFileToken
  pub declared_by : PlainFileToken
  pub when : Condition

-- a token that declares a name which units have in common, where the condition is true
pub record PlainDeclaredName : Type 0 where
  pub token : PlainFileToken
  pub name : spec.CommonName
  pub when : Condition

-- ties and declared names, in the configurations that are admitted and accepted
pub record PlainTiedTokens : Type 0 where
  pub admitted : Condition
  pub accepted : Condition
  pub ties : List PlainTie
  pub names : List PlainDeclaredName

abbrev pub plain_tie : Tie → PlainTie
plain_tie t = record { identifier = plain_file_token t.identifier; declared_by = plain_file_token t.declared_by; when = condition_of t.when }

abbrev pub plain_common_name : CommonName → spec.CommonName
plain_common_name (External name) = spec.external_name name.items
plain_common_name (Tag name) = spec.tag name.items
plain_common_name (Member of name) = spec.member_of of.items name.items

abbrev pub plain_declared_name : DeclaredName → PlainDeclaredName
plain_declared_name n = record { token = plain_file_token n.token; name = plain_common_name n.name; when = condition_of n.when }

abbrev pub plain_tied_tokens : TiedTokens → PlainTiedTokens
plain_tied_tokens t = record {
  admitted = admitted t.model.now;
  accepted = condition_of t.accepted.now;
  ties = map plain_tie t.ties.now;
  names = map plain_declared_name t.names.now;
}

-- each condition names features below this number alone
pub record NamesFeaturesBelow (count : ℕ) (all : PlainTiedTokens) : Type 0 where
  pub admitted : VarsBelow count all.admitted
  pub accepted : VarsBelow count all.accepted
  pub ties : All (λ tie. VarsBelow count tie.when) all.ties
  pub names : All (λ n. VarsBelow count n.when) all.names
