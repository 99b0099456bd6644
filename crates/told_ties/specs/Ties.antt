-- The ties between tokens of files that a configuration sees, and those that are told of the tokens of units, by their numbers.
use Rattle.std.specs.Prelude.{ℕ, Bool, List, [], ◌∷◌, ◌++◌, flat_map, Option, Some, None, option_map, slice_get, if◌then◌else◌}
use Rattle.cond_formula.specs.Conditions.{value}
use Rattle.c_text.specs.Token.{plain_token}
use Rattle.cond_tokens.specs.declared.tokens.CondToken.{CondToken}
use Rattle.cond_tokens.specs.declared.tokens.CondStream.{CondStream}
use Rattle.cond_pairings.specs.Pairs.{Pair, pairs_seen}
use Rattle.program_occurrences.specs.Occurrences.{CommonName}
use Rattle.program_occurrences.specs.Classes.{PlainFileToken, copied_by}
use Rattle.tied_tokens.specs.Ties.{PlainTie, PlainDeclaredName}
use Rattle.told_occurrences.specs.declared.told.ToldUnit.{ToldUnit}
use Rattle.told_occurrences.specs.Told.{NumberedName}
use Rattle.told_occurrences.specs.Units.{names_seen}

-- an identifier's token and the one that declares it
pub record TiedPair : Type 0 where
  pub identifier : PlainFileToken
  pub declared_by : PlainFileToken

abbrev pub tied : PlainFileToken → PlainFileToken → TiedPair
tied identifier declared_by = record { identifier = identifier; declared_by = declared_by }

-- a token that declares a name which units have in common
pub record NamedToken : Type 0 where
  pub token : PlainFileToken
  pub name : CommonName

abbrev pub named : PlainFileToken → CommonName → NamedToken
named token name = record { token = token; name = name }

-- ---- what a configuration sees

module _ (on : ℕ → Bool) where
  abbrev pub tied_seen : List PlainTie → List TiedPair
  tied_seen [] = []
  tied_seen (tie ∷ rest) = if value on tie.when then tied tie.identifier tie.declared_by ∷ tied_seen rest else tied_seen rest

  abbrev pub named_seen : List PlainDeclaredName → List NamedToken
  named_seen [] = []
  named_seen (entry ∷ rest) = if value on entry.when then named entry.token entry.name ∷ named_seen rest else named_seen rest

-- ---- what is told, by the numbers of tokens in a stream

-- the token of a file of which a stream's token is a copy
abbrev pub copied : CondToken → PlainFileToken
copied entry = copied_by (plain_token entry.token)

-- that of the stream's token with this number, if it has one
abbrev pub token_at : List CondToken → ℕ → Option PlainFileToken
token_at tokens number = option_map copied (slice_get tokens number)

abbrev pub tied_if : Option PlainFileToken → Option PlainFileToken → List TiedPair
tied_if (Some identifier) (Some declared_by) = tied identifier declared_by ∷ []
tied_if identifier declared_by = []

-- the tokens with a pair's numbers, if the stream has both
abbrev pub tied_by : List CondToken → Pair → List TiedPair
tied_by tokens p = tied_if (token_at tokens p.identifier) (token_at tokens p.declared_by)

abbrev pub named_if : Option PlainFileToken → CommonName → List NamedToken
named_if None name = []
named_if (Some token) name = named token name ∷ []

abbrev pub named_by : List CondToken → NumberedName → List NamedToken
named_by tokens n = named_if (token_at tokens n.number) n.name

module _ (on : ℕ → Bool) where
  -- what a configuration sees of what is told of units, with the tokens of their streams
  abbrev pub tied_in : List CondStream → List ToldUnit → List TiedPair
  tied_in (stream ∷ streams) (told ∷ rest) = flat_map (tied_by stream.tokens.items) (pairs_seen on told.pairs.items) ++ tied_in streams rest
  tied_in streams all = []

  abbrev pub named_in : List CondStream → List ToldUnit → List NamedToken
  named_in (stream ∷ streams) (told ∷ rest) = flat_map (named_by stream.tokens.items) (names_seen on told.names.items) ++ named_in streams rest
  named_in streams all = []
