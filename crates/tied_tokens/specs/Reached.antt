-- Which tokens of files are reached from one.
use Rattle.std.specs.Prelude.{◌≡◌, Bool, List, Contains, IsTrue}
use Rattle.cond_formula.specs.Features.{has}
use Rattle.cond_formula.specs.Conditions.{Condition, value}
use Rattle.program_occurrences.specs.Classes.{PlainFileToken}
use Rattle.tied_tokens.specs.Ties.{PlainTie, PlainDeclaredName, PlainTiedTokens}

module _ (all : PlainTiedTokens) where
  -- the configuration is admitted and accepted
  pub record IsAccepted (c : List Bool) : Type 0 where
    pub admitted : IsTrue (value (has c) all.admitted)
    pub accepted : IsTrue (value (has c) all.accepted)

  -- One token is tied to another in a configuration.
  pub data IsTied (c : List Bool) : PlainFileToken → PlainFileToken → Type 0 where
    -- an identifier's token to the one that declares it,
    to_declaration : (tie : PlainTie) → Contains all.ties tie → IsTrue (value (has c) tie.when) → IsTied c tie.identifier tie.declared_by
    -- this one to that,
    to_identifier : (tie : PlainTie) → Contains all.ties tie → IsTrue (value (has c) tie.when) → IsTied c tie.declared_by tie.identifier
    -- and one that declares a name to each that declares that name there too
    by_name :
        (a b : PlainDeclaredName) → Contains all.names a → Contains all.names b → a.name ≡ b.name → IsTrue (value (has c) a.when) → IsTrue (value (has c) b.when)
        → IsTied c a.token b.token

  -- They are tied in some configuration that is admitted and accepted.
  pub record AreTied (a b : PlainFileToken) : Type 0 where
    pub configuration : List Bool
    pub is_accepted : IsAccepted configuration
    pub tied : IsTied configuration a b

  -- The tokens that are reached from one, tie by tie. Each tie may be of another configuration.
  pub data IsReached (place : PlainFileToken) : PlainFileToken → Type 0 where
    itself : IsReached place place
    further : {member other : PlainFileToken} → IsReached place member → AreTied member other → IsReached place other

  -- some configuration that is admitted and accepted makes the condition true
  pub record IsPossible (condition : Condition) : Type 0 where
    pub configuration : List Bool
    pub is_accepted : IsAccepted configuration
    pub holds : IsTrue (value (has configuration) condition)

  -- The tie's identifier stands at the place, and is declared in some configuration that is admitted and accepted.
  pub record OccursBy (place : PlainFileToken) (tie : PlainTie) : Type 0 where
    pub there : tie.identifier ≡ place
    pub possible : IsPossible tie.when

  -- The token at the place is that of an identifier which is declared, in some such configuration.
  pub record OccursSomewhere (place : PlainFileToken) : Type 0 where
    pub tie : PlainTie
    pub among : Contains all.ties tie
    pub occurs : OccursBy place tie
