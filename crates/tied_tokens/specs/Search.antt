-- What the search for the tokens that are reached keeps, step by step.
use Rattle.std.specs.Prelude.{◌≡◌, ◌⊎◌, ◌+◌, ◌==◌, ℕ, ◌≤◌, Bool, true, false, ◌&&◌, List, [], ◌∷◌, ◌++◌, map, length, All, Contains, IsTrue, if◌then◌else◌}
use Rattle.std.specs.List.{list_any}
use Rattle.cond_formula.specs.Features.{has}
use Rattle.cond_formula.specs.Conditions.{Condition, value}
use Rattle.sat_core.specs.Models.{HasNoModel}
use Rattle.c_text.specs.declared.origin.FileToken.{FileToken}
use Rattle.program_occurrences.specs.Classes.{PlainFileToken}
use Rattle.tied_tokens.specs.Tokens.{plain_file_token, stands_before}
use Rattle.tied_tokens.specs.Ties.{PlainTie, PlainDeclaredName, PlainTiedTokens}
use Rattle.tied_tokens.specs.Reached.{IsAccepted, AreTied, IsPossible}

-- the condition is true in some configuration, or in none
abbrev pub TellsModel : Condition → Bool → Type 0
TellsModel condition true = (c : List Bool) × IsTrue (value (has c) condition)
TellsModel condition false = HasNoModel condition

-- ---- tokens in order

-- with one more token in front of the first that doesn't stand before it
abbrev pub placed : FileToken → List FileToken → List FileToken
placed token [] = token ∷ []
placed token (first ∷ rest) =
    if stands_before (plain_file_token first) (plain_file_token token) then first ∷ placed token rest else token ∷ first ∷ rest

-- ---- how many tokens aren't found yet

abbrev pub same_token : PlainFileToken → PlainFileToken → Bool
same_token a b = a.file == b.file && (a.span.start == b.span.start && a.span.end == b.span.end)

abbrev pub missing : List PlainFileToken → List PlainFileToken → ℕ
missing found [] = 0
missing found (token ∷ rest) = (if list_any (same_token token) found then 0 else 1) + missing found rest

module _ (all : PlainTiedTokens) where
  -- the ends of ties, and the tokens that declare names
  abbrev pub tied_tokens : List PlainFileToken
  tied_tokens = map (λ tie. tie.identifier) all.ties ++ (map (λ tie. tie.declared_by) all.ties ++ map (λ n. n.token) all.names)

  -- ---- steps

  -- Tokens that are tied to the member stand behind those that were found before, and each of them was missing.
  pub record Grows (member : PlainFileToken) (old new : List PlainFileToken) : Type 0 where
    pub more : List PlainFileToken
    pub behind : new ≡ old ++ more
    pub tied : All (AreTied all member) more
    pub room : missing new tied_tokens + length new ≤ missing old tied_tokens + length old

  -- The token is found now, and the condition is possible.
  pub record IsNew (when : Condition) (token : PlainFileToken) (old new : List PlainFileToken) : Type 0 where
    pub behind : new ≡ old ++ token ∷ []
    pub fresh : Contains old token → ⊥
    pub possible : IsPossible all when

  -- Nothing changed, or it is found now; and where the condition is possible, it is among the found.
  pub record IsTried (when : Condition) (token : PlainFileToken) (old new : List PlainFileToken) : Type 0 where
    pub grown : (new ≡ old) ⊎ IsNew when token old new
    pub comes : IsPossible all when → Contains new token

  -- Whatever the tie leads to from the member is found, this way or that way.
  abbrev pub LeadsOn : PlainFileToken → List PlainFileToken → PlainTie → Type 0
  LeadsOn member found tie = tie.identifier ≡ member → IsPossible all tie.when → Contains found tie.declared_by

  abbrev pub LeadsBack : PlainFileToken → List PlainFileToken → PlainTie → Type 0
  LeadsBack member found tie = tie.declared_by ≡ member → IsPossible all tie.when → Contains found tie.identifier

  abbrev pub LeadsInto : PlainFileToken → List PlainFileToken → PlainTie → Type 0
  LeadsInto member found tie = LeadsOn member found tie × LeadsBack member found tie

  -- So is the token that declares the same name, where both are declared.
  abbrev pub NameLeadsInto : PlainDeclaredName → List PlainFileToken → PlainDeclaredName → Type 0
  NameLeadsInto own found other =
      own.name ≡ other.name
      → (c : List Bool) → IsAccepted all c → IsTrue (value (has c) own.when) → IsTrue (value (has c) other.when) → Contains found other.token

  -- all that declare a name which the member declares
  abbrev pub NamesLeadInto : PlainFileToken → List PlainFileToken → PlainDeclaredName → Type 0
  NamesLeadInto member found own = own.token ≡ member → All (NameLeadsInto own found) all.names

  -- all that the member is tied to
  abbrev pub IsVisited : List PlainFileToken → PlainFileToken → Type 0
  IsVisited found member = (token : PlainFileToken) → AreTied all member token → Contains found token
