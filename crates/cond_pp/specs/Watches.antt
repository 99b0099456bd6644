-- What is looked for while a unit is read: tokens, among what is read outside every skipped group.
use Rattle.std.specs.Prelude.{ℕ, Bool, true, false, List, [], Option, Some, None, option_map}
use Rattle.c_text.specs.declared.origin.FileToken.{FileToken}
use Rattle.c_text.specs.Preprocessing.{Reading}
use Rattle.active_tokens.specs.Reads.{Read}
use Rattle.read_walks.specs.Tests.{is_read_at}
use Rattle.cond_pp.specs.declared.watch.Sought.{Sought}
use Rattle.cond_pp.specs.declared.watch.Watch.{Watch}

-- tokens of files, while a name is defined if one is given
pub record PlainSought : Type 0 where
  pub places : List FileToken
  pub name : Option (List ℕ)

abbrev pub plain_sought : Sought → PlainSought
plain_sought s = record { places = s.at.now; name = option_map (λ n. n.now) s.name }

abbrev pub is_read_in : Option PlainSought → List Read → Bool
is_read_in None reads = false
is_read_in (Some s) reads = is_read_at s.places s.name reads

-- whether what a watch looks for is among what is read
abbrev pub is_seen : Watch → List Read → Bool
is_seen w reads = is_read_in (option_map plain_sought w.sought) reads

-- what is read where a condition holds, unless the unit is refused there
abbrev pub read_where : Bool → (Reading → List Read) → Option Reading → List Read
read_where holds what None = []
read_where false what (Some r) = []
read_where true what (Some r) = what r
