-- That the tests of occurrences are those of the preconditions; the law is the contract of a function of this crate.
use Rattle.std.specs.Prelude.{◌↔◌, List, Contains, IsTrue}
use Rattle.c_text.specs.declared.origin.FileToken.{FileToken}
use Rattle.program_occurrences.specs.Occurrences.{Occurrence}
use Rattle.program_occurrences.specs.Classes.{file_token}
use Rattle.tied_tokens.specs.Tokens.{plain_file_tokens}
use Rattle.reference_classes.specs.Preconditions.{ComesFromMacroBody, IsFixed}
use Rattle.class_occurrences.specs.Occurring.{Occurring, comes_from_macro_body, is_fixed_of}

-- an occurrence of a product, by its tokens
abbrev pub tokens_of : Occurrence → Occurring
tokens_of o = record { identifier = o.identifier.token; declared_by = o.declared_by.token }

-- Its identifier is a copy of a token of the class, and this holds of it.
pub record IsOfClassAnd (class : List FileToken) (Holds : Occurrence → Type 0) (o : Occurrence) : Type 0 where
  pub member : Contains (plain_file_tokens class) (file_token o)
  pub holds : Holds o

-- What is tested of an occurrence is what a precondition says of it.
pub record TestsAreOfPreconditions : Type 0 where
  pub macro_bodies : (class : List FileToken) (o : Occurrence) → IsTrue (comes_from_macro_body class (tokens_of o)) ↔ IsOfClassAnd class ComesFromMacroBody o
  pub fixed : (class : List FileToken) (o : Occurrence) → IsTrue (is_fixed_of class (tokens_of o)) ↔ IsOfClassAnd class IsFixed o
