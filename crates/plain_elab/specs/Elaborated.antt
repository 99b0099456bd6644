-- What comes of units, as the code answers it.
use Rattle.std.specs.Prelude.{List, ⊤}
use Rattle.c_text.specs.Token.{PlainToken}
use Rattle.c_text.specs.declared.origin.FileToken.{FileToken}
use Rattle.c_tree.specs.Trees.{PlainTree}
use Rattle.core_meaning.specs.declared.refusals.TypeKind.{TypeKind}
use Rattle.core_meaning.specs.Linking.{IsBadlyTyped, IsBadlyLinked}
use Rattle.plain_scope.specs.Judgements.{StandsAt}
use Rattle.plain_scope.specs.declared.errors.ElabError.{ElabError}
use Rattle.plain_scope.specs.declared.errors.ElabError.TheVariants.{BadType, Link, Memory}

-- the first refusal, at a token that stands there
pub record IsBadlyTypedAt (trees : List PlainTree) (kind : TypeKind) (at : FileToken) : Type 0 where
  pub token : PlainToken
  pub refused : IsBadlyTyped trees kind token
  pub stands : StandsAt token at

-- An error in elaborating is the first refusal, or want of memory.
abbrev pub NotElaborated : List PlainTree → ElabError → Type 0
NotElaborated trees (BadType kind at) = IsBadlyTypedAt trees kind at
NotElaborated trees (Link kind name) = IsBadlyLinked trees kind name.items
NotElaborated trees Memory = ⊤
