-- What a token is to the grammar before and after it is renamed.
use Rattle.std.proofs.Common.{◌≡◌, ℕ, Bool, true, false, List, slice_index_or, All, IsTrue, refl, ap, sym, ◌∙◌}
use Rattle.std.specs.Prelude.{if◌then◌else◌}
use Rattle.c_text.specs.declared.token.TokenKind.{TokenKind}
use Rattle.c_text.specs.declared.token.TokenKind.TheVariants.{Name}
use Rattle.c_text.specs.Token.{PlainToken}
use Rattle.c_tree.specs.Terminals.{terminal, terminal_of}
use Rattle.renamings.specs.Renamings.{Renaming, is_renamed, renamed_token}
use Rattle.renamed_trees.specs.RenamedTrees.{IsNameIfRenamed, OnlyNamesAreRenamed}

-- it is the same to the grammar
abbrev pub IsKept : Renaming → PlainToken → Type 0
IsKept r token = terminal (renamed_token r token) ≡ terminal token

-- a name is a name, however it is spelt
kept_by : (renamed : Bool) (kind : TokenKind) (new text : List ℕ) → (IsTrue renamed → kind ≡ Name) → terminal_of kind (if renamed then new else text) ≡ terminal_of kind text
kept_by true kind new text name = ap (λ k. terminal_of k new) (name refl) ∙ sym (ap (λ k. terminal_of k text) (name refl))
kept_by false kind new text name = refl

pub token_kept : (r : Renaming) (token : PlainToken) → IsNameIfRenamed r token → IsKept r token
token_kept r token name = kept_by (is_renamed r token.origin.file token.origin.span) token.kind r.new token.text name

pub all_kept : (r : Renaming) (tokens : List PlainToken) → OnlyNamesAreRenamed r tokens → All (IsKept r) tokens
all_kept r tokens names k d below = token_kept r (slice_index_or tokens k d) (names k d below)
