-- Tokens that differ only in names are the same to the grammar, and have the same texts where they are no names.
use Rattle.std.proofs.Common.{◌≡◌, ℕ, false, List, refl, sym, ap, ◌∙◌}
use Rattle.std.proofs.lemmas.Bool.{false≢true}
use Rattle.c_text.specs.Token.{PlainToken}
use Rattle.c_text.specs.declared.token.TokenKind.{TokenKind}
use Rattle.c_text.specs.declared.token.TokenKind.TheVariants as kind
use Rattle.c_tree.specs.declared.terminals.Terminal.{Terminal}
use Rattle.c_tree.specs.declared.terminals.Terminal.TheVariants as t
use Rattle.c_tree.specs.Terminals.{terminal, terminal_of, is_one_of}
use Rattle.tree_derivations.specs.Derivations.{IsWord}
use Rattle.renamed_programs.specs.Trees.{SameButName}

-- a kind is that of names, or isn't
no_name_but : (k : TokenKind) (a b : List ℕ) → ((k ≡ kind.Name → ⊥) → a ≡ b) → terminal_of k a ≡ terminal_of k b
no_name_but kind.Name a b h = refl
no_name_but kind.Keyword a b h = ap (terminal_of kind.Keyword) (h (λ e. absurd cc))
no_name_but kind.Number a b h = refl
no_name_but kind.Character a b h = refl
no_name_but kind.Text a b h = refl
no_name_but kind.Punctuator a b h = ap (terminal_of kind.Punctuator) (h (λ e. absurd cc))
no_name_but (kind.Bad why) a b h = refl

pub same_terminal : (a b : PlainToken) → SameButName a b → terminal a ≡ terminal b
same_terminal a b h = no_name_but a.kind a.text b.text h.text ∙ ap (λ k. terminal_of k b.text) h.kind

-- a token of these terminals, which a name isn't
pub same_text : (a b : PlainToken) → SameButName a b → (terminal a ≡ t.Name → ⊥) → a.text ≡ b.text
same_text a b h no_name = h.text (λ e. no_name (ap (λ k. terminal_of k a.text) e))

pub same_word : (terminals : List Terminal) (a b : PlainToken) → is_one_of terminals t.Name ≡ false → IsWord terminals a → SameButName a b → a.text ≡ b.text
same_word terminals a b none_ is h = same_text a b h (λ e. false≢true (sym none_ ∙ ap (is_one_of terminals) (sym e) ∙ is))
