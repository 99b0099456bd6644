-- Tokens that are pieces tell what judging needs of them.
use Rattle.std.proofs.Common.{◌≡◌, ℕ, Bool, true, false, List, [], ◌∷◌, refl, sym, ap, subst, ◌∙◌, length, IsTrue, suc}
use Rattle.std.specs.Prelude.{Option, Some, None, is_some, ◌==◌, ◌||◌, if◌then◌else◌}
use Rattle.std.proofs.lemmas.Bool.{false≢true, eqb-true}
use Rattle.c_names.specs.Bytes.{double_quote, single_quote}
use Rattle.c_names.specs.Names.{is_identifier, is_keyword}
use Rattle.c_text.specs.Token.{PlainToken}
use Rattle.c_text.specs.declared.token.BadKind.TheVariants.{BadByte, OpenComment, OpenQuote}
use Rattle.c_text.specs.declared.token.TokenKind.{TokenKind}
use Rattle.c_text.specs.declared.token.TokenKind.TheVariants as kind
use Rattle.c_text.specs.Constants.{quoted_values, is_one, is_number, is_integer, is_quoted, is_open_quoted, is_character, is_text}
use Rattle.c_text.specs.Pieces.{PieceKind, space, line_end, token, piece_of, is_newline, is_blank, is_line_comment, is_block_comment, bad_unless, is_punctuator, is_open_comment}
use Rattle.c_tree.specs.declared.terminals.Terminal.{Terminal}
use Rattle.c_tree.specs.declared.terminals.Terminal.TheVariants as t
use Rattle.c_tree.specs.Terminals.{terminal_of, is_one_of}
use Rattle.c_tree.specs.Trees.{PlainTree, PlainTrees, leaf, node, none, more, written, all_written}
use Rattle.bindings.specs.Laws.{ArePieces}
use Rattle.bindings.proofs.Spellings.{Told, Holds, AllHold, singles, keyword_other, punctuator_other}

abbrev Fact : TokenKind → List ℕ → Type 0
Fact kind.Name w = is_identifier w ≡ true
Fact kind.Number w = is_identifier w ≡ false
Fact kind.Character w = (is_identifier w ≡ false) × (is_character w ≡ true)
Fact kind.Text w = is_text w ≡ true
Fact other w = Unit {0}

abbrev is_token : Option PieceKind → Bool
is_token (Some (token k)) = true
is_token other = false

abbrev Good : List ℕ → Option PieceKind → Type 0
Good w (Some (token k)) = Fact k w
Good w other = Unit {0}

carry : (w : List ℕ) (k : TokenKind) (o : Option PieceKind) → Good w o → o ≡ Some (token k) → Fact k w
carry w k o good e = subst (Good w) e good

not_token : (w : List ℕ) (k : TokenKind) (o : Option PieceKind) → is_token o ≡ false → o ≡ Some (token k) → Fact k w
not_token w k o no_ e = absurd (false≢true (sym no_ ∙ ap is_token e))

bad_fact : (w : List ℕ) (good : TokenKind) (b : Bool) → (b ≡ true → Fact good w) → Fact (bad_unless b good) w
bad_fact w good true f = f refl
bad_fact w good false f = tt

keyword_fact : (w : List ℕ) (b : Bool) → is_identifier w ≡ true → Fact (if b then kind.Keyword else kind.Name) w
keyword_fact w true e = tt
keyword_fact w false e = e

pieces :
    (w : List ℕ) (k : TokenKind) (a b c d e f g h i j : Bool) → is_identifier w ≡ c
    → (if a then Some line_end else if b then Some space else if c then Some (token (if is_keyword w then kind.Keyword else kind.Name))
    else if d then Some (token (bad_unless (is_integer w) kind.Number))
    else if e then Some (token (bad_unless (is_character w) kind.Character))
    else if f then Some (token (bad_unless (is_text w) kind.Text))
    else if g then Some (token kind.Punctuator)
    else if h then Some (token (kind.Bad OpenComment))
    else if i then Some (token (kind.Bad OpenQuote))
    else if j then Some (token (kind.Bad BadByte)) else None) ≡ Some (token k) → Fact k w
pieces w k true b c d e f g h i j id is = not_token w k (Some line_end) refl is
pieces w k false true c d e f g h i j id is = not_token w k (Some space) refl is
pieces w k false false true d e f g h i j id is = carry w k (Some (token (if is_keyword w then kind.Keyword else kind.Name))) (keyword_fact w (is_keyword w) id) is
pieces w k false false false true e f g h i j id is = carry w k (Some (token (bad_unless (is_integer w) kind.Number))) (bad_fact w kind.Number (is_integer w) (λ x. id)) is
pieces w k false false false false true f g h i j id is = carry w k (Some (token (bad_unless (is_character w) kind.Character))) (bad_fact w kind.Character (is_character w) (λ x. (id, x))) is
pieces w k false false false false false true g h i j id is = carry w k (Some (token (bad_unless (is_text w) kind.Text))) (bad_fact w kind.Text (is_text w) (λ x. x)) is
pieces w k false false false false false false true h i j id is = carry w k (Some (token kind.Punctuator)) tt is
pieces w k false false false false false false false true i j id is = carry w k (Some (token (kind.Bad OpenComment))) tt is
pieces w k false false false false false false false false true j id is = carry w k (Some (token (kind.Bad OpenQuote))) tt is
pieces w k false false false false false false false false false true id is = carry w k (Some (token (kind.Bad BadByte))) tt is
pieces w k false false false false false false false false false false id is = not_token w k None refl is

fact : (w : List ℕ) (k : TokenKind) → piece_of w ≡ Some (token k) → Fact k w
fact w k is =
    pieces w k (is_newline w) (is_blank w || is_line_comment w || is_block_comment w) (is_identifier w) (is_number w) (is_quoted single_quote w) (is_quoted double_quote w) (is_punctuator w) (is_open_comment w)
    (is_open_quoted single_quote w || is_open_quoted double_quote w) (length w == 1) refl is

one_byte : (o : Option (List ℕ)) → is_one o ≡ true → (byte : ℕ) × (o ≡ Some (byte ∷ []))
one_byte None h = absurd (false≢true h)
one_byte (Some []) h = absurd (let e : ◌≡◌ {A = ℕ} 0 1 = eqb-true 0 1 h in omega (Rattle.std.proofs.Common.arith, e))
one_byte (Some (byte ∷ [])) h = (byte, refl)
one_byte (Some (byte ∷ (second ∷ rest))) h = absurd (let e : suc (suc (length rest)) ≡ 1 = eqb-true (suc (suc (length rest))) 1 h in omega (Rattle.std.proofs.Common.arith, e))

some_bytes : (o : Option (List ℕ)) → is_some o ≡ true → (bytes : List ℕ) × (o ≡ Some bytes)
some_bytes None h = absurd (false≢true h)
some_bytes (Some bytes) h = (bytes, refl)

-- by what a token is to the grammar
record ToldOf (k : Terminal) (w : List ℕ) : Type 0 where
  identifier : k ≡ t.Name → is_identifier w ≡ true
  no_identifier : IsTrue (is_one_of (t.Number ∷ t.Character ∷ []) k) → is_identifier w ≡ false
  character : k ≡ t.Character → (byte : ℕ) × (quoted_values w ≡ Some (byte ∷ []))
  text : k ≡ t.Text → (bytes : List ℕ) × (quoted_values w ≡ Some bytes)

other_than : (k wanted : Terminal) → is_one_of singles k ≡ false → is_one_of singles wanted ≡ true → k ≡ wanted → ⊥
other_than k wanted no_ yes_ e = false≢true (sym no_ ∙ ap (is_one_of singles) e ∙ yes_)

among : (k : Terminal) → is_one_of singles k ≡ false → is_one_of (t.Number ∷ t.Character ∷ []) k ≡ true → ⊥
among k no_ h = Rattle.c_tree.proofs.TerminalCases.one_of (λ x. k ≡ x → ⊥) (t.Number ∷ t.Character ∷ []) k h (other_than k t.Number no_ refl, (other_than k t.Character no_ refl, tt)) refl

told_other : (k : Terminal) (w : List ℕ) → is_one_of singles k ≡ false → ToldOf k w
told_other k w no_ = record {
  identifier = λ e. absurd (other_than k t.Name no_ refl e);
  no_identifier = λ h. absurd (among k no_ h);
  character = λ e. absurd (other_than k t.Character no_ refl e);
  text = λ e. absurd (other_than k t.Text no_ refl e);
}

told_kind : (k : TokenKind) (w : List ℕ) → Fact k w → ToldOf (terminal_of k w) w
told_kind kind.Name w f = record { identifier = λ e. f; no_identifier = λ h. absurd (false≢true h); character = λ e. absurd cc; text = λ e. absurd cc }
told_kind kind.Keyword w f = told_other (terminal_of kind.Keyword w) w (keyword_other w)
told_kind kind.Number w f = record { identifier = λ e. absurd cc; no_identifier = λ h. f; character = λ e. absurd cc; text = λ e. absurd cc }
told_kind kind.Character w f = record { identifier = λ e. absurd cc; no_identifier = λ h. f.0; character = λ e. one_byte (quoted_values w) f.1; text = λ e. absurd cc }
told_kind kind.Text w f = record { identifier = λ e. absurd cc; no_identifier = λ h. absurd (false≢true h); character = λ e. absurd cc; text = λ e. some_bytes (quoted_values w) f }
told_kind kind.Punctuator w f = told_other (terminal_of kind.Punctuator w) w (punctuator_other w)
told_kind (kind.Bad b) w f = told_other t.Other w refl

told : (a : PlainToken) → piece_of a.text ≡ Some (token a.kind) → Told a
told a is = let f = told_kind a.kind a.text (fact a.text a.kind is) in record { identifier = f.identifier; no_identifier = f.no_identifier; character = f.character; text = f.text }

mutual
  pub holds_of : (tree : PlainTree) (behind : List PlainToken) → ArePieces (written tree behind) → Holds tree × ArePieces behind
  holds_of (leaf a) behind h = (told a h.0, h.1)
  holds_of (node kind parts) behind h = all_hold parts behind h

  all_hold : (parts : PlainTrees) (behind : List PlainToken) → ArePieces (all_written parts behind) → AllHold parts × ArePieces behind
  all_hold none behind h = (tt, h)
  all_hold (more tree rest) behind h =
      let first = holds_of tree (all_written rest behind) h in
      let others = all_hold rest behind first.1 in
      ((first.0, others.0), others.1)
