-- The tokens of the texts of a project's files and of the built-in headers, in their order.
use Rattle.std.proofs.Common.{◌≡◌, ℕ, zero, suc, ◌+◌, ◌<◌, ◌≤◌, List, [], ◌∷◌, ◌++◌, map, length, ap, sym, ◌∙◌, subst, inl, inr, arith}
use Rattle.std.specs.Prelude.{◌⊎◌, Contains, IsTrue, slice_index_or}
use Rattle.std.proofs.lemmas.Bool.Decides.{nat_tests}
use Rattle.std.proofs.lemmas.List.Elements.{Contains-append_left, Contains-append_right, Contains-append_cases}
use Rattle.text_edits.specs.Files.{PlainFile}
use Rattle.c_text.specs.Token.{PlainToken}
use Rattle.c_text.specs.Lines.{PlainLine, AreItsLines}
use Rattle.c_text.specs.Preprocessing.{built_in_file, built_in_text}
use Rattle.c_lexer.specs.Laws.{LinesAreOne, TextsHaveLines}
use Rattle.renamed_units.proofs.Tokens.{In, in-of, in-map, each-of, Entry, entry, entries, entry-of, EntriesRise, entries-rise, own-in}
use Rattle.renamed_units.proofs.Once.{contains-of}
use Rattle.renamed_products.proofs.ReadTokens.{GoodLine, GoodLines}
use Rattle.program_occurrences.specs.Classes.{PlainFileToken, copied_by}
use Rattle.tied_tokens.specs.Tokens.{stands_before, AreInOrder}
use Rattle.tied_tokens.proofs.Members.{source_of}
use Rattle.named_classes.proofs.Ordered.{joined-order}

abbrev entry-token : Entry → PlainFileToken
entry-token e = copied_by e.token

entries-ordered : (file to low : ℕ) (es : List Entry) → EntriesRise file to low es → AreInOrder (map entry-token es)
entries-ordered file to low [] rise = tt
entries-ordered file to low (d ∷ []) rise = tt
entries-ordered file to low (d ∷ e ∷ es) rise = (before, entries-ordered file to d.token.origin.span.end (e ∷ es) rise.2)
  where
    before : IsTrue (stands_before (entry-token d) (entry-token e))
    before =
        let same : d.token.origin.file ≡ e.token.origin.file = rise.0.file_is ∙ sym rise.2.0.file_is in
        let some : d.token.origin.span.start < d.token.origin.span.end = rise.0.some in
        let behind : d.token.origin.span.end ≤ e.token.origin.span.start = rise.2.1 in
        let less : d.token.origin.span.start < e.token.origin.span.start = omega (arith, some, behind) in
        grind (arith, nat_tests)

module _ (have : TextsHaveLines) where
  -- ---- the tokens of one text

  abbrev entries-of : ℕ → List ℕ → List Entry
  entries-of number bytes = entries (have number bytes).0

  abbrev text-tokens : ℕ → List ℕ → List PlainFileToken
  text-tokens number bytes = map entry-token (entries-of number bytes)

  module _ (number : ℕ) (bytes : List ℕ) where
    rise : EntriesRise number (length bytes) 0 (entries-of number bytes)
    rise = entries-rise number bytes (have number bytes).0 (have number bytes).1

    text-ordered : AreInOrder (text-tokens number bytes)
    text-ordered = entries-ordered number (length bytes) 0 (entries-of number bytes) rise

    text-in-file : (token : PlainFileToken) → Contains (text-tokens number bytes) token → token.file ≡ number
    text-in-file token i =
        let from = source_of entry-token (entries-of number bytes) token i in
        sym (ap (λ (t : PlainFileToken). t.file) from.same)
        ∙ (own-in number (length bytes) 0 (entries-of number bytes) from.source rise (in-of from.source (entries-of number bytes) from.among)).own.file_is

    -- what holds of these tokens holds of each in its lines
    pub lines-in-text :
        LinesAreOne → (P : PlainToken → Type 0) → ((token : PlainToken) → Contains (text-tokens number bytes) (copied_by token) → P token) → (lines : List PlainLine)
        → AreItsLines number bytes lines → GoodLines P lines
    lines-in-text one P holds lines are = each-of (GoodLine P) lines (λ line i. each-of P line.tokens (λ token j. holds token (there line token i j)))
      where
        there : (line : PlainLine) (token : PlainToken) → In line lines → In token line.tokens → Contains (text-tokens number bytes) (copied_by token)
        there line token i j =
            let same : lines ≡ (have number bytes).0 = one number bytes lines (have number bytes).0 are (have number bytes).1 in
            subst (λ (ls : List PlainLine). Contains (map entry-token (entries ls)) (copied_by token)) same
            (contains-of (copied_by token) (map entry-token (entries lines))
            (in-map entry-token (entry line.directive token) (entries lines) (entry-of line token lines i j)))

  -- ---- the tokens of all texts: those of the files from a number on, and behind them those of the built-in headers

  abbrev pub all-tokens : ℕ → List PlainFile → List PlainFileToken
  all-tokens number [] = text-tokens built_in_file built_in_text
  all-tokens number (f ∷ files) = text-tokens number f.bytes ++ all-tokens (suc number) files

  from-number : (number : ℕ) (files : List PlainFile) → number + length files ≤ built_in_file → (token : PlainFileToken) → Contains (all-tokens number files) token → number ≤ token.file
  from-number number [] few token i = let last = text-in-file built_in_file built_in_text token i in omega (arith, few, last)
  from-number number (f ∷ files) few token i =
      by (λ j. from-number (suc number) files (omega (arith, few)) token j) (Contains-append_cases (text-tokens number f.bytes) (all-tokens (suc number) files) token i)
    where
      by : (Contains (all-tokens (suc number) files) token → suc number ≤ token.file) → Contains (text-tokens number f.bytes) token ⊎ Contains (all-tokens (suc number) files) token → number ≤ token.file
      by others (inl here) = let is = text-in-file number f.bytes token here in omega (arith, is)
      by others (inr behind) = let more = others behind in omega (arith, more)

  pub all-ordered : (number : ℕ) (files : List PlainFile) → number + length files ≤ built_in_file → AreInOrder (all-tokens number files)
  all-ordered number [] few = text-ordered built_in_file built_in_text
  all-ordered number (f ∷ files) few =
      joined-order (text-tokens number f.bytes) (all-tokens (suc number) files) (text-ordered number f.bytes) (all-ordered (suc number) files more) before
    where
      more : suc number + length files ≤ built_in_file
      more = omega (arith, few)

      before : (a b : PlainFileToken) → Contains (text-tokens number f.bytes) a → Contains (all-tokens (suc number) files) b → IsTrue (stands_before a b)
      before a b i j =
          let here : a.file ≡ number = text-in-file number f.bytes a i in
          let later : suc number ≤ b.file = from-number (suc number) files more b j in
          let less : a.file < b.file = omega (arith, here, later) in
          grind (arith, nat_tests)

  pub in-headers : (number : ℕ) (files : List PlainFile) (token : PlainFileToken) → Contains (text-tokens built_in_file built_in_text) token → Contains (all-tokens number files) token
  in-headers number [] token i = i
  in-headers number (f ∷ files) token i =
      Contains-append_right (text-tokens number f.bytes) (all-tokens (suc number) files) token (in-headers (suc number) files token i)

  pub in-file :
      (number at k : ℕ) (files : List PlainFile) (other : PlainFile) (token : PlainFileToken) → at ≡ number + k → k < length files
      → Contains (text-tokens at (slice_index_or files k other).bytes) token → Contains (all-tokens number files) token
  in-file number at k [] other token e below i = absurd (omega (arith, below))
  in-file number at zero (f ∷ files) other token e below i =
      let here : at ≡ number = omega (arith, e) in
      Contains-append_left (text-tokens number f.bytes) (all-tokens (suc number) files) token
      (subst (λ (n : ℕ). Contains (text-tokens n f.bytes) token) here i)
  in-file number at (suc k) (f ∷ files) other token e below i =
      Contains-append_right (text-tokens number f.bytes) (all-tokens (suc number) files) token
      (in-file (suc number) at k files other token (omega (arith, e)) (omega (arith, below)) i)
