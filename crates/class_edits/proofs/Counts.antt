-- How many tokens are renamed in the files, and in how many.
use Rattle.std.proofs.Common.{◌≡◌, ℕ, ◌+◌, ◌<◌, ◌≤◌, Bool, true, false, cond, List, [], ◌∷◌, length, drop, refl, sym, ap, ◌∙◌, arith}
use Rattle.std.specs.Prelude.{◌==◌, ◌&&◌, nat_lt, nat_le, filter}
use Rattle.std.proofs.lemmas.Bool.Decides.{nat_tests}
use Rattle.std.proofs.lemmas.List.{length-map, drop_more}
use Rattle.std.proofs.lemmas.List.Elements.{filter_agree}
use Rattle.text_edits.specs.Files.{PlainFile}
use Rattle.renamings.specs.Renamings.{Renaming}
use Rattle.program_occurrences.specs.Classes.{PlainFileToken}
use Rattle.reference_classes.specs.Renamed.{count_tokens, count_files}
use Rattle.class_edits.specs.Listed.{renaming_of, tokens_below}
use Rattle.class_edits.proofs.Spans.{spans-below}

-- ---- one file more

no-file : PlainFile
no-file = record { name = []; bytes = [] }

module _ (r : Renaming) (files : List PlainFile) (number : ℕ) (inside : number < length files) (count here new : ℕ) (same : here ≡ length (r.spans number)) where
  files-from : count_files r number (drop number files) ≡ cond (length (r.spans number) == 0) 0 1 + count_files r (number + 1) (drop (number + 1) files)
  files-from = ap (count_files r number) (drop_more files number no-file inside)

  pub files-more : new ≡ count + cond (here == 0) 0 1 → (total : ℕ) → count + count_files r number (drop number files) ≡ total → new + count_files r (number + 1) (drop (number + 1) files) ≡ total
  files-more is total before =
      let step = files-from in
      let one : ◌≡◌ {A = ℕ} (cond (here == 0) 0 1) (cond (length (r.spans number) == 0) 0 1) = ap (λ n. cond (n == 0) 0 1) same in omega (arith, step, one, is, before)

-- ---- the tokens of all files

module _ (count : ℕ) where
  -- those of the files from one on
  abbrev from-file : ℕ → List PlainFileToken → List PlainFileToken
  from-file number tokens = filter (λ token. nat_le number token.file && nat_lt token.file count) tokens

  split : (number : ℕ) → number < count → (tokens : List PlainFileToken) → length (filter (λ token. token.file == number) tokens) + length (from-file (number + 1) tokens) ≡ length (from-file number tokens)
  split number l [] = omega arith
  split number l (token ∷ tokens) =
      by (token.file == number) refl (nat_le (number + 1) token.file && nat_lt token.file count) refl (nat_le number token.file && nat_lt token.file count) refl (split number l tokens)
    where
      here : List PlainFileToken
      here = filter (λ (t : PlainFileToken). t.file == number) tokens

      by : (s : Bool) → (token.file == number) ≡ s → (m : Bool) → (nat_le (number + 1) token.file && nat_lt token.file count) ≡ m → (n : Bool) → (nat_le number token.file && nat_lt token.file count) ≡ n
          → length here + length (from-file (number + 1) tokens) ≡ length (from-file number tokens)
          → length (cond s (token ∷ here) here) + length (cond m (token ∷ from-file (number + 1) tokens) (from-file (number + 1) tokens)) ≡ length (cond n (token ∷ from-file number tokens) (from-file number tokens))
      by true e true f n g others = absurd (grind (arith, nat_tests))
      by true e false f true g others = omega (arith, others)
      by true e false f false g others = absurd (grind (arith, nat_tests))
      by false e true f true g others = omega (arith, others)
      by false e true f false g others = absurd (grind (arith, nat_tests))
      by false e false f true g others = absurd (grind (arith, nat_tests))
      by false e false f false g others = others

  none-left : (number : ℕ) → count ≤ number → (tokens : List PlainFileToken) → length (from-file number tokens) ≡ 0
  none-left number l [] = refl
  none-left number l (token ∷ tokens) = by (nat_le number token.file && nat_lt token.file count) refl (none-left number l tokens)
    where
      by : (b : Bool) → (nat_le number token.file && nat_lt token.file count) ≡ b → length (from-file number tokens) ≡ 0 → length (cond b (token ∷ from-file number tokens) (from-file number tokens)) ≡ 0
      by true e others = absurd (grind (arith, nat_tests))
      by false e others = others

  module _ (tokens : List PlainFileToken) (old new : List ℕ) where
    all-from : (files : List PlainFile) (number : ℕ) → number + length files ≡ count → count_tokens (renaming_of count tokens old new) number files ≡ length (from-file number tokens)
    all-from [] number whole = sym (none-left number (omega (arith, whole)) tokens)
    all-from (f ∷ files) number whole =
        let below : number < count = omega (arith, whole) in
        let here = ap length (spans-below count tokens old new number below) in
        let same = length-map (filter (λ (token : PlainFileToken). token.file == number) tokens) (λ (token : PlainFileToken). token.span) in
        let others = all-from files (number + 1) (omega (arith, whole)) in let parts = split number below tokens in omega (arith, here, same, others, parts)

    pub count-is : (files : List PlainFile) → length files ≡ count → count_tokens (renaming_of count tokens old new) 0 files ≡ length (tokens_below count tokens)
    count-is files whole =
        all-from files 0 (omega (arith, whole))
        ∙ ap length (filter_agree (λ (token : PlainFileToken). nat_le 0 token.file && nat_lt token.file count) (λ (token : PlainFileToken). nat_lt token.file count) (λ token. grind (arith, nat_tests)) tokens)
