-- Tokens that units give stand apart where they did, behind a renaming as before.
use Rattle.std.proofs.Common.{◌≡◌, ℕ, ◌<◌, ◌≤◌, Bool, ◌&&◌, List, [], ◌∷◌, length, All, refl, ap, ap₂, sym, ◌∙◌, subst, inl, inr, arith}
use Rattle.std.specs.Prelude.{◌==◌, ◌⊎◌, IsTrue}
use Rattle.std.specs.List.{AllByRecursion}
use Rattle.std.proofs.lemmas.Bool.{cases_lt}
use Rattle.std.proofs.lemmas.Bool.Decides.{Decides-eqb, same_from_decides}
use Rattle.std.proofs.lemmas.List.Elements.{All-nil, recursion_from_All}
use Rattle.c_names.specs.Names.{is_new_name}
use Rattle.text_edits.specs.Span.{PlainSpan}
use Rattle.c_text.specs.Token.{PlainToken}
use Rattle.c_text.specs.Lines.{PlainLine, AreItsLines}
use Rattle.c_text.specs.Preprocessing.{Source, Sources, Syntax, IsSyntaxOf, file_at, built_in_file, built_in_text, gives, outcome_of, preprocessed}
use Rattle.core_meaning.specs.Constancy.{same_span, same_place}
use Rattle.active_tokens.specs.Reads.{Read}
use Rattle.active_tokens.specs.Active.{AreMisplaced, reads_of_unit, HasActiveOrigin, TokensComeFromActive}
use Rattle.renamings.specs.Renamings.{Renaming, moved, moved_span, renamed_token, AreNamesOf, FitsFiles}
use Rattle.renamings.specs.Laws.{IsNotInside, PlacesKeepTheirOrder, TokensStandApart}
use Rattle.renamed_units.specs.Laws.{IsUnitOf}
use Rattle.renamed_units.proofs.Tokens.{In, in-of, each-of, entry, entries, entry-of, entries-rise, own-in}
use Rattle.renamed_units.proofs.Names.{by-cases}
use Rattle.renamed_units.proofs.Once.{contains-of}
use Rattle.renamed_units.proofs.Files.{names-at}
use Rattle.renamed_products.proofs.ReadTokens.{Good, GoodLine, GoodLines, GoodRead, GoodReads, unit-good}

module _ (r : Renaming) where
  abbrev pub IsOutside : ℕ → ℕ → Type 0
  IsOutside file at = All (IsNotInside at) (r.spans file)

  -- a span of a file whose ends aren't strictly inside renamed tokens, and such places keep their order there
  pub record StandsAt (file : ℕ) (span : PlainSpan) : Type 0 where
    pub order : (a b : ℕ) → IsOutside file a → IsOutside file b → a < b → moved r file a < moved r file b
    pub start_is : IsOutside file span.start
    pub end_is : IsOutside file span.end

  -- ---- places

  module _ (file : ℕ) (order : (a b : ℕ) → IsOutside file a → IsOutside file b → a < b → moved r file a < moved r file b) where
    one-offset : (m n : ℕ) → IsOutside file m → IsOutside file n → moved r file m ≡ moved r file n → m ≡ n
    one-offset m n p q e = first (cases_lt m n)
      where
        second : (n < m) ⊎ (m ≤ n) → n ≤ m → m ≡ n
        second (inl less) some = let h = order n m q p less in absurd (omega (arith, h, e))
        second (inr most) some = omega (arith, some, most)

        first : (m < n) ⊎ (n ≤ m) → m ≡ n
        first (inl less) = let h = order m n p q less in absurd (omega (arith, h, e))
        first (inr some) = second (cases_lt n m) some

    same-offset : (m n : ℕ) → IsOutside file m → IsOutside file n → (moved r file m == moved r file n) ≡ (m == n)
    same-offset m n p q =
        same_from_decides (moved r file m == moved r file n) (m == n)
        (λ e. one-offset m n p q ((Decides-eqb (moved r file m) (moved r file n)).0 e), λ e. (Decides-eqb (moved r file m) (moved r file n)).1 (ap (λ (k : ℕ). moved r file k) e))
        (Decides-eqb m n)

  same-spans : (file : ℕ) (p q : PlainSpan) → StandsAt file p → StandsAt file q → same_span (moved_span r file p) (moved_span r file q) ≡ same_span p q
  same-spans file p q x y =
      ap₂ (λ a b. a && b) (same-offset file x.order p.start q.start x.start_is y.start_is) (same-offset file x.order p.end q.end x.end_is y.end_is)

  same-at : (file other : ℕ) (p q : PlainSpan) → StandsAt file p → StandsAt other q → (file == other && same_span (moved_span r file p) (moved_span r other q)) ≡ (file == other && same_span p q)
  same-at file other p q x y =
      by-cases ((file == other && same_span (moved_span r file p) (moved_span r other q)) ≡ (file == other && same_span p q)) (file == other)
      (λ e.
      let one : file ≡ other = (Decides-eqb file other).0 e in
      ap (λ (b : Bool). file == other && b)
      (subst (λ (o : ℕ). same_span (moved_span r file p) (moved_span r o q) ≡ same_span p q) one
      (same-spans file p q x (subst (λ (o : ℕ). StandsAt o q) (sym one) y))))
      (λ e. rw e refl)

  pub same-places : (a b : PlainToken) → StandsAt a.origin.file a.origin.span → StandsAt b.origin.file b.origin.span → same_place (renamed_token r a) (renamed_token r b) ≡ same_place a b
  same-places a b x y = same-at a.origin.file b.origin.file a.origin.span b.origin.span x y

  -- ---- files

  abbrev Stands : PlainToken → Type 0
  Stands token = StandsAt token.origin.file token.origin.span

  -- where nothing is renamed
  quiet-file : (file : ℕ) (span : PlainSpan) → r.spans file ≡ [] → StandsAt file span
  quiet-file file span e = record {
    order = λ a b p q less. subst (λ (n : ℕ). moved r file a < n) (sym (still b)) (subst (λ (n : ℕ). n < b) (sym (still a)) less);
    start_is = outside span.start;
    end_is = outside span.end;
  }
    where
      still : (at : ℕ) → moved r file at ≡ at
      still at = rw e refl

      outside : (at : ℕ) → IsOutside file at
      outside at = subst (λ (l : List PlainSpan). All (IsNotInside at) l) (sym e) (All-nil (IsNotInside at))

  module _ (ordered : PlacesKeepTheirOrder) (apart : TokensStandApart) where
    lines-stand : (number : ℕ) (bytes : List ℕ) (lines : List PlainLine) → IsTrue (is_new_name r.new) → AreItsLines number bytes lines → AreNamesOf r.old lines (r.spans number) → GoodLines Stands lines
    lines-stand number bytes lines good are names =
        each-of (GoodLine Stands) lines (λ line i. each-of Stands line.tokens (λ token j. stands line token i j))
      where
        stands : (line : PlainLine) (token : PlainToken) → In line lines → In token line.tokens → Stands token
        stands line token i j =
            let own = own-in number (length bytes) 0 (entries lines) (entry line.directive token) (entries-rise number bytes lines are) (entry-of line token lines i j) in
            let both = apart r number bytes lines good are names line token (contains-of line lines i) (contains-of token line.tokens j) in
            subst (λ (file : ℕ). StandsAt file token.origin.span) (sym own.own.file_is)
            (record { order = λ a b p q less. ordered r number bytes lines good are names a b p q less; start_is = both.0; end_is = both.1 })

    module _ (s : Sources) (fits : FitsFiles r s.files) (few : length s.files ≤ built_in_file) (x : Syntax) (are : IsSyntaxOf s x) (misplaced : Source → List PlainToken) (told : AreMisplaced are misplaced) where
      built-in-stand : GoodLines Stands are.built_in_lines
      built-in-stand =
          each-of (GoodLine Stands) are.built_in_lines (λ line i. each-of Stands line.tokens (λ token j. stands line token i j))
        where
          stands : (line : PlainLine) (token : PlainToken) → In line are.built_in_lines → In token line.tokens → Stands token
          stands line token i j =
              let own = own-in built_in_file (length built_in_text) 0 (entries are.built_in_lines) (entry line.directive token) (entries-rise built_in_file built_in_text are.built_in_lines are.are_built_in) (entry-of line token are.built_in_lines i j) in
              quiet-file token.origin.file token.origin.span (ap r.spans own.own.file_is ∙ fits.elsewhere built_in_file few)

      reads-stand : (number : ℕ) → IsUnitOf s number → GoodReads Stands (reads_of_unit s x misplaced number)
      reads-stand number unit =
          unit-good Stands s x are misplaced told unit.headers
          (λ other there. lines-stand other (file_at s other).bytes (are.lines other) fits.good (are.are_lines other there) (names-at r s fits x are other there))
          built-in-stand number unit.unit

      good-in : {X : Type 0} (P : X → Type 0) (y : X) (xs : List X) → AllByRecursion P xs → In y xs → P y
      good-in P y [] a i = absurd i
      good-in P y (z ∷ xs) a (inl e) = subst P (sym e) a.0
      good-in P y (z ∷ xs) a (inr i) = good-in P y xs a.1 i

      from-active : (number : ℕ) → IsUnitOf s number → (token : PlainToken) → HasActiveOrigin (reads_of_unit s x misplaced number) token → Stands token
      from-active number unit token (inl feature) = quiet-file token.origin.file token.origin.span (ap r.spans feature.0 ∙ fits.elsewhere built_in_file few)
      from-active number unit token (inr is) =
          let reads : List Read = reads_of_unit s x misplaced number in
          let read = good-in (GoodRead Stands) is.read reads (reads-stand number unit) (in-of is.read reads is.among) in
          let there : StandsAt is.token.origin.file is.token.origin.span = good-in Stands is.token is.read.tokens read (in-of is.token is.read.tokens is.within) in
          subst (λ (span : PlainSpan). StandsAt token.origin.file span) is.span_is (subst (λ (file : ℕ). StandsAt file is.token.origin.span) is.file_is there)

      all-stand : (number : ℕ) → IsUnitOf s number → (tokens : List PlainToken) → AllByRecursion (HasActiveOrigin (reads_of_unit s x misplaced number)) tokens → Good Stands tokens
      all-stand number unit [] a = tt
      all-stand number unit (token ∷ tokens) a = (from-active number unit token a.0, all-stand number unit tokens a.1)

      -- what a unit gives
      pub given-stand : TokensComeFromActive → (number : ℕ) → IsUnitOf s number → (tokens : List PlainToken) → outcome_of (preprocessed s x number) ≡ gives tokens → Good Stands tokens
      given-stand comes number unit tokens e =
          all-stand number unit tokens (recursion_from_All (HasActiveOrigin (reads_of_unit s x misplaced number)) tokens (comes s x misplaced number tokens e))
