-- The names that a unit gives stand where it reads tokens.
use Rattle.std.proofs.Common.{◌≡◌, ℕ, zero, suc, List, [], ◌∷◌, Some, None, refl}
use Rattle.std.specs.Prelude.{⊤, Contains}
use Rattle.std.specs.List.{AllByRecursion}
use Rattle.std.proofs.lemmas.List.Elements.{All-from_recursion, recursion_from_All, All-contains_itself, All-weaker}
use Rattle.text_edits.specs.Span.{PlainSpan}
use Rattle.c_text.specs.declared.token.TokenKind.{TokenKind}
use Rattle.c_text.specs.declared.token.TokenKind.TheVariants.{Name, Number}
use Rattle.c_text.specs.Token.{PlainToken}
use Rattle.c_text.specs.Preprocessing.{Reading, Source, project_file, Sources, Syntax, IsSyntaxOf, setting, read_source, most_nested, at_start, gives, outcome_of, preprocessed}
use Rattle.active_tokens.specs.Reads.{Read}
use Rattle.active_tokens.specs.Active.{AreMisplaced, following, reads_of_source, reads_of_unit, IsReadAt, IsActive}
use Rattle.active_tokens.proofs.Replacing.{Comes, Tokens}
use Rattle.active_tokens.proofs.Reading.{GoodReading, GoodFlow, GoodReads, part-good}
use Rattle.active_tokens.proofs.Sources.{start-good, flow-gives}
use Rattle.copied_tokens.specs.Laws.{NamesAreRead}

abbrev IsRead : List Read → ℕ → PlainSpan → Type 0
IsRead reads file span = IsReadAt reads file span (λ read. ⊤)

-- what is a name is read
abbrev ReadIfName : List Read → TokenKind → List ℕ → ℕ → PlainSpan → Type 0
ReadIfName reads kind text file span = kind ≡ Name → IsRead reads file span

read-good : (reads : List Read) (read : Read) → Contains reads read → Tokens (ReadIfName reads) read.tokens
read-good reads read among =
    recursion_from_All (Comes (ReadIfName reads)) read.tokens
    (All-weaker (Contains read.tokens) (Comes (ReadIfName reads))
    (λ token within name. record { read = read; token = token; among = among; within = within; file_is = refl; span_is = refl; holds = tt })
    read.tokens (All-contains_itself read.tokens))

reads-good : (reads : List Read) → GoodReads (ReadIfName reads) reads
reads-good reads =
    recursion_from_All (λ read. Tokens (ReadIfName reads) read.tokens) reads
    (All-weaker (Contains reads) (λ read. Tokens (ReadIfName reads) read.tokens) (read-good reads) reads (All-contains_itself reads))

module _ (Q : TokenKind → List ℕ → ℕ → PlainSpan → Type 0) (s : Sources) (x : Syntax) (misplaced : Source → List PlainToken) where
  source-good : (n : ℕ) (source : Source) (r : Reading) → GoodReading Q r → GoodReads Q (reads_of_source s x misplaced n source r) → GoodFlow Q (read_source s x n source r)
  source-good zero source r g a = part-good Q (setting s x source None) (following (misplaced source) None) tt (x.part_of source) r g a
  source-good (suc n) source r g a =
      part-good Q (setting s x source (Some (read_source s x n))) (following (misplaced source) (Some (reads_of_source s x misplaced n)))
      (source-good n) (x.part_of source) r g a

given-read : (s : Sources) (x : Syntax) (misplaced : Source → List PlainToken) (number : ℕ) (tokens : List PlainToken) → outcome_of (preprocessed s x number) ≡ gives tokens → Tokens (ReadIfName (reads_of_unit s x misplaced number)) tokens
given-read s x misplaced number tokens e =
    let reads : List Read = reads_of_unit s x misplaced number in
    flow-gives (ReadIfName reads) (preprocessed s x number) tokens
    (source-good (ReadIfName reads) s x misplaced most_nested (project_file number) (at_start s) (start-good (ReadIfName reads) s x misplaced (λ name. absurd (no-name name))) (reads-good reads)) e
  where
    no-name : Number ≡ Name → ⊥
    no-name e = cc

pub all-read : NamesAreRead
all-read s number tokens is =
    All-from_recursion (λ token. token.kind ≡ Name → IsActive s number token.origin.file token.origin.span) tokens (each tokens (λ x are misplaced told. given-read s x misplaced number tokens (is x are)))
  where
    each : (ts : List PlainToken) → ((x : Syntax) (are : IsSyntaxOf s x) (misplaced : Source → List PlainToken) → AreMisplaced are misplaced → Tokens (ReadIfName (reads_of_unit s x misplaced number)) ts) → AllByRecursion (λ token. token.kind ≡ Name → IsActive s number token.origin.file token.origin.span) ts
    each [] k = tt
    each (token ∷ ts) k = (λ name x are misplaced told. (k x are misplaced told).0 name, each ts (λ x are misplaced told. (k x are misplaced told).1))
