-- What a unit gives stands where what it reads does, but for the tokens of features.
use Rattle.std.proofs.Common.{◌≡◌, ℕ, zero, suc, List, Some, None, refl, subst, All, inl, inr}
use Rattle.std.specs.Prelude.{⊤, ◌⊎◌, Contains}
use Rattle.std.specs.List.{list_any}
use Rattle.std.specs.Str.{bytes_eq}
use Rattle.std.proofs.lemmas.List.Elements.{All-from_recursion, recursion_from_All, All-contains_itself, All-weaker}
use Rattle.text_edits.specs.Span.{PlainSpan}
use Rattle.c_text.specs.declared.token.TokenKind.{TokenKind}
use Rattle.c_text.specs.Token.{PlainToken}
use Rattle.c_text.specs.Macros.{feature}
use Rattle.c_text.specs.Preprocessing.{Refusal, Reading, Flow, on, refused, Source, project_file, Sources, Syntax, setting, read_source, most_nested, at_start, feature_token, gives, is_refused, outcome_of, preprocessed}
use Rattle.active_tokens.specs.Reads.{Read}
use Rattle.active_tokens.specs.Active.{following, reads_of_source, reads_of_unit, IsReadAt, HasActiveOrigin}
use Rattle.active_tokens.proofs.Everywhere.{by-choice}
use Rattle.active_tokens.proofs.Replacing.{Comes, Tokens, GoodFound}
use Rattle.active_tokens.proofs.Reading.{GoodReading, GoodFlow, GoodReads, part-good}

module _ (Q : TokenKind → List ℕ → ℕ → PlainSpan → Type 0) (s : Sources) (x : Syntax) (misplaced : Source → List PlainToken) where
  source-good : (n : ℕ) (source : Source) (r : Reading) → GoodReading Q r → GoodReads Q (reads_of_source s x misplaced n source r) → GoodFlow Q (read_source s x n source r)
  source-good zero source r g a = part-good Q (setting s x source None) (following (misplaced source) None) tt (x.part_of source) r g a
  source-good (suc n) source r g a =
      part-good Q (setting s x source (Some (read_source s x n))) (following (misplaced source) (Some (reads_of_source s x misplaced n)))
      (source-good n) (x.part_of source) r g a

  pub start-good : Q feature_token.kind feature_token.text feature_token.origin.file feature_token.origin.span → GoodReading Q (at_start s)
  start-good q =
      record { table = λ name. by-choice (GoodFound Q) (list_any (bytes_eq name) s.on_features) (Some (feature feature_token)) None q tt; tokens = tt }

gives-same : (a b : List PlainToken) → gives a ≡ gives b → a ≡ b
gives-same a b e = cc

refused-gives : (why : Refusal) (b : List PlainToken) → is_refused why ≡ gives b → ⊥
refused-gives why b e = cc

pub flow-gives : (Q : TokenKind → List ℕ → ℕ → PlainSpan → Type 0) (flow : Flow) (tokens : List PlainToken) → GoodFlow Q flow → outcome_of flow ≡ gives tokens → Tokens Q tokens
flow-gives Q (on r) tokens g e = subst (λ (l : List PlainToken). Tokens Q l) (gives-same r.tokens tokens e) g.tokens
flow-gives Q (refused why) tokens g e = absurd (refused-gives why tokens e)

-- what is read is active
abbrev AtPlace : List Read → TokenKind → List ℕ → ℕ → PlainSpan → Type 0
AtPlace reads kind text file span = ((file ≡ feature_token.origin.file) × (span ≡ feature_token.origin.span)) ⊎ IsReadAt reads file span (λ read. ⊤)

read-active : (reads : List Read) (read : Read) → Contains reads read → Tokens (AtPlace reads) read.tokens
read-active reads read among =
    recursion_from_All (Comes (AtPlace reads)) read.tokens
    (All-weaker (Contains read.tokens) (Comes (AtPlace reads))
    (λ token within. inr (record { read = read; token = token; among = among; within = within; file_is = refl; span_is = refl; holds = tt }))
    read.tokens (All-contains_itself read.tokens))

reads-active : (reads : List Read) → GoodReads (AtPlace reads) reads
reads-active reads =
    recursion_from_All (λ read. Tokens (AtPlace reads) read.tokens) reads
    (All-weaker (Contains reads) (λ read. Tokens (AtPlace reads) read.tokens) (read-active reads) reads (All-contains_itself reads))

pub from-active : (s : Sources) (x : Syntax) (misplaced : Source → List PlainToken) (number : ℕ) (tokens : List PlainToken) → outcome_of (preprocessed s x number) ≡ gives tokens → All (HasActiveOrigin (reads_of_unit s x misplaced number)) tokens
from-active s x misplaced number tokens e =
    let reads : List Read = reads_of_unit s x misplaced number in
    let good : GoodFlow (AtPlace reads) (preprocessed s x number) =
    source-good (AtPlace reads) s x misplaced most_nested (project_file number) (at_start s)
    (start-good (AtPlace reads) s x misplaced (inl (refl, refl))) (reads-active reads) in
    All-from_recursion (HasActiveOrigin reads) tokens (flow-gives (AtPlace reads) (preprocessed s x number) tokens good e)
