-- A predefined name on a text line is refused there, so one that a unit gives comes out of the body of a macro.
use Rattle.std.proofs.Common.{◌≡◌, ℕ, zero, suc, Bool, true, false, ◌&&◌, List, [], ◌∷◌, Option, Some, None, refl, ap, sym}
use Rattle.std.specs.Prelude.{if◌then◌else◌}
use Rattle.std.specs.List.{list_any}
use Rattle.std.specs.Str.{bytes_eq}
use Rattle.std.proofs.lemmas.Bool.{and_from, false≢true}
use Rattle.std.proofs.lemmas.Option.{none-some}
use Rattle.std.proofs.lemmas.List.Elements.{All-from_recursion}
use Rattle.c_text.specs.declared.token.BadKind.{BadKind}
use Rattle.c_text.specs.Token.{PlainToken}
use Rattle.c_text.specs.Directives.{is_word, is_predefined, in_body}
use Rattle.c_text.specs.Macros.{Item, in_call, brought, feature}
use Rattle.c_text.specs.Trees.{Part, finish, breaks, text_lines, directive_line, group, broken_group, Branches, no_branch, branch}
use Rattle.c_text.specs.Preprocessing.{Refusal, bad_token, refusal_at, predefined, bad_kind, by_bad, or_else, refused_token, Reading, tokens_of_lines, Source, project_file, Sources, Syntax, IsSyntaxOf, setting, read_source, most_nested, at_start, feature_token, preprocessed}
use Rattle.plain_pp.specs.Laws.{ProjectsHaveSyntax}
use Rattle.active_tokens.proofs.Everywhere.{by-choice}
use Rattle.copied_tokens.specs.Copies.{IsFromBodyIfPredefined}
use Rattle.copied_tokens.specs.Laws.{PredefinedComeFromBodies}
use Rattle.copied_tokens.proofs.Replacing.{Tokens, GoodFound}
use Rattle.copied_tokens.proofs.Reading.{GoodReading, GoodFlow, flow-gives, GoodTexts, GoodBranches, part-good}

brings : (first last : PlainToken) (item : Item) → IsFromBodyIfPredefined item.token → IsFromBodyIfPredefined (brought first last item).token
brings first last item h = λ word reserved. ap in_call (h word reserved)

bodies : (token : PlainToken) → IsFromBodyIfPredefined (in_body token)
bodies token = λ word reserved. refl

abbrev Free : List PlainToken → Type 0
Free tokens = Tokens IsFromBodyIfPredefined brings tokens

-- ---- runs in which no token is refused

first-none : (a b : Option Refusal) → or_else a b ≡ None → (a ≡ None) × (b ≡ None)
first-none None b e = (refl, e)
first-none (Some why) b e = absurd (none-some why (sym e))

unrefused-free : (token : PlainToken) (bad : Option BadKind) → by_bad token bad ≡ None → IsFromBodyIfPredefined token
unrefused-free token (Some kind) e = absurd (none-some (refusal_at (bad_token kind) token) (sym e))
unrefused-free token None e = λ word reserved. absurd (refused (is_word token && is_predefined token) (and_from (is_word token) (is_predefined token) word reserved) e)
  where
    refused : (b : Bool) → b ≡ true → (if b then Some (refusal_at predefined token) else None) ≡ None → ⊥
    refused true t f = none-some (refusal_at predefined token) (sym f)
    refused false t f = false≢true t

run-free : (tokens : List PlainToken) → refused_token tokens ≡ None → Free tokens
run-free [] e = tt
run-free (token ∷ tokens) e =
    let both = first-none (by_bad token (bad_kind token.kind)) (refused_token tokens) e in
    (unrefused-free token (bad_kind token.kind) both.0, run-free tokens both.1)

mutual
  texts-free : (part : Part) → GoodTexts IsFromBodyIfPredefined brings bodies part
  texts-free finish = tt
  texts-free breaks = tt
  texts-free (text_lines lines rest) = (λ fine. run-free (tokens_of_lines lines) fine, texts-free rest)
  texts-free (directive_line line rest) = texts-free rest
  texts-free (group first body others last rest) = (texts-free body, branches-free others, texts-free rest)
  texts-free (broken_group first body others) = (texts-free body, branches-free others)

  branches-free : (others : Branches) → GoodBranches IsFromBodyIfPredefined brings bodies others
  branches-free no_branch = tt
  branches-free (branch line body others) = (texts-free body, branches-free others)

-- ---- units

abbrev Anywhere : Source → Type 0
Anywhere source = Unit {0}

module _ (s : Sources) (x : Syntax) where
  source-free : (n : ℕ) (source : Source) → Anywhere source → (r : Reading) → GoodReading IsFromBodyIfPredefined brings bodies r → GoodFlow IsFromBodyIfPredefined brings bodies (read_source s x n source r)
  source-free zero source there r g =
      part-good IsFromBodyIfPredefined brings bodies Anywhere (setting s x source None) tt (λ names found e. tt) (x.part_of source) r (texts-free (x.part_of source)) g
  source-free (suc n) source there r g =
      part-good IsFromBodyIfPredefined brings bodies Anywhere (setting s x source (Some (read_source s x n))) (source-free n) (λ names found e. tt) (x.part_of source) r (texts-free (x.part_of source)) g

  start-free : GoodReading IsFromBodyIfPredefined brings bodies (at_start s)
  start-free = record {
    table = λ name. by-choice (GoodFound IsFromBodyIfPredefined brings) (list_any (bytes_eq name) s.on_features) (Some (feature feature_token)) None (λ word reserved. refl) tt;
    tokens = tt;
  }

pub from-bodies : ProjectsHaveSyntax → PredefinedComeFromBodies
from-bodies have s number tokens is =
    let x : Syntax = (have s).0 in
    let are : IsSyntaxOf s x = (have s).1 in
    All-from_recursion IsFromBodyIfPredefined tokens
    (flow-gives IsFromBodyIfPredefined brings bodies (preprocessed s x number) tokens (source-free s x most_nested (project_file number) tt (at_start s) (start-free s x)) (is x are))
