-- What each stage answers.
use Rattle.std.specs.Prelude.{ℕ, Bool, List, map, Vec, Contains, ⊤}
use Rattle.std.specs.declared.alloc.Global.{Global}
use Rattle.text_edits.specs.Files.{PlainFile}
use Rattle.c_text.specs.Token.{PlainToken, plain_token}
use Rattle.c_text.specs.declared.token.Token.{Token}
use Rattle.c_text.specs.Preprocessing.{Refusal, is_refused, IsPreprocessed}
use Rattle.c_tree.specs.Trees.{PlainTree}
use Rattle.c_tree.specs.Units.{IsTreeOf}
use Rattle.core_meaning.specs.declared.refusals.TypeKind.{TypeKind}
use Rattle.core_meaning.specs.declared.refusals.LinkKind.{LinkKind}
use Rattle.core_meaning.specs.Linking.{IsBadlyTyped, IsBadlyLinked}
use Rattle.project_file.specs.Projects.{PlainProject}
use Rattle.plain_pp.specs.Units.{sources_of, file_of}
use Rattle.project_program.specs.declared.programs.Stage.TheVariants.{Preprocess, Parse, Types, Link}
use Rattle.project_program.specs.declared.programs.ProgramError.{ProgramError}
use Rattle.project_program.specs.declared.programs.ProgramError.TheVariants.{NotAccepted, Memory}

abbrev pub plain_tokens : List (Vec Token Global) → List (List PlainToken)
plain_tokens units = map (λ (tokens : Vec Token Global). map plain_token tokens.items) units

-- the unit's preprocessing is refused, or memory ended
abbrev pub WhyNoTokens : PlainProject → List PlainFile → (ℕ → Bool) → ℕ → ProgramError → Type 0
WhyNoTokens project files on unit (NotAccepted Preprocess) =
    (why : Refusal) × IsPreprocessed (sources_of project files on) (file_of project unit) (is_refused why)
WhyNoTokens project files on unit (NotAccepted Parse) = ⊥
WhyNoTokens project files on unit (NotAccepted Types) = ⊥
WhyNoTokens project files on unit (NotAccepted Link) = ⊥
WhyNoTokens project files on unit Memory = ⊤

abbrev pub HasNoTree : List PlainToken → Type 0
HasNoTree tokens = (tree : PlainTree) → IsTreeOf tokens tree → ⊥

abbrev pub WhyNoTree : List PlainToken → ProgramError → Type 0
WhyNoTree tokens (NotAccepted Parse) = HasNoTree tokens
WhyNoTree tokens (NotAccepted Preprocess) = ⊥
WhyNoTree tokens (NotAccepted Types) = ⊥
WhyNoTree tokens (NotAccepted Link) = ⊥
WhyNoTree tokens Memory = ⊤

-- the tokens of one of the units have no tree
pub record LacksTree (units : List (List PlainToken)) : Type 0 where
  pub tokens : List PlainToken
  pub one : Contains units tokens
  pub treeless : HasNoTree tokens

abbrev pub WhyNoTrees : List (List PlainToken) → ProgramError → Type 0
WhyNoTrees units (NotAccepted Parse) = LacksTree units
WhyNoTrees units (NotAccepted Preprocess) = ⊥
WhyNoTrees units (NotAccepted Types) = ⊥
WhyNoTrees units (NotAccepted Link) = ⊥
WhyNoTrees units Memory = ⊤

abbrev pub WhyNotElaborated : List PlainTree → ProgramError → Type 0
WhyNotElaborated trees (NotAccepted Types) = (kind : TypeKind) × (token : PlainToken) × IsBadlyTyped trees kind token
WhyNotElaborated trees (NotAccepted Link) = (kind : LinkKind) × (name : List ℕ) × IsBadlyLinked trees kind name
WhyNotElaborated trees (NotAccepted Preprocess) = ⊥
WhyNotElaborated trees (NotAccepted Parse) = ⊥
WhyNotElaborated trees Memory = ⊤
