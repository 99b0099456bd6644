-- The arguments of a call, one after another.
use Rattle.std.specs.Prelude.{ℕ, Bool, List}
use Rattle.core_meaning.specs.Checking.{Checked}
use Rattle.core_meaning.specs.Program.{PlainArguments, no_argument, argument}
use Rattle.plain_scope.specs.Judgements.{Gives, RefusedAs}
use Rattle.plain_scope.specs.declared.errors.ElabError.{ElabError}

abbrev pub followed_by : PlainArguments → PlainArguments → PlainArguments
followed_by no_argument behind = behind
followed_by (argument first rest) behind = argument first (followed_by rest behind)

-- What is left to judge decides what comes of all, behind the arguments that are given so far.
pub record Continues (whole rest : Checked PlainArguments) (given : PlainArguments) (before now : List ℕ → Bool) : Type 0 where
  pub gives : (others : PlainArguments) (after : List ℕ → Bool) → Gives rest others now after → Gives whole (followed_by given others) before after
  pub refuses : (error : ElabError) → RefusedAs rest error → RefusedAs whole error
