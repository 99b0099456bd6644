-- The tokens ahead, where `on` says which features are on.
use Rattle.std.specs.Prelude.{◌≡◌, ℕ, Bool, true, false, List, [], ◌∷◌, Option, Some, None, IsTrue, if◌then◌else◌}
use Rattle.cond_formula.specs.declared.formulas.Formula.{Formula}
use Rattle.cond_formula.specs.Conditions.{condition_of, conditions_of, value, all_true}
use Rattle.c_text.specs.Token.{plain_token}
use Rattle.c_tree.specs.declared.kinds.Kind.{Kind}
use Rattle.c_tree.specs.declared.terminals.Terminal.{Terminal}
use Rattle.c_tree.specs.declared.terminals.Terminal.TheVariants.{Other}
use Rattle.c_tree.specs.Terminals.{terminal}
use Rattle.c_tree.specs.Places.{Place, Move, enters, skips, finishes, passes, move}
use Rattle.cond_tokens.specs.declared.tokens.CondToken.{CondToken}
use Rattle.grammar_moves.specs.PlainMoves.{skipping}
use Rattle.choice_lookahead.specs.declared.ahead.Ending.{Ending}

-- what the next token is to the grammar, or the end of the text
abbrev pub next_kind : (ℕ → Bool) → List CondToken → Terminal
next_kind on [] = Other
next_kind on (first ∷ rest) = if value on (condition_of first.when) then terminal (plain_token first.token) else next_kind on rest

abbrev pub ended_by : Option Kind → Move
ended_by None = passes
ended_by (Some kind) = finishes kind

-- the move of a token that ends a node
abbrev pub plain_ending : Ending → Move
plain_ending ending = skipping ending.skipped (ended_by ending.kind)

-- others that end the node end it in the same way
abbrev pub AgreesWith : Option Ending → Ending → Type 0
AgreesWith None ending = Unit {0}
AgreesWith (Some other) ending = plain_ending other ≡ plain_ending ending

-- a part begins
abbrev pub begins_part : Move → Bool
begins_part (enters behind first) = true
begins_part (skips other) = begins_part other
begins_part other = false

-- each token that may come next on the path ends the node at a place so
abbrev pub EachEnds : List Formula → Place → List CondToken → Ending → Type 0
EachEnds path place ahead ending =
    (on : ℕ → Bool) → IsTrue (all_true on (conditions_of path)) → move place (next_kind on ahead) ≡ plain_ending ending

-- with no token that may come next on the path a part begins
abbrev pub NoneBegins : List Formula → Place → List CondToken → Bool → Type 0
NoneBegins path place ahead true =
    (on : ℕ → Bool) → IsTrue (all_true on (conditions_of path)) → begins_part (move place (next_kind on ahead)) ≡ false
NoneBegins path place ahead false = Unit {0}
