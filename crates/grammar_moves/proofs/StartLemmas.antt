-- How parts begin with tokens that no special case takes.
use Rattle.std.proofs.Common.{◌≡◌, drop, refl}
use Rattle.c_tree.specs.declared.kinds.Kind.TheVariants as k
use Rattle.c_tree.specs.declared.terminals.Terminal.{Terminal}
use Rattle.c_tree.specs.declared.terminals.Terminal.TheVariants.{OpenBrace, Semicolon, If, While, Do, For, Jump, Return}
use Rattle.c_tree.specs.Grammar.{row}
use Rattle.c_tree.specs.Places.{inside, around, either, begins_local, begins_expression, begins_statement, begins_initialiser, begins_for}

pub begins_for-other :
    (token : Terminal) → (token ≡ Semicolon → ⊥)
    → begins_for token ≡ either (begins_local token) (around (inside k.ForStart (drop 1 (row k.ForStart))) (begins_expression 1 token))
begins_for-other Semicolon other = absurd (other refl)
begins_for-other _ other = refl

pub begins_statement-other :
    (token : Terminal) → (token ≡ OpenBrace → ⊥) → (token ≡ Semicolon → ⊥) → (token ≡ If → ⊥) → (token ≡ While → ⊥)
    → (token ≡ Do → ⊥) → (token ≡ For → ⊥) → (token ≡ Jump → ⊥) → (token ≡ Return → ⊥)
    → begins_statement token ≡ around (inside k.ExpressionStatement (drop 1 (row k.ExpressionStatement))) (begins_expression 1 token)
begins_statement-other OpenBrace a b c d e f g h = absurd (a refl)
begins_statement-other Semicolon a b c d e f g h = absurd (b refl)
begins_statement-other If a b c d e f g h = absurd (c refl)
begins_statement-other While a b c d e f g h = absurd (d refl)
begins_statement-other Do a b c d e f g h = absurd (e refl)
begins_statement-other For a b c d e f g h = absurd (f refl)
begins_statement-other Jump a b c d e f g h = absurd (g refl)
begins_statement-other Return a b c d e f g h = absurd (h refl)
begins_statement-other _ a b c d e f g h = refl

pub begins_initialiser-other : (token : Terminal) → (token ≡ OpenBrace → ⊥) → begins_initialiser token ≡ begins_expression 1 token
begins_initialiser-other OpenBrace other = absurd (other refl)
begins_initialiser-other _ other = refl
