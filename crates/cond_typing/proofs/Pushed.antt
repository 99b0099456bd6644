-- One more operand.
use Rattle.std.proofs.Common.{◌≡◌, ℕ, Bool, true, false, not, ◌&&◌, List, [], ◌∷◌, ◌++◌, sym, ap, ◌∙◌, if◌then◌else◌}
use Rattle.c_text.specs.Token.{PlainToken}
use Rattle.c_tree.specs.declared.kinds.Kind.{Kind}
use Rattle.expression_types.specs.Known.{Callable, Known}
use Rattle.expression_types.specs.Reading.{Read, Parts, single, is_operand, is_selected, with_operand, with_sign, with_leaf}
use Rattle.cond_nodes.specs.declared.parts.CondRead.{CondRead}
use Rattle.cond_nodes.specs.declared.parts.CondParts.{CondParts}
use Rattle.cond_nodes.specs.Reads.{ShowsRead, EachRead, ShowsParts}

module _ (on : ℕ → Bool) (callable : ℕ → Callable) where
  each_pushed : (reads : List Read) (xs : List CondRead) (r : Read) (x : CondRead) → EachRead on callable reads xs → ShowsRead on callable r x → EachRead on callable (reads ++ r ∷ []) (xs ++ x ∷ [])
  each_pushed [] [] r x each shows = (shows, tt)
  each_pushed [] (y ∷ ys) r x each shows = absurd each
  each_pushed (first ∷ others) [] r x each shows = absurd each
  each_pushed (first ∷ others) (y ∷ ys) r x each shows = (each.0, each_pushed others ys r x each.1 shows)

  pub operand_pushed :
      (p : Parts) (r : Read) (x : CondRead) (old new : CondParts) → new.operands.items ≡ old.operands.items ++ x ∷ [] → new.signs ≡ old.signs → new.words ≡ old.words → new.arguments ≡ old.arguments
      → ShowsRead on callable r x → ShowsParts on callable p old → ShowsParts on callable (with_operand r p) new
  operand_pushed p r x old new grown signs words arguments shows parts = record {
    operands = rw grown (each_pushed p.operands old.operands.items r x parts.operands shows);
    signs = rw signs parts.signs;
    words = rw words parts.words;
    arguments = rw arguments parts.arguments;
  }

pub is_with_operand :
    (known : Known) (kind : Kind) (token : PlainToken) (p : Parts) → is_operand token ≡ true → is_selected kind p.signs ≡ false
    → with_operand (single known token) p ≡ with_leaf known kind token p
is_with_operand known kind token p operand selected =
    ap (λ b. if b then with_operand (single known token) p else with_sign token p) (sym (ap (λ b. b && not (is_selected kind p.signs)) operand ∙ ap not selected))
