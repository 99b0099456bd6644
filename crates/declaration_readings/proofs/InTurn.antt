-- Where a list is judged declarator by declarator, it comes to what is read of it.
use Rattle.std.proofs.Common.{◌≡◌, Bool, true, false, List, [], ◌∷◌, IsTrue, refl, sym, ap, ◌∙◌, subst}
use Rattle.std.specs.Prelude.{Some, None}
use Rattle.std.proofs.lemmas.Bool.{false≢true}
use Rattle.c_text.specs.Token.{PlainToken}
use Rattle.c_tree.specs.declared.terminals.Terminal.TheVariants as t
use Rattle.c_tree.specs.Trees.{PlainTree, PlainTrees, leaf, none, more}
use Rattle.c_tree.specs.Grammar.{Role, may_be_initialised}
use Rattle.tree_derivations.specs.Derivations.{IsWord, Declared, last_plain, last_initialised, next_plain, next_initialised}
use Rattle.core_meaning.specs.Checking.{Binding, Checked, fine, refused, broken, with_bindings, ◌>>=◌}
use Rattle.choice_expansions.specs.Steps.{after_each}
use Rattle.declarator_lists.specs.Lists as list
use Rattle.declaration_readings.specs.Readings.{Going, after, goes_on, goes_through, IsSame}
use Rattle.declaration_readings.proofs.Lists.{declared, one_alone, one_before, value_alone, value_before}

-- where something is behind a comma
abbrev pub is_filled : PlainTrees → Bool
is_filled none = false
is_filled (more tree rest) = true

filled : {role : Role} {parts : PlainTrees} → Declared role parts → is_filled parts ≡ true
filled (last_plain d) = refl
filled (last_initialised m d w v) = refl
filled (next_plain d w s) = refl
filled (next_initialised m d w v c s) = refl

pub bound : {S : Type 0} (g : Going S) (bindings : List Binding) (c : Checked S) → after g (with_bindings bindings c) ≡ after g c
bound g bindings (fine s more_) = refl
bound g bindings (refused kind token) = refl
bound g bindings broken = refl

module _ {S : Type 0} (one : S → list.Declared → Checked S) (all : S → PlainTrees → Checked S) (role : Role) where
  -- how the judgement of a list begins
  pub record IsInTurn : Type 0 where
    pub alone : (s : S) (tree : PlainTree) → all s (more tree none) ≡ one s (declared tree None)
    pub alone_with : (s : S) (tree value : PlainTree) (sign : PlainToken) → IsTrue (may_be_initialised role) → IsWord (t.Assign ∷ []) sign
        → all s (more tree (more (leaf sign) (more value none))) ≡ one s (declared tree (Some value))
    pub before : (g : Going S) (s : S) (tree : PlainTree) (comma : PlainToken) (rest : PlainTrees) → IsWord (t.Comma ∷ []) comma → is_filled rest ≡ true
        → after g (all s (more tree (more (leaf comma) rest))) ≡ after g (one s (declared tree None) >>= (λ next. all next rest))
    pub before_with : (g : Going S) (s : S) (tree value : PlainTree) (sign comma : PlainToken) (rest : PlainTrees) → IsTrue (may_be_initialised role) → IsWord (t.Assign ∷ []) sign
        → after g (all s (more tree (more (leaf sign) (more value (more (leaf comma) rest))))) ≡ after g (one s (declared tree (Some value)) >>= (λ next. all next rest))

  refused_alike : (g h : Going S) (c : Checked S) → g.refused ≡ true → IsSame (after g c) (record { state = h.state; refused = true })
  refused_alike g h (fine s bindings) r = record { refused = r; state = λ e. absurd (false≢true (sym e)) }
  refused_alike g h (refused kind token) r = record { refused = refl; state = λ e. absurd (false≢true (sym e)) }
  refused_alike g h broken r = record { refused = refl; state = λ e. absurd (false≢true (sym e)) }

  judged_alike : (g h : Going S) (c : Checked S) → g.refused ≡ h.refused → IsSame (after g c) (after h c)
  judged_alike g h (fine s bindings) r = record { refused = r; state = λ e. refl }
  judged_alike g h (refused kind token) r = record { refused = refl; state = λ e. absurd (false≢true (sym e)) }
  judged_alike g h broken r = record { refused = refl; state = λ e. absurd (false≢true (sym e)) }

  same_then : (a b c : Going S) → IsSame a b → IsSame b c → IsSame a c
  same_then a b c x y = record { refused = x.refused ∙ y.refused; state = λ e. x.state (y.refused ∙ e) ∙ y.state e }

  -- one, and the others behind it
  pub then_others : (g : Going S) (first : Checked S) (rest : PlainTrees) (others : Going S) → IsSame others (after (after g first) (all (after g first).state rest))
      → IsSame others (after g (first >>= (λ next. all next rest)))
  then_others g (fine s bindings) rest others same =
      subst (IsSame others) (sym (bound g bindings (all s rest)))
      (same_then others _ _ same (judged_alike (record { state = s; refused = g.refused }) g (all s rest) refl))
  then_others g (refused kind token) rest others same = same_then others _ _ same (refused_alike (record { state = g.state; refused = true }) g (all g.state rest) refl)
  then_others g broken rest others same = same_then others _ _ same (refused_alike (record { state = g.state; refused = true }) g (all g.state rest) refl)

  pub in_turn : IsInTurn → {parts : PlainTrees} → Declared role parts → (g : Going S) → IsSame (goes_through one g parts) (after g (all g.state parts))
  in_turn h (last_plain {tree = tree} d) g =
      subst (λ l. IsSame (after_each (goes_on one) g l) (after g (all g.state (more tree none)))) (sym (one_alone d))
      (record { refused = ap (λ c. (after g c).refused) (sym (h.alone g.state tree)); state = λ e. ap (λ c. (after g c).state) (sym (h.alone g.state tree)) })
  in_turn h (last_initialised {tree = tree} {value = value} {sign = sign} m d w v) g =
      subst (λ l. IsSame (after_each (goes_on one) g l) (after g (all g.state (more tree (more (leaf sign) (more value none)))))) (sym (value_alone d sign w v))
      (record { refused = ap (λ c. (after g c).refused) (sym (h.alone_with g.state tree value sign m w)); state = λ e. ap (λ c. (after g c).state) (sym (h.alone_with g.state tree value sign m w)) })
  in_turn h (next_plain {tree = tree} {comma = comma} {rest = rest} d w s) g =
      subst (λ l. IsSame (after_each (goes_on one) g l) (after g (all g.state (more tree (more (leaf comma) rest))))) (sym (one_before d comma rest w))
      (subst (IsSame (goes_through one (after g (one g.state (declared tree None))) rest)) (sym (h.before g g.state tree comma rest w (filled s)))
      (then_others g (one g.state (declared tree None)) rest (goes_through one (after g (one g.state (declared tree None))) rest) (in_turn h s (after g (one g.state (declared tree None))))))
  in_turn h (next_initialised {tree = tree} {value = value} {sign = sign} {comma = comma} {rest = rest} m d w v c s) g =
      subst (λ l. IsSame (after_each (goes_on one) g l) (after g (all g.state (more tree (more (leaf sign) (more value (more (leaf comma) rest))))))) (sym (value_before d sign w v comma rest))
      (subst (IsSame (goes_through one (after g (one g.state (declared tree (Some value)))) rest)) (sym (h.before_with g g.state tree value sign comma rest m w))
      (then_others g (one g.state (declared tree (Some value))) rest (goes_through one (after g (one g.state (declared tree (Some value)))) rest) (in_turn h s (after g (one g.state (declared tree (Some value)))))))
