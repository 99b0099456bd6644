use Rattle.std.proofs.Common.{◌≡◌, [], ◌∷◌, sym, ap, ◌∙◌, subst}
use Rattle.cond_formula.specs.Features.{has}
use Rattle.cond_formula.specs.Conditions.{value}
use Rattle.conditional.specs.Entries.{seen}
use Rattle.c_tree.specs.declared.kinds.Kind.TheVariants as k
use Rattle.choice_trees.specs.ChoiceTrees.{plain_choices, parts_at}
use Rattle.choice_variants.specs.Variants.{shown}
use Rattle.cond_locals.proofs.declarations.LocalDeclarationsDeclarations.declare.Goals as goal

pub returns-clause-elsewhere : goal.returns-clause-elsewhere
returns-clause-elsewhere g c = λ n admitted off.
    (c.in_ok-refused.ensures.declares n (parts_at (has n) k.LocalDeclaration 0 (plain_choices c.args.parts.now)) (ap (value (has n)) c.in_ok-all.ensures.kept ∙ admitted)
    (subst (λ list. seen (has n) (shown (has n) list) ≡ parts_at (has n) k.LocalDeclaration 0 (plain_choices c.args.parts.now) ∷ []) (sym c.deref.ensures.value) (c.in_ok-all.ensures.alone n admitted))).elsewhere off

pub returns-clause-declared : goal.returns-clause-declared
returns-clause-declared g c = λ n admitted on scope slots follows derived.
    ((c.in_ok-refused.ensures.declares n (parts_at (has n) k.LocalDeclaration 0 (plain_choices c.args.parts.now)) (ap (value (has n)) c.in_ok-all.ensures.kept ∙ admitted)
    (subst (λ list. seen (has n) (shown (has n) list) ≡ parts_at (has n) k.LocalDeclaration 0 (plain_choices c.args.parts.now) ∷ []) (sym c.deref.ensures.value) (c.in_ok-all.ensures.alone n admitted))).does on).declared scope slots follows derived
