-- Units that are judged twice, and then linked.
use Rattle.std.proofs.Common.{◌≡◌, ℕ, List, [], length, false, sym, ap, subst, ◌∙◌}
use Rattle.c_tree.specs.Trees.{PlainTree}
use Rattle.core_meaning.specs.Checking.{Checked, with_bindings, ◌>>=◌, give}
use Rattle.core_meaning.specs.Entities.{Numbers}
use Rattle.core_meaning.specs.Linking.{Units, judged_units, judged_program, no_numbers, numbers_in, listed, literals_of}
use Rattle.plain_scope.specs.Judgements.{RefusedAs}
use Rattle.plain_scope.specs.JudgementLaws.{refused_then}
use Rattle.plain_scope.specs.declared.errors.ElabError.{ElabError}
use Rattle.plain_scope.specs.declared.errors.ElabError.TheVariants.{BadType, Link, Memory}
use Rattle.plain_link.specs.Faults.{NotLinked}
use Rattle.plain_elab.specs.Elaborated.{NotElaborated}

with_numbers : (trees : List PlainTree) (first : Units) (N : ℕ → Numbers) (g : ℕ) → N ≡ numbers_in first.units (literals_of trees) → g ≡ length (listed first.units false) → judged_units N g 0 [] trees ≡ judged_units (numbers_in first.units (literals_of trees)) (length (listed first.units false)) 0 [] trees
with_numbers trees first N g n k =
    ap (λ (m : ℕ → Numbers). judged_units m g 0 [] trees) n ∙ ap (λ (m : ℕ). judged_units (numbers_in first.units (literals_of trees)) m 0 [] trees) k

pub whole_given : (trees : List PlainTree) (first second : Units) (N : ℕ → Numbers) (g : ℕ) → judged_units no_numbers 0 0 [] trees ≡ give first → N ≡ numbers_in first.units (literals_of trees) → g ≡ length (listed first.units false) → judged_units N g 0 [] trees ≡ give second → judged_program trees ≡ give second
whole_given trees first second N g h n k judged =
    let next : Units → Checked Units = λ f. judged_units (numbers_in f.units (literals_of trees)) (length (listed f.units false)) 0 [] trees in
    ap (λ (c : Checked Units). c >>= next) h
    ∙ ap (with_bindings []) (sym (with_numbers trees first N g n k) ∙ judged)

pub whole_refused : (trees : List PlainTree) (first : Units) (N : ℕ → Numbers) (g : ℕ) (e : ElabError) → judged_units no_numbers 0 0 [] trees ≡ give first → N ≡ numbers_in first.units (literals_of trees) → g ≡ length (listed first.units false) → RefusedAs (judged_units N g 0 [] trees) e → RefusedAs (judged_program trees) e
whole_refused trees first N g e h n k refusal =
    let next : Units → Checked Units = λ f. judged_units (numbers_in f.units (literals_of trees)) (length (listed f.units false)) 0 [] trees in
    refused_then (judged_units no_numbers 0 0 [] trees) next first [] e h
    (subst (λ (c : Checked Units). RefusedAs c e) (with_numbers trees first N g n k) refusal)

pub not_elaborated : (trees : List PlainTree) (linked : Units) (e : ElabError) → judged_program trees ≡ give linked → NotLinked linked e → NotElaborated trees e
not_elaborated trees linked (Link kind name) judged h = record { linked = linked; bindings = []; judged = judged; first = h }
not_elaborated trees linked (BadType kind at) judged h = absurd h
not_elaborated trees linked Memory judged h = tt
