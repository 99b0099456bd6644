use Rattle.std.proofs.Common.{rules, arith, ◌≡◌, ℕ, suc, ◌+◌, ◌<◌, List, ◌∷◌, [], length, reverse, sym, ap, ◌∙◌}
use Rattle.std.specs.Prelude.{take, get_or}
use Rattle.std.proofs.Math.Seq.{take-suc, take-length}
use Rattle.std.proofs.lemmas.List.{reverse-append}
use Rattle.cond_formula.specs.Conditions.{value}
use Rattle.cond_formula.specs.ConditionLaws.{condition_of-False}
use Rattle.type_tables.specs.declared.entries.LocalName.{LocalName}
use Rattle.type_tables.specs.Tables.{local_named, is_in_block}
use Rattle.type_tables.specs.Seen.{locals_in}
use Rattle.type_tables.proofs.questions.where_in_block.Goals as goal

pub loop-local-init : goal.loop-local-init
loop-local-init c = λ on. ap (value on) condition_of-False

next : (i : ℕ) → suc i ≡ i + 1
next i = omega arith

one_more : (locals : List LocalName) (i : ℕ) (l : LocalName) → i < length locals → l ≡ get_or locals i l → l ∷ reverse (take i locals) ≡ reverse (take (i + 1) locals)
one_more locals i l less is =
    ap (λ x. x ∷ reverse (take i locals)) is ∙ sym (reverse-append (take i locals) (get_or locals i l ∷ [])) ∙ ap reverse (sym (take-suc locals i l less)) ∙ ap (λ n. reverse (take n locals)) (next i)

pub loop-local-preserved : goal.loop-local-preserved
loop-local-preserved c = λ on.
    c.in_ok-found.ensures on (reverse (take c.loop-local.local-index c.args.locals.now)) (c.loop-local.invariant on)
    ∙ ap (λ l. is_in_block c.args.depth (local_named (locals_in on l) c.args.name.now)) (one_more c.args.locals.now c.loop-local.local-index c.local-item.result c.loop-local-test.true c.local-item.is)

pub returns : goal.returns
returns c = λ on.
    let all : c.loop-local.local-index ≡ length c.args.locals.now = search rules in
    c.loop-local.invariant on
    ∙ ap (λ n. is_in_block c.args.depth (local_named (locals_in on (reverse (take n c.args.locals.now))) c.args.name.now)) all
    ∙ ap (λ l. is_in_block c.args.depth (local_named (locals_in on (reverse l)) c.args.name.now)) (take-length c.args.locals.now)
