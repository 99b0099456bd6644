use Rattle.std.proofs.Common.{◌≡◌, List, [], ◌∷◌, ◌++◌, map, Some, refl, sym, ap, ◌∙◌}
use Rattle.c_text.specs.Token.{PlainToken, plain_token}
use Rattle.c_text.specs.PlainMacros.{plain_macro}
use Rattle.cond_formula.specs.Conditions.{condition_of, value}
use Rattle.conditional.specs.Entries.{entries_of, seen, under}
use Rattle.macro_table.specs.MacroTables.{macro_meaning}
use Rattle.cond_bodies.specs.CondMeanings.{PlainFunction, plain_function, object_of, function_of}
use Rattle.cond_bodies.proofs.ItemLemmas.{seen_pushed}
use Rattle.cond_bodies.proofs.meanings.Meanings.add.Goals as goal

pub returns-in_ok-push-in-None-clause-objects : goal.returns-in_ok-push-in-None-clause-objects
returns-in_ok-push-in-None-clause-objects c = λ on.
    let e : object_of (Some (macro_meaning (plain_macro c.args.given.now))) ≡ map plain_token c.as_slice-body.result.now ∷ [] = rw (c.in-None.is, c.as_slice-body.ensures.value) refl in
    seen_pushed (λ b. map plain_token b.now) on _ _ _ c.in_ok-push-in-None.ensures.items
    ∙ ap (λ (l : List (List PlainToken)). seen on (entries_of (λ b. map plain_token b.now) c.args.self.now.objects.items) ++ under (value on (condition_of c.args.when)) l) (sym e)

pub returns-in_ok-push-in-Some-clause-functions : goal.returns-in_ok-push-in-Some-clause-functions
returns-in_ok-push-in-Some-clause-functions c = λ on.
    let e : function_of (Some (macro_meaning (plain_macro c.args.given.now))) ≡ record { params = map (λ n. n.items) c.as_slice.result.now; body = map plain_token c.as_slice-body.result.now } ∷ [] =
    rw (c.in-Some.is, c.as_slice-body.ensures.value, c.as_slice.ensures.value) refl in
    seen_pushed plain_function on _ _ _ c.in_ok-push-in-Some.ensures.items
    ∙ ap (λ (l : List PlainFunction). seen on (entries_of plain_function c.args.self.now.functions.items) ++ under (value on (condition_of c.args.when)) l) (sym e)
