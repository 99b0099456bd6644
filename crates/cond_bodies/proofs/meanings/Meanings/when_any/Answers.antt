use Rattle.std.proofs.Common.{◌≡◌, Bool, ◌||◌, List, map, ap, ◌∙◌}
use Rattle.c_text.specs.Token.{PlainToken, plain_token}
use Rattle.cond_formula.specs.Conditions.{Condition, condition_of, value}
use Rattle.conditional.specs.declared.entries.Guarded.{Guarded}
use Rattle.conditional.specs.Entries.{entries_of, some_holds}
use Rattle.cond_bodies.specs.declared.meanings.Function.{Function}
use Rattle.cond_bodies.specs.CondMeanings.{PlainFunction, plain_function, object_of, function_of}
use Rattle.cond_bodies.proofs.LevelLemmas.{is_some_list, holds_is_seen, some_is_any}
use Rattle.cond_bodies.proofs.meanings.Meanings.when_any.Goals as goal

pub returns : goal.returns
returns c = λ on meaning means.
    let objects : value on (condition_of c.in_ok-objects.objects) ≡ is_some_list (object_of meaning) =
    c.in_ok-objects.ensures on
    ∙ ap (λ (l : _). some_holds on (entries_of (λ x. x) l)) c.as_slice.ensures.value
    ∙ holds_is_seen (λ b. map plain_token b.now) on c.args.self.now.objects.items
    ∙ ap (λ (l : List (List PlainToken)). is_some_list l) means.objects in
    let functions : value on (condition_of c.in_ok-functions.functions) ≡ is_some_list (function_of meaning) =
    c.in_ok-functions.ensures on
    ∙ ap (λ (l : List (Guarded Function)). some_holds on (entries_of (λ x. x) l)) c.as_slice-2.ensures.value
    ∙ holds_is_seen plain_function on c.args.self.now.functions.items
    ∙ ap (λ (l : List PlainFunction). is_some_list l) means.functions in
    c.in_ok-some-2.ensures on
    ∙ ap (λ (b : Bool). b || value on (condition_of c.in_ok-try_clone.field-0)) (c.in_ok-some.ensures on)
    ∙ ap (λ (b : Bool). (b || value on (condition_of c.in_ok-functions.functions)) || value on (condition_of c.in_ok-try_clone.field-0)) objects
    ∙ ap (λ (b : Bool). (is_some_list (object_of meaning) || b) || value on (condition_of c.in_ok-try_clone.field-0)) functions
    ∙ ap (λ (d : Condition). (is_some_list (object_of meaning) || is_some_list (function_of meaning)) || value on d) c.in_ok-try_clone.ensures
    ∙ ap (λ (b : Bool). (is_some_list (object_of meaning) || is_some_list (function_of meaning)) || b) means.feature
    ∙ some_is_any meaning
