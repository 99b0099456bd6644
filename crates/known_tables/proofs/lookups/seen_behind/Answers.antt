use Rattle.std.proofs.Common.{◌≡◌, true, false, not, sym, ap, ◌∙◌, subst}
use Rattle.std.specs.Str.{bytes_eq}
use Rattle.std.proofs.lemmas.Result.{IfOk-weaker}
use Rattle.c_types.specs.Types.{plain_type}
use Rattle.conditional.specs.Entries.{alternatives, Sees}
use Rattle.type_tables.specs.Tables.{local_named}
use Rattle.type_tables.specs.Seen.{locals_in}
use Rattle.known_tables.specs.Lookups.{found_in}
use Rattle.known_tables.proofs.Looking.{local_next, local_other, is_same, is_other}
use Rattle.known_tables.proofs.lookups.seen_behind.Goals as goal

pub returns-then-ne : goal.returns-then-ne
returns-then-ne g c = λ on object function outer named answers around.
    let other : bytes_eq c.args.name.now c.args.local.now.name.items ≡ false = is_other _ (sym (c.ne.ensures ∙ ap (λ t. not (bytes_eq c.args.name.now t)) c.as_slice.ensures.value) ∙ c.if-ne.true) in
    subst (λ what. Sees on what (alternatives g.T.Plain.form c.args.around)) (sym (local_other object function on c.args.local.now outer c.args.name.now named other)) around

pub returns : goal.returns
returns g c =
    let same : bytes_eq c.args.name.now c.args.local.now.name.items ≡ true = is_same _ (sym (c.ne.ensures ∙ ap (λ t. not (bytes_eq c.args.name.now t)) c.as_slice.ensures.value) ∙ c.if-ne.false) in
    IfOk-weaker c.shadowed.result _ _ (λ z sees on object function outer named answers around.
    subst (λ what. Sees on what (alternatives g.T.Plain.form z)) (sym (local_next object function on c.args.local.now outer c.args.name.now named same))
    (sees on (object (plain_type c.args.local.now.ty)) (found_in object function (local_named (locals_in on outer) c.args.name.now) named)
    (answers.objects_are (plain_type c.args.local.now.ty) c.in_ok-object.object (c.in_ok-object.ensures on)) around)) c.shadowed.ensures
