use Rattle.std.proofs.Common.{◌≡◌, ℕ, List, true, false, map, length, sym, ap, subst, ◌∙◌, Vec, Global, codes}
use Rattle.std.specs.Prelude.{None}
use Rattle.std.proofs.lemmas.List.{length-map}
use Rattle.c_types.specs.Types.{PlainType, plain_type}
use Rattle.core_meaning.specs.Linking as spec
use Rattle.core_meaning.specs.Linking.{Linked, function_in, global_in, unit_of, listed, or_zero, place_where, same_linked, parts_of_body}
use Rattle.core_meaning.specs.Plain.{plain_function, plain_global, plain_layout}
use Rattle.plain_scope.specs.PlainScope.{plain_struct}
use Rattle.plain_link.specs.declared.left.Left.{Left}
use Rattle.plain_link.specs.PlainUnits.{plain_unit}
use Rattle.plain_numbers.specs.declared.places.Linked.{Linked as Key}
use Rattle.plain_numbers.specs.PlainLinked.{plain_linked}
use Rattle.plain_program.specs.Owners.{key_in, type_at}
use Rattle.plain_program.specs.Bodies.{held}
use Rattle.plain_program.specs.Functions.{function_for, AreApart}
use Rattle.plain_program.specs.Globals.{global_for}
use Rattle.plain_program.proofs.ProgramLaws.{listed_same, functions_are, globals_are, listed_apart, as_long, program_same}
use Rattle.plain_program.proofs.programs.program.Goals as goal

keys_are : (units given : List Left) (names listing keys : List Key) → map plain_linked keys ≡ map (key_in (map (plain_unit 0) given)) (map plain_linked names) → given ≡ units → names ≡ listing → map plain_linked keys ≡ map (key_in (map (plain_unit 0) units)) (map plain_linked listing)
keys_are units given names listing keys h u n =
    h ∙ ap (λ us. map (key_in (map (plain_unit 0) us)) (map plain_linked names)) u ∙ ap (λ l. map (key_in (map (plain_unit 0) units)) (map plain_linked l)) n

pub functions_of-requires : goal.functions_of-requires
functions_of-requires c =
    let are = keys_are c.args.units.items c.as_slice.result.now c.as_slice-2.result.now c.args.functions.now.list.items c.in_ok-function_keys.function_keys.items c.in_ok-function_keys.ensures c.as_slice.ensures.value c.as_slice-2.ensures.value in
    subst AreApart (sym c.as_slice-7.ensures.value)
    (listed_apart c.args.units.items true c.in_ok-function_keys.function_keys.items (map plain_linked c.args.functions.now.list.items) c.requires.functions.list are)

pub globals_of-requires-clause-apart : goal.globals_of-requires-clause-apart
globals_of-requires-clause-apart c =
    let are = keys_are c.args.units.items c.as_slice-3.result.now c.as_slice-4.result.now c.args.objects.now.list.items c.in_ok-object_keys.object_keys.items c.in_ok-object_keys.ensures c.as_slice-3.ensures.value c.as_slice-4.ensures.value in
    subst AreApart (sym c.as_slice-8.ensures.value)
    (listed_apart c.args.units.items false c.in_ok-object_keys.object_keys.items (map plain_linked c.args.objects.now.list.items) c.requires.objects.list are)

typed_are : (units given : List Left) (keys asked keys2 : List Key) (types types2 : List PlainType) → types ≡ map (λ key. type_at (map (plain_unit 0) given) (plain_linked key)) asked → given ≡ units → asked ≡ keys → keys2 ≡ keys → types2 ≡ types → types2 ≡ map (λ key. type_at (map (plain_unit 0) units) (plain_linked key)) keys2
typed_are units given keys asked keys2 types types2 h u a k t =
    t ∙ h ∙ ap (λ us. map (λ (key : Key). type_at (map (plain_unit 0) us) (plain_linked key)) asked) u
    ∙ ap (map (λ (key : Key). type_at (map (plain_unit 0) units) (plain_linked key))) (a ∙ sym k)

pub globals_of-requires-clause-typed : goal.globals_of-requires-clause-typed
globals_of-requires-clause-typed c =
    let us = map (plain_unit 0) c.args.units.items in
    as_long plain_type (λ (key : Key). type_at us (plain_linked key)) c.as_slice-9.result.now c.as_slice-8.result.now
    (typed_are c.args.units.items c.as_slice-5.result.now c.in_ok-object_keys.object_keys.items c.as_slice-6.result.now c.as_slice-8.result.now
    (map plain_type c.in_ok-types.types.items) (map plain_type c.as_slice-9.result.now)
    c.in_ok-types.ensures c.as_slice-5.ensures.value c.as_slice-6.ensures.value c.as_slice-8.ensures.value (ap (map plain_type) c.as_slice-9.ensures.value))

pub returns : goal.returns
returns c = λ trees texts.
    let units = c.args.units.items in
    let g = length c.args.objects.now.list.items in
    let us = map (plain_unit 0) units in
    let linked = map (plain_unit g) units in
    let function_keys = c.in_ok-function_keys.function_keys.items in
    let object_keys = c.in_ok-object_keys.object_keys.items in
    let functions = map plain_linked c.args.functions.now.list.items in
    let objects = map plain_linked c.args.objects.now.list.items in
    let bodies = c.in_ok-bodies.bodies in
    let rest = c.functions_of.new.bodies in
    let T : Key → PlainType = λ key. type_at us (plain_linked key) in
    let function_keys_are = keys_are units c.as_slice.result.now c.as_slice-2.result.now c.args.functions.now.list.items function_keys c.in_ok-function_keys.ensures c.as_slice.ensures.value c.as_slice-2.ensures.value in
    let object_keys_are = keys_are units c.as_slice-3.result.now c.as_slice-4.result.now c.args.objects.now.list.items object_keys c.in_ok-object_keys.ensures c.as_slice-3.ensures.value c.as_slice-4.ensures.value in
    let typed = typed_are units c.as_slice-5.result.now object_keys c.as_slice-6.result.now c.as_slice-8.result.now
    (map plain_type c.in_ok-types.types.items) (map plain_type c.as_slice-9.result.now)
    c.in_ok-types.ensures c.as_slice-5.ensures.value c.as_slice-6.ensures.value c.as_slice-8.ensures.value (ap (map plain_type) c.as_slice-9.ensures.value) in
    let functions_listed : functions ≡ listed linked true = c.requires.functions.list ∙ listed_same 0 g units true in
    let objects_listed : objects ≡ listed linked false = c.requires.objects.list ∙ listed_same 0 g units false in
    let made : map plain_function c.in_ok-functions.functions.items ≡ map (λ (e : Linked). function_in e (unit_of e 0 linked)) (listed linked true) =
    c.in_ok-functions.ensures.functions g
    ∙ ap (map (λ (key : Key). function_for key (held g bodies key))) c.as_slice-7.ensures.value
    ∙ functions_are g units function_keys functions (held g bodies) function_keys_are (c.in_ok-bodies.ensures g)
    ∙ ap (map (λ (e : Linked). function_in e (unit_of e 0 linked))) functions_listed in
    let long : length c.in_ok-globals.globals.items ≡ g =
    as_long (plain_global g) (λ (key : Key). global_for (T key) key (held g rest key)) c.in_ok-globals.globals.items c.as_slice-8.result.now (c.in_ok-globals.ensures g T typed)
    ∙ ap length c.as_slice-8.ensures.value
    ∙ as_long plain_linked (key_in us) object_keys objects object_keys_are
    ∙ length-map c.args.objects.now.list.items plain_linked in
    let objects_made : map (plain_global (length c.in_ok-globals.globals.items)) c.in_ok-globals.globals.items ≡ map (λ (e : Linked). global_in e (unit_of e 0 linked)) (listed linked false) =
    ap (λ n. map (plain_global n) c.in_ok-globals.globals.items) long
    ∙ c.in_ok-globals.ensures g T typed
    ∙ ap (map (λ (key : Key). global_for (T key) key (held g rest key))) c.as_slice-8.ensures.value
    ∙ globals_are g units object_keys objects (held g rest) object_keys_are (λ k. c.in_ok-functions.ensures.objects g k ∙ ap parts_of_body (c.in_ok-bodies.ensures g k))
    ∙ ap (map (λ (e : Linked). global_in e (unit_of e 0 linked))) objects_listed in
    let main : c.in_ok-main.main ≡ or_zero (place_where (same_linked (record { name = codes "main"; unit = None })) (listed linked true)) =
    c.in_ok-main.ensures ∙ ap (λ (known : List Linked). or_zero (place_where (same_linked (record { name = codes "main"; unit = None })) known)) functions_listed in
    program_same
    (map plain_layout c.in_ok-structs.structs.items) (map (λ s. map (λ m. m.ty) s.members) (map plain_struct c.args.structs.now))
    (map plain_function c.in_ok-functions.functions.items) (map (λ (e : Linked). function_in e (unit_of e 0 linked)) (listed linked true))
    (map (plain_global (length c.in_ok-globals.globals.items)) c.in_ok-globals.globals.items) (map (λ (e : Linked). global_in e (unit_of e 0 linked)) (listed linked false))
    (map (λ (bytes : Vec ℕ Global). bytes.items) c.args.literals.items) (spec.literals_of trees)
    c.in_ok-main.main (or_zero (place_where (same_linked (record { name = codes "main"; unit = None })) (listed linked true)))
    c.in_ok-structs.ensures made objects_made texts main
