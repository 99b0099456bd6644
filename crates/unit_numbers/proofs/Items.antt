-- The items of a unit, one after the other, and the law on units.
use Rattle.std.proofs.Common.{◌≡◌, ℕ, ◌+◌, suc, ◌≤◌, ◌<◌, Bool, true, false, List, [], ◌∷◌, ◌++◌, map, refl, sym, ap, subst, ◌∙◌, length, IsTrue, arith}
use Rattle.std.specs.Prelude.{Option, Some, None, slice_get, ◌==◌, if◌then◌else◌}
use Rattle.std.proofs.lemmas.Bool.{eq-eqb, eqb-true}
use Rattle.std.proofs.lemmas.Option.{none-some}
use Rattle.c_text.specs.Token.{PlainToken}
use Rattle.c_types.specs.Types.{PlainType}
use Rattle.c_tree.specs.declared.kinds.Kind.TheVariants as k
use Rattle.c_tree.specs.declared.terminals.Terminal.TheVariants as t
use Rattle.c_tree.specs.Grammar.{is_unit}
use Rattle.c_tree.specs.Trees.{PlainTree, PlainTrees, leaf, node, none, more}
use Rattle.core_meaning.specs.Checking.{Entity, local_entity, local_of_function, file_entity, struct_entity, member_entity, own_entity, Binding, Checked, fine, refused, broken, ◌>>=◌, give, or_broken, in_function, numbered, numbered_binding}
use Rattle.core_meaning.specs.Entities.{Table, Struct, FileName, Numbers, Scope, local_in}
use Rattle.core_meaning.specs.Expressions.{has_terminal}
use Rattle.core_meaning.specs.Declarations.{based, name_in, behind_word}
use Rattle.core_meaning.specs.UnitNames.{Defined, function_body, is_function_body, UnitState, Storage, storage_of, with_scope, declared_from, defined_function, count_functions, judged_item, judged_file_items, unit_start, too_big_in, unless_too_big, judged_unit}
use Rattle.tree_derivations.specs.Derivations.{IsDerived, UnitsAreDerived}
use Rattle.entity_numbers.specs.Numbered.{Counts, first_place, one_more as counted_more}
use Rattle.entity_numbers.specs.Slots.{HasNamedParameters, IsNamedFunction, AreNamedFunctions, HasNamedFunctions}
use Rattle.entity_numbers.specs.Laws.{UnitsNameParameters}
use Rattle.bindings.proofs.Types.{Made, MadeSort}
use Rattle.entity_numbers.proofs.Uses.{Sense, Gives, some_binds}
use Rattle.entity_numbers.proofs.Slots.{Base, BasedOn, Knows, Slots, no_more as no_slot, known as known_slot, next as next_slot}
use Rattle.entity_numbers.proofs.Functions.{function_ends, Ended}
use Rattle.bound_slots.specs.Laws.{SizesBindNothing}
use Rattle.entity_kinds.proofs.Tags.{IsTaggedItem, AreTaggedItems, items_tagged}
use Rattle.unit_numbers.specs.Laws.{UnitsAreNumbered}
use Rattle.unit_numbers.proofs.Runs.{Has, Runs, done, old, new, IfReached, Reaches, reaches_then, reaches_as, reaches_give, known_then, all_old, Reached, runs_are_numbered, runs_bind_structs, runs_bind_no_more, AreCountedBehind, runs_are_counted_behind}
use Rattle.unit_numbers.proofs.Fitting.{tags_from, sense, Fits, fits_base, typed_then, Words, words_take, known_words}
use Rattle.unit_numbers.proofs.Structs.{Nothing, StructThen, struct_takes}
use Rattle.unit_numbers.proofs.Names.{Kept, names_declared}

module _ (counts : SizesBindNothing) (first : ℕ) where
  -- ---- functions

  -- what is known in a function, but for its slots
  abbrev InFunction : Counts → Entity → Type 0
  InFunction c (local_of_function f slot) = ⊥
  InFunction c other = Has first c other

  abbrev in_sense : Counts → Sense
  in_sense c = record { knows = InFunction c; tags = tags_from first }

  record SlotsTaken (f m : ℕ) (c : Counts) (js : List Binding) : Type 0 where
    to : Counts
    runs : Runs first c (map (numbered_binding f) js) to
    structs : to.structs ≡ c.structs
    members : to.members ≡ c.members
    others : (g : ℕ) → (g ≡ f → ⊥) → to.slots g ≡ c.slots g

  still_known : (f : ℕ) (c d : Counts) (n : ℕ) (e : Entity) → d.structs ≡ c.structs → d.members ≡ c.members → d.slots f ≡ n → Knows (in_sense c) n e → Has first d (numbered f e)
  still_known f c d n (local_entity slot) s m l h = subst (λ x. slot < x) (sym l) h
  still_known f c d n (local_of_function g slot) s m l h = absurd h
  still_known f c d n (file_entity name) s m l h = tt
  still_known f c d n (struct_entity number) s m l h = (h.0, subst (λ x. number < x) (sym s) h.1)
  still_known f c d n (member_entity struct number) s m l h = (h.0, subst (λ (counts : ℕ → ℕ). number < counts struct) (sym m) h.1)
  still_known f c d n own_entity s m l h = tt

  slots_run :
      (f : ℕ) (c : Counts) {n m : ℕ} {js : List Binding} (d : Counts) → Slots (in_sense c) n js m → d.structs ≡ c.structs → d.members ≡ c.members → d.slots f ≡ n → SlotsTaken f m d js
  slots_run f c d no_slot s m l = record { to = d; runs = done; structs = refl; members = refl; others = λ g other. refl }
  slots_run f c d (known_slot {n = n} {b = b} h run) s m l =
      let r = slots_run f c d run s m l in
      record { to = r.to; runs = old (still_known f c d n b.entity s m l h) r.runs; structs = r.structs; members = r.members; others = r.others }
  slots_run f c d (next_slot {n = n} {b = b} {rest = rest} is unused run) s m l =
      let e : Counts = record d { slots = counted_more f d.slots } in
      let up : counted_more f d.slots f ≡ suc n = ap (λ (y : Bool). if y then suc (d.slots f) else d.slots f) (eq-eqb f f refl) ∙ ap suc l in
      let r = slots_run f c e run s m up in
      record {
        to = r.to;
        runs = subst (λ x. Runs first d (record b { entity = numbered f x } ∷ map (numbered_binding f) rest) r.to) (sym is) (new (record { unused = unused }) (sym l) r.runs);
        structs = r.structs;
        members = r.members;
        others = λ g other. r.others g other ∙ elsewhere g other;
      }
    where
      elsewhere : (g : ℕ) → (g ≡ f → ⊥) → counted_more f d.slots g ≡ d.slots g
      elsewhere g other = by (g == f) refl
        where
          by : (y : Bool) → (g == f) ≡ y → (if y then suc (d.slots g) else d.slots g) ≡ d.slots g
          by true e = absurd (other (eqb-true g f e))
          by false e = refl

  -- ---- between two items

  pub record Between (unit : UnitState) (c : Counts) : Type 0 where
    pub fits : Fits first Nothing c unit.scope
    pub outside : unit.scope.blocks ≡ []
    pub fresh : (f : ℕ) → count_functions unit.defined ≤ f → c.slots f ≡ 0

  kept_fits :
      (c : Counts) (s x : Scope) → x.blocks ≡ s.blocks → x.structs ≡ s.structs → x.tags ≡ s.tags → ((name : List ℕ) (n : FileName) → x.file_names name ≡ Some n → MadeSort (tags_from first) n.sort)
      → Fits first Nothing c s → Fits first Nothing c x
  kept_fits c s x blocks structs tags files h = record {
    structs = h.structs ∙ ap length (sym structs);
    below = subst (λ (l : List Struct). first ≤ length l) (sym structs) h.below;
    tagged = λ name n is. subst (λ (l : List Struct). (first ≤ n) × (n < length l)) (sym structs) (h.tagged name n (ap (λ (table : Table ℕ). table name) (sym tags) ∙ is));
    members = λ n found own is. h.members n found own (ap (λ (l : List Struct). slice_get l n) (sym structs) ∙ is);
    none_yet = λ n found is open_ closed_. h.none_yet n found (ap (λ (l : List Struct). slice_get l n) (sym structs) ∙ is) open_ closed_;
    fresh = λ n far. h.fresh n (subst (λ (l : List Struct). length l ≤ n) structs far);
    types = λ n k found m own is f. h.types n k found m own (ap (λ (l : List Struct). slice_get l n) (sym structs) ∙ is) f;
    files = files;
    locals = λ name l is. h.locals name l (ap (λ bs. local_in bs name) (sym blocks) ∙ is);
  }

  given_reaches : {A : Type 0} (V : A → Type 0) (c : Counts) (j : Checked A) → Gives (Has first c) V j → Reaches first (λ x d. (d ≡ c) × V x) c j
  given_reaches V c (fine x js) h = record { reached = record { to = c; runs = all_old first c js h.given_.0; holds = (refl, h.given_.1) } }
  given_reaches V c (refused kind token) h = record { reached = tt }
  given_reaches V c broken h = record { reached = tt }

  declaration_takes :
      (globals : ℕ) (unit : UnitState) (c : Counts) (words declarators behind : PlainTrees) → Between unit c
      → Reaches first Between c (based true unit.scope words >>= (λ base. declared_from globals (with_scope unit base.scope) (storage_of words) base.ty declarators behind))
  declaration_takes globals unit c words declarators behind h =
      reaches_then first (Words first Nothing c unit.scope) Between c (based true unit.scope words) (λ base. declared_from globals (with_scope unit base.scope) (storage_of words) base.ty declarators behind)
      (words_take first Nothing c unit.scope words h.fits)
      (λ base d v. reaches_as first (λ x e. (e ≡ d) × Kept (sense first d) counts (λ name. tt) tt (with_scope unit base.scope) x) Between d (declared_from globals (with_scope unit base.scope) (storage_of words) base.ty declarators behind)
      (given_reaches (Kept (sense first d) counts (λ name. tt) tt (with_scope unit base.scope)) d (declared_from globals (with_scope unit base.scope) (storage_of words) base.ty declarators behind)
      (names_declared (sense first d) counts (λ name. tt) tt declarators globals (with_scope unit base.scope) (storage_of words) base.ty behind v.made (record { base = fits_base first Nothing d base.scope v.fits; outside = v.fits.locals })))
      (λ x e z. subst (λ y. Between x y) (sym z.0) (record {
        fits = kept_fits d base.scope x.scope z.1.scope.blocks z.1.scope.structs z.1.scope.tags (λ name n is. (z.1.scope.files (λ other m f. (tt, v.fits.files other m f)) name n is).1) v.fits;
        outside = z.1.scope.blocks ∙ v.blocks ∙ h.outside;
        fresh = λ f far. ap (λ (counts : ℕ → ℕ). counts f) v.slots ∙ h.fresh f (subst (λ m. m ≤ f) z.1.functions far);
      })))

  struct_declared : (unit : UnitState) (c : Counts) (words : PlainTrees) → Between unit c → Reaches first Between c (based true unit.scope words >>= (λ base. give (with_scope unit base.scope)))
  struct_declared unit c words h =
      reaches_then first (Words first Nothing c unit.scope) Between c (based true unit.scope words) (λ base. give (with_scope unit base.scope)) (words_take first Nothing c unit.scope words h.fits)
      (λ base d v. reaches_give first Between d (with_scope unit base.scope) (record {
        fits = v.fits;
        outside = v.blocks ∙ h.outside;
        fresh = λ f far. ap (λ (counts : ℕ → ℕ). counts f) v.slots ∙ h.fresh f far;
      }))

  struct_defined : (unit : UnitState) (c : Counts) (words parts : PlainTrees) → has_terminal t.Struct words ≡ true → Between unit c → Reaches first Between c (Rattle.core_meaning.specs.UnitNames.defined_struct unit words parts)
  struct_defined unit c words parts has h =
      reaches_as first (StructThen first unit c) Between c (Rattle.core_meaning.specs.UnitNames.defined_struct unit words parts) (struct_takes first unit c h.fits words parts has)
      (λ x d v. record {
        fits = v.fits;
        outside = v.blocks ∙ h.outside;
        fresh = λ f far. ap (λ (counts : ℕ → ℕ). counts f) v.slots ∙ h.fresh f (subst (λ (ds : List Defined). count_functions ds ≤ f) v.defined far);
      })

  one_more_function : (ds : List Defined) (d : Defined) → is_function_body d.body ≡ true → count_functions (ds ++ d ∷ []) ≡ suc (count_functions ds)
  one_more_function [] d is = ap (λ (b : Bool). (if b then 1 else 0) + 0) is
  one_more_function (x ∷ ds) d is =
      let e : count_functions (ds ++ d ∷ []) ≡ suc (count_functions ds) = one_more_function ds d is in
      let n : ℕ = if is_function_body x.body then 1 else 0 in
      let a : n + count_functions (ds ++ d ∷ []) ≡ n + suc (count_functions ds) = ap (λ m. n + m) e in
      let b : n + suc (count_functions ds) ≡ suc (n + count_functions ds) = omega arith in
      a ∙ b

  function_defined :
      (unit : UnitState) (c : Counts) (storage : Storage) (ty : PlainType) (parts : PlainTrees) (name : PlainToken) (body : PlainTree) → Made (tags_from first) ty → HasNamedParameters (behind_word t.OpenParenthesis parts) → Between unit c
      → Reaches first Between c (in_function (count_functions unit.defined) (defined_function unit storage ty parts name body))
  function_defined unit c storage ty parts name body made named h =
      by (defined_function unit storage ty parts name body)
      (function_ends (in_sense c) unit storage ty parts name body tt made base (λ other. ap (λ bs. local_in bs other) h.outside) named).ended
    where
      base : Base (in_sense c) unit.scope
      base = let b = fits_base first Nothing c unit.scope h.fits in record { files = b.files; members = b.members; tags = b.tags }

      by : (j : Checked UnitState) → Ended (in_sense c) unit name.text 0 j → Reaches first Between c (in_function (count_functions unit.defined) j)
      by (fine x js) e =
          let n : ℕ = count_functions unit.defined in
          let r = slots_run n c c e.taken refl refl (h.fresh n (omega arith)) in
          let more_ : count_functions x.defined ≡ suc n = ap count_functions e.defined ∙ one_more_function unit.defined (record { name = name.text; body = function_body e.slots e.items }) refl in
          record {
            reached = record {
              to = r.to;
              runs = r.runs;
              holds = record {
                fits = kept_fits r.to unit.scope x.scope e.kept.blocks e.kept.structs e.kept.tags (λ other m is. (e.kept.files (λ third n f. (tt, h.fits.files third n f)) other m is).1) (same_fits r.to r.structs r.members);
                outside = e.kept.blocks ∙ h.outside;
                fresh = λ f far. let up : suc n ≤ f = subst (λ m. m ≤ f) more_ far in r.others f (λ is. let same_ : f ≡ n = is in omega (arith, up, same_)) ∙ h.fresh f (omega (arith, up));
              };
            };
          }
        where
          same_fits : (d : Counts) → d.structs ≡ c.structs → d.members ≡ c.members → Fits first Nothing d unit.scope
          same_fits d s m = record {
            structs = s ∙ h.fits.structs;
            below = h.fits.below;
            tagged = h.fits.tagged;
            members = λ i found own is. subst (λ (counts : ℕ → ℕ). length found.members ≤ counts i) (sym m) (h.fits.members i found own is);
            none_yet = λ i found is open_ closed_. ap (λ (counts : ℕ → ℕ). counts i) m ∙ h.fits.none_yet i found is open_ closed_;
            fresh = λ i far. ap (λ (counts : ℕ → ℕ). counts i) m ∙ h.fits.fresh i far;
            types = h.fits.types;
            files = h.fits.files;
            locals = h.fits.locals;
          }
      by (refused kind token) e = record { reached = tt }
      by broken e = record { reached = tt }

  function_takes :
      (unit : UnitState) (c : Counts) (words parts : PlainTrees) (body : PlainTree) → HasNamedParameters (behind_word t.OpenParenthesis parts) → Between unit c
      → Reaches first Between c (based false unit.scope words >>= (λ base. or_broken (name_in parts) >>= (λ name. in_function (count_functions unit.defined) (defined_function unit (storage_of words) base.ty parts name body))))
  function_takes unit c words parts body named h =
      typed_then first (BasedOn (sense first c) unit.scope) Between c (based false unit.scope words) (λ base. or_broken (name_in parts) >>= (λ name. in_function (count_functions unit.defined) (defined_function unit (storage_of words) base.ty parts name body)))
      (known_words (sense first c) unit.scope words (fits_base first Nothing c unit.scope h.fits))
      (λ base based_. known_then first Between c (or_broken (name_in parts)) (λ name. in_function (count_functions unit.defined) (defined_function unit (storage_of words) base.ty parts name body)) (some_binds (Has first c) (name_in parts))
      (λ name. function_defined unit c (storage_of words) base.ty parts name body based_.made named h))

  -- ---- items

  item_takes : (globals : ℕ) (unit : UnitState) (c : Counts) (tree : PlainTree) (behind : PlainTrees) → IsTaggedItem tree → IsNamedFunction tree → Between unit c → Reaches first Between c (judged_item globals unit tree behind)
  item_takes globals unit c (node k.StructDefinition (more (node tag_kind words) (more brace (more (node list_kind members) rest)))) behind has named h = struct_defined unit c words members has h
  item_takes globals unit c (node k.StructDeclaration (more (node tag_kind words) (more end_ none))) behind has named h = struct_declared unit c words h
  item_takes globals unit c (node k.Declaration (more (node words_kind words) (more (node list_kind declarators) (more end_ none)))) behind has named h = declaration_takes globals unit c words declarators behind h
  item_takes globals unit c (node k.Function (more (node words_kind words) (more (node list_kind (more (node kind parts) none)) (more body none)))) behind has named h = function_takes unit c words parts body named h
  item_takes globals unit c tree behind has named h = record { reached = tt }

  items_take : (parts : PlainTrees) (globals : ℕ) (unit : UnitState) (c : Counts) → AreTaggedItems parts → AreNamedFunctions parts → Between unit c → Reaches first Between c (judged_file_items globals unit parts)
  items_take none globals unit c has named h = reaches_give first Between c unit h
  items_take (more tree rest) globals unit c has named h =
      reaches_then first Between Between c (judged_item globals unit tree rest) (λ x. judged_file_items globals x rest) (item_takes globals unit c tree rest has.0 named.0 h) (λ x d v. items_take rest globals x d has.1 named.1 v)

  small_takes : (o : Option PlainToken) (unit : UnitState) (c : Counts) → Between unit c → Reaches first Between c (unless_too_big o >>= (λ small. give unit))
  small_takes None unit c h = reaches_give first Between c unit h
  small_takes (Some name) unit c h = record { reached = tt }

-- before the first item
start_between : (counts : SizesBindNothing) (structs : List Struct) (numbers : Numbers) → Between counts (length structs) (unit_start structs numbers) (record { structs = length structs; members = λ s. 0; slots = λ f. 0 })
start_between counts structs numbers = record {
  fits = record {
    structs = refl;
    below = omega arith;
    tagged = λ name n e. absurd (none-some n e);
    members = λ n found own e. let less : n < length structs = Rattle.unit_numbers.proofs.Fitting.within structs n found e in let more_ : length structs ≤ n = own in omega (arith, less, more_);
    none_yet = λ n found e open_ closed_. refl;
    fresh = λ n far. refl;
    types = λ n k found m own e f. let less : n < length structs = Rattle.unit_numbers.proofs.Fitting.within structs n found e in let more_ : length structs ≤ n = own in absurd (omega (arith, less, more_));
    files = λ name n e. absurd (none-some n e);
    locals = λ name l e. absurd (none-some l e);
  };
  outside = refl;
  fresh = λ f far. refl;
}

-- what a unit binds, from nothing on
unit_runs :
    (counts : SizesBindNothing) (tree : PlainTree) → IsDerived tree → HasNamedFunctions tree → (globals : ℕ) (structs : List Struct) (numbers : Numbers) (unit : UnitState) (js : List Binding)
    → judged_unit globals structs numbers tree ≡ fine unit js → Reached (length structs) (Between counts (length structs)) (record { structs = length structs; members = λ s. 0; slots = λ f. 0 }) unit js
unit_runs counts (leaf token) derived named globals structs numbers unit js e = absurd derived
unit_runs counts (node k.Unit parts) derived named globals structs numbers unit js e =
    let first : ℕ = length structs in
    let start : Counts = record { structs = length structs; members = λ s. 0; slots = λ f. 0 } in
    let r = reaches_then first (Between counts first) (Between counts first) start (judged_file_items globals (unit_start structs numbers) parts) (λ x. unless_too_big (too_big_in x.scope parts) >>= (λ small. give x))
    (items_take counts first parts globals (unit_start structs numbers) start (items_tagged derived) named (start_between counts structs numbers))
    (λ x d v. small_takes counts first (too_big_in x.scope parts) x d v) in
    subst (λ j. IfReached first (Between counts first) start j) e r.reached
unit_runs counts (node _ parts) derived named globals structs numbers unit js e = absurd derived

pub units_are_numbered : UnitsAreDerived → UnitsNameParameters → SizesBindNothing → UnitsAreNumbered
units_are_numbered derived named counts tree is globals structs numbers unit js e =
    let last = unit_runs counts tree (derived tree is) (named tree is) globals structs numbers unit js e in runs_are_numbered (length structs) last.to js last.runs

pub uses_are_counted :
    UnitsAreDerived → UnitsNameParameters → SizesBindNothing → (tree : PlainTree) → IsTrue (is_unit tree) → (globals : ℕ) (structs : List Struct) (numbers : Numbers) (unit : UnitState) (js : List Binding)
    → judged_unit globals structs numbers tree ≡ fine unit js → AreCountedBehind [] js
uses_are_counted derived named counts tree is globals structs numbers unit js e =
    let last = unit_runs counts tree (derived tree is) (named tree is) globals structs numbers unit js e in runs_are_counted_behind (length structs) last.to js last.runs

-- the structs of a unit are those that it binds, behind those of the units before
pub record BindsStructs (before behind : ℕ) (js : List Binding) : Type 0 where
  pub own : (m : ℕ) → before ≤ m → m < behind → first_place (struct_entity m) js ≡ None → ⊥
  pub others : (m : ℕ) → behind ≤ m → first_place (struct_entity m) js ≡ None
  pub no_fewer : before ≤ behind

pub units_bind_structs :
    UnitsAreDerived → UnitsNameParameters → SizesBindNothing → (tree : PlainTree) → IsTrue (is_unit tree) → (globals : ℕ) (structs : List Struct) (numbers : Numbers) (unit : UnitState) (js : List Binding)
    → judged_unit globals structs numbers tree ≡ fine unit js → BindsStructs (length structs) (length unit.scope.structs) js
units_bind_structs derived named counts tree is globals structs numbers unit js e =
    let last = unit_runs counts tree (derived tree is) (named tree is) globals structs numbers unit js e in
    let many : last.to.structs ≡ length unit.scope.structs = last.holds.fits.structs in
    record {
      own = λ m own less none_. runs_bind_structs (length structs) last.to js last.runs m own (subst (λ n. m < n) (sym many) less) none_;
      others = λ m more_. runs_bind_no_more (length structs) last.to js last.runs m (subst (λ n. n ≤ m) (sym many) more_);
      no_fewer = last.holds.fits.below;
    }
