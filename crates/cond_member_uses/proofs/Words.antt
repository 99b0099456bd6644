-- A declaration with its words.
use Rattle.std.proofs.Common.{◌≡◌, ℕ, Bool, true, false, List, [], ◌∷◌, ◌++◌, refl, sym, ap, subst, ◌∙◌}
use Rattle.std.proofs.lemmas.Bool.{false≢true}
use Rattle.c_text.specs.Token.{PlainToken}
use Rattle.c_types.specs.Types.{PlainType}
use Rattle.c_tree.specs.declared.kinds.Kind.TheVariants as k
use Rattle.c_tree.specs.declared.terminals.Terminal.TheVariants as t
use Rattle.c_tree.specs.Trees.{PlainTree, PlainTrees, leaf, node, none, more, all_written}
use Rattle.c_tree.specs.Grammar.{Category, specifiers, declarators, item, for_start, local, shape, row, belongs}
use Rattle.tree_derivations.specs.Derivations.{Derivation, single, made_of, Shaped, a_row, declarators_of, Row, at_end, a_word, a_part, IsWord, Declared}
use Rattle.bindings.specs.Laws.{ArePieces}
use Rattle.conditional.specs.Judgements as judgements
use Rattle.conditional.specs.declared.outcomes.Outcomes.{Outcomes}
use Rattle.core_meaning.specs.Checking.{Binding, Checked, fine, refused, broken, with_bindings, ◌>>=◌}
use Rattle.core_meaning.specs.Entities.{Scope}
use Rattle.core_meaning.specs.Declarations.{Locals, Based, based, locals_from, judged_locals}
use Rattle.operand_types.specs.OperandTypes.{outcome_as}
use Rattle.operand_rules.specs.declared.operands.Refused.{Refused}
use Rattle.member_uses.specs.Uses.{uses_among}
use Rattle.member_uses.specs.Declarations.{declaration}
use Rattle.member_uses.specs.Laws.{LocalsAreUsed}
use Rattle.type_tables.specs.declared.entries.DeclaredType.{DeclaredType}
use Rattle.type_tables.specs.Follows.{IsThere, Follows}
use Rattle.cond_declarators.specs.Types.{ShowsType, based_in, base_type}
use Rattle.cond_declarators.proofs.There.{bases_are_there}
use Rattle.cond_locals.proofs.OneDeclaration.{IsSame, words_same}
use Rattle.cond_member_uses.specs.Noted.{Noted, NotesLocals, Where}
use Rattle.cond_member_uses.specs.Declared.{NotesList}
use Rattle.cond_member_uses.proofs.Noting.{names_followed}
use Rattle.cond_member_uses.proofs.Pieces.{rest_pieces, first_pieces}

-- ---- the parts of a declaration

-- words, a list of declarators and what ends the declaration
record IsWhole (parts : PlainTrees) : Type 0 where
  words : PlainTrees
  list : PlainTrees
  last : PlainToken
  parts_are : parts ≡ declaration words list last
  specified : Derivation specifiers (node k.Specifiers words)
  listed : Derivation (declarators local) (node k.Declarators list)
  declared : Declared local list
  ended : IsWord (t.Semicolon ∷ []) last

none_such : {A : Type 0} → false ≡ true → A
none_such h = absurd (false≢true h)

with_list : {words list : PlainTree} {last : PlainToken} → (w : PlainTrees) → words ≡ node k.Specifiers w → Derivation specifiers (node k.Specifiers w) → Derivation (declarators local) list → IsWord (t.Semicolon ∷ []) last
    → IsWhole (more words (more list (more (leaf last) none)))
with_list w is specified (single e) ended = none_such e
with_list {last = last} w is specified (made_of k.Declarators {parts = parts} b a (declarators_of d)) ended = record {
  words = w;
  list = parts;
  last = last;
  parts_are = ap (λ tree. more tree (more (node k.Declarators parts) (more (leaf last) none))) is;
  specified = specified;
  listed = made_of k.Declarators b a (declarators_of d);
  declared = d;
  ended = ended;
}
with_list w is specified (made_of _ b a s) ended = none_such b

with_words : {words list : PlainTree} {last : PlainToken} → Derivation specifiers words → Derivation (declarators local) list → IsWord (t.Semicolon ∷ []) last → IsWhole (more words (more list (more (leaf last) none)))
with_words (single e) listed ended = none_such e
with_words (made_of k.Specifiers {parts = parts} b a s) listed ended = with_list parts refl (made_of k.Specifiers b a s) listed ended
with_words (made_of _ b a s) listed ended = none_such b

in_places : {parts : PlainTrees} → Row (row k.LocalDeclaration) parts → IsWhole parts
in_places (a_part specified (a_part listed (a_word ended at_end))) = with_words specified listed ended

in_shape : (category : Category) (parts : PlainTrees) → belongs category k.LocalDeclaration ≡ true → Shaped (shape category k.LocalDeclaration) parts → IsWhole parts
in_shape item parts b (a_row r) = in_places r
in_shape for_start parts b (a_row r) = in_places r
in_shape _ parts b s = none_such b

whole : {category : Category} {parts : PlainTrees} → Derivation category (node k.LocalDeclaration parts) → IsWhole parts
whole {category = category} (made_of k.LocalDeclaration {parts = parts} b a s) = in_shape category parts b s

-- ---- its judgement

record IsJudged (scope : Scope) (slots : List PlainType) (words list : PlainTrees) (locals : Locals) : Type 0 where
  base : Based
  bindings : List Binding
  based_so : based false scope words ≡ fine base bindings
  others : List Binding
  listed : locals_from scope slots base.ty list ≡ fine locals others

behind_base : (scope : Scope) (slots : List PlainType) (words list : PlainTrees) (base : Based) (bindings : List Binding) → based false scope words ≡ fine base bindings → (c : Checked Locals) → locals_from scope slots base.ty list ≡ c
    → (locals : Locals) (js : List Binding) → with_bindings bindings c ≡ fine locals js → IsJudged scope slots words list locals
behind_base scope slots words list base bindings is (fine found ks) e locals js h =
    record { base = base; bindings = bindings; based_so = is; others = ks; listed = e ∙ ap (λ l. fine l ks) (same_value found locals (bindings ++ ks) js h) }
  where
    same_value : (x y : Locals) (xs ys : List Binding) → ◌≡◌ {A = Checked Locals} (fine x xs) (fine y ys) → x ≡ y
    same_value x y xs ys e = cc
behind_base scope slots words list base bindings is (refused kind token) e locals js h = absurd cc
behind_base scope slots words list base bindings is broken e locals js h = absurd cc

judged_by : (scope : Scope) (slots : List PlainType) (words list : PlainTrees) (c : Checked Based) → based false scope words ≡ c → (locals : Locals) (js : List Binding)
    → (c >>= (λ base. locals_from scope slots base.ty list)) ≡ fine locals js → IsJudged scope slots words list locals
judged_by scope slots words list (fine base bindings) e locals js h = behind_base scope slots words list base bindings e (locals_from scope slots base.ty list) refl locals js h
judged_by scope slots words list (refused kind token) e locals js h = absurd cc
judged_by scope slots words list broken e locals js h = absurd cc

same_words : (a b : PlainTree) (x y : PlainTrees) → more a x ≡ more b y → a ≡ b
same_words a b x y e = cc

same_list : (a b c d e f : PlainTree) → more a (more b (more c none)) ≡ more d (more e (more f none)) → b ≡ e
same_list a b c d e f h = cc

pub words_noted :
    LocalsAreUsed → (on : ℕ → Bool) (base : Outcomes DeclaredType Refused) (words list end : PlainTree) (here : Bool) (a b : Noted) → b.tables.names ≡ a.tables.names
    → ((scope : Scope) (follows : Follows a.tables scope) → ShowsType on (outcome_as (base_type follows.by) (based_in false scope words)) base)
    → (here ≡ false → b ≡ a) → ((parts : PlainTrees) → list ≡ node k.Declarators parts → Where here (NotesList on base parts) a b)
    → Where here (NotesLocals (more words (more list (more end none)))) a b
words_noted law on base words list end here a b same shows elsewhere notes = record {
  elsewhere = elsewhere;
  does = λ h. record {
    names = same;
    notes = λ by scope slots locals bindings has spelt derived follows judged.
        let parts = more words (more list (more end none)) in
        let w = whole derived.derivation in
        let is_words = same_words words (node k.Specifiers w.words) (more list (more end none)) (more (node k.Declarators w.list) (more (leaf w.last) none)) w.parts_are in
        let is_list = same_list words list end (node k.Specifiers w.words) (node k.Declarators w.list) (leaf w.last) w.parts_are in
        let pieces : ArePieces (all_written (declaration w.words w.list w.last) []) = subst (λ ps. ArePieces (all_written ps [])) w.parts_are spelt in
        let judged_so : judged_locals scope slots (declaration w.words w.list w.last) ≡ fine locals bindings = ap (judged_locals scope slots) (sym w.parts_are) ∙ judged in
        let j = judged_by scope slots w.words w.list (based false scope w.words) refl locals bindings judged_so in
        let based_words : based_in false scope words ≡ fine j.base j.bindings = ap (based_in false scope) is_words ∙ j.based_so in
        let f = follows.follows.follows in
        let shown = subst (λ (c : Checked Based). ShowsType on (outcome_as (base_type f.by) c) base) based_words (shows scope f) in
        let there = subst (λ (s : Scope). IsThere s.structs j.base.ty) (subst (IsSame scope) based_words (words_same scope words)) (bases_are_there false a.tables scope f words j.base j.bindings based_words) in
        let goes =
        ((notes w.list is_list).does h).notes by scope slots j.base.ty locals j.others has (w.declared, first_pieces (node k.Declarators w.list) (more (leaf w.last) none) (rest_pieces (node k.Specifiers w.words) (more (node k.Declarators w.list) (more (leaf w.last) none)) pieces)) follows there
        (subst (λ (m : ℕ → ℕ). ShowsType on (judgements.fine (Rattle.operand_types.specs.OperandTypes.renumbered m j.base.ty)) base) follows.numbers shown) j.listed in
        let used =
        law by w.words w.list w.last w.specified w.listed w.ended pieces (record { state = record { scope = scope; slots = slots }; refused = false }) (names_followed a.tables scope f has) j.base j.bindings j.based_so locals bindings judged_so in
        (goes.follows, goes.noted ∙ ap (λ l. a.uses ++ l) (sym used) ∙ ap (λ ps. a.uses ++ uses_among by ps (judged_locals scope slots ps)) (sym w.parts_are));
  };
}
