-- Locals, members and names of file scope are judged declarator by declarator.
use Rattle.std.proofs.Common.{◌≡◌, ℕ, true, false, List, [], ◌∷◌, ◌++◌, refl, ap, ◌∙◌, if◌then◌else◌}
use Rattle.std.specs.Prelude.{Some, None}
use Rattle.std.proofs.lemmas.Bool.{false≢true}
use Rattle.c_text.specs.Token.{PlainToken}
use Rattle.c_types.specs.Types.{PlainType}
use Rattle.c_tree.specs.declared.terminals.Terminal.TheVariants as t
use Rattle.c_tree.specs.Terminals.{terminal, is_one_of}
use Rattle.c_tree.specs.Trees.{PlainTree, PlainTrees, leaf, none, more}
use Rattle.c_tree.specs.Grammar.{Role, member_of, is_word}
use Rattle.c_tree.proofs.TerminalCases.{one_of}
use Rattle.tree_derivations.specs.Derivations.{IsWord}
use Rattle.core_meaning.specs.Checking.{Binding, Checked, fine, refused, broken, with_bindings, ◌>>=◌, give}
use Rattle.core_meaning.specs.Declarations.{Locals, LocalItem, with_items, one_local, locals_from}
use Rattle.core_meaning.specs.UnitNames.{Storage, UnitState, declared_one, declared_from, members_from}
use Rattle.declaration_readings.specs.Readings.{Going, after, Slots, slots_of, next_local, all_locals, next_member, next_name}
use Rattle.declaration_readings.specs.Laws.{LocalsAreRead, MembersAreRead, NamesAreRead}
use Rattle.declaration_readings.proofs.InTurn.{is_filled, IsInTurn, in_turn}

not_assign : (comma : PlainToken) → IsWord (t.Comma ∷ []) comma → is_word (t.Assign ∷ []) (leaf comma) ≡ false
not_assign comma w = one_of (λ x. is_one_of (t.Assign ∷ []) x ≡ false) (t.Comma ∷ []) (terminal comma) w (refl, tt)

-- ---- locals

abbrev placed : Checked Locals → Checked Slots
placed c = c >>= (λ locals. give (slots_of locals))

-- a local, and the others
abbrev both : (Slots → Checked Locals) → Checked Locals → Checked Locals
both others c = c >>= (λ first. others (slots_of first) >>= (λ rest. give (with_items first.items rest)))

others_placed : (g : Going Slots) (items : List LocalItem) (bindings : List Binding) (c : Checked Locals)
    → after g (placed (with_bindings bindings (c >>= (λ rest. give (with_items items rest))))) ≡ after g (with_bindings (bindings ++ []) (placed c))
others_placed g items bindings (fine rest more_) = refl
others_placed g items bindings (refused kind token) = refl
others_placed g items bindings broken = refl

both_placed : (g : Going Slots) (others : Slots → Checked Locals) (c : Checked Locals) → after g (placed (both others c)) ≡ after g (placed c >>= (λ next. placed (others next)))
both_placed g others (fine first bindings) = others_placed g first.items bindings (others (slots_of first))
both_placed g others (refused kind token) = refl
both_placed g others broken = refl

module _ (ty : PlainType) where
  abbrev rest_of : PlainTrees → Slots → Checked Locals
  rest_of rest s = locals_from s.scope s.slots ty rest

  locals_next : (s : Slots) (tree : PlainTree) (comma : PlainToken) (rest : PlainTrees) → is_filled rest ≡ true → is_word (t.Assign ∷ []) (leaf comma) ≡ false
      → locals_from s.scope s.slots ty (more tree (more (leaf comma) rest)) ≡ both (rest_of rest) (one_local s.scope s.slots ty tree None)
  locals_next s tree comma none filled e = absurd (false≢true filled)
  locals_next s tree comma (more next none) filled e =
      ap (λ b. if b then one_local s.scope s.slots ty tree (Some next) else both (rest_of (more next none)) (one_local s.scope s.slots ty tree None)) e
  locals_next s tree comma (more next (more sign rest)) filled e =
      ap (λ b. if b then both (rest_of rest) (one_local s.scope s.slots ty tree (Some next)) else both (rest_of (more next (more sign rest))) (one_local s.scope s.slots ty tree None)) e

  locals_in_turn : (role : Role) → IsInTurn (next_local ty) (all_locals ty) role
  locals_in_turn role = record {
    alone = λ s tree. refl;
    alone_with = λ s tree value sign m w.
        ap (λ b. placed (if b then one_local s.scope s.slots ty tree (Some value) else both (rest_of (more value none)) (one_local s.scope s.slots ty tree None))) w;
    before = λ g s tree comma rest w filled.
        ap (λ c. after g (placed c)) (locals_next s tree comma rest filled (not_assign comma w)) ∙ both_placed g (rest_of rest) (one_local s.scope s.slots ty tree None);
    before_with = λ g s tree value sign comma rest m w.
        ap (λ b. after g (placed (if b then both (rest_of rest) (one_local s.scope s.slots ty tree (Some value)) else both (rest_of (more value (more (leaf comma) rest))) (one_local s.scope s.slots ty tree None)))) w
        ∙ both_placed g (rest_of rest) (one_local s.scope s.slots ty tree (Some value));
  }

pub locals_read : LocalsAreRead
locals_read ty g role list d = in_turn (next_local ty) (all_locals ty) role (locals_in_turn ty role) d g

-- ---- members

pub members_read : MembersAreRead
members_read scope number ty g list d =
    in_turn (next_member scope number ty) (λ known parts. members_from scope number known ty parts) member_of
    (record {
      alone = λ known tree. refl;
      alone_with = λ known tree value sign m w. absurd (false≢true m);
      before = λ h known tree comma rest w filled. refl;
      before_with = λ h known tree value sign comma rest m w. absurd (false≢true m);
    }) d g

-- ---- names of file scope

module _ (globals : ℕ) (storage : Storage) (ty : PlainType) (behind : PlainTrees) where
  abbrev both_names : PlainTrees → Checked UnitState → Checked UnitState
  both_names rest c = c >>= (λ first. declared_from globals first storage ty rest behind)

  names_next : (unit : UnitState) (tree : PlainTree) (comma : PlainToken) (rest : PlainTrees) → is_filled rest ≡ true → is_word (t.Assign ∷ []) (leaf comma) ≡ false
      → declared_from globals unit storage ty (more tree (more (leaf comma) rest)) behind ≡ both_names rest (declared_one globals unit storage ty tree None behind)
  names_next unit tree comma none filled e = absurd (false≢true filled)
  names_next unit tree comma (more next none) filled e =
      ap (λ b. if b then declared_one globals unit storage ty tree (Some next) behind else both_names (more next none) (declared_one globals unit storage ty tree None behind)) e
  names_next unit tree comma (more next (more sign rest)) filled e =
      ap (λ b. if b then both_names rest (declared_one globals unit storage ty tree (Some next) behind) else both_names (more next (more sign rest)) (declared_one globals unit storage ty tree None behind)) e

  names_in_turn : (role : Role) → IsInTurn (next_name globals storage ty behind) (λ unit parts. declared_from globals unit storage ty parts behind) role
  names_in_turn role = record {
    alone = λ unit tree. refl;
    alone_with = λ unit tree value sign m w.
        ap (λ b. if b then declared_one globals unit storage ty tree (Some value) behind else both_names (more value none) (declared_one globals unit storage ty tree None behind)) w;
    before = λ g unit tree comma rest w filled. ap (after g) (names_next unit tree comma rest filled (not_assign comma w));
    before_with = λ g unit tree value sign comma rest m w.
        ap (λ b. after g (if b then both_names rest (declared_one globals unit storage ty tree (Some value) behind) else both_names (more value (more (leaf comma) rest)) (declared_one globals unit storage ty tree None behind))) w;
  }

pub names_read : NamesAreRead
names_read globals storage ty behind g role list d =
    in_turn (next_name globals storage ty behind) (λ unit parts. declared_from globals unit storage ty parts behind) role (names_in_turn globals storage ty behind role) d g
