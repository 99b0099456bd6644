-- Constant expressions and initialisers of units that are alike give the same sizes and the same parts.
use Rattle.std.proofs.Common.{◌≡◌, ℕ, ◌+◌, suc, Bool, true, false, List, [], ◌∷◌, ◌++◌, map, refl, sym, ap, subst, ◌∙◌, length, IsTrue}
use Rattle.std.specs.Prelude.{Option, Some, None, slice_get, option_map, take, pos, if◌then◌else◌, nat_le}
use Rattle.std.proofs.lemmas.List.{map-append}
use Rattle.std.proofs.lemmas.Option.{slice_get-map}
use Rattle.c_text.specs.Token.{PlainToken}
use Rattle.c_types.specs.Types.{PlainType, array_of, structure}
use Rattle.c_types.specs.Integers.{converted}
use Rattle.c_types.specs.Tags.{PlainMember}
use Rattle.c_tree.specs.declared.kinds.Kind.{Kind}
use Rattle.c_tree.specs.declared.kinds.Kind.TheVariants as k
use Rattle.c_tree.specs.Trees.{PlainTree, PlainTrees, leaf, node, none, more}
use Rattle.c_tree.specs.Grammar.{expression, initialiser, initialisers, belongs, agree, shape}
use Rattle.core_meaning.specs.declared.refusals.TypeKind.TheVariants.{BadOperand, BadConstant}
use Rattle.core_meaning.specs.Program.{PlainPart, constant}
use Rattle.core_meaning.specs.Values.{Path, part}
use Rattle.core_meaning.specs.Checking.{Checked, refused, ◌>>=◌, give}
use Rattle.core_meaning.specs.Entities.{Struct, Scope}
use Rattle.core_meaning.specs.Typing.{fits_into}
use Rattle.core_meaning.specs.Expressions.{first_token, text_bytes, count_entries, valued}
use Rattle.core_meaning.specs.Constancy.{judged_count, Initial, members_of, part_for, path_for, is_character_type, text_parts, text_initial, part_or_excess, is_allowed, value_initial, whole_initial, text_or_whole, initial, initial_entries, count_by_initialiser}
use Rattle.core_meaning.specs.Declarations.{plain_part}
use Rattle.tree_derivations.specs.Derivations.{Derivation, single, made_of, Shaped, a_row, some_texts, with_last_comma, at_end, a_word, a_part, Ended, ends, ends_in_comma, goes_on}
use Rattle.renamed_programs.specs.Trees.{SameButNames, AllSameButNames, same_leaf, same_node, same_end, same_more}
use Rattle.renamed_programs.proofs.Alike.{Naming, Alike, Equal, alike_rules, alike_equal, alike_tests, alike_finds_same, alike_somes_same, alike_if_else, alike_give, alike_then, never_then, never_left}
use Rattle.renamed_programs.proofs.Scopes.{SameStruct, SameStructs, AlikeScopes, BothOr, zip_at, member_types}
use Rattle.renamed_programs.proofs.Expressions.{same_bytes, AreAlike, valued_alike, expression_alike}

abbrev is_braces : Kind → Bool
is_braces k.Braces = true
is_braces other = false

-- an initialiser that isn't in braces is an expression
as_expression : (kind : Kind) {parts : PlainTrees} → IsTrue (belongs initialiser kind) → IsTrue (agree kind parts) → Shaped (shape initialiser kind) parts → is_braces kind ≡ false → Derivation (expression 1) (node kind parts)
as_expression k.Texts b a s e = made_of k.Texts refl a s
as_expression k.Parenthesized b a s e = made_of k.Parenthesized refl a s
as_expression k.PostfixStep b a s e = made_of k.PostfixStep refl a s
as_expression k.PrefixStep b a s e = made_of k.PrefixStep refl a s
as_expression k.Prefix b a s e = made_of k.Prefix refl a s
as_expression k.Cast b a s e = made_of k.Cast refl a s
as_expression k.Selection b a s e = made_of k.Selection refl a s
as_expression k.Index b a s e = made_of k.Index refl a s
as_expression k.Call b a s e = made_of k.Call refl a s
as_expression k.Assignment b a s e = made_of k.Assignment refl a s
as_expression k.Conditional b a s e = made_of k.Conditional refl a s
as_expression k.LogicalOr b a s e = made_of k.LogicalOr refl a s
as_expression k.LogicalAnd b a s e = made_of k.LogicalAnd refl a s
as_expression k.Or b a s e = made_of k.Or refl a s
as_expression k.Xor b a s e = made_of k.Xor refl a s
as_expression k.And b a s e = made_of k.And refl a s
as_expression k.Equality b a s e = made_of k.Equality refl a s
as_expression k.Relation b a s e = made_of k.Relation refl a s
as_expression k.Shift b a s e = made_of k.Shift refl a s
as_expression k.Sum b a s e = made_of k.Sum refl a s
as_expression k.Product b a s e = made_of k.Product refl a s
as_expression _ b a s e = absurd cc

-- ---- what doesn't depend on names

members_at : (a b : Option Struct) → BothOr SameStruct a b → member_types (members_of a) ≡ member_types (members_of b)
members_at (Some a) (Some b) h = h.members
members_at (Some a) None h = absurd h
members_at None (Some b) h = absurd h
members_at None None h = refl

part_same : (structs others : List Struct) (ty : PlainType) (n : ℕ) → SameStructs structs others → part_for structs ty n ≡ part_for others ty n
part_same structs others (array_of element count) n h = refl
part_same structs others (structure m) n h =
    sym (slice_get-map (λ (x : PlainMember). x.ty) (members_of (slice_get structs m)) n)
    ∙ ap (λ l. slice_get l n) (members_at (slice_get structs m) (slice_get others m) (zip_at SameStruct structs others h m))
    ∙ slice_get-map (λ (x : PlainMember). x.ty) (members_of (slice_get others m)) n
part_same structs others _ n h = refl

entries_counted : (parts others : PlainTrees) → AllSameButNames parts others → count_entries parts ≡ count_entries others
entries_counted _ _ same_end = refl
entries_counted _ _ (same_more e same_end) = refl
entries_counted _ _ (same_more e (same_more {rest = rest} {others = others} c r)) = ap (λ n. 1 + n) (entries_counted rest others r)

pub count_same : (element : PlainType) {tree other : PlainTree} → Derivation initialiser tree → SameButNames tree other → count_by_initialiser element tree ≡ count_by_initialiser element other
count_same element (single is) (same_leaf e) = refl
count_same element (made_of k.Braces b a (a_row (a_word w (a_part (made_of kind {parts = parts} c d s) (a_word v at_end))))) (same_node (same_more x (same_more (same_node {others = others} y) (same_more z same_end)))) =
    ap Some (entries_counted parts others y)
count_same element (made_of k.Braces b a (a_row (a_word w (a_part (single is) r)))) e = absurd cc
count_same element (made_of k.Texts {parts = parts} b a (some_texts texts some)) (same_node {others = others} e) =
    ap (λ bytes. if is_character_type element then option_map (λ x. length x + 1) bytes else None) (same_bytes parts others texts e)
count_same element (made_of kind b a s) (same_node e) = refl

-- ---- the parts of initialisers

abbrev pub SameParts : List Initial → List Initial → Type 0
SameParts xs ys = map plain_part xs ≡ map plain_part ys

texts_same : (element : PlainType) (path : Path) (n : ℕ) (bytes : List ℕ) (first other : PlainToken) → SameParts (text_parts element path n bytes first) (text_parts element path n bytes other)
texts_same element path n [] first other = refl
texts_same element path n (byte ∷ rest) first other =
    ap (λ (l : List PlainPart). record { path = part n ∷ path; value = constant (converted element (pos byte)) } ∷ l) (texts_same element path (suc n) rest first other)

both_parts : (xs ys as_ bs : List Initial) → SameParts xs ys → SameParts as_ bs → SameParts (xs ++ as_) (ys ++ bs)
both_parts xs ys as_ bs h i = map-append plain_part xs as_ ∙ ap (λ l. l ++ map plain_part as_) h ∙ ap (λ l. map plain_part ys ++ l) i ∙ sym (map-append plain_part ys bs)

module _ (named : Naming) (slots : List PlainType) (s u : Scope) (h : AlikeScopes named slots s u) where
  pub count_alike : (first second : PlainTree) (behind other : PlainToken) → AreAlike named slots s u h first second → Alike named Equal (judged_count s first behind) (judged_count u second other)
  count_alike first second behind other i =
      alike_equal named Equal (valued s first) (valued u second) _ _ (valued_alike named slots s u h first second i) (λ x. search alike_rules)

  module _ (globals : Option ℕ) where
    excess_alike : (p : Option PlainType) (first second : PlainTree) (token other : PlainToken) → Alike named Equal (part_or_excess s globals p first token) (part_or_excess u globals p second other)
    excess_alike (Some element) first second token other = search alike_rules
    excess_alike None first second token other = search alike_rules

    value_alike : (ty : PlainType) (path : Path) (first second : PlainTree) (token other : PlainToken) → AreAlike named slots s u h first second → Alike named SameParts (value_initial s globals ty path first token) (value_initial u globals ty path second other)
    value_alike ty path first second token other i =
        alike_equal named SameParts (valued s first) (valued u second) _ _ (valued_alike named slots s u h first second i)
        (λ x. alike_finds_same named SameParts (fits_into ty x) (fits_into ty x) BadOperand BadOperand token other _ _ refl
        (λ core. alike_tests named SameParts (is_allowed s globals core) (is_allowed u globals core) BadConstant BadConstant token other _ _
        (λ x1 y1. alike_give named SameParts (record { path = path; value = core; first = token } ∷ []) _ refl)))

    whole_alike : (ty : PlainType) (path : Path) (first second : PlainTree) (token other : PlainToken) → AreAlike named slots s u h first second → Alike named SameParts (whole_initial s globals ty path first token) (whole_initial u globals ty path second other)
    whole_alike (array_of element count) path first second token other i = never_left named SameParts _ _ (never_then named (valued s first) (λ x. refused BadOperand token) (λ x. tt))
    whole_alike ty path first second token other i = value_alike ty path first second token other i

    text_alike : (element : PlainType) (count : ℕ) (path : Path) (bytes : List ℕ) (first other : PlainToken) → Alike named SameParts (text_initial element count path bytes first) (text_initial element count path bytes other)
    text_alike element count path bytes first other =
        alike_tests named SameParts (nat_le (length bytes) count) (nat_le (length bytes) count) BadConstant BadConstant first other _ _
        (λ x1 y1. alike_give named SameParts _ _ (texts_same element path 0 (take count (bytes ++ 0 ∷ [])) first other))

    text_or_whole_alike :
        (ty : PlainType) (path : Path) (parts others : PlainTrees) (token other : PlainToken) → text_bytes parts ≡ text_bytes others → AreAlike named slots s u h (node k.Texts parts) (node k.Texts others)
        → Alike named SameParts (text_or_whole s globals ty path parts token) (text_or_whole u globals ty path others other)
    text_or_whole_alike (array_of element count) path parts others token other e i =
        alike_if_else named SameParts (is_character_type element) (is_character_type element) _ _ BadOperand BadOperand token other
        (alike_somes_same named SameParts (text_bytes parts) (text_bytes others) _ _ e (λ bytes. text_alike element count path bytes token other))
    text_or_whole_alike ty path parts others token other e i = value_alike ty path (node k.Texts parts) (node k.Texts others) token other i

    abbrev pub InitialAlike : PlainTree → PlainTree → Type 0
    InitialAlike first second = (ty : PlainType) (path : Path) (behind other : PlainToken) → Alike named SameParts (initial s globals ty path first behind) (initial u globals ty path second other)

    abbrev EntriesAlike : PlainTrees → PlainTrees → Type 0
    EntriesAlike parts others = (ty : PlainType) (path : Path) (n : ℕ) (behind other : PlainToken) → Alike named SameParts (initial_entries s globals ty path n parts behind) (initial_entries u globals ty path n others other)

    element_alike :
        {C D : Type 0} (W : C → D → Type 0) (ty : PlainType) (n : ℕ) (first second : PlainTree) (token other : PlainToken) (f : PlainType → Checked C) (g : PlainType → Checked D)
        → ((element : PlainType) → Alike named W (f element) (g element))
        → Alike named W (part_or_excess s globals (part_for s.structs ty n) first token >>= f) (part_or_excess u globals (part_for u.structs ty n) second other >>= g)
    element_alike W ty n first second token other f g next =
        alike_equal named W (part_or_excess s globals (part_for s.structs ty n) first token) (part_or_excess u globals (part_for u.structs ty n) second other) f g
        (subst (λ p. Alike named Equal (part_or_excess s globals (part_for s.structs ty n) first token) (part_or_excess u globals p second other)) (part_same s.structs u.structs ty n h.structs) (excess_alike (part_for s.structs ty n) first second token other))
        next

    no_entry : EntriesAlike none none
    no_entry ty path n behind other = alike_give named SameParts [] [] refl

    last_entry : (first second : PlainTree) → InitialAlike first second → EntriesAlike (more first none) (more second none)
    last_entry first second i ty path n behind other =
        element_alike SameParts ty n first second (first_token first behind) (first_token second other) (λ element. initial s globals element (path_for ty path n) first behind) (λ element. initial u globals element (path_for ty path n) second other)
        (λ element. i element (path_for ty path n) behind other)

    next_entry : (first second comma sign : PlainTree) (rest others : PlainTrees) → InitialAlike first second → EntriesAlike rest others → EntriesAlike (more first (more comma rest)) (more second (more sign others))
    next_entry first second comma sign rest others i j ty path n behind other =
        element_alike SameParts ty n first second (first_token first behind) (first_token second other)
        (λ element. initial s globals element (path_for ty path n) first behind >>= (λ xs. initial_entries s globals ty path (n + 1) rest behind >>= (λ as_. give (xs ++ as_))))
        (λ element. initial u globals element (path_for ty path n) second other >>= (λ ys. initial_entries u globals ty path (n + 1) others other >>= (λ bs. give (ys ++ bs))))
        (λ element. alike_then named SameParts SameParts (initial s globals element (path_for ty path n) first behind) (initial u globals element (path_for ty path n) second other) _ _ (i element (path_for ty path n) behind other)
        (λ xs ys e. alike_then named SameParts SameParts (initial_entries s globals ty path (n + 1) rest behind) (initial_entries u globals ty path (n + 1) others other) _ _ (j ty path (n + 1) behind other)
        (λ as_ bs f. alike_give named SameParts (xs ++ as_) (ys ++ bs) (both_parts xs ys as_ bs e f))))

    mutual
      pub initial_alike : {tree other : PlainTree} → Derivation initialiser tree → SameButNames tree other → InitialAlike tree other
      initial_alike (single {token = token} is) (same_leaf {b = b} e) = λ ty path behind other.
          whole_alike ty path (leaf token) (leaf b) token b (expression_alike named slots s u h {n = 1} (single is) (same_leaf e))
      initial_alike (made_of k.Braces b a (a_row (a_word {token = brace} w (a_part d (a_word {token = close} v at_end))))) (same_node (same_more {other = start} x (same_more y (same_more {other = last} z same_end)))) =
          list_alike d y (leaf brace) (leaf close) start last
      initial_alike (made_of k.Texts {parts = parts} b a (some_texts texts some)) (same_node {others = others} e) = λ ty path behind other.
          text_or_whole_alike ty path parts others (first_token (node k.Texts parts) behind) (first_token (node k.Texts others) other) (same_bytes parts others texts e)
          (expression_alike named slots s u h {n = 1} (made_of k.Texts refl a (some_texts texts some)) (same_node e))
      initial_alike (made_of kind {parts = parts} b a l) (same_node {others = others} e) = λ ty path behind other.
          whole_alike ty path (node kind parts) (node kind others) (first_token (node kind parts) behind) (first_token (node kind others) other)
          (expression_alike named slots s u h (as_expression kind b a l refl) (same_node e))

      list_alike :
          {tree other : PlainTree} → Derivation initialisers tree → SameButNames tree other → (open_ close start last : PlainTree)
          → InitialAlike (node k.Braces (more open_ (more tree (more close none)))) (node k.Braces (more start (more other (more last none))))
      list_alike (single is) e open_ close start last = absurd cc
      list_alike (made_of k.Initialisers b a (with_last_comma d)) (same_node e) open_ close start last = λ ty path behind other. entries_alike d e ty path 0 behind other
      list_alike (made_of _ b a d) e open_ close start last = absurd cc

      entries_alike : {parts others : PlainTrees} → Ended initialiser parts → AllSameButNames parts others → EntriesAlike parts others
      entries_alike (ends {tree = tree} d) (same_more {other = second} e same_end) = last_entry tree second (initial_alike d e)
      entries_alike (ends_in_comma {tree = tree} {comma = comma} d w) (same_more {other = second} e (same_more {other = sign} c same_end)) = next_entry tree second (leaf comma) sign none none (initial_alike d e) no_entry
      entries_alike (goes_on {tree = tree} {comma = comma} {rest = rest} d w l) (same_more {other = second} e (same_more {other = sign} {others = others} c r)) =
          next_entry tree second (leaf comma) sign rest others (initial_alike d e) (entries_alike l r)
