-- Initialisers that differ only in names use as many identifiers, whatever they initialise.
use Rattle.std.proofs.Common.{ℕ, ◌+◌, List, length}
use Rattle.std.specs.Prelude.{Option, Some, None, nat_le}
use Rattle.c_text.specs.Token.{PlainToken}
use Rattle.c_types.specs.Types.{PlainType, array_of}
use Rattle.c_tree.specs.declared.kinds.Kind.TheVariants as k
use Rattle.c_tree.specs.Trees.{PlainTree, PlainTrees, node}
use Rattle.core_meaning.specs.declared.refusals.TypeKind.TheVariants.{BadOperand, BadConstant}
use Rattle.core_meaning.specs.Values.{Path}
use Rattle.core_meaning.specs.Entities.{Scope}
use Rattle.core_meaning.specs.Typing.{fits_into, loaded}
use Rattle.core_meaning.specs.Expressions.{first_token, valued, judged, text_bytes, first_text}
use Rattle.core_meaning.specs.Constancy.{part_for, path_for, is_character_type, text_initial, part_or_excess, is_allowed, value_initial, whole_initial, text_or_whole, initial, initial_entries}
use Rattle.renamed_programs.specs.Trees.{SameButNames, AllSameButNames, same_node, same_end, same_more}
use Rattle.entity_numbers.proofs.Uses.{Binds, then_binds, if_binds, some_then, found_then as found_binds_then, unless_then as unless_binds_then}
use Rattle.entity_numbers.proofs.Operators.{loads}
use Rattle.entity_numbers.specs.Kinds.{Ties}
use Rattle.entity_kinds.proofs.Pairs.{Anything, Alike, any_then, alike_give, Never, alike_quiet, quiet_then, unless_then, found_then, never_then, left_never, right_never}
use Rattle.entity_kinds.proofs.Expressions.{valued_alike}

-- ---- texts bind nothing

module _ (s : Scope) (globals : Option ℕ) where
  texts_quiet : (parts : PlainTrees) → Binds Never (valued s (node k.Texts parts))
  texts_quiet parts =
      then_binds Never (judged s (node k.Texts parts)) (loaded s)
      (some_then Never (text_bytes parts) _ (λ bytes. some_then Never (first_text parts) _ (λ first. record { all = tt }))) (λ o. loads Never s o)

  value_quiet : (ty : PlainType) (path : Path) (parts : PlainTrees) (first : PlainToken) → Binds Never (value_initial s globals ty path (node k.Texts parts) first)
  value_quiet ty path parts first =
      then_binds Never (valued s (node k.Texts parts)) _ (texts_quiet parts)
      (λ x. found_binds_then Never (fits_into ty x) BadOperand first _ (λ core. unless_binds_then Never (is_allowed s globals core) BadConstant first _ (λ y. record { all = tt })))

  initial_quiet : (element : PlainType) (count : ℕ) (path : Path) (bytes : List ℕ) (first : PlainToken) → Binds Never (text_initial element count path bytes first)
  initial_quiet element count path bytes first = unless_binds_then Never (nat_le (length bytes) count) BadConstant first _ (λ x. record { all = tt })

  text_quiet : (ty : PlainType) (path : Path) (parts : PlainTrees) (first : PlainToken) → Binds Never (text_or_whole s globals ty path parts first)
  text_quiet (array_of element count) path parts first =
      if_binds Never (is_character_type element) _ _ (some_then Never (text_bytes parts) _ (λ bytes. initial_quiet element count path bytes first)) (record { all = tt })
  text_quiet ty path parts first = value_quiet ty path parts first

  excess_quiet : (o : Option PlainType) (tree : PlainTree) (first : PlainToken) → Binds Never (part_or_excess s globals o tree first)
  excess_quiet (Some element) tree first = record { all = tt }
  excess_quiet None tree first = record { all = tt }

-- ---- two initialisers

module _ (s u : Scope) (globals count : Option ℕ) where
  values_alike :
      {tree other : PlainTree} (ties : Ties) (ty kind : PlainType) (p q : Path) (a b : PlainToken) → SameButNames tree other
      → Alike ties Anything (value_initial s globals ty p tree a) (value_initial u count kind q other b)
  values_alike {tree = tree} {other = other} ties ty kind p q a b e =
      any_then Anything ties (valued s tree) (valued u other) _ _ (valued_alike s u ties e)
      (λ more_ grows x y. found_then Anything more_ (fits_into ty x) (fits_into kind y) BadOperand BadOperand a b _ _
      (λ v w. unless_then Anything more_ (is_allowed s globals v) (is_allowed u count w) BadConstant BadConstant a b _ _ (λ x1 y1. alike_give Anything more_ _ _ tt)))

  wholes_alike :
      {tree other : PlainTree} (ties : Ties) (ty kind : PlainType) (p q : Path) (a b : PlainToken) → SameButNames tree other
      → Alike ties Anything (whole_initial s globals ty p tree a) (whole_initial u count kind q other b)
  wholes_alike {tree = tree} ties (array_of element n) kind p q a b e = left_never Anything ties _ _ (never_then (valued s tree) _ (λ x. tt))
  wholes_alike {other = other} ties ty (array_of element n) p q a b e = right_never Anything ties _ _ (never_then (valued u other) _ (λ x. tt))
  wholes_alike ties ty kind p q a b e = values_alike ties ty kind p q a b e

  mutual
    pub initials_alike :
        {tree other : PlainTree} (ties : Ties) (ty kind : PlainType) (p q : Path) (a b : PlainToken) → SameButNames tree other
        → Alike ties Anything (initial s globals ty p tree a) (initial u count kind q other b)
    initials_alike ties ty kind p q a b (same_node {kind = k.Braces} (same_more x (same_more (same_node e) (same_more y same_end)))) = entries_alike ties ty kind p q 0 a b e
    initials_alike ties ty kind p q a b (same_node {kind = k.Texts} {parts = parts} {others = others} e) =
        alike_quiet ties (text_or_whole s globals ty p parts (first_token (node k.Texts parts) a)) (text_or_whole u count kind q others (first_token (node k.Texts others) b))
        (text_quiet s globals ty p parts (first_token (node k.Texts parts) a)) (text_quiet u count kind q others (first_token (node k.Texts others) b))
    initials_alike {tree = tree} {other = other} ties ty kind p q a b e = wholes_alike ties ty kind p q (first_token tree a) (first_token other b) e

    entries_alike :
        {parts others : PlainTrees} (ties : Ties) (ty kind : PlainType) (p q : Path) (n : ℕ) (a b : PlainToken) → AllSameButNames parts others
        → Alike ties Anything (initial_entries s globals ty p n parts a) (initial_entries u count kind q n others b)
    entries_alike ties ty kind p q n a b same_end = alike_give Anything ties _ _ tt
    entries_alike ties ty kind p q n a b (same_more {tree = tree} {other = other} e same_end) =
        quiet_then Anything ties (part_or_excess s globals (part_for s.structs ty n) tree (first_token tree a)) (part_or_excess u count (part_for u.structs kind n) other (first_token other b)) _ _
        (excess_quiet s globals (part_for s.structs ty n) tree (first_token tree a)) (excess_quiet u count (part_for u.structs kind n) other (first_token other b))
        (λ x y. initials_alike ties x y (path_for ty p n) (path_for kind q n) a b e)
    entries_alike ties ty kind p q n a b (same_more {tree = tree} {other = other} e (same_more {rest = rest} {others = others} x l)) =
        quiet_then Anything ties (part_or_excess s globals (part_for s.structs ty n) tree (first_token tree a)) (part_or_excess u count (part_for u.structs kind n) other (first_token other b)) _ _
        (excess_quiet s globals (part_for s.structs ty n) tree (first_token tree a)) (excess_quiet u count (part_for u.structs kind n) other (first_token other b))
        (λ v w. any_then Anything ties (initial s globals v (path_for ty p n) tree a) (initial u count w (path_for kind q n) other b) _ _ (initials_alike ties v w (path_for ty p n) (path_for kind q n) a b e)
        (λ more_ grows i j. any_then Anything more_ (initial_entries s globals ty p (n + 1) rest a) (initial_entries u count kind q (n + 1) others b) _ _ (entries_alike more_ ty kind p q (n + 1) a b l)
        (λ third grows' v1 w1. alike_give Anything third _ _ tt)))
