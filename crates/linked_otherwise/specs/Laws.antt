-- What holds of declarations whose names are changed; each is the contract of a function of this crate.
use Rattle.std.specs.Prelude.{◌≡◌, ◌↔◌, ℕ, Bool, List, map}
use Rattle.c_text.specs.declared.origin.FileToken.{FileToken}
use Rattle.c_text.specs.Token.{PlainToken}
use Rattle.c_tree.specs.Trees.{PlainTree}
use Rattle.core_meaning.specs.Checking.{Binding, fine}
use Rattle.core_meaning.specs.Linking.{Units, judged_program}
use Rattle.bindings.specs.Laws.{AreWritten}
use Rattle.program_occurrences.specs.Occurrences.{UnitNames, names_of_units}
use Rattle.program_occurrences.specs.Links.{bound_numbers, links_of}
use Rattle.changed_forests.specs.Renamed.{is_of_class, renamed_tree}
use Rattle.linked_otherwise.specs.Otherwise.{AreAllInOrder, AreRenamed, AreNamed, AreWrittenSo, AreRenamedTogether, IsClosed, IsLinkedOtherwise}

-- A class that has with each identifier all that it brings along has all declarations of a name or none.
abbrev pub ClosedAreRenamedTogether : Type 0
ClosedAreRenamedTogether = (of_class : PlainToken → Bool) (units : List UnitNames) → IsClosed of_class units → AreRenamedTogether of_class units

-- Where identifiers are declared by those that declared them, and declarations of a name with external linkage are renamed together, each is
-- linked to the one to which it was linked exactly where none is linked otherwise, as the names before tell.
abbrev pub LinksAreTold : Type 0
LinksAreTold =
    (of_class : PlainToken → Bool) (old new : List ℕ) (before after : List UnitNames) → map bound_numbers before ≡ map bound_numbers after → AreAllInOrder before
    → AreRenamed of_class new before after → AreNamed of_class old before → AreRenamedTogether of_class before
    → (links_of before ≡ links_of after) ↔ (IsLinkedOtherwise of_class old new before → ⊥)

-- So it is with two programs that are judged well, of which the one has the trees of the other with the new name.
abbrev pub LinksOfRenamedAreTold : Type 0
LinksOfRenamedAreTold =
    (class : List FileToken) (old new : List ℕ) (trees : List PlainTree) → AreWritten trees → AreWritten (map (renamed_tree class new) trees)
    → (linked after : Units) (bindings behind : List Binding) → judged_program trees ≡ fine linked bindings
    → judged_program (map (renamed_tree class new) trees) ≡ fine after behind
    → map bound_numbers (names_of_units trees) ≡ map bound_numbers (names_of_units (map (renamed_tree class new) trees))
    → AreWrittenSo (is_of_class class new) old (names_of_units trees) → AreRenamedTogether (is_of_class class new) (names_of_units trees)
    → (links_of (names_of_units trees) ≡ links_of (names_of_units (map (renamed_tree class new) trees)))
    ↔ (IsLinkedOtherwise (is_of_class class new) old new (names_of_units trees) → ⊥)
