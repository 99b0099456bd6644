-- Units that are the same but for the places of their tokens: both are judged, bound and linked as they are without places.
use Rattle.std.proofs.Common.{◌≡◌, ℕ, List, [], ◌∷◌, map, refl, sym, ap, ap₂, ◌∙◌}
use Rattle.std.specs.Prelude.{false}
use Rattle.c_text.specs.declared.token.TokenKind.{TokenKind}
use Rattle.c_text.specs.Token.{PlainToken, SameSpelling}
use Rattle.c_tree.specs.Trees.{PlainTree, PlainTrees, leaf, node, none, more}
use Rattle.core_meaning.specs.Program.{PlainProgram}
use Rattle.core_meaning.specs.Checking.{Binding, fine}
use Rattle.core_meaning.specs.Linking.{Units, judged_program, program_of, IsElaborated}
use Rattle.moved_programs.specs.Trees.{moved_tree, moved_trees}
use Rattle.moved_programs.proofs.Follows.{told_as, as_one, fine_together}
use Rattle.moved_programs.proofs.Constants.{kinds_as_one}
use Rattle.moved_programs.proofs.Programs.{same_program, program_follows}
use Rattle.program_occurrences.specs.Occurrences.{UnitNames, names_of_units}
use Rattle.program_occurrences.specs.Links.{bound_numbers, links_of, AreBoundAlike}
use Rattle.moved_names.specs.Places.{no_origin, unplaced, AreSameButPlaces}
use Rattle.moved_names.specs.Laws.{MovesDontName}
use Rattle.moved_names.proofs.Names.{moved_names, names-moved}
use Rattle.moved_names.proofs.Occurrences.{all-bound-moved, links-moved}

-- ---- tokens of the same spellings

module _ (f : PlainToken → PlainToken) (same : (token : PlainToken) → SameSpelling token (f token)) where
  token-same : (token : PlainToken) → unplaced token ≡ unplaced (f token)
  token-same token =
      ap₂ (λ (kind : TokenKind) (text : List ℕ). let t : PlainToken = record { kind = kind; text = text; joined = false; origin = no_origin } in t) (same token).kind (same token).text

  mutual
    tree-same : (tree : PlainTree) → moved_tree unplaced tree ≡ moved_tree unplaced (moved_tree f tree)
    tree-same (leaf token) = ap leaf (token-same token)
    tree-same (node kind parts) = ap (node kind) (parts-same parts)

    parts-same : (parts : PlainTrees) → moved_trees unplaced parts ≡ moved_trees unplaced (moved_trees f parts)
    parts-same none = refl
    parts-same (more tree rest) = ap₂ (λ (t : PlainTree) (ts : PlainTrees). more t ts) (tree-same tree) (parts-same rest)

  trees-same : (trees : List PlainTree) → AreSameButPlaces trees (map (moved_tree f) trees)
  trees-same [] = refl
  trees-same (tree ∷ rest) = ap₂ (λ (t : PlainTree) (ts : List PlainTree). t ∷ ts) (tree-same tree) (trees-same rest)

-- ---- programs

module _ (trees others : List PlainTree) (same : AreSameButPlaces trees others) where
  judged-too : (linked : Units) (bindings : List Binding) → judged_program trees ≡ fine linked bindings → judged_program others ≡ fine linked bindings
  judged-too linked bindings e =
      fine_together unplaced (judged_program trees) (judged_program others) (judged_program (map (moved_tree unplaced) others))
      (record { holds = ap (λ (ts : List PlainTree). told_as as_one (judged_program ts)) (sym same) ∙ (program_follows as_one unplaced (kinds_as_one unplaced) trees).holds })
      (program_follows as_one unplaced (kinds_as_one unplaced) others) linked bindings e

  program-same : (linked : Units) → program_of trees linked ≡ program_of others linked
  program-same linked =
      sym (same_program unplaced trees linked) ∙ (ap (λ (l : List PlainTree). program_of l linked) same ∙ same_program unplaced others linked)

  elaborated-too : (p : PlainProgram) → IsElaborated trees p → IsElaborated others p
  elaborated-too p e = record {
    linked = e.linked;
    bindings = e.bindings;
    judged = judged-too e.linked e.bindings e.judged;
    links = e.links;
    program = e.program ∙ program-same e.linked;
  }

-- ---- names

-- what is seen of units where the places of their tokens aren't
seen-same :
    {R : Type 0} (seen : List UnitNames → R) → ((units : List UnitNames) → seen (map (moved_names unplaced) units) ≡ seen units) → (trees others : List PlainTree) → AreSameButPlaces trees others
    → seen (names_of_units trees) ≡ seen (names_of_units others)
seen-same seen moved trees others same =
    sym (moved (names_of_units trees))
    ∙ (ap seen (sym (names-moved unplaced [] trees)) ∙ (ap (λ (l : List PlainTree). seen (names_of_units l)) same ∙ (ap seen (names-moved unplaced [] others) ∙ moved (names_of_units others))))

bound-same : (trees others : List PlainTree) → AreSameButPlaces trees others → AreBoundAlike (names_of_units trees) (names_of_units others)
bound-same trees others same = record {
  bound = seen-same (map bound_numbers) (all-bound-moved unplaced) trees others same;
  linked = seen-same links_of (links-moved unplaced) trees others same;
}

joined : (a b c : List UnitNames) → AreBoundAlike a b → AreBoundAlike b c → AreBoundAlike a c
joined a b c x y = record { bound = x.bound ∙ y.bound; linked = x.linked ∙ y.linked }

pub moves-dont-name : MovesDontName
moves-dont-name = record {
  moved = trees-same;
  programs = λ trees others same p. (elaborated-too trees others same p, elaborated-too others trees (sym same) p);
  bound_alike = bound-same;
  before = λ trees others same units. (
    joined (names_of_units others) (names_of_units trees) units (bound-same others trees (sym same)),
    joined (names_of_units trees) (names_of_units others) units (bound-same trees others same),
  );
  after = λ trees others same units. (
    λ alike. joined units (names_of_units trees) (names_of_units others) alike (bound-same trees others same),
    λ alike. joined units (names_of_units others) (names_of_units trees) alike (bound-same others trees (sym same)),
  );
}
